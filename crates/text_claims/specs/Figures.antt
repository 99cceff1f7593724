-- Figures of 02, P4: texts that are read, with their rows, each sentence once at least, as statements that the prover
-- settles by computing the definitions. First formulas, after `pre true; skip; post`; then statements, between `pre
-- true;` and `post true`; then whole texts. `Refused` has the texts that are not read. Assumes nothing.
use Rattle.std.specs.Prelude.{ℕ, ◌+◌, ◌-◌, ◌/◌, ◌≡◌, refl, List, [], ◌∷◌, ◌++◌, map, ℤ, pos, negsuc, length}
use Prim.Native.String.{String}
use Rattle.script.specs.Computed.{Row4, ◌⨾◌}
use Rattle.grammar.specs.Scanning.{bytes, token_at, scan_from, scan}
use Rattle.grammar.specs.Counts.{size, roots}
use Rattle.grammar.specs.Rows.{table}
use Rattle.grammar.specs.Meaning.{flat, text_rows, text_table}
use Rattle.grammar.specs.Automaton.{reduce}
use Rattle.grammar.specs.Reader.{read}
use Rattle.grammar.specs.Ranges.{depth}
use Rattle.grammar.specs.Outcome.{Outcome, given, out_of_range, outcome, stuck}

-- a room, a text, and its answer
abbrev pub Figure : Type 0
Figure = ℕ × List ℕ × Outcome

abbrev pub Holds : List Figure → Type 0
Holds fs = map (λ (f : Figure). outcome f.0 f.1) fs ≡ map (λ (f : Figure). f.2) fs

-- a row with the constant -n, then the words after it
abbrev pub negative : ℕ → List ℤ → List ℤ
negative n ws = pos 1 ∷ negsuc (n - 1) ∷ pos 0 ∷ pos 0 ∷ ws

-- a constant and a variable
abbrev pub n : ℕ → Row4
n k = (1, k, 0, 0)

abbrev pub v : ℕ → Row4
v k = (2, k, 0, 0)

abbrev pub true_row : Row4
true_row = (16, 0, 0, 0)

abbrev pub false_row : Row4
false_row = (17, 0, 0, 0)

abbrev pub skip_row : Row4
skip_row = (32, 0, 0, 0)

abbrev rows : List ℤ → ℕ
rows ws = length ws / 4

-- the rows of a formula come from 2 on
abbrev reads : String → List ℤ → Figure
reads f ws =
    (400, bytes "pre true; skip; post " ++ bytes f, given (true_row ⨾ skip_row ⨾ (ws ++ ((48, 0, 1, rows ws + 1) ⨾ []))))

-- those of a statement from 1 on
abbrev does : String → List ℤ → Figure
does s ws = (
  400,
  bytes "pre true; " ++ (bytes s ++ bytes "; post true"),
  given (true_row ⨾ (ws ++ (true_row ⨾ (48, 0, rows ws, rows ws + 1) ⨾ []))),
)

abbrev gives : String → List ℤ → Figure
gives t ws = (400, bytes t, given ws)

-- ---- formulas

formulas : List Figure
formulas =
    -- "Binding from loosest": implies and or
    reads "true or true implies false" (true_row ⨾ true_row ⨾ (24, 2, 3, 0) ⨾ false_row ⨾ (25, 4, 5, 0) ⨾ [])
    ∷ reads "true implies false or true" (true_row ⨾ false_row ⨾ true_row ⨾ (24, 3, 4, 0) ⨾ (25, 2, 5, 0) ⨾ [])
    -- or and and
    ∷ reads "true and false or true" (true_row ⨾ false_row ⨾ (23, 2, 3, 0) ⨾ true_row ⨾ (24, 4, 5, 0) ⨾ [])
    ∷ reads "true or false and true" (true_row ⨾ false_row ⨾ true_row ⨾ (23, 3, 4, 0) ⨾ (24, 2, 5, 0) ⨾ [])
    -- and and not
    ∷ reads "not true and false" (true_row ⨾ (22, 2, 0, 0) ⨾ false_row ⨾ (23, 3, 4, 0) ⨾ [])
    ∷ reads "true and not false" (true_row ⨾ false_row ⨾ (22, 3, 0, 0) ⨾ (23, 2, 4, 0) ⨾ [])
    ∷ reads "not not true" (true_row ⨾ (22, 2, 0, 0) ⨾ (22, 3, 0, 0) ⨾ [])
    -- not and a comparison, each of the four
    ∷ reads "not 1 < 2" (n 1 ⨾ n 2 ⨾ (18, 2, 3, 0) ⨾ (22, 4, 0, 0) ⨾ [])
    ∷ reads "not 1 <= 2" (n 1 ⨾ n 2 ⨾ (19, 2, 3, 0) ⨾ (22, 4, 0, 0) ⨾ [])
    ∷ reads "not 1 = 2" (n 1 ⨾ n 2 ⨾ (20, 2, 3, 0) ⨾ (22, 4, 0, 0) ⨾ [])
    ∷ reads "not 1 <> 2" (n 1 ⨾ n 2 ⨾ (21, 2, 3, 0) ⨾ (22, 4, 0, 0) ⨾ [])
    ∷ reads "not (v0) = 1" (v 0 ⨾ n 1 ⨾ (20, 2, 3, 0) ⨾ (22, 4, 0, 0) ⨾ [])
    -- a comparison and a sum, on either side
    ∷ reads "1 + 2 < 3" (n 1 ⨾ n 2 ⨾ (3, 2, 3, 0) ⨾ n 3 ⨾ (18, 4, 5, 0) ⨾ [])
    ∷ reads "1 < 2 - 3" (n 1 ⨾ n 2 ⨾ n 3 ⨾ (4, 3, 4, 0) ⨾ (18, 2, 5, 0) ⨾ [])
    -- a sum and a product, each of the five
    ∷ reads "1 * 2 + 3 < 4" (n 1 ⨾ n 2 ⨾ (5, 2, 3, 0) ⨾ n 3 ⨾ (3, 4, 5, 0) ⨾ n 4 ⨾ (18, 6, 7, 0) ⨾ [])
    ∷ reads "1 + 2 * 3 < 4" (n 1 ⨾ n 2 ⨾ n 3 ⨾ (5, 3, 4, 0) ⨾ (3, 2, 5, 0) ⨾ n 4 ⨾ (18, 6, 7, 0) ⨾ [])
    ∷ reads "1 div 2 - 3 < 4" (n 1 ⨾ n 2 ⨾ (6, 2, 3, 0) ⨾ n 3 ⨾ (4, 4, 5, 0) ⨾ n 4 ⨾ (18, 6, 7, 0) ⨾ [])
    ∷ reads "1 - 2 mod 3 < 4" (n 1 ⨾ n 2 ⨾ n 3 ⨾ (7, 3, 4, 0) ⨾ (4, 2, 5, 0) ⨾ n 4 ⨾ (18, 6, 7, 0) ⨾ [])
    -- a product and the unary minus
    ∷ reads "-v0 * 2 < 3" (v 0 ⨾ (8, 2, 0, 0) ⨾ n 2 ⨾ (5, 3, 4, 0) ⨾ n 3 ⨾ (18, 5, 6, 0) ⨾ [])
    ∷ reads "2 * -v0 < 3" (n 2 ⨾ v 0 ⨾ (8, 3, 0, 0) ⨾ (5, 2, 4, 0) ⨾ n 3 ⨾ (18, 5, 6, 0) ⨾ [])
    -- "implies (to the right)"
    ∷ reads "true implies false implies true" (true_row ⨾ false_row ⨾ true_row ⨾ (25, 3, 4, 0) ⨾ (25, 2, 5, 0) ⨾ [])
    -- "or, then and (to the left)"
    ∷ reads "true or false or true" (true_row ⨾ false_row ⨾ (24, 2, 3, 0) ⨾ true_row ⨾ (24, 4, 5, 0) ⨾ [])
    ∷ reads "true and false and true" (true_row ⨾ false_row ⨾ (23, 2, 3, 0) ⨾ true_row ⨾ (23, 4, 5, 0) ⨾ [])
    -- "+ and -, then *, div and mod (to the left)"
    ∷ reads "1 - 2 + 3 < 4" (n 1 ⨾ n 2 ⨾ (4, 2, 3, 0) ⨾ n 3 ⨾ (3, 4, 5, 0) ⨾ n 4 ⨾ (18, 6, 7, 0) ⨾ [])
    ∷ reads "1 + 2 - 3 < 4" (n 1 ⨾ n 2 ⨾ (3, 2, 3, 0) ⨾ n 3 ⨾ (4, 4, 5, 0) ⨾ n 4 ⨾ (18, 6, 7, 0) ⨾ [])
    ∷ reads "1 div 2 * 3 < 4" (n 1 ⨾ n 2 ⨾ (6, 2, 3, 0) ⨾ n 3 ⨾ (5, 4, 5, 0) ⨾ n 4 ⨾ (18, 6, 7, 0) ⨾ [])
    ∷ reads "1 * 2 div 3 < 4" (n 1 ⨾ n 2 ⨾ (5, 2, 3, 0) ⨾ n 3 ⨾ (6, 4, 5, 0) ⨾ n 4 ⨾ (18, 6, 7, 0) ⨾ [])
    ∷ reads "1 mod 2 mod 3 < 4" (n 1 ⨾ n 2 ⨾ (7, 2, 3, 0) ⨾ n 3 ⨾ (7, 4, 5, 0) ⨾ n 4 ⨾ (18, 6, 7, 0) ⨾ [])
    -- "unary minus, which before a numeral makes a constant"
    ∷ reads "-5 < 1" (negative 5 (n 1 ⨾ (18, 2, 3, 0) ⨾ []))
    ∷ reads "- 5 * 2 < 1" (negative 5 (n 2 ⨾ (5, 2, 3, 0) ⨾ n 1 ⨾ (18, 4, 5, 0) ⨾ []))
    ∷ reads "-0 < 1" (n 0 ⨾ n 1 ⨾ (18, 2, 3, 0) ⨾ [])
    ∷ reads "1 -5 < 1" (n 1 ⨾ n 5 ⨾ (4, 2, 3, 0) ⨾ n 1 ⨾ (18, 4, 5, 0) ⨾ [])
    ∷ reads "1--5 < 1" (n 1 ⨾ negative 5 ((4, 2, 3, 0) ⨾ n 1 ⨾ (18, 4, 5, 0) ⨾ []))
    ∷ reads "1---5 < 1" (n 1 ⨾ negative 5 ((8, 3, 0, 0) ⨾ (4, 2, 4, 0) ⨾ n 1 ⨾ (18, 5, 6, 0) ⨾ []))
    -- and before anything else a row
    ∷ reads "--5 < 1" (negative 5 ((8, 2, 0, 0) ⨾ n 1 ⨾ (18, 3, 4, 0) ⨾ []))
    ∷ reads "-(5) < 1" (n 5 ⨾ (8, 2, 0, 0) ⨾ n 1 ⨾ (18, 3, 4, 0) ⨾ [])
    ∷ reads "-v0 < 1" (v 0 ⨾ (8, 2, 0, 0) ⨾ n 1 ⨾ (18, 3, 4, 0) ⨾ [])
    ∷ reads "-when(true, 1, 2) < 1" (true_row ⨾ n 1 ⨾ n 2 ⨾ (10, 2, 3, 4) ⨾ (8, 5, 0, 0) ⨾ n 1 ⨾ (18, 6, 7, 0) ⨾ [])
    -- "when(F, E, E) is choose"
    ∷ reads "when(1 < 2, 3, v0) < 4"
    (n 1 ⨾ n 2 ⨾ (18, 2, 3, 0) ⨾ n 3 ⨾ v 0 ⨾ (10, 4, 5, 6) ⨾ n 4 ⨾ (18, 7, 8, 0) ⨾ [])
    ∷ reads "when(true, when(false, 1, 2), 3 + 4) < 5"
    (true_row ⨾ false_row ⨾ n 1 ⨾ n 2 ⨾ (10, 3, 4, 5) ⨾ n 3 ⨾ n 4 ⨾ (3, 7, 8, 0) ⨾ (10, 2, 6, 9) ⨾ n 5
    ⨾ (18, 10, 11, 0) ⨾ [])
    -- "true and false are formulas, parentheses group either sort"
    ∷ reads "(true)" (true_row ⨾ [])
    ∷ reads "(1 + 2) * 3 < 4" (n 1 ⨾ n 2 ⨾ (3, 2, 3, 0) ⨾ n 3 ⨾ (5, 4, 5, 0) ⨾ n 4 ⨾ (18, 6, 7, 0) ⨾ [])
    ∷ reads "1 - (2 + 3) < 4" (n 1 ⨾ n 2 ⨾ n 3 ⨾ (3, 3, 4, 0) ⨾ (4, 2, 5, 0) ⨾ n 4 ⨾ (18, 6, 7, 0) ⨾ [])
    ∷ reads "(true implies false) implies true" (true_row ⨾ false_row ⨾ (25, 2, 3, 0) ⨾ true_row ⨾ (25, 4, 5, 0) ⨾ [])
    ∷ reads "not (true and false)" (true_row ⨾ false_row ⨾ (23, 2, 3, 0) ⨾ (22, 4, 0, 0) ⨾ [])
    ∷ reads "((1)) < (2)" (n 1 ⨾ n 2 ⨾ (18, 2, 3, 0) ⨾ [])
    ∷ reads "((1 < 2))" (n 1 ⨾ n 2 ⨾ (18, 2, 3, 0) ⨾ [])
    ∷ reads "(1 < 2) and true" (n 1 ⨾ n 2 ⨾ (18, 2, 3, 0) ⨾ true_row ⨾ (23, 4, 5, 0) ⨾ [])
    -- "v0 to v1023", "up to 2147483648 after a unary minus and 2147483647 elsewhere"
    ∷ reads "v0 < v1023" (v 0 ⨾ v 1023 ⨾ (18, 2, 3, 0) ⨾ [])
    ∷ reads "2147483647 < -2147483648" (n 2147483647 ⨾ negative 2147483648 ((18, 2, 3, 0) ⨾ []))
    ∷ reads "0 < --2147483648" (n 0 ⨾ negative 2147483648 ((8, 3, 0, 0) ⨾ (18, 2, 4, 0) ⨾ []))
    ∷ []

formulas_hold : Holds formulas
unfolding formulas ◌⨾◌ outcome scan scan_from token_at stuck out_of_range read reduce depth text_table text_rows table size roots flat
formulas_hold = refl

-- ---- statements

statements : List Figure
statements =
    -- "Statements are"
    does "skip" (skip_row ⨾ [])
    ∷ does "v5 := 1" (n 1 ⨾ (33, 5, 1, 0) ⨾ [])
    ∷ does "assert true" (true_row ⨾ (38, 1, 0, 0) ⨾ [])
    ∷ does "if true then skip else assert false end"
    (true_row ⨾ skip_row ⨾ false_row ⨾ (38, 3, 0, 0) ⨾ (35, 1, 2, 4) ⨾ [])
    ∷ does "while true keep false fall 7 do skip end"
    (true_row ⨾ false_row ⨾ n 7 ⨾ (37, 2, 3, 0) ⨾ skip_row ⨾ (36, 1, 4, 5) ⨾ [])
    -- "frozen ones too"
    ∷ does "v128 := v255" (v 255 ⨾ (33, 128, 1, 0) ⨾ [])
    -- "joined by semicolons to the right"
    ∷ does "skip; v0 := 1; assert true"
    (skip_row ⨾ n 1 ⨾ (33, 0, 2, 0) ⨾ true_row ⨾ (38, 4, 0, 0) ⨾ (34, 3, 5, 0) ⨾ (34, 1, 6, 0) ⨾ [])
    ∷ does "if true then skip; skip else skip; skip end; skip"
    (true_row ⨾ skip_row ⨾ skip_row ⨾ (34, 2, 3, 0) ⨾ skip_row ⨾ skip_row ⨾ (34, 5, 6, 0) ⨾ (35, 1, 4, 7)
    ⨾ skip_row ⨾ (34, 8, 9, 0) ⨾ [])
    -- "mark(k) names the k-th loop, outward from 1, whose body it stands in": by its row. Guard, invariant and variant
    -- of an inner loop stand in the body of the outer
    ∷ does "while true keep true fall 0 do v0 := mark(1) end"
    (true_row ⨾ true_row ⨾ n 0 ⨾ (37, 2, 3, 0) ⨾ (9, 7, 0, 0) ⨾ (33, 0, 5, 0) ⨾ (36, 1, 4, 6) ⨾ [])
    ∷ does "while true keep true fall 0 do while mark(1) < 2 keep mark(1) < 3 fall mark(1) do v0 := mark(1) + mark(2) end; v1 := mark(1) end"
    (true_row ⨾ true_row ⨾ n 0 ⨾ (37, 2, 3, 0) ⨾ (9, 21, 0, 0) ⨾ n 2 ⨾ (18, 5, 6, 0) ⨾ (9, 21, 0, 0) ⨾ n 3
    ⨾ (18, 8, 9, 0) ⨾ (9, 21, 0, 0) ⨾ (37, 10, 11, 0) ⨾ (9, 17, 0, 0) ⨾ (9, 21, 0, 0) ⨾ (3, 13, 14, 0)
    ⨾ (33, 0, 15, 0) ⨾ (36, 7, 12, 16) ⨾ (9, 21, 0, 0) ⨾ (33, 1, 18, 0) ⨾ (34, 17, 19, 0) ⨾ (36, 1, 4, 20) ⨾ [])
    ∷ does "while true keep true fall 0 do skip end; while true keep true fall 0 do v0 := mark(1) end"
    (true_row ⨾ true_row ⨾ n 0 ⨾ (37, 2, 3, 0) ⨾ skip_row ⨾ (36, 1, 4, 5) ⨾ true_row ⨾ true_row ⨾ n 0
    ⨾ (37, 8, 9, 0) ⨾ (9, 13, 0, 0) ⨾ (33, 0, 11, 0) ⨾ (36, 7, 10, 12) ⨾ (34, 6, 13, 0) ⨾ [])
    ∷ []

statements_hold : Holds statements
unfolding statements ◌⨾◌ outcome scan scan_from token_at stuck out_of_range read reduce depth text_table text_rows table size roots flat
statements_hold = refl

-- ---- whole texts

texts : List Figure
texts =
    -- "The longest token is taken"
    gives "pre 1<=2;skip;post 1<>2"
    (n 1 ⨾ n 2 ⨾ (19, 0, 1, 0) ⨾ skip_row ⨾ n 1 ⨾ n 2 ⨾ (21, 4, 5, 0) ⨾ (48, 2, 3, 6) ⨾ [])
    ∷ gives "pre true;v0:=8div 2;post true"
    (true_row ⨾ n 8 ⨾ n 2 ⨾ (6, 1, 2, 0) ⨾ (33, 0, 3, 0) ⨾ true_row ⨾ (48, 0, 4, 5) ⨾ [])
    -- "spaces, tabs, CR and LF part tokens", in any number or none
    ∷ gives "\t\r\n pre\ttrue\n;\r\nskip  ;post\rtrue\n" (true_row ⨾ skip_row ⨾ true_row ⨾ (48, 0, 1, 2) ⨾ [])
    ∷ gives "pre(true);skip;post(1)<-(2)"
    (true_row ⨾ skip_row ⨾ n 1 ⨾ n 2 ⨾ (8, 3, 0, 0) ⨾ (18, 2, 4, 0) ⨾ (48, 0, 1, 5) ⨾ [])
    ∷ []

texts_hold : Holds texts
unfolding texts ◌⨾◌ outcome scan scan_from token_at stuck out_of_range read reduce depth text_table text_rows table size roots flat
texts_hold = refl
