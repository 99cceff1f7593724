-- Figures of 02, P4: texts that are not read, each refusal at its place, and the limits of room and length from both
-- sides, as statements that the prover settles by computing the definitions. Assumes nothing.
use Rattle.std.specs.Prelude.{ℕ, zero, suc, ◌≡◌, refl, List, [], ◌∷◌, ◌++◌, map, replicate}
use Prim.Native.String.{String}
use Rattle.script.specs.Computed.{◌⨾◌, four_rows}
use Rattle.grammar.specs.Scanning.{bytes, token_at, scan_from, scan}
use Rattle.grammar.specs.Counts.{size, roots}
use Rattle.grammar.specs.Rows.{table}
use Rattle.grammar.specs.Meaning.{flat, text_rows, text_table}
use Rattle.grammar.specs.Automaton.{reduce}
use Rattle.grammar.specs.Reader.{read}
use Rattle.grammar.specs.Ranges.{depth}
use Rattle.grammar.specs.Outcome.{Outcome, refused, given, out_of_range, outcome, stuck}
use Rattle.text_claims.specs.Figures.{Figure, Holds}

-- number and place
abbrev stops : String → ℕ → ℕ → Figure
stops t n p = (400, bytes t, refused n p)

-- after `pre ` a byte
abbrev with_byte : ℕ → Figure
with_byte b = (400, bytes "pre " ++ (b ∷ bytes " true"), refused 40 4)

-- ---- 40

no_tokens : List Figure
no_tokens =
    -- "letters and digits from a letter on are one word: a keyword, or v with digits"
    stops "pre true; foo; post true" 40 10
    ∷ stops "pre truefalse; skip" 40 4
    ∷ stops "pre1 = 1" 40 0
    ∷ stops "pre true; v := 1" 40 10
    ∷ stops "pre true; v1x := 1" 40 10
    ∷ stops "pre true; v1v2 := 1" 40 10
    ∷ stops "Pre true" 40 0
    ∷ stops "pre V0 = 1" 40 4
    -- "40 at the first byte that begins no token"
    ∷ stops "#" 40 0
    ∷ stops "pre v0 > 1" 40 7
    ∷ stops "pre 1 < > 2" 40 8
    ∷ stops "pre v0 : = 1" 40 7
    ∷ stops "pre v_0" 40 4
    -- such bytes
    ∷ map with_byte (0 ∷ 11 ∷ 12 ∷ 34 ∷ 95 ∷ 127 ∷ 160 ∷ 255 ∷ [])

no_tokens_hold : Holds no_tokens
unfolding no_tokens outcome scan scan_from token_at stuck out_of_range read reduce depth text_table text_rows table size roots flat
no_tokens_hold = refl

-- ---- 41

no_texts : List Figure
no_texts =
    -- "or the text's end"
    stops "" 41 0
    ∷ stops "  " 41 2
    ∷ stops "pre true; skip; post" 41 20
    ∷ stops "pre true; skip; post true and" 41 29
    -- "one comparison"
    ∷ stops "pre 1 < 2 < 3; skip; post true" 41 10
    ∷ stops "pre (1 < 2) = 3; skip; post true" 41 12
    ∷ stops "pre not 1; skip; post true" 41 9
    ∷ stops "pre (not v0) = 1" 41 11
    -- the longest token, and two that a blank parts
    ∷ stops "pre 1 < = 2" 41 8
    ∷ stops "pre 1 <== 2" 41 8
    ∷ stops "pre true; v0 :== 1" 41 15
    -- a sort that no text has there: at the first token that settles it
    ∷ stops "pre (v0) and true; skip; post true" 41 9
    ∷ stops "pre true; v0 := (1 < 2); post true" 41 19
    ∷ stops "pre v0; skip; post true" 41 6
    ∷ stops "pre true + 1" 41 9
    ∷ stops "pre 1 + true" 41 8
    ∷ stops "pre -true" 41 5
    ∷ stops "pre not not -1; skip" 41 14
    ∷ stops "pre true; v0 = 1" 41 13
    ∷ stops "pre true; (skip)" 41 10
    ∷ stops "pre true; assert 1; post true" 41 18
    ∷ stops "pre when(1, 2, 3) = 4" 41 10
    ∷ stops "pre when(true, true" 41 15
    -- "pre F; S; post F"
    ∷ stops "skip" 41 0
    ∷ stops "pre true; post true" 41 10
    ∷ stops "pre true; skip post true" 41 15
    ∷ stops "pre true; skip;; post true" 41 15
    ∷ stops "pre true; skip; post true;" 41 25
    ∷ stops "pre true; skip; post true post true" 41 26
    ∷ stops "pre; skip" 41 3
    ∷ stops "pre true skip" 41 9
    -- if and while whole, and no semicolon before end
    ∷ stops "pre true; if true then skip end" 41 28
    ∷ stops "pre true; if true then skip; else skip end" 41 29
    ∷ stops "pre true; while true do" 41 21
    ∷ stops "pre true; while true keep true do" 41 31
    ∷ stops "pre true; while true keep true fall true do" 41 36
    ∷ stops "pre true; while true keep true fall 0 do skip; end" 41 47
    -- mark and when with their brackets, and a mark of a numeral alone
    ∷ stops "pre mark 1" 41 9
    ∷ stops "pre mark(-1)" 41 9
    ∷ stops "pre mark(v0)" 41 9
    ∷ stops "pre mark(1 + 1)" 41 11
    ∷ stops "pre mark((1))" 41 9
    ∷ stops "pre when true" 41 9
    ∷ stops "pre (1 < 2; skip" 41 10
    ∷ stops "pre 1 < 2); skip" 41 9
    ∷ []

no_texts_hold : Holds no_texts
unfolding no_texts outcome scan scan_from token_at stuck out_of_range read reduce depth text_table text_rows table size roots flat
no_texts_hold = refl

-- ---- 42

out_of_ranges : List Figure
out_of_ranges =
    -- one past each
    stops "pre v1024 < 1; skip; post true" 42 4
    ∷ stops "pre true; v1024 := 1; post true" 42 10
    ∷ stops "pre 2147483648 < 1; skip; post true" 42 4
    ∷ stops "pre -2147483649 < 1; skip; post true" 42 5
    ∷ stops "pre -(2147483648) < 1; skip; post true" 42 6
    ∷ stops "pre 1 - 2147483648 < 1; skip; post true" 42 8
    -- far past them
    ∷ stops "pre 4294967297 < 1; skip; post true" 42 4
    ∷ stops "pre 18446744073709551617 < 1; skip; post true" 42 4
    ∷ stops "pre v18446744073709551616 < 1; skip; post true" 42 4
    ∷ stops "pre true; while true keep true fall 0 do v0 := mark(4294967297) end; post true" 42 52
    -- "or with a leading zero"
    ∷ stops "pre 00 < 1; skip; post true" 42 4
    ∷ stops "pre 1 < -01; skip; post true" 42 9
    ∷ stops "pre v00 < 1; skip; post true" 42 4
    ∷ stops "pre v01 < 1; skip; post true" 42 4
    ∷ stops "pre true; while true keep true fall 0 do v0 := mark(01) end; post true" 42 52
    -- "a mark's k too": not in its loop's own guard, invariant or variant, nor after it
    ∷ stops "pre mark(1) < 1; skip; post true" 42 9
    ∷ stops "pre true; while true keep true fall 0 do v0 := mark(0) end; post true" 42 52
    ∷ stops "pre true; while true keep true fall 0 do v0 := mark(2) end; post true" 42 52
    ∷ stops "pre true; while mark(1) < 1 keep true fall 0 do skip end; post true" 42 21
    ∷ stops "pre true; while true keep mark(1) < 1 fall 0 do skip end; post true" 42 31
    ∷ stops "pre true; while true keep true fall mark(1) do skip end; post true" 42 41
    ∷ stops "pre true; while true keep true fall 0 do skip end; v0 := mark(1); post true" 42 62
    -- "at the first"
    ∷ stops "pre v0 < 1; v1 := 2147483648; v1024 := 00; post true" 42 18
    ∷ []

out_of_ranges_hold : Holds out_of_ranges
unfolding out_of_ranges outcome scan scan_from token_at stuck out_of_range read reduce depth text_table text_rows table size roots flat
out_of_ranges_hold = refl

-- ---- 43, 44, and the order

abbrev four_row_text : List ℕ
four_row_text = bytes "pre true; skip; post true"

orders : List Figure
orders =
    -- "43 at 0 when the rows pass the buffer": at the need, and one below
    (16, four_row_text, given four_rows)
    ∷ (15, four_row_text, refused 43 0)
    ∷ (0, four_row_text, refused 43 0)
    -- "44 at 0 for a text over 32,768 bytes": blanks and bytes that begin no token
    ∷ (0, replicate 32768 32, refused 41 32768)
    ∷ (0, replicate 32769 32, refused 44 0)
    -- "44 goes first, then 40 anywhere, 41, 42 and 43"
    ∷ (0, replicate 32769 35, refused 44 0)
    ∷ (0, replicate 32768 35, refused 40 0)
    ∷ stops "pre and 00 #" 40 11
    ∷ stops "pre 00 and" 41 7
    ∷ (0, bytes "pre true; skip", refused 41 14)
    ∷ (0, bytes "pre 1 = 00; skip; post true", refused 42 8)
    ∷ []

orders_hold : Holds orders
unfolding orders four_rows ◌⨾◌ outcome scan scan_from token_at stuck out_of_range read reduce depth text_table text_rows table size roots flat
orders_hold = refl

-- "or 2,048": n times `true or` before a text's end make 2 × n rows more
ors : ℕ → List ℕ → List ℕ
ors zero bs = bs
ors (suc n) bs = bytes "true or " ++ ors n bs

abbrev many : ℕ → String → List ℕ
many n end = bytes "pre true; skip; post " ++ ors n (bytes end)

abbrev number : Outcome → ℕ
number (refused n p) = n
number (given ws) = 0

-- 2,048 rows in words enough and in one less; 2,049 rows
many_hold : map (λ (c : ℕ × List ℕ). number (outcome c.0 c.1))
    ((8192, many 1022 "true") ∷ (8191, many 1022 "true") ∷ (10000, many 1022 "not true") ∷ [])
    ≡ 0 ∷ 43 ∷ 43 ∷ []
unfolding ors outcome scan scan_from token_at stuck out_of_range read reduce depth text_table text_rows table size roots flat
many_hold = refl
