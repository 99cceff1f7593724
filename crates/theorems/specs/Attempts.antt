-- 01, "A reviewer's attempts": no body with the results of one of these wrong generators meets the contract. By demands 1 and 2
-- (`Bodies.Meets`); by demand 3 alone, where 01 says "by 3" (`Bodies.Demanded`). Each is refuted at one table. Assumes nothing.
use Rattle.std.specs.Prelude.{ℕ, zero, suc, ◌-◌, ◌≤◌, ◌≡◌, refl, ◌≢◌, Bool, true, false, ◌&&◌, List, [], ◌∷◌, ◌++◌, ltb, leb, ℤ, pos, length, get_or, take}
use Rattle.std.proofs.Common.{arith as linear, sym, ap, ◌∙◌, lit≤}
use Rattle.std.proofs.Math.Option.{Option, none, some}
use Rattle.script.specs.declared.Answer.{Answer}
use Rattle.script.specs.declared.Rule.TheVariants.{Main}
use Rattle.script.specs.declared.Connective.TheVariants.{Implies}
use Rattle.script.specs.Syntax.{Formula, truth, join, Stmt, skip, assign, seq, branch, loop, assert, Tree}
use Rattle.script.specs.Meaning.{value, holds, defined, definedᶠ}
use Rattle.script.specs.Run.{false_assertion as by-assertion, step, step_of, first_step, test, after}
use Rattle.script.specs.Conditions.{Condition, condition, conditions, walk, wp, divisors, divisorsᶠ, subst_expr, subst_formula}
use Rattle.script.specs.Words.{Form, without_depth, with_depth, depth_words, count_word, list_words, all_lines, line_words, expr_words, formula_words}
use Rattle.script.specs.Laws.{pos_inj}
use Rattle.script.specs.Rows.{rows, row, row_of}
use Rattle.script.specs.Trees.{expr, formula, stmt, expr_at, formula_at, stmt_at, tree, nesting}
use Rattle.script.specs.Refusals.{accepted, lowest, row_fault_within, linked, misread, misreads, length_test, row_test_within, script_test, unlinked_test, target_test, reading_test, nesting_test, verdict, verdict_within}
use Rattle.script.specs.Generated.{zeros, scratch_need, outcome_for, outcome, outcome_within}
use Rattle.script.specs.Listing.{Found, guarded, last_word, count_told, read_expr_within, read_formula_within, spelled_within, found_within, line_before_within, lines_before_within, lines_within, read_list}
use Rattle.script.specs.Computed.{◌⨾◌, example, example_a, loops_in_sequence, zero_state}
use Rattle.theorems.specs.Options.{none_is_not}
use Rattle.theorems.specs.Outcomes.{outcome_cases}
use Rattle.theorems.specs.Bodies.{Body, Meets, Demanded, planned, Lists, Failing, claims_nothing, lists_valid}

-- ---- the wrong lists

-- the words of one condition, its trailer and the count, in either form
abbrev one_line : Form → List ℤ → ℕ → ℕ → List ℤ
one_line form claim r size = claim ++ (pos 4 ∷ pos r ∷ pos size ∷ (depth_words form 0 ++ (count_word form 1 ∷ [])))

-- the list of one condition that is true everywhere, and that condition
abbrev true_words : Form → ℕ → List ℤ
true_words form r = one_line form (pos 25 ∷ pos 16 ∷ pos 16 ∷ []) r 3

abbrev true_condition : ℕ → Condition
true_condition r = condition Main r 0 (join Implies (truth true) (truth true))

-- `25 16 16 4 3 3 1`, or with its depth `25 16 16 4 3 3 0 -1`
abbrev pub one_list : Form → List ℤ → List ℤ
one_list form t = true_words form 3

-- one false condition: `17 4 r 1 1`, or with its depth `17 4 r 1 0 -1`, r the script's row
abbrev pub one_false : Form → List ℤ → List ℤ
one_false form t = one_line form (pos 17 ∷ []) (rows t - 1) 1

-- "walks only the first statement of a sequence and passes the rest by": in the walk alone, where W still has the rest
unfoldable pub first_only : Stmt → Formula → List Condition
first_only skip q = []
first_only (assign v e) q = []
first_only (seq a b) q = first_only a (wp b q)
first_only (branch b x y) q = first_only x q ++ first_only y q
first_only (loop m b i v x) q = walk 0 (loop m b i v x) q
first_only (assert a) q = []

unfoldable pub first_conditions : Tree → List Condition
first_conditions t = first_only t.body t.post ++ (condition Main t.row 0 (join Implies t.pre (wp t.body t.post)) ∷ [])

abbrev pub first_count : List ℤ → ℕ
first_count t = length (first_conditions (tree t))

abbrev pub first_words : List ℤ → List ℤ
first_words t = list_words with_depth (first_conditions (tree t))

-- and in W too: the conditions of the script without the rest
unfoldable pub first_part : Stmt → Stmt
first_part skip = skip
first_part (assign v e) = assign v e
first_part (seq a b) = first_part a
first_part (branch b x y) = branch b (first_part x) (first_part y)
first_part (loop m b i v x) = loop m b i v (first_part x)
first_part (assert a) = assert a

abbrev pub short_tree : List ℤ → Tree
short_tree t = record { pre = (tree t).pre; body = first_part (tree t).body; post = (tree t).post; row = (tree t).row }

abbrev pub short_count : List ℤ → ℕ
short_count t = length (conditions (short_tree t))

abbrev pub short_words : List ℤ → List ℤ
short_words t = list_words with_depth (conditions (short_tree t))

-- ---- two tables, and what the definitions give for them and for two of 01

-- assert false
unfoldable false_assertion : List ℤ
false_assertion = (16, 0, 0, 0) ⨾ (17, 0, 0, 0) ⨾ (38, 1, 0, 0) ⨾ (16, 0, 0, 0) ⨾ (48, 0, 2, 3) ⨾ []

-- skip; while true (true, 0) do assert false
unfoldable false_body : List ℤ
false_body =
    (16, 0, 0, 0) ⨾ (32, 0, 0, 0) ⨾ (16, 0, 0, 0) ⨾ (16, 0, 0, 0) ⨾ (1, 0, 0, 0) ⨾ (37, 3, 4, 0) ⨾ (17, 0, 0, 0) ⨾ (38, 6, 0, 0)
    ⨾ (36, 2, 5, 7) ⨾ (34, 1, 8, 0) ⨾ (16, 0, 0, 0) ⨾ (48, 0, 9, 10) ⨾ []

record Facts : Type 0 where
  example_accepted : verdict example_a ≡ accepted
  example_need : scratch_need example_a ≤ 5120
  example_answer : (outcome example_a 512 5120).answer ≡ planned 4 98
  example_second : get_or (outcome example_a 512 5120).list 1 (pos 0) ≡ pos 23
  sequence_accepted : verdict loops_in_sequence ≡ accepted
  sequence_need : scratch_need loops_in_sequence ≤ 5120
  sequence_count : (outcome loops_in_sequence 512 5120).answer.conditions ≡ 7
  first_four : first_count loops_in_sequence ≡ 4
  first_fits : length (first_words loops_in_sequence) ≤ 512
  short_four : short_count loops_in_sequence ≡ 4
  short_fits : length (short_words loops_in_sequence) ≤ 512
  assertion : Failing false_assertion
  body : Failing false_body
  body_words : first_words false_body ≡ true_words with_depth 11
  body_short : short_words false_body ≡ true_words with_depth 11
  one_old_read : read_list (true_words without_depth 3) ≡ some (true_condition 3 ∷ [])
  one_read : read_list (true_words with_depth 3) ≡ some (true_condition 3 ∷ [])
  first_read : read_list (true_words with_depth 11) ≡ some (true_condition 11 ∷ [])

facts : Facts
unfolding zero_state first_conditions first_only first_part false_assertion false_body example_a example loops_in_sequence ◌⨾◌ outcome_within outcome_for verdict_within length_test row_test_within script_test unlinked_test target_test reading_test nesting_test lowest row_fault_within linked misread misreads row row_of expr formula stmt expr_at formula_at stmt_at tree nesting conditions walk wp divisors divisorsᶠ subst_expr subst_formula list_words all_lines line_words expr_words formula_words value holds after step step_of first_step test defined definedᶠ read_expr_within read_formula_within spelled_within found_within line_before_within lines_before_within lines_within read_list
facts = record {
  example_accepted = refl;
  example_need = lit≤ tt;
  example_answer = refl;
  example_second = refl;
  sequence_accepted = refl;
  sequence_need = lit≤ tt;
  sequence_count = refl;
  first_four = refl;
  first_fits = lit≤ tt;
  short_four = refl;
  short_fits = lit≤ tt;
  assertion = record { accepts = refl; need = lit≤ tt; pre = tt; steps = 1; cause = by-assertion; due = assert (truth false); fails = refl };
  body = record { accepts = refl; need = lit≤ tt; pre = tt; steps = 3; cause = by-assertion; due = assert (truth false); fails = refl };
  body_words = refl;
  body_short = refl;
  one_old_read = refl;
  one_read = refl;
  first_read = refl;
}

-- ---- "refuses every script: shut out by demand 1"

pub refuses_all : (f : Body) → Meets f → ((t : List ℤ) (l s : ℕ) → (f t l s).answer.number ≢ 0) → ⊥
refuses_all f meets h = h example_a 512 5120 (ap (λ (a : Answer). a.number) (meets.answer example_a 512 5120 ∙ facts.example_answer))

-- ---- by demand 2

-- a body that lists n conditions gives as many as there are
as_many : (f : Body) → Meets f → (n : List ℤ → ℕ) (ws : List ℤ → List ℤ) → Lists f n ws → (t : List ℤ) → verdict t ≡ accepted
    → length (ws t) ≤ 512 → scratch_need t ≤ 5120 → n t ≡ (outcome t 512 5120).answer.conditions
as_many f meets n ws h t ok fits enough =
    ap (λ (a : Answer). a.conditions) (sym (h t 512 5120 ok fits enough).0 ∙ meets.answer t 512 5120)

not_one : (outcome example_a 512 5120).answer.conditions ≢ 1
not_one e = let z = ap (λ (a : Answer). a.conditions) facts.example_answer in omega linear

-- neither list has more words than there is room
one_fits : (form : Form) → length (one_list form example_a) ≤ 512
one_fits without_depth = lit≤ tt
one_fits with_depth = lit≤ tt

false_fits : (form : Form) → length (one_false form example_a) ≤ 512
false_fits without_depth = lit≤ tt
false_fits with_depth = lit≤ tt

pub one_list_for_all : (form : Form) (f : Body) → Meets f → Lists f (λ t. 1) (one_list form) → ⊥
one_list_for_all form f meets h =
    not_one (sym (as_many f meets (λ t. 1) (one_list form) h example_a facts.example_accepted (one_fits form) facts.example_need))

pub one_false_for_all : (form : Form) (f : Body) → Meets f → Lists f (λ t. 1) (one_false form) → ⊥
one_false_for_all form f meets h =
    not_one (sym (as_many f meets (λ t. 1) (one_false form) h example_a facts.example_accepted (false_fits form) facts.example_need))

pub walks_first_only : (f : Body) → Meets f → Lists f first_count first_words → ⊥
walks_first_only f meets h =
    let four = as_many f meets first_count first_words h loops_in_sequence facts.sequence_accepted facts.first_fits facts.sequence_need in
    omega (linear, facts.first_four, facts.sequence_count)

pub leaves_rest_out : (f : Body) → Meets f → Lists f short_count short_words → ⊥
leaves_rest_out f meets h =
    let four = as_many f meets short_count short_words h loops_in_sequence facts.sequence_accepted facts.short_fits facts.sequence_need in
    omega (linear, facts.short_four, facts.sequence_count)

-- "writes nothing and reports planned", whatever counts it reports
abbrev pub WritesNothing : Body → Type 0
WritesNothing f = (t : List ℤ) (l s : ℕ) → verdict t ≡ accepted → scratch_need t ≤ s
    → ((f t l s).answer.number ≡ 0) × ((f t l s).list ≡ zeros l)

pub writes_nothing : (f : Body) → Meets f → WritesNothing f → ⊥
writes_nothing f meets h =
    let none = (h example_a 512 5120 facts.example_accepted facts.example_need).1 in
    let e = pos_inj (ap (λ (l : List ℤ). get_or l 1 (pos 0)) (sym none ∙ meets.list example_a 512 5120) ∙ facts.example_second) in
    omega linear

-- "invents the counts of conditions or words: by 2, where both belong to the list defined"
pub record Counted (t : List ℤ) (a : Answer) : Type 0 where
  pub conditions_listed : a.number ≡ 0 → a.conditions ≡ length (conditions (tree t))
  pub words_listed : a.number ≡ 0 → a.words ≡ length (list_words with_depth (conditions (tree t)))
  pub none_refused : a.number ≢ 0 → (a.conditions ≡ 0) × (a.words ≡ 0)

pub invents_counts : (f : Body) → Meets f → (t : List ℤ) (l s : ℕ) → ¬ Counted t (f t l s).answer → ⊥
invents_counts f meets t l s h = h (rw (meets.answer t l s) counted)
  where
    counted : Counted t (outcome t l s).answer
    counted = outcome_cases (λ o. Counted t o.answer) t l s
        (λ n r d. record { conditions_listed = λ z. absurd (d z); words_listed = λ z. absurd (d z); none_refused = λ e. (refl, refl) })
        (λ ok fits. record { conditions_listed = λ z. refl; words_listed = λ z. refl; none_refused = λ e. absurd (e refl) })

-- ---- by demand 3 alone

lists_true : (f : Body) → Demanded f → (n : List ℤ → ℕ) (ws : List ℤ → List ℤ) → Lists f n ws → (t : List ℤ) → Failing t
    → length (ws t) ≤ 512 → (r : ℕ) → read_list (ws t) ≡ some (true_condition r ∷ []) → ⊥
unfolding holds
lists_true f demanded n ws h t F fits r q = lists_valid f demanded n ws h t F fits (true_condition r ∷ []) q (λ s. tt, tt)

one_told : (form : Form) → read_list (true_words form 3) ≡ some (true_condition 3 ∷ [])
one_told without_depth = facts.one_old_read
one_told with_depth = facts.one_read

pub one_list_by_3 : (form : Form) (f : Body) → Demanded f → Lists f (λ t. 1) (one_list form) → ⊥
one_list_by_3 form f demanded h =
    lists_true f demanded (λ t. 1) (one_list form) h false_assertion facts.assertion (one_fits form) 3 (one_told form)

pub first_only_by_3 : (f : Body) → Demanded f → Lists f first_count first_words → ⊥
first_only_by_3 f demanded h =
    lists_true f demanded first_count first_words h false_body facts.body (rw facts.body_words (lit≤ tt)) 11
    (rw facts.body_words facts.first_read)

pub rest_out_by_3 : (f : Body) → Demanded f → Lists f short_count short_words → ⊥
rest_out_by_3 f demanded h =
    lists_true f demanded short_count short_words h false_body facts.body (rw facts.body_short (lit≤ tt)) 11
    (rw facts.body_short facts.first_read)

-- zeros are no list
zero_word : (w l k : ℕ) → get_or (take w (zeros l)) k (pos 0) ≡ pos 0
zero_word zero l k = refl
zero_word (suc w) zero k = refl
zero_word (suc w) (suc l) zero = refl
zero_word (suc w) (suc l) (suc k) = zero_word w l k

none_counted : (b : Bool) (w : ℤ) (o : Option (List Found)) → w ≡ pos 0 → guarded (b && ltb 0 (count_told w)) o ≡ none
none_counted true w o e = rw e
none_counted false w o e = refl

no_list : (ws : List ℤ) → last_word ws ≡ pos 0 → read_list ws ≡ none
unfolding read_list lines_within
no_list ws h = rw (none_counted (leb (length ws) 16384) (last_word ws) _ h)

zeros_unread : (ws : List ℤ) (w l : ℕ) → ws ≡ zeros l → read_list (take w ws) ≡ none
zeros_unread ws w l e = rw e (no_list (take w (zeros l)) (zero_word w l _))

pub writes_nothing_by_3 : (f : Body) → Demanded f → WritesNothing f → ⊥
writes_nothing_by_3 f demanded h =
    let F = facts.assertion in
    let g = h false_assertion 512 5120 F.accepts F.need in
    let unread = zeros_unread (f false_assertion 512 5120).list (f false_assertion 512 5120).answer.words 512 g.1 in
    claims_nothing f demanded false_assertion F g.0 (λ cs q. none_is_not (sym unread ∙ q))
