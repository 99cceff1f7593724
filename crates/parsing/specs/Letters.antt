-- The letters of `Symbols` against the grammar's own tables: equal letters are equal sorts and endings
-- (`same_letters`, `same_ends`), and a hole's letter tells what it takes and what may begin there (`fits_letters`,
-- `begins_letters`). By cases over one table each; where two are compared, by a way back from the letter. Assumes
-- nothing.
use Rattle.std.specs.Prelude.{ℕ, ◌≡◌, refl, Bool, true, false, cond, ◌||◌, eqb}
use Rattle.std.proofs.Common.{sym, ap, ◌∙◌, subst, eqb-true, eq-eqb}
use Rattle.grammar.specs.Sorts.{same, Sort, sort-discrete, same_sort, number, expression, formula, statement, script, Hole, only, either, takes, begins}
use Rattle.grammar.specs.Tokens.{Ending, by_semicolon, by_closer, same_ending, ending-discrete, closer-discrete, bracket_closer, comma_closer, then_closer, else_closer, end_closer, keep_closer, fall_closer, do_closer, post_closer, end_of_text}
use Rattle.grammar.specs.Tests.{same_is, same_refl}
use Rattle.parser.specs.Machine.{fits, begins as begins_by}
use Rattle.parsing.specs.Encoding.{sort_letter, hole_letter}

-- ---- codes that can be told apart

either_way : (a b : Bool) → (a ≡ true → b ≡ true) → (b ≡ true → a ≡ true) → a ≡ b
either_way true b f g = sym (f refl)
either_way false true f g = g refl
either_way false false f g = refl

codes_apart : {A : Type 0} (d : Discrete A) (code : A → ℕ) (back : ℕ → A) → ((a : A) → back (code a) ≡ a)
    → (a b : A) → eqb (code a) (code b) ≡ same d a b
codes_apart d code back k a b =
    either_way (eqb (code a) (code b)) (same d a b)
    (λ e. subst (λ x. same d a x ≡ true) (sym (k a) ∙ ap back (eqb-true (code a) (code b) e) ∙ k b) (same_refl d a))
    (λ e. eq-eqb (code a) (code b) (ap code (same_is d a b e)))

same_swap : {A : Type 0} (d : Discrete A) (a b : A) → same d a b ≡ same d b a
same_swap d a b = either_way (same d a b) (same d b a) (turned a b) (turned b a)
  where
    turned : (x y : _) → same d x y ≡ true → same d y x ≡ true
    turned x y e = subst (λ z. same d z x ≡ true) (same_is d x y e) (same_refl d x)

-- ---- sorts and holes

sort_of : ℕ → Sort
sort_of n =
    cond (eqb n 78) number (cond (eqb n 69) expression (cond (eqb n 70) formula (cond (eqb n 83) statement script)))

sort_back : (s : Sort) → sort_of (sort_letter s) ≡ s
unfolding sort_of
sort_back number = refl
sort_back expression = refl
sort_back formula = refl
sort_back statement = refl
sort_back script = refl

pub same_letters : (s t : Sort) → eqb (sort_letter s) (sort_letter t) ≡ same_sort s t
same_letters = codes_apart sort-discrete sort_letter sort_of sort_back

pub swapped_letters : (s t : Sort) → eqb (sort_letter t) (sort_letter s) ≡ same_sort s t
swapped_letters s t = same_letters t s ∙ same_swap sort-discrete t s

or_false : (b : Bool) → (b || false) ≡ b
or_false true = refl
or_false false = refl

pub fits_letters : (h : Hole) (s : Sort) → fits (hole_letter h) (sort_letter s) ≡ takes h s
fits_letters (only number) s = or_false (eqb 78 (sort_letter s)) ∙ same_letters number s
fits_letters (only expression) s = or_false (eqb 69 (sort_letter s)) ∙ same_letters expression s
fits_letters (only formula) s = or_false (eqb 70 (sort_letter s)) ∙ same_letters formula s
fits_letters (only statement) s = or_false (eqb 83 (sort_letter s)) ∙ same_letters statement s
fits_letters (only script) s = or_false (eqb 88 (sort_letter s)) ∙ same_letters script s
fits_letters either number = refl
fits_letters either expression = refl
fits_letters either formula = refl
fits_letters either statement = refl
fits_letters either script = refl

pub begins_letters : (h : Hole) (s : Sort) → begins_by (hole_letter h) (sort_letter s) ≡ begins h s
begins_letters (only number) s = or_false (fits 78 (sort_letter s)) ∙ fits_letters (only number) s
begins_letters (only expression) s = or_false (fits 69 (sort_letter s)) ∙ fits_letters (only expression) s
begins_letters (only formula) number = refl
begins_letters (only formula) expression = refl
begins_letters (only formula) formula = refl
begins_letters (only formula) statement = refl
begins_letters (only formula) script = refl
begins_letters (only statement) s = or_false (fits 83 (sort_letter s)) ∙ fits_letters (only statement) s
begins_letters (only script) s = or_false (fits 88 (sort_letter s)) ∙ fits_letters (only script) s
begins_letters either s = or_false (fits 66 (sort_letter s)) ∙ fits_letters either s

-- what is no sort's letter
pub begins_nothing : (h : Hole) → begins_by (hole_letter h) 95 ≡ false
begins_nothing (only number) = refl
begins_nothing (only expression) = refl
begins_nothing (only formula) = refl
begins_nothing (only statement) = refl
begins_nothing (only script) = refl
begins_nothing either = refl

pub fits_nothing : (s : Sort) → fits (sort_letter s) 0 ≡ false
fits_nothing number = refl
fits_nothing expression = refl
fits_nothing formula = refl
fits_nothing statement = refl
fits_nothing script = refl

pub no_operand : (s : Sort) → eqb 95 (sort_letter s) ≡ false
no_operand number = refl
no_operand expression = refl
no_operand formula = refl
no_operand statement = refl
no_operand script = refl

pub counts_letter : (h : Hole) → eqb (hole_letter h) 78 ≡ begins h number
counts_letter (only s) = same_letters s number ∙ sym (widened s)
  where
    widened : (t : Sort) → begins (only t) number ≡ same_sort t number
    widened number = refl
    widened expression = refl
    widened formula = refl
    widened statement = refl
    widened script = refl
counts_letter either = refl

pub assigns_letter : (h : Hole) → eqb (hole_letter h) 83 ≡ begins h statement
assigns_letter (only number) = refl
assigns_letter (only expression) = refl
assigns_letter (only formula) = refl
assigns_letter (only statement) = refl
assigns_letter (only script) = refl
assigns_letter either = refl

-- ---- endings

abbrev pub ending_letter : Ending → ℕ
ending_letter by_semicolon = 59
ending_letter (by_closer bracket_closer) = 41
ending_letter (by_closer comma_closer) = 44
ending_letter (by_closer then_closer) = 116
ending_letter (by_closer else_closer) = 108
ending_letter (by_closer end_closer) = 101
ending_letter (by_closer keep_closer) = 107
ending_letter (by_closer fall_closer) = 102
ending_letter (by_closer do_closer) = 100
ending_letter (by_closer post_closer) = 112
ending_letter (by_closer end_of_text) = 36

ending_of : ℕ → Ending
ending_of n =
    cond (eqb n 59) by_semicolon (cond (eqb n 41) (by_closer bracket_closer) (cond (eqb n 44) (by_closer comma_closer)
    (cond (eqb n 116) (by_closer then_closer) (cond (eqb n 108) (by_closer else_closer)
    (cond (eqb n 101) (by_closer end_closer)
    (cond (eqb n 107) (by_closer keep_closer) (cond (eqb n 102) (by_closer fall_closer)
    (cond (eqb n 100) (by_closer do_closer)
    (cond (eqb n 112) (by_closer post_closer) (by_closer end_of_text))))))))))

ending_back : (e : Ending) → ending_of (ending_letter e) ≡ e
unfolding ending_of
ending_back by_semicolon = refl
ending_back (by_closer bracket_closer) = refl
ending_back (by_closer comma_closer) = refl
ending_back (by_closer then_closer) = refl
ending_back (by_closer else_closer) = refl
ending_back (by_closer end_closer) = refl
ending_back (by_closer keep_closer) = refl
ending_back (by_closer fall_closer) = refl
ending_back (by_closer do_closer) = refl
ending_back (by_closer post_closer) = refl
ending_back (by_closer end_of_text) = refl

pub same_ends : (d e : Ending) → eqb (ending_letter d) (ending_letter e) ≡ same_ending d e
same_ends = codes_apart (ending-discrete closer-discrete) ending_letter ending_of ending_back

pub swapped_ends : (d e : Ending) → eqb (ending_letter e) (ending_letter d) ≡ same_ending d e
swapped_ends d e = same_ends e d ∙ same_swap (ending-discrete closer-discrete) e d

-- no ending's letters
pub ends_nothing : (e : Ending) → eqb (ending_letter e) 45 ≡ false
ends_nothing by_semicolon = refl
ends_nothing (by_closer bracket_closer) = refl
ends_nothing (by_closer comma_closer) = refl
ends_nothing (by_closer then_closer) = refl
ends_nothing (by_closer else_closer) = refl
ends_nothing (by_closer end_closer) = refl
ends_nothing (by_closer keep_closer) = refl
ends_nothing (by_closer fall_closer) = refl
ends_nothing (by_closer do_closer) = refl
ends_nothing (by_closer post_closer) = refl
ends_nothing (by_closer end_of_text) = refl

pub no_ending : (e : Ending) → eqb 95 (ending_letter e) ≡ false
no_ending by_semicolon = refl
no_ending (by_closer bracket_closer) = refl
no_ending (by_closer comma_closer) = refl
no_ending (by_closer then_closer) = refl
no_ending (by_closer else_closer) = refl
no_ending (by_closer end_closer) = refl
no_ending (by_closer keep_closer) = refl
no_ending (by_closer fall_closer) = refl
no_ending (by_closer do_closer) = refl
no_ending (by_closer post_closer) = refl
no_ending (by_closer end_of_text) = refl
