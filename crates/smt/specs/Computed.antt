-- The figures of 02, P1, P2, P5 (kind 5) and P9 (depths), as rows of a single statement that the prover settles by computing the
-- definitions: example A's four scripts, from its list in either form; constants, operators, names; kinds and fourth words; 20, 21 and
-- 30 in their order. Then answers of a writer that these rule out.
-- Assumes nothing.
use Rattle.std.specs.Prelude.{ℕ, ◌≡◌, refl, List, [], ◌∷◌, ◌++◌, map, ℤ, pos, negsuc, length, replicate}
use Prim.Native.String.{String}
use Rattle.std.proofs.Common.{sym, ap, ◌∙◌, arith as linear}
use Rattle.script.specs.Computed.{◌⨾◌, example, example_a}
use Rattle.script.specs.Rows.{row, row_of}
use Rattle.script.specs.Trees.{expr, formula, stmt, expr_at, formula_at, stmt_at, tree}
use Rattle.script.specs.Conditions.{conditions, walk, wp, divisors, divisorsᶠ, subst_expr, subst_formula}
use Rattle.script.specs.Words.{Form, without_depth, with_depth, list_words, all_lines, line_words, expr_words, formula_words}
use Rattle.script.specs.Listing.{read_expr_within, read_formula_within, spelled_within, found_within, line_before_within, lines_before_within, lines_within}
use Rattle.text.specs.Ascii.{bytes}
use Rattle.text.specs.Decimal.{digits, decimal}
use Rattle.smt.specs.Translate.{term, claim, references, occurring, script_within}
use Rattle.smt.specs.Text.{sexp_text, term_sexp, command_sexp, script_text}
use Rattle.smt.specs.Written.{Written, refuse, written, written_within}

-- a list, an index and a room
abbrev Call : Type 0
Call = List ℤ × ℤ × ℕ

-- a text, with so many zeros behind it
text : String → ℕ → Written
text s zeros = record { number = 0; used = length (bytes s); buffer = bytes s ++ replicate zeros 0 }

-- ---- lists

-- the list of example A, in either form
list_in : Form → List ℤ
list_in form = list_words form (conditions (tree example_a))

-- as the generator writes it
list_a : List ℤ
list_a = list_in with_depth

-- a list of one condition, of a kind and with row 0, in the form of 01
of_kind : ℕ → List ℤ → List ℤ
of_kind k ws = ws ++ (pos k ∷ pos 0 ∷ pos (length ws) ∷ pos 1 ∷ [])

-- in that of 02, P9, with this fourth word
with_fourth : ℤ → ℕ → List ℤ → List ℤ
with_fourth d k ws = ws ++ (pos k ∷ pos 0 ∷ pos (length ws) ∷ d ∷ negsuc 0 ∷ [])

-- main
one : List ℤ → List ℤ
one = of_kind 4

-- (- 1) < (- 5), and -2147483648 <= 2147483647
constants : List ℤ
constants = one (pos 23 ∷ pos 18 ∷ pos 1 ∷ negsuc 0 ∷ pos 1 ∷ negsuc 4 ∷ pos 19 ∷ pos 1 ∷ negsuc 2147483647 ∷ pos 1 ∷ pos 2147483647 ∷ [])

-- v7 div m3 is unequal to f128 mod v7
divisions : List ℤ
divisions = one (pos 21 ∷ pos 6 ∷ pos 2 ∷ pos 7 ∷ pos 9 ∷ pos 3 ∷ pos 7 ∷ pos 2 ∷ pos 128 ∷ pos 2 ∷ pos 7 ∷ [])

-- not (true implies (choose false, then v127, else f255) = negate 5)
choice : List ℤ
choice = one (pos 22 ∷ pos 25 ∷ pos 16 ∷ pos 20 ∷ pos 10 ∷ pos 17 ∷ pos 2 ∷ pos 127 ∷ pos 2 ∷ pos 255 ∷ pos 8 ∷ pos 1 ∷ pos 5 ∷ [])

-- (v0 + v0) < (v0 * m2047), or false
sums : List ℤ
sums = one (pos 24 ∷ pos 18 ∷ pos 3 ∷ pos 2 ∷ pos 0 ∷ pos 2 ∷ pos 0 ∷ pos 5 ∷ pos 2 ∷ pos 0 ∷ pos 9 ∷ pos 2047 ∷ pos 17 ∷ [])

-- v1023 + v256 = f255 + (f128 + v127): the first and the last of 256 to 1,023 and of the frozen names, and 127
ends : List ℤ
ends = one (pos 20 ∷ pos 3 ∷ pos 2 ∷ pos 1023 ∷ pos 2 ∷ pos 256 ∷ pos 3 ∷ pos 2 ∷ pos 255 ∷ pos 3 ∷ pos 2 ∷ pos 128 ∷ pos 2 ∷ pos 127 ∷ [])

-- v1024 = 0 and m2048 = 0, where there is no such variable and no such mark
past_ends : List ℤ
past_ends = one (pos 20 ∷ pos 2 ∷ pos 1024 ∷ pos 1 ∷ pos 0 ∷ [])

past_marks : List ℤ
past_marks = one (pos 20 ∷ pos 9 ∷ pos 2048 ∷ pos 1 ∷ pos 0 ∷ [])

-- -7 mod (v0 div -2) = 0: negative constants, and a divisor that is itself a division; of a mod both sides stand there twice
division_in_divisor : List ℤ
division_in_divisor = one (pos 20 ∷ pos 7 ∷ pos 1 ∷ negsuc 6 ∷ pos 6 ∷ pos 2 ∷ pos 0 ∷ pos 1 ∷ negsuc 1 ∷ pos 1 ∷ pos 0 ∷ [])

-- true implies v0 is unequal to 0: what P5 lists of a guard that divides by v0
nonzero : List ℤ
nonzero = pos 25 ∷ pos 16 ∷ pos 21 ∷ pos 2 ∷ pos 0 ∷ pos 1 ∷ pos 0 ∷ []

nonzero_text : Written
nonzero_text = text "(set-logic QF_NIA)\n(declare-const v0 Int)\n(assert (not (=> true (distinct v0 0))))\n(check-sat)\n" 0

-- ---- figures

-- of the list of example A: 02, P9, "the reader, P1 and P6 take both forms", and the texts from either are the same
of_example : List ℤ → List (Call × Written)
of_example a =
    ((a, pos 0, 120), text "(set-logic QF_NIA)\n(declare-const v0 Int)\n(assert (not (=> (and (<= 0 v0) (not (< 0 v0))) (= v0 0))))\n(check-sat)\n" 6)
    ∷ ((a, pos 1, 109), text "(set-logic QF_NIA)\n(declare-const v0 Int)\n(assert (not (=> (and (<= 0 v0) (< 0 v0)) (<= 0 v0))))\n(check-sat)\n" 0)
    ∷ ((a, pos 1, 108), refuse 30 108)
    ∷ (
      (a, pos 2, 180),
      text
          "(set-logic QF_NIA)\n(declare-const v0 Int)\n(declare-const m15 Int)\n(assert (not (=> (and (and (<= 0 v0) (< 0 v0)) (= v0 m15)) (and (<= 0 (- v0 1)) (< (- v0 1) m15)))))\n(check-sat)\n"
          1,
    )
    ∷ ((a, pos 3, 95), text "(set-logic QF_NIA)\n(declare-const v0 Int)\n(assert (not (=> (<= 0 v0) (<= 0 v0))))\n(check-sat)\n" 1)
    ∷ ((a, pos 3, 0), refuse 30 0)
    ∷ ((a, pos 4, 500), refuse 21 500)
    ∷ ((a, negsuc 0, 0), refuse 21 0)
    ∷ ((pos 7 ∷ a, pos 4, 0), refuse 20 0)
    ∷ []

others : List (Call × Written)
others =
    ((constants, pos 0, 99), text "(set-logic QF_NIA)\n(assert (not (and (< (- 1) (- 5)) (<= (- 2147483648) 2147483647))))\n(check-sat)\n" 0)
    ∷ (
      (divisions, pos 0, 191),
      text
          "(set-logic QF_NIA)\n(declare-const v7 Int)\n(declare-const f128 Int)\n(declare-const m3 Int)\n(assert (not (distinct (ite (= m3 0) 0 (div v7 m3)) (ite (= v7 0) f128 (mod f128 v7)))))\n(check-sat)\n"
          0,
    )
    ∷ (
      (choice, pos 0, 144),
      text
          "(set-logic QF_NIA)\n(declare-const v127 Int)\n(declare-const f255 Int)\n(assert (not (not (=> true (= (ite false v127 f255) (- 5))))))\n(check-sat)\n"
          0,
    )
    ∷ (
      (sums, pos 0, 133),
      text
          "(set-logic QF_NIA)\n(declare-const v0 Int)\n(declare-const m2047 Int)\n(assert (not (or (< (+ v0 v0) (* v0 m2047)) false)))\n(check-sat)\n" 0,
    )
    ∷ (
      (ends, pos 0, 214),
      text
          "(set-logic QF_NIA)\n(declare-const v127 Int)\n(declare-const f128 Int)\n(declare-const f255 Int)\n(declare-const v256 Int)\n(declare-const v1023 Int)\n(assert (not (= (+ v1023 v256) (+ f255 (+ f128 v127)))))\n(check-sat)\n"
          0,
    )
    ∷ ((past_ends, pos 0, 9), refuse 20 9)
    ∷ ((past_marks, pos 0, 9), refuse 20 9)
    ∷ (
      (division_in_divisor, pos 0, 175),
      text
          "(set-logic QF_NIA)\n(declare-const v0 Int)\n(assert (not (= (ite (= (ite (= (- 2) 0) 0 (div v0 (- 2))) 0) (- 7) (mod (- 7) (ite (= (- 2) 0) 0 (div v0 (- 2))))) 0)))\n(check-sat)\n"
          0,
    )
    ∷ ((of_kind 5 nonzero, pos 0, 95), nonzero_text)
    ∷ ((of_kind 6 nonzero, pos 0, 95), refuse 20 95)
    ∷ ((with_fourth (pos 0) 5 nonzero, pos 0, 95), nonzero_text)
    ∷ ((with_fourth (pos 7) 5 nonzero, pos 0, 95), nonzero_text)
    ∷ ((with_fourth (pos 8) 5 nonzero, pos 0, 95), refuse 20 95)
    ∷ ((with_fourth (negsuc 0) 5 nonzero, pos 0, 95), refuse 20 95)
    ∷ ((with_fourth (pos 0) 6 nonzero, pos 0, 95), refuse 20 95)
    ∷ ((sums, pos 2147483647, 1), refuse 21 1)
    ∷ ((sums, negsuc 2147483647, 1), refuse 21 1)
    ∷ (([], negsuc 0, 3), refuse 20 3)
    ∷ []

figures : List (Call × Written)
figures = of_example list_a ++ (of_example (list_in without_depth) ++ others)

figures_hold : map (λ (f : Call × Written). written f.0.0 f.0.1 f.0.2) figures ≡ map (λ (f : Call × Written). f.1) figures
unfolding figures of_example others list_in list_a of_kind with_fourth one constants divisions choice sums ends past_ends past_marks division_in_divisor nonzero nonzero_text text example_a example ◌⨾◌ row row_of expr formula stmt expr_at formula_at stmt_at tree conditions walk wp divisors divisorsᶠ subst_expr subst_formula list_words all_lines line_words expr_words formula_words read_expr_within read_formula_within spelled_within found_within line_before_within lines_before_within lines_within decimal digits term claim references occurring script_within sexp_text term_sexp command_sexp script_text written_within
figures_hold = refl

-- ---- what a writer cannot do

-- example A's first condition and its last, and one past it
facts : ((written list_a (pos 0) 114).used ≡ 114) × ((written list_a (pos 3) 114).number ≡ 0) × ((written list_a (pos 3) 114).used ≡ 94)
    × ((written list_a (pos 4) 114).number ≡ 21)
unfolding list_in list_a one example_a example ◌⨾◌ row row_of expr formula stmt expr_at formula_at stmt_at tree conditions walk wp divisors divisorsᶠ subst_expr subst_formula list_words all_lines line_words expr_words formula_words read_expr_within read_formula_within spelled_within found_within line_before_within lines_before_within lines_within decimal digits term claim references occurring script_within sexp_text term_sexp command_sexp script_text written_within
facts = (refl, refl, refl, refl)

-- a writer that always answers what is defined
module _ (w : List ℤ → ℤ → ℕ → Written) (right : (ws : List ℤ) (i : ℤ) (room : ℕ) → w ws i room ≡ written ws i room) where
  told : {A : Type 0} (f : Written → A) (i : ℤ) → f (w list_a i 114) ≡ f (written list_a i 114)
  told f i = ap f (right list_a i 114)

  refuses_all : ((ws : List ℤ) (i : ℤ) (room : ℕ) → ¬ ((w ws i room).number ≡ 0)) → ⊥
  refuses_all h = h list_a (pos 3) 114 (told (λ a. a.number) (pos 3) ∙ facts.1)

  accepts_all : ((ws : List ℤ) (i : ℤ) (room : ℕ) → (w ws i room).number ≡ 0) → ⊥
  accepts_all h = let e = sym (h list_a (pos 4) 114) ∙ told (λ a. a.number) (pos 4) ∙ facts.3 in omega linear

  -- in particular one that writes the first condition at every index
  one_text_for_all : ((ws : List ℤ) (i j : ℤ) (room : ℕ) → w ws i room ≡ w ws j room) → ⊥
  one_text_for_all h =
      let e = sym (told (λ a. a.used) (pos 0)) ∙ ap (λ (a : Written). a.used) (h list_a (pos 0) (pos 3) 114) ∙ told (λ a. a.used) (pos 3) in
      let f = sym facts.0 ∙ e ∙ facts.2 in
      omega linear

  writes_nothing : ((ws : List ℤ) (i : ℤ) (room : ℕ) → (w ws i room).used ≡ 0) → ⊥
  writes_nothing h = let e = sym (h list_a (pos 3) 114) ∙ told (λ a. a.used) (pos 3) ∙ facts.2 in omega linear
