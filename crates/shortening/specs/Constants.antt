-- The constants of a formula are among its words: where each word of a list is a value of an arithmetic, as each 32-bit
-- word is of the controller's, so is each constant (`constants_in`, `list_constants`). So the theorems for any arithmetic
-- speak of every list. Assumes nothing.
use Rattle.std.proofs.Common.{sym, subst}
use mathlib.Core.List.{List, [], ◌∷◌, ◌++◌}
use Rattle.std.specs.Prelude.{ℤ, length}
use Rattle.script.specs.Syntax.{Expr, const, var, mark, arith, neg, choose, Formula, truth, cmp, not, join}
use Rattle.script.specs.Conditions.{Condition}
use Rattle.script.specs.Words.{Form, expr_words, formula_words, trailer, line_words, all_lines, count_word, list_words}
use Rattle.script.specs.Listing.{form_of}
use Rattle.script.specs.WellFormed.{WellFormed}
use Rattle.shortening.specs.Leaves.{Constants, Constantsᶠ}

module _ (In : ℤ → Type 0) where
  abbrev pub EachWord : List ℤ → Type 0
  EachWord [] = Unit {0}
  EachWord (w ∷ ws) = In w × EachWord ws

  front : (us vs : List ℤ) → EachWord (us ++ vs) → EachWord us
  front [] vs h = tt
  front (u ∷ us) vs h = (h.0, front us vs h.1)

  back : (us vs : List ℤ) → EachWord (us ++ vs) → EachWord vs
  back [] vs h = h
  back (u ∷ us) vs h = back us vs h.1

  mutual
    unfolding expr_words

    constants_inᵉ : (e : Expr) → EachWord (expr_words e) → Constants In e
    constants_inᵉ (const z) h = h.1.0
    constants_inᵉ (var v) h = tt
    constants_inᵉ (mark m) h = tt
    constants_inᵉ (arith p a b) h =
        let first = front (expr_words a) (expr_words b) h.1 in
        let second = back (expr_words a) (expr_words b) h.1 in
        (constants_inᵉ a first, constants_inᵉ b second)
    constants_inᵉ (neg a) h = constants_inᵉ a h.1
    constants_inᵉ (choose f a b) h =
        let rest = back (formula_words f) (expr_words a ++ expr_words b) h.1 in (
          constants_in f (front (formula_words f) (expr_words a ++ expr_words b) h.1),
          constants_inᵉ a (front (expr_words a) (expr_words b) rest),
          constants_inᵉ b (back (expr_words a) (expr_words b) rest),
        )

    pub constants_in : (f : Formula) → EachWord (formula_words f) → Constantsᶠ In f
    constants_in (truth b) h = tt
    constants_in (cmp r a b) h =
        let first = front (expr_words a) (expr_words b) h.1 in
        let second = back (expr_words a) (expr_words b) h.1 in
        (constants_inᵉ a first, constants_inᵉ b second)
    constants_in (not f) h = constants_in f h.1
    constants_in (join c f g) h =
        let first = front (formula_words f) (formula_words g) h.1 in
        let second = back (formula_words f) (formula_words g) h.1 in
        (constants_in f first, constants_in g second)

  -- ---- of every condition of a list

  abbrev pub AllConstants : List Condition → Type 0
  AllConstants [] = Unit {0}
  AllConstants (c ∷ cs) = Constantsᶠ In c.claim × AllConstants cs

  lines_constants : (form : Form) (cs : List Condition) → EachWord (all_lines form cs) → AllConstants cs
  unfolding all_lines line_words
  lines_constants form [] h = tt
  lines_constants form (c ∷ cs) h =
      let first = front (line_words form c) (all_lines form cs) h in
      let rest = back (line_words form c) (all_lines form cs) h in
      (constants_in c.claim (front (formula_words c.claim) (trailer form c) first), lines_constants form cs rest)

  pub list_constants : (ws : List ℤ) (cs : List Condition) → WellFormed ws cs → EachWord ws → AllConstants cs
  unfolding list_words
  list_constants ws cs w h =
      let form = form_of ws in
      let count = count_word form (length cs) ∷ [] in
      lines_constants form cs (front (all_lines form cs) count (subst EachWord (sym w.spells) h))
