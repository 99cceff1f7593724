-- 01, "Reading a finished list", once more as it is worded: "A well-formed list has a count of 1 or more, at most 16,384
-- words, that many trailers, each with a kind 1 to 4, a row from 0 to 2,047 and the true length of one whole formula;
-- variables 0 to 255, marks 0 to 2,047; nothing left at the front." With 02, P2, variables are 0 to 1,023, and with P5 a kind is
-- 1 to 5. With P9 there is a second form, told by the last word, whose trailers have a fourth word from 0 to 7. So it is the words of one
-- or more conditions, in either form, whose numbers are in range. Assumes nothing.
use Rattle.std.specs.Prelude.{ℕ, ◌≤◌, ◌<◌, ◌≡◌, List, [], ◌∷◌, ℤ, length}
use Rattle.script.specs.Rows.{variables}
use Rattle.script.specs.Syntax.{Expr, Formula, Names, Namesᶠ}
use Rattle.script.specs.Conditions.{Condition}
use Rattle.script.specs.Words.{Form, without_depth, with_depth, list_words}
use Rattle.script.specs.Listing.{row_limit, depth_limit, form_of}

-- where the variables are those below a limit
module _ (limit : ℕ) where
  abbrev pub InRangeWithin : Expr → Type 0
  InRangeWithin e = Names (λ v. v < limit) (λ m. m < row_limit) e

  abbrev pub InRangeᶠWithin : Formula → Type 0
  InRangeᶠWithin f = Namesᶠ (λ v. v < limit) (λ m. m < row_limit) f

abbrev pub InRange : Expr → Type 0
InRange = InRangeWithin variables

abbrev pub InRangeᶠ : Formula → Type 0
InRangeᶠ = InRangeᶠWithin variables

-- 02, P9: "0 for an old list"; "0 to 7"
abbrev pub DepthInRange : Form → ℕ → Type 0
DepthInRange without_depth d = d ≡ 0
DepthInRange with_depth d = d < depth_limit

abbrev pub AllInRange : Form → List Condition → Type 0
AllInRange form [] = Unit {0}
AllInRange form (c ∷ cs) =
    ((c.row < row_limit) × DepthInRange form c.depth) × InRangeᶠ c.claim × AllInRange form cs

-- ws is the list of the conditions cs
pub record WellFormed (ws : List ℤ) (cs : List Condition) : Type 0 where
  pub spells : list_words (form_of ws) cs ≡ ws
  pub short : length ws ≤ 16384
  pub counted : 0 < length cs
  pub ranges : AllInRange (form_of ws) cs
