-- "P6 must hold in both" (02, P12, which cites this): for an arithmetic whose states hold some numbers only, a shortened
-- condition is true in all states of the arithmetic exactly where the old one is (`valid_in_iff`), and so is the list
-- that the pass leaves, where each word of the old list is such a number (`list_valid_in_iff`). Assumes nothing.
use Rattle.std.specs.Prelude.{ℕ, ◌≡◌, ◌↔◌, List, [], ◌∷◌, ℤ, T}
use Rattle.std.proofs.Common.{sym, ◌∙◌, subst}
use Rattle.std.proofs.Math.Option.{some}
use Rattle.script.specs.Syntax.{Formula}
use Rattle.script.specs.Meaning.{State, Arithmetic, holds}
use Rattle.script.specs.Conditions.{Condition}
use Rattle.script.specs.Listing.{read_list}
use Rattle.theorems.specs.Options.{some_inj}
use Rattle.theorems.specs.ReadBack.{read_written}
use Rattle.shortening.specs.Simplify.{Order, shortenᶠ, shorten_all}
use Rattle.shortening.specs.Laws.{Lawful, StateIn}
use Rattle.shortening.specs.Same.{holds_same}
use Rattle.shortening.specs.Leaves.{Constantsᶠ}
use Rattle.shortening.specs.Constants.{EachWord, AllConstants, list_constants}
use Rattle.shortening.specs.Shortened.{written, used_words}
use Rattle.shortening.specs.Answers.{new_list}

module _ (𝔸 : Arithmetic) (In : ℤ → Type 0) where
  -- true in all states of the arithmetic
  abbrev pub ValidIn : Formula → Type 0
  ValidIn f = (s : State) → StateIn In s → T (holds 𝔸 s f)

  abbrev pub AllValidIn : List Condition → Type 0
  AllValidIn [] = Unit {0}
  AllValidIn (c ∷ cs) = ValidIn c.claim × AllValidIn cs

  abbrev pub ListValidIn : List ℤ → Type 0
  ListValidIn ws = (cs : List Condition) → read_list ws ≡ some cs → AllValidIn cs

  module _ (law : Lawful 𝔸 In) (o : Order) where
    pub valid_in_iff : (f : Formula) → Constantsᶠ In f → ValidIn (shortenᶠ o f) ↔ ValidIn f
    valid_in_iff f k = (
      λ v s h. subst T (holds_same 𝔸 In law s h o f k) (v s h),
      λ v s h. subst T (sym (holds_same 𝔸 In law s h o f k)) (v s h),
    )

    pub all_valid_in_iff : (cs : List Condition) → AllConstants In cs → AllValidIn (shorten_all o cs) ↔ AllValidIn cs
    all_valid_in_iff [] k = (λ h. tt, λ h. tt)
    all_valid_in_iff (c ∷ cs) k =
        let first = valid_in_iff c.claim k.0 in
        let rest = all_valid_in_iff cs k.1 in
        (λ h. (first.0 h.0, rest.0 h.1), λ h. (first.1 h.0, rest.1 h.1))

    valid_of : (ws : List ℤ) (cs : List Condition) → read_list ws ≡ some cs → ListValidIn ws ↔ AllValidIn cs
    valid_of ws cs e = (λ h. h cs e, λ h ds q. subst AllValidIn (some_inj (sym e ∙ q)) h)

    pub list_valid_in_iff : (ws : List ℤ) (room : ℕ) → EachWord In ws → let r = written o ws room in
        r.number ≡ 0 → ListValidIn (used_words r) ↔ ListValidIn ws
    list_valid_in_iff ws room each z =
        let n = new_list o ws room z in
        let new = valid_of (used_words (written o ws room)) (shorten_all o n.before) n.read_again in
        let old = valid_of ws n.before (read_written ws n.before n.listed) in
        let same = all_valid_in_iff n.before (list_constants In ws n.before n.listed each) in
        (λ h. old.1 (same.0 (new.0 h)), λ h. new.1 (same.1 (old.0 h)))
