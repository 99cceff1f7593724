-- 02, P9: "the reader, P1 and P6 take both forms". Two lists whose conditions have the same formulas, each in whichever form, have the
-- same answers, with every byte (`same_texts`): what is written depends on a list's formulas alone. Assumes nothing.
use Rattle.std.specs.Prelude.{ℕ, zero, suc, ◌≡◌, refl, List, [], ◌∷◌, map, ℤ, pos, negsuc}
use Rattle.std.proofs.Common.{sym, ap, ◌∙◌, subst}
use Rattle.std.proofs.Math.Option.{Option, none, some}
use Rattle.std.proofs.Math.ListN.{get_elem?}
use Rattle.script.specs.Syntax.{Formula}
use Rattle.script.specs.Conditions.{Condition}
use Rattle.script.specs.Listing.{Found, lines, read_list}
use Rattle.theorems.specs.Options.{some_inj, went_on}
use Rattle.theorems.specs.ReadBack.{conditions_of}
use Rattle.smt.specs.Translate.{script}
use Rattle.smt.specs.Text.{script_text}
use Rattle.smt.specs.Written.{Written, refuse, fit, found_at, fit_found, fit_lines, written, written_within}

abbrev pub claims_of : List Condition → List Formula
claims_of cs = map (λ (c : Condition). c.claim) cs

-- the answer for a list with these formulas
abbrev fit_claim : List Formula → ℤ → ℕ → Written
fit_claim fs (pos i) room = elim (get_elem? fs i) [ some f ↦ fit (script_text (script f)) room | none ↦ refuse 21 room ]
fit_claim fs (negsuc i) room = refuse 21 room

by_claims : (fs : List Found) (i : ℤ) (room : ℕ) → fit_found (found_at fs i) room ≡ fit_claim (claims_of (conditions_of fs)) i room
by_claims fs (negsuc i) room = refl
by_claims [] (pos i) room = refl
by_claims (f ∷ fs) (pos zero) room = refl
by_claims (f ∷ fs) (pos (suc i)) room = by_claims fs (pos i) room

written_by : (ws : List ℤ) (cs : List Condition) → read_list ws ≡ some cs → (i : ℤ) (room : ℕ)
    → written ws i room ≡ fit_claim (claims_of cs) i room
unfolding written_within read_list
written_by ws cs r i room =
    let found = went_on (lines ws) _ r in
    subst (λ (ds : List Condition). written ws i room ≡ fit_claim (claims_of ds) i room) (some_inj found.2)
    (ap (λ (o : Option (List Found)). fit_lines o i room) found.1 ∙ by_claims found.0 i room)

pub same_texts : (ws vs : List ℤ) (cs ds : List Condition) → read_list ws ≡ some cs → read_list vs ≡ some ds → claims_of cs ≡ claims_of ds
    → (i : ℤ) (room : ℕ) → written ws i room ≡ written vs i room
same_texts ws vs cs ds p q same i room =
    written_by ws cs p i room ∙ ap (λ (fs : List Formula). fit_claim fs i room) same ∙ sym (written_by vs ds q i room)
