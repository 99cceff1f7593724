-- The line of a step stands within the words, so that its part of the words begins at the line's start. Assumes nothing.
use Rattle.std.specs.Prelude.{ℕ, zero, suc, ◌+◌, ◌*◌, ◌-◌, ◌≤◌, min, ◌≡◌, refl, Bool, true, false, ◌&&◌, List, ℤ, leb, length}
use Rattle.std.proofs.Math.Nat.{min-eq_left}
use Rattle.std.proofs.Common.{arith as linear, ap, subst, ◌∙◌, leb-true}
use Rattle.std.proofs.Math.Option.{Option, none, some}
use Rattle.std.proofs.Math.Seq.{slice}
use Rattle.std.specs.Borrow.{Bor}
use Rattle.script.specs.declared.Line.{Line}
use Rattle.script.specs.Rows.{field_number}
use Rattle.script.specs.Words.{Form}
use Rattle.script.specs.Listing.{Found, below, row_limit, depth_limit, rule_of, spelled, found, found_within, trailer_length, form_of}
use Rattle.script.specs.Listing.{line_before, line_before_within, line, no_line, step_back, step_back_within}
use Rattle.theorems.specs.Options.{some_inj, went_on, held}
use Rattle.list_walker.specs.Steps.{Part}

pub record Stands (ws : List ℤ) (l : Line) : Type 0 where
  pub ordered : l.start ≤ l.end
  pub within : l.end ≤ length ws

nowhere : (ws : List ℤ) (n : ℕ) → Stands ws (no_line n)
nowhere ws n = record { ordered = omega linear; within = omega linear }

both : (a b : Bool) → a && b ≡ true → b ≡ true
both true b h = h
both false true h = refl
both false false h = h

found_stands : (ws : List ℤ) (e : ℕ) (k r n d : ℤ) (f : Found) → e ≤ length ws → found ws e k r n d ≡ some f → Stands ws (line f)
unfolding found_within
found_stands ws e k r n d f h q =
    let rule = went_on (rule_of (field_number k)) _ q in
    let row = went_on (below row_limit r) _ rule.2 in
    let size = went_on (below (suc e) n) _ row.2 in
    let depth = went_on (below depth_limit d) _ size.2 in
    let claim = went_on (spelled (slice (e - size.0) e ws)) _ depth.2 in
    subst (λ (x : Found). Stands ws (line x)) (some_inj claim.2) (record { ordered = omega linear; within = h })

line_stands : (form : Form) (ws : List ℤ) (e : ℕ) (f : Found) → line_before form ws e ≡ some f → Stands ws (line f)
unfolding line_before_within
line_stands form ws e f q =
    let t = held (leb (trailer_length form) e && leb e (length ws)) _ q in
    let inside : e ≤ length ws = leb-true e (length ws) (both (leb (trailer_length form) e) (leb e (length ws)) t.0) in
    found_stands ws (e - trailer_length form) _ _ _ _ f (omega (linear, inside)) t.1

pub step_stands : (ws : List ℤ) (e : ℕ) → Stands ws (step_back ws e)
unfolding step_back_within
step_stands ws zero = nowhere ws 21
step_stands ws (suc e) = go (line_before (form_of ws) ws (suc e)) refl
  where
    go : (o : Option Found) → line_before (form_of ws) ws (suc e) ≡ o → Stands ws (elim o [ some f ↦ line f | none ↦ no_line 20 ])
    go none q = nowhere ws 20
    go (some f) q = line_stands (form_of ws) ws (suc e) f q

-- the part for a step's line: as many bytes past the first word as four for each word before the line's start
pub part_place : (s p : Bor (List ℤ)) (e : ℕ) → Part s (step_back s.now e) p
    → p.ref_ptr.1 ≡ 4 * (step_back s.now e).start + s.ref_ptr.1
part_place s p e h =
    let l = step_back s.now e in
    let t = step_stands s.now e in
    let cut : min l.start (min l.end (length s.now)) ≡ l.start
    = ap (min l.start) (min-eq_left t.within) ∙ min-eq_left t.ordered in
    h.place ∙ ap (λ (k : ℕ). 4 * k + s.ref_ptr.1) cut
