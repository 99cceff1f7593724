-- A reader made of a slice, its step, and the answers that it gives one after the other. Assumes nothing.
use Rattle.std.specs.Prelude.{ℕ, zero, suc, ◌+◌, ◌*◌, min, ◌≡◌, List, ℤ, length}
use Rattle.std.proofs.Math.Seq.{slice}
use Rattle.std.specs.Borrow.{Bor}
use Rattle.script.specs.declared.Line.{Line}
use Rattle.script.specs.Listing.{first_place, step_back, next_place}
use Rattle.list_walker.specs.declared.Reader.{Reader}

-- "keeps the words and its place"
abbrev pub opened : Bor (List ℤ) → Reader
opened s = record { words = s; end = first_place s.now }

-- "walks back one condition at a time"
abbrev pub moved : Reader → Reader
moved r = record { words = r.words; end = next_place r.words.now r.end }

-- p is the part of s from a line's start to its end, as far as there is one
pub record Part (s : Bor (List ℤ)) (l : Line) (p : Bor (List ℤ)) : Type 0 where
  pub spells : p.now ≡ slice l.start l.end s.now
  pub block : p.ref_ptr.0 ≡ s.ref_ptr.0
  pub place : p.ref_ptr.1 ≡ 4 * min l.start (min l.end (length s.now)) + s.ref_ptr.1

-- the place that n steps from the place e lead to
unfoldable pub place_back : List ℤ → ℕ → ℕ → ℕ
place_back ws zero e = e
place_back ws (suc n) e = next_place ws (place_back ws n e)

-- what a new reader answers at its step after n others
abbrev pub answer_back : List ℤ → ℕ → Line
answer_back ws n = step_back ws (place_back ws n (first_place ws))
