-- A line stands within the words: the walk keeps only lines that do. Assumes nothing.
use Prim.Native.Nat.{ℕ, zero, suc, ◌-◌, ◌≤◌}
use native.Mathlib.Omega.{arith as linear}
use mathlib.Core.Path.{◌≡◌, refl}
use mathlib.Core.Option.{Option, none, some}
use mathlib.Core.List.{List}
use mathlib.Core.Bool.{Bool, true, false, cond}
use lib.IntN.{ℤ, pos, negsuc}
use lib.Dec.{eqb, ltb}
use lib.ListN.{length}
use borrow.Author.Tests.{ltb-true, ltb-false}
use mir.Facts.{to_z-of_z}
use Rattle.std.proofs.Common.{FitsSigned, w32, to_z, of_z}
use Rattle.script.specs.declared.Line.{Line}
use Rattle.script.specs.Listing.{guarded, Found, line, line_at, line_at_within, no_line}
use Rattle.list_reader.specs.declared.lines.Trailer.{Trailer}
use Rattle.list_reader.specs.Lines.{line_ending, Tail, trailer_at, is_line, found_by, answer, lines_ending, line_among, claimed}
use Rattle.list_reader.proofs.Forms.{tail_of}
use Rattle.list_reader.proofs.Trailers.{told, found_answer}
use Rattle.list_reader.proofs.Stepping.{line_inside, line_short, line_long}
use Rattle.list_reader.proofs.Walking.{walk, walk_on, walk_finds}
use Rattle.list_reader.proofs.Entries.{lines_are}

pub record Fits (ws : List ℤ) (l : Line) : Type 0 where
  pub ordered : l.start ≤ l.end
  pub within : l.end ≤ length ws

empty : (ws : List ℤ) (n : ℕ) → Fits ws (no_line n)
empty ws n = record { ordered = omega linear; within = omega linear }

told_fits : (ws : List ℤ) (e : ℕ) (t : Trailer) → e ≤ length ws → (b : Bool) → Fits ws (told e t b)
told_fits ws e t h true = record { ordered = omega linear; within = h }
told_fits ws e t h false = empty ws 20

found_fits : (ws : List ℤ) (e : ℕ) (t : Trailer) → e ≤ length ws → Fits ws (answer (found_by ws e t))
found_fits ws e t h = rw (found_answer ws e t) (told_fits ws e t h (is_line ws e t))

-- ---- the line before a place

module _ (ws : List ℤ) {n : ℕ} (tail : Tail ws n) (e : ℕ) where
  answer_fits : Fits ws (answer (line_ending ws e))
  answer_fits = go (ltb e n) refl (ltb (length ws) e) refl
    where
      go : (b : Bool) → ltb e n ≡ b → (t : Bool) → ltb (length ws) e ≡ t → Fits ws (answer (line_ending ws e))
      go true h t q = rw (line_short ws tail e (ltb-true e n h)) (empty ws 20)
      go false h true q = rw (line_long ws e (ltb-true (length ws) e q)) (empty ws 20)
      go false h false q =
          let s : n ≤ e = ltb-false e n h in
          let l : e ≤ length ws = ltb-false (length ws) e q in
          rw (line_inside ws tail e s l) (found_fits ws (e - n) (trailer_at ws (e - n)) (omega linear))

pub line_fits : (ws : List ℤ) (e : ℕ) (f : Found) → line_ending ws e ≡ some f → Fits ws (line f)
line_fits ws e f q = rw q at (answer_fits ws (tail_of ws) e)

-- ---- the walk

chosen_fits : (ws : List ℤ) (b : Bool) (l k : Line) → Fits ws l → Fits ws k → Fits ws (cond b l k)
chosen_fits ws true l k h g = h
chosen_fits ws false l k h g = g

walk_fits : (ws : List ℤ) (i n : ℕ) (kept : Line) (e : ℕ) → Fits ws kept → Fits ws (walk ws i kept n e)
unfolding walk
walk_fits ws i zero kept zero h = h
walk_fits ws i zero kept (suc e) h = empty ws 20
walk_fits ws i (suc n) kept e h = go (line_ending ws e) refl (λ k x. walk_fits ws i n k x)
  where
    go : (o : Option Found) → line_ending ws e ≡ o → ((k : Line) (x : ℕ) → Fits ws k → Fits ws (walk ws i k n x))
        → Fits ws (walk_on o λ f. walk ws i (cond (eqb n i) (line f) kept) n f.start)
    go none q g = empty ws 20
    go (some f) q g = g (cond (eqb n i) (line f) kept) f.start (chosen_fits ws (eqb n i) (line f) kept (line_fits ws e f q) h)

-- ---- the line at an index

among_fits : (ws : List ℤ) (n e : ℕ) (i : ℤ) → Fits ws (line_among (lines_ending ws n e) i)
among_fits ws n e (pos i) = rw (← walk_finds ws i n e) (walk_fits ws i n (no_line 21) e (empty ws 21))
among_fits ws n e (negsuc i) = go (lines_ending ws n e)
  where
    go : (o : Option (List Found)) → Fits ws (line_among o (negsuc i))
    go none = empty ws 20
    go (some fs) = empty ws 21

when_fits : (ws : List ℤ) (b : Bool) (n e : ℕ) (i : ℤ) → Fits ws (line_among (guarded b (lines_ending ws n e)) i)
when_fits ws true n e i = among_fits ws n e i
when_fits ws false n e i = empty ws 20

pub line_at_fits : (ws : List ℤ) (i : ℤ) {l : Line} → l ≡ line_at ws i → Fits ws l
unfolding line_at_within
line_at_fits ws i q =
    rw (q, line_at_within, lines_are) (when_fits ws (ltb 0 (claimed ws)) (claimed ws) (length ws - 1) i)

-- from an index as a local holds it
pub line_read_fits : (ws : List ℤ) (i : ℤ) {l : Line} → FitsSigned w32 i → l ≡ line_at ws (to_z w32 (of_z w32 i)) → Fits ws l
line_read_fits ws i h q = line_at_fits ws i (rw (to_z-of_z h) at q)
