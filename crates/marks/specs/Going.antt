-- What holds before each turn of the code's loop (`Going`), at the beginning (`started`), after a turn by the kind of
-- its row (`after_loop`, `after_note`, `after_mark`, `after_other`), and at the end (`ended`). From the laws of `Turns`
-- on rows. Assumes nothing.
use Rattle.std.specs.Prelude.{ℕ, suc, ◌+◌, ◌-◌, ◌*◌, ◌≤◌, ◌<◌, ◌≡◌, refl, List, [], ◌∷◌, ℤ, pos, length, get_or, drop, set}
use Rattle.std.proofs.Common.{ap, ◌∙◌, subst, arith as linear, length-set}
use Rattle.script.specs.Rows.{field_number, word}
use Rattle.script.specs.declared.kinds.Kind.{Kind}
use Rattle.script.specs.declared.kinds.Kind.TheVariants.{Mark, While, Note}
use Rattle.script.specs.Kinds.{kind_of, number_read, other_read}
use Rattle.grammar.specs.Rows.{Quad}
use Rattle.grammar.specs.Renamed.{outer, loop_of}
use Rattle.marks.specs.Quads.{quads, marks_named, in_rows}
use Rattle.marks.specs.Turns.{Passing, begun, done, loop_turn, note_turn, mark_turn, other_turn}

-- the rows from r on are passed; ls are the rows of the loops around, the inmost first
pub record Going (entry : List ℤ) (rows r : ℕ) (ws : List ℤ) (ls : List ℕ) : Type 0 where
  -- each loop that is held has its row among those that are passed
  pub room : length ls + r ≤ rows
  pub long : length ws ≡ length entry
  pub passing : Passing (quads rows entry) (drop (4 * rows) entry) r ws ls

pub started : (entry : List ℤ) (rows : ℕ) → 4 * rows ≤ length entry → Going entry rows rows entry []
started entry rows h =
    let w = in_rows rows entry h in
    let rest = drop (4 * rows) entry in
    let qs = quads rows entry in
    record {
      room = omega linear;
      long = refl;
      passing = subst (λ (k : ℕ). Passing qs rest k entry []) w.many
          (subst (λ (l : List ℤ). Passing qs rest (length qs) l []) w.whole (begun qs rest));
    }

pub ended : {entry : List ℤ} {rows r : ℕ} {ws : List ℤ} {ls : List ℕ} → Going entry rows r ws ls → r ≤ 0
    → ws ≡ marks_named rows entry
unfolding marks_named
ended {entry} {rows} {r} {ws} {ls} g h =
    let qs = quads rows entry in
    let rest = drop (4 * rows) entry in
    done qs rest (subst (λ (k : ℕ). Passing qs rest k ws ls) (omega linear) g.passing)

fewer : (ls : List ℕ) → length (outer ls) ≤ length ls
fewer [] = omega linear
fewer (l ∷ ls) = omega linear

-- a turn, by the kind of its row
module _ {entry : List ℤ} {rows r : ℕ} {ws : List ℤ} {ls : List ℕ} (enough : 4 * rows ≤ length entry) (h : 0 < r)
    (g : Going entry rows r ws ls) {k : Kind} (e : k ≡ kind_of (field_number (word ws (r - 1) 0))) where
  abbrev qs : List Quad
  qs = quads rows entry

  abbrev rest : List ℤ
  rest = drop (4 * rows) entry

  unfoldable number : ℕ
  number = field_number (word ws (r - 1) 0)

  inside : r - 1 < length qs
  inside = omega (linear, (in_rows rows entry enough).many, g.room)

  here : Passing qs rest (suc (r - 1)) ws ls
  here = subst (λ (k : ℕ). Passing qs rest k ws ls) (omega linear) g.passing

  first : number ≡ field_number (get_or ws (4 * (r - 1)) (pos 0))
  unfolding number
  first = ap (λ (i : ℕ). field_number (get_or ws i (pos 0))) (omega linear)

  pub after_loop : k ≡ While → Going entry rows (r - 1) ws ((r - 1) ∷ ls)
  unfolding number
  after_loop i = record {
    room = omega (linear, g.room);
    long = g.long;
    passing = loop_turn qs rest inside here first (number_read e i refl);
  }

  pub after_note : k ≡ Note → Going entry rows (r - 1) ws (outer ls)
  unfolding number
  after_note i = record {
    room = omega (linear, g.room, fewer ls);
    long = g.long;
    passing = note_turn qs rest inside here first (number_read e i refl);
  }

  pub after_mark : k ≡ Mark
      → Going entry rows (r - 1) (set ws (4 * (r - 1) + 1) (loop_of ls (get_or ws (4 * (r - 1) + 1) (pos 0)))) ls
  unfolding number
  after_mark i = record {
    room = omega (linear, g.room);
    long = length-set ws (4 * (r - 1) + 1) _ ∙ g.long;
    passing = mark_turn qs rest inside here first (number_read e i refl);
  }

  pub after_other : (k ≡ While → ⊥) → (k ≡ Note → ⊥) → (k ≡ Mark → ⊥) → Going entry rows (r - 1) ws ls
  unfolding number kind_of
  after_other i j m = record {
    room = omega (linear, g.room);
    long = g.long;
    passing = other_turn qs rest inside here first (other_read e i refl) (other_read e j refl) (other_read e m refl);
  }
