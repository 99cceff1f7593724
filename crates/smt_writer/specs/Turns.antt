-- What holds at each turn of the writer: whatever writes the node at hand and the parentheses that are to close, into the output
-- at hand, writes the whole into the first one. In this order: what the writer asks and leaves, a turn, its laws.
-- A place past the end of the text says that there was no room; what stands in the words is then no longer said. Assumes nothing.
use Rattle.std.specs.Prelude.{ℕ, ◌+◌, ◌*◌, ◌≤◌, ◌<◌, ◌≡◌, refl, List, ◌++◌, ℤ, length}
use Rattle.std.proofs.Common.{sym, ap, ◌∙◌, append_assoc, append-nil, add_comm, arith as linear}
use Rattle.std.proofs.lemmas.List.{replicate-append-replicate}
use Rattle.theorems.specs.Writing.{stopped}
use Rattle.output.specs.declared.Output.{Output}
use Rattle.output.specs.Written.{Written, no_room, then, written_as}
use Rattle.theorems.specs.WordsAt.{Node, size}
use Rattle.smt_writer.specs.Nodes.{text_of, NodeAt}
use Rattle.smt_writer.specs.Openings.{closes}

-- ---- what the writer asks and leaves

-- some node stands at a place
pub record Begins (ws : List ℤ) (at : ℕ) : Type 0 where
  pub node : Node
  pub stands : NodeAt ws at node

-- x, which stands in the words from the place first on, was written; e is the place past it
pub record Reaches (x : Node) (first : ℕ) (o : Output ℕ) (e : ℕ) (o' : Output ℕ) : Type 0 where
  pub wrote : Written o (text_of x) o'
  pub ends : o'.at ≤ length o'.list.now → e ≡ first + size x

-- whatever stands at the place first was written; begun past the end of the text, nothing was; the words are not gone back in
pub record NodeWritten (ws : List ℤ) (first : ℕ) (o : Output ℕ) (e : ℕ) (o' : Output ℕ) : Type 0 where
  pub reaches : (x : Node) → NodeAt ws first x → Reaches x first o e o'
  pub stays : (ts : List ℕ) → length o.list.now < o.at → Written o ts o'
  pub forward : first ≤ e

-- ---- a turn

module _ (ws : List ℤ) (first : ℕ) (o₀ : Output ℕ) where
  -- of the whole node, the part is at hand
  pub record Turn (whole : Node) (at closing : ℕ) (o : Output ℕ) : Type 0 where
    pub part : Node
    pub stands : o.at ≤ length o.list.now → NodeAt ws at part
    pub ends : o.at ≤ length o.list.now → at + size part ≡ first + size whole
    pub writes : (o' : Output ℕ) → Written o (text_of part ++ closes closing) o' → Written o₀ (text_of whole) o'

  -- of whatever stands at the place first
  pub record Turns (at closing : ℕ) (o : Output ℕ) : Type 0 where
    pub same : length o.list.now ≡ length o₀.list.now
    pub lent : o.list.ghost_name ≡ o₀.list.ghost_name
    pub here : o.at ≤ length o.list.now → Begins ws at
    pub entered : o.at ≤ length o.list.now → o₀.at ≤ length o₀.list.now
    pub forward : first ≤ at
    pub few : closing ≤ 2 * at
    pub turn : (x : Node) → NodeAt ws first x → Turn x at closing o

pub begun : {ws : List ℤ} {first : ℕ} {o : Output ℕ} → (o.at ≤ length o.list.now → Begins ws first) → Turns ws first o first 0 o
begun h = record {
  same = refl;
  lent = refl;
  here = h;
  entered = λ i. i;
  forward = omega linear;
  few = omega linear;
  turn = λ x s. record { part = x; stands = λ r. s; ends = λ r. refl; writes = λ o' w. written_as (append-nil (text_of x)) w };
}

-- no room is left
pub full : {ws : List ℤ} {first at closing : ℕ} {o₀ o : Output ℕ} → Turns ws first o₀ at closing o → length o.list.now < o.at
    → NodeWritten ws first o₀ at o
full g h = record {
  reaches = λ x s. record { wrote = (g.turn x s).writes _ (no_room _ h); ends = λ i. absurd (omega linear) };
  stays = λ ts i. let e = g.same in record { wrote = stopped (omega linear) (omega linear) e; same = g.lent };
  forward = g.forward;
}

closes_more : (m n : ℕ) → closes m ++ closes n ≡ closes (n + m)
closes_more m n = replicate-append-replicate m n 41 ∙ ap closes (add_comm m n)

-- a node whose last part t is followed by m closing parentheses
last_part : (m n : ℕ) (before t : List ℕ) → before ++ (t ++ closes (n + m)) ≡ (before ++ (t ++ closes m)) ++ closes n
last_part m n before t =
    ap (λ (c : List ℕ). before ++ (t ++ c)) (sym (closes_more m n))
    ∙ ap (λ (c : List ℕ). before ++ c) (sym (append_assoc t (closes m) (closes n)))
    ∙ sym (append_assoc before (t ++ closes m) (closes n))

module _ {ws : List ℤ} {first at closing : ℕ} {o₀ o : Output ℕ} {whole : Node} (g : Turn ws first o₀ whole at closing o)
    (room : o.at ≤ length o.list.now) where
  -- a node that has no parts: the whole was written
  pub leaf : {e : ℕ} {o' o'' : Output ℕ} → Written o (text_of g.part) o' → Written o' (closes closing) o'' → e ≡ at + size g.part
      → Reaches whole first o₀ e o''
  leaf {o'' = o''} w v e = record { wrote = g.writes o'' (then w v); ends = λ h. e ∙ g.ends room }

  -- the next turn is that of the last part y
  pub onward : (m : ℕ) (y : Node) {before : List ℕ} {at' : ℕ} {o' : Output ℕ} → text_of g.part ≡ before ++ (text_of y ++ closes m)
      → Written o before o' → (o'.at ≤ length o'.list.now → NodeAt ws at' y)
      → (o'.at ≤ length o'.list.now → at' + size y ≡ at + size g.part) → Turn ws first o₀ whole at' (closing + m) o'
  onward m y {before} e w s n = record {
    part = y;
    stands = s;
    ends = λ h. n h ∙ g.ends room;
    writes = λ o'' v.
        g.writes o''
        (written_as (last_part m closing before (text_of y) ∙ ap (λ (c : List ℕ). c ++ closes closing) (sym e)) (then w v));
  }
