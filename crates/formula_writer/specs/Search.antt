-- The latest assignment to a variable on a path (`Latest`), by the entries alone, and the laws of going back to it. Assumes
-- nothing.
use Rattle.std.specs.Prelude.{ℕ, suc, ◌+◌, ◌-◌, ◌≤◌, ◌<◌, ◌≡◌, refl, Bool, true, false, List, T, ltb, ℤ, pos, negsuc, nat_abs, length, get_or, Option, Some, None}
use Rattle.std.proofs.Common.{sym, subst, ap, ◌∙◌, arith as linear, ltb-true, ltb-false}
use Rattle.std.specs.Int.Signed.{non_neg}
use Rattle.script.specs.Rows.{field_number}
use Rattle.formula_writer.specs.Paths.{entry_on, passed_variable}

-- the first j entries are numbers that 31 bits hold
pub record Entries (path : List ℤ) (j : ℕ) : Type 0 where
  pub bound : j ≤ length path
  pub small : (i : ℕ) → i < j → entry_on path i < 2147483648

-- from place k to before place j an assignment is to v; or none is

pub record Assigned (path : List ℤ) (v k j : ℕ) : Type 0 where
  pub at : ℕ
  pub from : k ≤ at
  pub before : at < j
  pub is : passed_variable path at ≡ v

pub record Unassigned (path : List ℤ) (v k j : ℕ) : Type 0 where
  pub other : (i : ℕ) → k ≤ i → i < j → passed_variable path i ≡ v → ⊥

-- which of the two was found
pub record Between (path : List ℤ) (v k j : ℕ) (found : Bool) : Type 0 where
  pub some : found ≡ true → Assigned path v k j
  pub none : found ≡ false → Unassigned path v k j

-- k of the first j assignments are left, going back by blocks of eight up to one with an assignment to v
pub record Blocks (path : List ℤ) (v j k : ℕ) : Type 0 where
  pub within : k ≤ j
  pub none_after : Unassigned path v k j
  pub stopped : 8 ≤ k → Assigned path v (k - 8) k

-- k of the first j assignments are left, going back to the latest to v; none where none is
pub record Latest (path : List ℤ) (v j k : ℕ) : Type 0 where
  pub within : k ≤ j
  pub none_after : Unassigned path v k j
  pub there : (i : ℕ) → k ≡ suc i → passed_variable path i ≡ v

-- how many are left, where the latest to v stands at this place
abbrev pub left_of : Option ℕ → ℕ
left_of None = 0
left_of (Some i) = suc i

-- ---- an entry that is read

pub fewer_entries : {path : List ℤ} {j : ℕ} (i : ℕ) → i ≤ j → Entries path j → Entries path i
fewer_entries i h g = let b = g.bound in record { bound = omega linear; small = λ n l. g.small n (omega linear) }

positive : (z : ℤ) → field_number z < 2147483648 → z ≡ pos (field_number z)
positive (pos n) h = refl
positive (negsuc n) h = absurd (omega linear)

-- z is the word of the entry at place i
pub record Placed (path : List ℤ) (i : ℕ) (z : ℤ) : Type 0 where
  pub plain : T (non_neg z)
  pub is : nat_abs z ≡ entry_on path i
  pub small : nat_abs z < 2147483648

pub placed : {path : List ℤ} {i : ℕ} {z : ℤ} → Entries path (i + 1) → z ≡ get_or path i (pos 0) → Placed path i z
placed {path} {i} {z} g there =
    let s = g.small i (omega linear) in
    let e = positive (get_or path i (pos 0)) s in
    rw (there, e) (record { plain = tt; is = refl; small = s })

-- ---- parts of the path without an assignment to v

pub unassigned_none : (path : List ℤ) (v j : ℕ) → Unassigned path v j j
unassigned_none path v j = record { other = λ i h l e. omega linear }

pub unassigned_one : (path : List ℤ) (v k j : ℕ) → j ≡ k + 1 → (passed_variable path k ≡ v → ⊥) → Unassigned path v k j
unassigned_one path v k j n h = record { other = λ i a b e. let q : k ≡ i = omega linear in h (ap (passed_variable path) q ∙ e) }

pub unassigned_both : {path : List ℤ} {v i k j : ℕ} → Unassigned path v i k → Unassigned path v k j → Unassigned path v i j
unassigned_both {path} {v} {i} {k} {j} a b = record { other = λ n h l e. beside n h l e (ltb n k) refl }
  where
    beside : (n : ℕ) → i ≤ n → n < j → passed_variable path n ≡ v → (t : Bool) → ltb n k ≡ t → ⊥
    beside n h l e true q = a.other n h (ltb-true n k q) e
    beside n h l e false q = b.other n (ltb-false n k q) l e

-- ---- what was found up to a place

unlike : true ≡ false → ⊥
unlike e = subst T e tt

pub between_none : (path : List ℤ) (v k j : ℕ) → j ≡ k → Between path v k j false
between_none path v k j n = record { some = λ e. absurd (unlike (sym e)); none = λ e. rw n (unassigned_none path v k) }

pub between_hit : (path : List ℤ) (v k i j : ℕ) → k ≤ i → j ≡ i + 1 → passed_variable path i ≡ v → Between path v k j true
between_hit path v k i j h n is = record { some = λ e. record { at = i; from = h; before = omega linear; is = is }; none = λ e. absurd (unlike e) }

pub between_miss : {path : List ℤ} {v k i : ℕ} {found : Bool} (j : ℕ) → j ≡ i + 1 → (passed_variable path i ≡ v → ⊥)
    → Between path v k i found → Between path v k j found
between_miss {path} {v} {k} {i} j n other g = record {
  some = λ e. let a = g.some e in let b = a.before in record { at = a.at; from = a.from; before = omega linear; is = a.is };
  none = λ e. unassigned_both (g.none e) (unassigned_one path v i j n other);
}
