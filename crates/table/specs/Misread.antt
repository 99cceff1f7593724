-- The lowest misplaced name at a row and below, as the descent finds it: `Misread`, with a lemma for each way that a row is
-- read on. Argument: the least of two lists in a row is that of the second, from that of the first. Assumes nothing.
use Prim.Native.Nat.{ℕ, zero, suc, ◌≤◌, ◌<◌, min}
use Rattle.std.specs.Prelude.{◌≡◌, refl, Bool, true, false, cond, not, ◌&&◌, ◌||◌, T, ℤ, get_or, set}
use Rattle.std.proofs.Common.{sym, ap, ◌∙◌, arith as linear, set-set}
use mathlib.Core.List.{List, [], ◌∷◌, ◌++◌}
use Rattle.std.proofs.lemmas.List.{set-get_or}
use Rattle.script.specs.declared.RowNumber.{RowNumber}
use Rattle.script.specs.declared.VariableNumber.{VariableNumber}
use Rattle.script.specs.declared.Row.{Row}
use Rattle.script.specs.Rows.{fields, parts, row, rows}
use Rattle.script.specs.Refusals.{frozen, all_below, well_sorted, in_range, misread}
use Rattle.table.specs.declared.Reads.{Reads}
use Rattle.table.specs.Seen.{Shows, shows_more}
use Rattle.rows.specs.States.{Sized}
use Rattle.table.specs.Reads.{reads_of, reads_node, node_is, Lower, reads_lower}

-- what a descent needs of a table
pub record Sound (t : List ℤ) : Type 0 where
  pub size : Sized t
  pub ordered : (k : ℕ) → k < rows t → T (all_below t k (parts (row t k)))
  pub sorted : (k : ℕ) → k < rows t → T (well_sorted t (parts (row t k)))
  pub ranged : (k : ℕ) → k < rows t → T (in_range t (fields (row t k)))

-- ---- the least of a list and a number

abbrev pub least : List ℕ → ℕ → ℕ
least [] low = low
least (x ∷ xs) low = least xs (min x low)

least_append : (xs ys : List ℕ) (low : ℕ) → least (xs ++ ys) low ≡ least ys (least xs low)
least_append [] ys low = refl
least_append (x ∷ xs) ys low = least_append xs ys (min x low)

-- ---- the descent at row r, from `low` to m

pub record Misread (t : List ℤ) (r : ℕ) (code : Bool) (s : List Bool) (low m : ℕ) (s' : List Bool) : Type 0 where
  pub kept : s' ≡ s
  pub at : (inside : List ℕ) → Shows s inside → (n : ℕ) → r < n → m ≡ least (misread t n code inside r) low

-- the way that row r is read on: w is the row, x what the code made of it, y the arm
pub way : (t : List ℤ) (r : ℕ) (code : Bool) {w : Row} {x y : Reads} → w ≡ row t r → x ≡ reads_of code w → x ≡ y
    → reads_of code (row t r) ≡ y
way t r code e k h = rw (← e) (sym k ∙ h)

pub way_lower : {t : List ℤ} (r : ℕ) (code : Bool) {y : Reads} → Sound t → r < rows t → reads_of code (row t r) ≡ y → Lower (rows t) r y
way_lower {t} r code s h e = rw e at (reads_lower t code r (row t r) (s.ordered r h) (s.ranged r h))

-- a call on a lower row: the measure falls, and the row is in the table
pub step : {t : List ℤ} {r k n : ℕ} → Sound t × (r < rows t) → r ≡ n → k < r → (k < n) × (Sound t × (k < rows t))
step p e h = let b = p.1 in (omega linear, (p.0, omega linear))

pub mark_fits : {t : List ℤ} {k : ℕ} → Sound t → k < rows t → k < 2048
mark_fits s h = let b = s.size.short in omega linear

module _ {t : List ℤ} {r : ℕ} {code : Bool} {s : List Bool} {low : ℕ} where
  by_node : {m : ℕ} {s' : List Bool} → s' ≡ s
      → ((inside : List ℕ) → Shows s inside → (n : ℕ) → r ≤ n → m ≡ least (reads_node (misread t n) code inside r (reads_of code (row t r))) low)
      → Misread t r code s low m s'
  unfolding misread
  by_node k h = record { kept = k; at = go h }
    where
      go : {m : ℕ}
          → ((inside : List ℕ) → Shows s inside → (n : ℕ) → r ≤ n → m ≡ least (reads_node (misread t n) code inside r (reads_of code (row t r))) low)
          → (inside : List ℕ) → Shows s inside → (n : ℕ) → r < n → m ≡ least (misread t n code inside r) low
      go h inside sh zero l = absurd (omega linear)
      go h inside sh (suc n) l = rw (node_is t (misread t n) code inside r (row t r)) (h inside sh n (omega linear))

  pub nothing_read : reads_of code (row t r) ≡ Reads.Nothing → Misread t r code s low low s
  nothing_read e = by_node refl (λ inside sh n l. rw e)

  pub variable_read : {m : ℕ} {p q : Bool} (v : VariableNumber) → reads_of code (row t r) ≡ Reads.Variable v
      → q ≡ frozen v.0 → p ≡ code && q → m ≡ least (cond p (r ∷ []) []) low → Misread t r code s low m s
  variable_read v e f g h = by_node refl (λ inside sh n l. rw (e, ← f, ← g) h)

  pub variable_unread : {m : ℕ} {p : Bool} (v : VariableNumber) → reads_of code (row t r) ≡ Reads.Variable v
      → code ≡ false → p ≡ code → m ≡ least (cond p (r ∷ []) []) low → Misread t r code s low m s
  variable_unread v e f g h = by_node refl (λ inside sh n l. rw (e, f) (rw (g, f) at h))

  pub mark_read : {m : ℕ} {p : Bool} (k : RowNumber) → k.0 < 2048 → reads_of code (row t r) ≡ Reads.Mark k
      → p ≡ (code || not (get_or s k.0 false)) → m ≡ least (cond p (r ∷ []) []) low → Misread t r code s low m s
  mark_read k b e g h = by_node refl (λ inside sh n l. rw (e, ← sh.at k.0 b, ← g) h)

  pub one_read : {m : ℕ} {s₁ : List Bool} (c : Bool) (a : RowNumber) → reads_of code (row t r) ≡ Reads.One c a → a.0 < r
      → Misread t a.0 c s low m s₁ → Misread t r code s low m s₁
  one_read c a e h d = by_node d.kept (λ inside sh n l. rw e (d.at inside sh n (omega linear)))

  pub two_read : {m m₁ : ℕ} {s₁ s₂ : List Bool} (c : Bool) (a b : RowNumber) → reads_of code (row t r) ≡ Reads.Two c a b
      → (a.0 < r) × (b.0 < r) → Misread t a.0 c s low m₁ s₁ → Misread t b.0 c s₁ m₁ m s₂
      → Misread t r code s low m s₂
  two_read c a b e h d₁ d₂ =
      by_node
      (d₂.kept ∙ d₁.kept)
      (λ inside sh n l.
      rw (e, least_append (misread t n c inside a.0), ← d₁.at inside sh n (omega linear))
      (d₂.at inside (rw d₁.kept sh) n (omega linear)))

  pub three_read : {m m₁ m₂ : ℕ} {s₁ s₂ s₃ : List Bool} (c d : Bool) (f a b : RowNumber)
      → reads_of code (row t r) ≡ Reads.Three c d f a b → (f.0 < r) × ((a.0 < r) × (b.0 < r))
      → Misread t f.0 c s low m₁ s₁ → Misread t a.0 d s₁ m₁ m₂ s₂ → Misread t b.0 d s₂ m₂ m s₃
      → Misread t r code s low m s₃
  three_read c d f a b e h d₁ d₂ d₃ =
      by_node
      (d₃.kept ∙ (d₂.kept ∙ d₁.kept))
      (λ inside sh n l.
      rw (e, least_append (misread t n c inside f.0), ← d₁.at inside sh n (omega linear))
      (rw (least_append (misread t n d inside a.0), ← d₂.at inside (rw d₁.kept sh) n (omega linear))
      (d₃.at inside (rw (d₂.kept ∙ d₁.kept) sh) n (omega linear))))

  -- the marks during the body, and after it
  pub loop_read : {m m₁ m₂ : ℕ} {s₁ s₂ s₃ : List Bool} (b i x : RowNumber) → r < 2048
      → reads_of code (row t r) ≡ Reads.Loop b i x → (b.0 < r) × ((i.0 < r) × (x.0 < r))
      → Misread t b.0 true s low m₁ s₁
      → Misread t i.0 false s₁ m₁ m₂ s₂
      → Misread t x.0 false (set s₂ r true) m₂ m s₃ → Misread t r code s low m (set s₃ r (get_or s₂ r false))
  loop_read {m} {m₁} {m₂} {s₁} {s₂} {s₃} b i x z e h d₁ d₂ d₃ =
      let same : s₂ ≡ s = d₂.kept ∙ d₁.kept in
      by_node
      (ap (λ (l : List Bool). set l r (get_or s₂ r false)) d₃.kept ∙ (set-set s₂ r true (get_or s₂ r false) ∙ (set-get_or s₂ r false ∙ same)))
      (λ inside sh n l.
      rw (e, least_append (misread t n true inside b.0), ← d₁.at inside sh n (omega linear))
      (rw (least_append (misread t n false inside i.0), ← d₂.at inside (rw d₁.kept sh) n (omega linear))
      (d₃.at (r ∷ inside) (shows_more s₂ inside r z (rw same sh)) n (omega linear))))
