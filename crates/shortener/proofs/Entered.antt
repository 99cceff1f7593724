-- What is read of a run of entries, and written into it, in its three runs of numbers. Assumes nothing.
use Prim.Native.Nat.{ℕ, ◌-◌, ◌<◌}
use mathlib.Core.Path.{◌≡◌, sym, ap, ◌∙◌, subst}
use mathlib.Core.List.{List}
use lib.IntN.{ℤ}
use lib.ListN.{length, get_or, set}
use Rattle.std.proofs.lemmas.List.{get_or-map, length-map, map-set}
use Rattle.std.proofs.Math.Seq.{map-set_same}
use Rattle.shortener.specs.declared.rules.Change.{Change}
use Rattle.shortener.specs.declared.plan.Entry.{Entry}
use Rattle.shortener.specs.Codes.{changed_shape_code}
use Rattle.shortener.specs.Entries.{entry, entry_at}
use Rattle.shortener.specs.Planning.{BackTo, back_one}
use Rattle.output.specs.declared.Output.{Output}
use Rattle.shortener.specs.Turns.{Begins, Turn}
use Rattle.shortener.specs.Runs.{shape_told, change_told, coded, ends, shapes, changes}

-- what becomes of a node gives its shape
pub changed_is : {e e' t t' x x' y y' s : ℕ} → e ≡ e' → t ≡ t' → x ≡ x' → y ≡ y' → s ≡ changed_shape_code t x y
    → entry e s t ≡ entry e' (changed_shape_code t' x' y') t'
changed_is p q r u v = λ i. entry (p i) ((v ∙ (λ j. changed_shape_code (q j) (r j) (u j))) i) (q i)

-- ---- within the run

pub in_run : (es : List Entry) {at : ℕ} → at < length (changes es) → at < length es
in_run es h = rw length-map at h

pub in_ends : (es : List Entry) {at : ℕ} → at < length (ends es) → at < length es
in_ends es h = rw length-map at h

module _ (es : List Entry) (d : Entry) {at : ℕ} (h : at < length es) where
  pub change_at : {c : Change} → (get_or es at d).change ≡ c → get_or (changes es) at 0 ≡ change_told c
  change_at q = get_or-map (λ (x : Entry). change_told x.change) es at d 0 h ∙ ap change_told q

  pub end_at : (es₀ : List Entry) {n : ℕ} → ends es ≡ ends es₀ → n ≡ (get_or es at d).end → n ≡ get_or (ends es₀) at 0
  end_at es₀ same q = q ∙ sym (get_or-map (λ (x : Entry). x.end) es at d 0 h) ∙ ap (λ (l : List ℕ). get_or l at 0) same

-- a node is noted as passed
module _ (es : List Entry) (n : ℕ) where
  pub ends_same : (d e : Entry) → e.end ≡ (get_or es n d).end → ends (set es n e) ≡ ends es
  ends_same d e q = map-set_same (λ (x : Entry). x.end) es n e d q

  pub noted_turn : (e : Entry) {ws : List ℤ} {first end : ℕ} {fs ks₀ : List ℕ} {o₀ o : Output ℤ} {at m : ℕ} → n ≡ m → change_told e.change ≡ 7
      → Turn ws first end fs ks₀ o₀ at (set (changes es) m 7) o → Turn ws first end fs ks₀ o₀ at (changes (set es n e)) o
  noted_turn e {ws} {first} {end} {fs} {ks₀} {o₀} {o} {at} q r t =
      subst (λ ks. Turn ws first end fs ks₀ o₀ at ks o)
      (sym (map-set (λ (x : Entry). change_told x.change) es n e ∙ (λ i. set (changes es) (q i) (r i)))) t

-- the place of an end, and the ends, as they were
pub begins_as : {ws : List ℤ} {first m n : ℕ} {es fs ks : List ℕ} → m ≡ n → es ≡ fs → Begins ws first n fs ks → Begins ws first m es ks
begins_as q r b = rw (q, r) b

-- ---- one more entry

pub back_more : (ws : List ℤ) (es₀ es : List Entry) (at : ℕ) (e : Entry)
    → BackTo ws (ends es₀) (shapes es₀) (changes es₀) (ends es) (shapes es) (changes es) at → 0 < at
    → coded e ≡ entry_at ws (ends es) (shapes es) (at - 1)
    → BackTo ws (ends es₀) (shapes es₀) (changes es₀) (ends (set es (at - 1) e)) (shapes (set es (at - 1) e)) (changes (set es (at - 1) e)) (at - 1)
back_more ws es₀ es at e b h p =
    rw (map-set (λ (x : Entry). x.end) es (at - 1) e, map-set (λ (x : Entry). shape_told x.shape) es (at - 1) e, map-set (λ (x : Entry). change_told x.change) es (at - 1) e)
    (back_one {e = coded e} b h p)
