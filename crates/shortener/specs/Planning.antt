-- The runs of entries: they have room for all words (`Roomy`), and in the end have the entries of all nodes (`Planned`). One more
-- entry is put into each, from the last word back (`known_more`). Assumes nothing.
use Rattle.std.specs.Prelude.{ℕ, ◌+◌, ◌-◌, ◌≤◌, ◌<◌, ◌≡◌, refl, Bool, true, false, List, eqb, ℤ, length, get_or, set}
use Rattle.std.proofs.Common.{◌∙◌, arith as linear, eqb-true, length-set, get_or-set_same, get_or-set_other}
use Rattle.std.proofs.lemmas.Bool.{eqb-false}
use Rattle.theorems.specs.WordsAt.{Stands, Node, words_of, node_inside}
use Rattle.shortener.specs.Codes.{Coded}
use Rattle.shortener.specs.Entries.{entry, entry_at}
use Rattle.shortener.specs.NodeEntries.{Right, Known}
use Rattle.shortener.specs.EntryLaws.{entered}

pub record Roomy (ws : List ℤ) (es ss ks : List ℕ) : Type 0 where
  pub short : length ws ≤ 16384
  pub ends : length ws ≤ length es
  pub shapes : length ws ≤ length ss
  pub changes : length ws ≤ length ks

pub record Planned (ws : List ℤ) (es ss ks : List ℕ) : Type 0 where
  pub roomy : Roomy ws es ss ks
  pub known : Known ws es ss ks 0

-- no node stands past the last word
pub known_none : (ws : List ℤ) (es ss ks : List ℕ) → Known ws es ss ks (length ws)
known_none ws es ss ks = record { right = λ at x h s. absurd (let i = node_inside x s in omega linear) }

pub roomy_set : {ws : List ℤ} {es ss ks : List ℕ} (at : ℕ) (e : Coded) → Roomy ws es ss ks
    → Roomy ws (set es at e.end) (set ss at e.shape) (set ks at e.change)
roomy_set {es = es} {ss = ss} {ks = ks} at e r = record {
  short = r.short;
  ends = rw (length-set es at e.end) r.ends;
  shapes = rw (length-set ss at e.shape) r.shapes;
  changes = rw (length-set ks at e.change) r.changes;
}

module _ (ws : List ℤ) (es ss ks : List ℕ) (at : ℕ) (e : Coded) where
  pub known_more : Roomy ws es ss ks → at < length ws → Known ws es ss ks (at + 1) → ((x : Node) → Stands ws at (words_of x) → Right at x e)
      → Known ws (set es at e.end) (set ss at e.shape) (set ks at e.change) at
  known_more r h k here = record { right = λ q x i s. by_place q x i s (eqb q at) refl }
    where
      by_place : (q : ℕ) (x : Node) → at ≤ q → Stands ws q (words_of x) → (b : Bool) → eqb q at ≡ b
          → Right q x (entry (get_or (set es at e.end) q 0) (get_or (set ss at e.shape) q 0) (get_or (set ks at e.change) q 0))
      by_place q x i s true p =
          let same : q ≡ at = eqb-true q at p in
          rw (same, get_or-set_same es at e.end 0 (let n = r.ends in omega linear), get_or-set_same ss at e.shape 0 (let n = r.shapes in omega linear), get_or-set_same ks at e.change 0 (let n = r.changes in omega linear))
          (here x (rw same at s))
      by_place q x i s false p =
          let other : q ≡ at → ⊥ = eqb-false q at p in
          rw (get_or-set_other es at q e.end 0 other, get_or-set_other ss at q e.shape 0 other, get_or-set_other ks at q e.change 0 other)
          (k.right q x (omega linear) s)

-- ---- from the last word back

-- the entries from a place on are known; the runs are as long as they were
pub record BackTo (ws : List ℤ) (es₀ ss₀ ks₀ es ss ks : List ℕ) (at : ℕ) : Type 0 where
  pub within : at ≤ length ws
  pub ends : length es ≡ length es₀
  pub shapes : length ss ≡ length ss₀
  pub changes : length ks ≡ length ks₀
  pub roomy : Roomy ws es ss ks
  pub known : Known ws es ss ks at

pub back_none : {ws : List ℤ} {es ss ks : List ℕ} → Roomy ws es ss ks → BackTo ws es ss ks es ss ks (length ws)
back_none {ws} {es} {ss} {ks} r = record {
  within = omega linear;
  ends = refl;
  shapes = refl;
  changes = refl;
  roomy = r;
  known = known_none ws es ss ks;
}

module _ {ws : List ℤ} {es₀ ss₀ ks₀ es ss ks : List ℕ} {at : ℕ} {e : Coded} where
  pub back_one : BackTo ws es₀ ss₀ ks₀ es ss ks at → 0 < at → e ≡ entry_at ws es ss (at - 1)
      → BackTo ws es₀ ss₀ ks₀ (set es (at - 1) e.end) (set ss (at - 1) e.shape) (set ks (at - 1) e.change) (at - 1)
  back_one b h p =
      let known : Known ws es ss ks (at - 1 + 1) = rw (back at h) b.known in
      record {
        within = let w = b.within in omega linear;
        ends = length-set es (at - 1) e.end ∙ b.ends;
        shapes = length-set ss (at - 1) e.shape ∙ b.shapes;
        changes = length-set ks (at - 1) e.change ∙ b.changes;
        roomy = roomy_set (at - 1) e b.roomy;
        known =
            known_more ws es ss ks (at - 1) e b.roomy (let w = b.within in omega linear) known
            (λ x s. rw p (entered ws es ss ks (at - 1) known x s));
      }
    where
      back : (n : ℕ) → 0 < n → n - 1 + 1 ≡ n
      back n i = omega linear

pub planned : {ws : List ℤ} {es₀ ss₀ ks₀ es ss ks : List ℕ} {at : ℕ} → BackTo ws es₀ ss₀ ks₀ es ss ks at → at ≤ 0 → Planned ws es ss ks
planned {at = at} b h = record { roomy = b.roomy; known = rw (none at h) at b.known }
  where
    none : (n : ℕ) → n ≤ 0 → n ≡ 0
    none n i = omega linear
