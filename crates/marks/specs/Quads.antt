-- The words of a table as rows of four (`quads`), and these with their marks named (`marks_named`). Of words that are
-- known to be rows and a rest, that is the rows passed, and the rest (`rows_named`). Assumes nothing.
use Rattle.std.specs.Prelude.{ℕ, zero, suc, ◌*◌, ◌≤◌, ◌≡◌, refl, List, [], ◌∷◌, ◌++◌, ℤ, length, drop}
use Rattle.std.proofs.Common.{ap, arith as linear, drop_at}
use Rattle.grammar.specs.Rows.{Quad}
use Rattle.grammar.specs.Meaning.{flat}
use Rattle.grammar.specs.Renamed.{pass_rows}
use Rattle.grammar.specs.TextTree.{flat_length}

-- the first n rows; fewer where the words are too few
unfoldable pub quads : ℕ → List ℤ → List Quad
quads zero ws = []
quads (suc n) [] = []
quads (suc n) (k ∷ []) = []
quads (suc n) (k ∷ a ∷ []) = []
quads (suc n) (k ∷ a ∷ b ∷ []) = []
quads (suc n) (k ∷ a ∷ b ∷ c ∷ ws) = record { kind = k; first = a; second = b; third = c } ∷ quads n ws

-- the first n rows passed from the last down, and the words behind them
unfoldable pub marks_named : ℕ → List ℤ → List ℤ
marks_named n ws = flat (pass_rows (quads n ws) 0 []) ++ drop (4 * n) ws

-- ---- enough words are rows and a rest

pub record Rows (n : ℕ) (ws : List ℤ) : Type 0 where
  pub whole : flat (quads n ws) ++ drop (4 * n) ws ≡ ws
  pub many : length (quads n ws) ≡ n

pub in_rows : (n : ℕ) (ws : List ℤ) → 4 * n ≤ length ws → Rows n ws
unfolding quads flat
in_rows zero ws h = record { whole = refl; many = refl }
in_rows (suc n) [] h = absurd (omega linear)
in_rows (suc n) (k ∷ []) h = absurd (omega linear)
in_rows (suc n) (k ∷ a ∷ []) h = absurd (omega linear)
in_rows (suc n) (k ∷ a ∷ b ∷ []) h = absurd (omega linear)
in_rows (suc n) (k ∷ a ∷ b ∷ c ∷ ws) h =
    let r = in_rows n ws (omega linear) in
    let e : 4 * suc n ≡ suc (suc (suc (suc (4 * n)))) = omega linear in
    record { whole = rw e (ap (λ l. k ∷ a ∷ b ∷ c ∷ l) r.whole); many = ap suc r.many }

-- ---- rows that are known

of_flat : (qs : List Quad) (rest : List ℤ) → quads (length qs) (flat qs ++ rest) ≡ qs
unfolding quads flat
of_flat [] rest = refl
of_flat (q ∷ qs) rest = ap (λ l. q ∷ l) (of_flat qs rest)

pub rows_named : (qs : List Quad) (rest : List ℤ)
    → marks_named (length qs) (flat qs ++ rest) ≡ flat (pass_rows qs 0 []) ++ rest
unfolding marks_named
rows_named qs rest = rw (of_flat qs rest, drop_at (flat qs) rest (4 * length qs) (flat_length qs))
