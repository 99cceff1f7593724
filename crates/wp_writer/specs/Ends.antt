-- The formula at the end of what is written, by the row of the script or of the loop that ends there: the postcondition, or
-- (I and (V less m)). Assumes nothing.
use Rattle.std.specs.Prelude.{ℕ, ◌<◌, ◌≡◌, cond, List, [], ◌∷◌, eqb, ℤ, pos}
use Rattle.std.proofs.Common.{sym, ◌∙◌, arith as linear, eq-eqb, ne_eqb}
use Rattle.script.specs.declared.Sort.{Sort}
use Rattle.script.specs.Syntax.{Formula}
use Rattle.script.specs.Conditions.{decreased}
use Rattle.script.specs.Words.{formula_words}
use Rattle.script.specs.Rows.{field_number, rows, word}
use Rattle.script.specs.Trees.{formula_at}
use Rattle.theorems.specs.Accepted.{Accepted}
use Rattle.output.specs.declared.Output.{Output}
use Rattle.output.specs.Written.{Written, then}
use Rattle.formula_writer.specs.Paths.{replaceᶠ, under, expr_under, formula_under}
use Rattle.formula_writer.specs.Links.{Linked}
use Rattle.formula_writer.specs.Nodes.{OnPath, Ready}
use Rattle.wp_writer.specs.Loops.{Loop, invariant_row, variant_row, invariant_at, variant_at, invariant_linked, variant_linked, Script, post_row, post_linked}

unfoldable pub end_formula : List ℤ → ℕ → Formula
end_formula t e =
    cond (eqb (field_number (word t e 0)) 48) (formula_at t (post_row t e)) (decreased e (invariant_at t e) (variant_at t e))

-- a script ends at row e, or the body of a loop
pub data Ended (t : List ℤ) (e : ℕ) : Type 0 where
  script : Script t e → Ended t e
  body : Loop t e → Ended t e

pub record EndReady (t path : List ℤ) (j e : ℕ) : Type 0 where
  pub table : Accepted t
  pub along : OnPath t path j
  pub ended : Ended t e

pub end_inside : {t : List ℤ} {e : ℕ} → Ended t e → e < rows t
end_inside (script g) = g.inside
end_inside (body g) = g.inside

script_end : {t : List ℤ} {e : ℕ} → Ended t e → field_number (word t e 0) ≡ 48 → Script t e
script_end (script g) h = g
script_end (body g) h = let w = g.while in absurd (omega linear)

pub loop_end : {t : List ℤ} {e : ℕ} → Ended t e → (field_number (word t e 0) ≡ 48 → ⊥) → Loop t e
loop_end (script g) h = absurd (h g.script)
loop_end (body g) h = g

-- the words of a formula under the first j assignments of the path
abbrev pub words_under : List ℤ → List ℤ → ℕ → Formula → List ℤ
words_under t path j f = formula_words (replaceᶠ (under t path j) f)

pub ready_at : (t path : List ℤ) (j a : ℕ) {s : Sort} → Accepted t → OnPath t path j → Linked t (rows t) a s → Ready t path j a s
ready_at t path j a ok p l = record { table = ok; along = p; inside = l.0; sort = l.1 }

pub mark_low : {t path : List ℤ} (j e : ℕ) → EndReady t path j e → e < 2048
mark_low j e g = let h = end_inside g.ended in let s = g.table.short in omega linear

pub end_decreased : {t : List ℤ} {e : ℕ} → Loop t e → end_formula t e ≡ decreased e (invariant_at t e) (variant_at t e)
unfolding end_formula
end_decreased {t} {e} g = let w = g.while in rw (ne_eqb (field_number (word t e 0)) 48 (λ h. omega linear))

pub end_post : (t : List ℤ) (e : ℕ) → field_number (word t e 0) ≡ 48 → end_formula t e ≡ formula_at t (post_row t e)
unfolding end_formula
end_post t e h = rw (eq-eqb (field_number (word t e 0)) 48 h)

module _ (t path : List ℤ) (j e : ℕ) (g : EndReady t path j e) {n : ℕ} (read : n ≡ field_number (word t e 0)) where
  -- ---- the script's end

  module _ (h : n ≡ 48) where
    pub post_ready : {q : ℕ} → q ≡ post_row t e → Ready t path j q Sort.Formula
    post_ready {q} i = ready_at t path j q g.table g.along (rw i (post_linked t e (script_end g.ended (sym read ∙ h))))

    pub wrote_post : {q : ℕ} {o o' : Output ℤ} → q ≡ post_row t e → Written o (formula_under t path j q) o'
        → Written o (words_under t path j (end_formula t e)) o'
    wrote_post i w = rw (end_post t e (sym read ∙ h)) (rw i at w)

  -- ---- the end of a loop's body

  module _ (h : n ≡ 48 → ⊥) where
    pub ending : Loop t e
    ending = loop_end g.ended (λ k. h (read ∙ k))

    pub kept_ready : {i : ℕ} → i ≡ invariant_row t e → Ready t path j i Sort.Formula
    kept_ready {i} k = ready_at t path j i g.table g.along (rw k (invariant_linked t e ending))

    pub falling_ready : {v : ℕ} → v ≡ variant_row t e → Ready t path j v Sort.Expression
    falling_ready {v} k = ready_at t path j v g.table g.along (rw k (variant_linked t e ending))

    pub wrote_decreased : {i v : ℕ} {o o₁ o₂ o₃ o₄ o₅ : Output ℤ} → i ≡ invariant_row t e → v ≡ variant_row t e
        → Written o (pos 23 ∷ []) o₁
        → Written o₁ (formula_under t path j i) o₂ → Written o₂ (pos 18 ∷ []) o₃
        → Written o₃ (expr_under t path j v) o₄ → Written o₄ (pos 9 ∷ pos e ∷ []) o₅
        → Written o (words_under t path j (end_formula t e)) o₅
    unfolding formula_words replaceᶠ
    wrote_decreased x y w₁ w₂ w₃ w₄ w₅ = rw (end_decreased ending) (then w₁ (then (rw x at w₂) (then w₃ (then (rw y at w₄) w₅))))
