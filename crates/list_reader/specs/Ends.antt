-- Where an expression or a formula ends. In this order: the words after it, the place where it ends, the same for every
-- bound that is large enough, what that says of words that are read whole. Assumes nothing.
use Rattle.std.specs.Prelude.{ℕ, suc, ◌+◌, ◌-◌, ◌≤◌, ◌<◌, ◌≡◌, List, [], ◌∷◌, ◌++◌, ℤ, length, drop}
use Rattle.std.proofs.Common.{sym, ap, ◌∙◌, arith, length-append, length-drop}
use Rattle.std.proofs.Math.Option.{Option, none, some}
use Rattle.script.specs.Listing.{Read, next, read_expr, read_formula}

-- the words after what was read
abbrev pub rest_of : {A : Type 0} → Option (Read A) → Option (List ℤ)
rest_of none = none
rest_of (some r) = some r.rest

unfoldable pub after_expression : ℕ → List ℤ → Option (List ℤ)
after_expression n ws = rest_of (next (read_expr n) ws)

unfoldable pub after_formula : ℕ → List ℤ → Option (List ℤ)
after_formula n ws = rest_of (next (read_formula n) ws)

-- the place of what is left of the words; one word past the end of all where nothing was read
abbrev pub place_of : List ℤ → Option (List ℤ) → ℕ
place_of ws none = suc (length ws)
place_of ws (some us) = length ws - length us

unfoldable pub expression_end : List ℤ → ℕ → ℕ
expression_end ws at = place_of ws (after_expression (length ws) (drop at ws))

unfoldable pub formula_end : List ℤ → ℕ → ℕ
formula_end ws at = place_of ws (after_formula (length ws) (drop at ws))

-- ---- for every bound that is large enough

-- the words from e on are left of those from at on
pub data Ends (ws : List ℤ) (at e : ℕ) : Option (List ℤ) → Type 0 where
  nowhere : e ≡ suc (length ws) → Ends ws at e none
  here : {us : List ℤ} → us ≡ drop e ws → at < e → e ≤ length ws → Ends ws at e (some us)

-- so it is under every bound n that is large enough
abbrev pub Reads : (ℕ → List ℤ → Option (List ℤ)) → List ℤ → ℕ → ℕ → Type 0
Reads f ws at e = (n : ℕ) → length ws ≤ n + at → Ends ws at e (f n (drop at ws))

-- past the number of a constant, a variable or a mark
abbrev pub past : List ℤ → Option (List ℤ)
past [] = none
past (w ∷ ws) = some ws

abbrev pub NumberEnds : List ℤ → ℕ → ℕ → Type 0
NumberEnds ws at e = Ends ws at e (past (drop at ws))

pub record ExpressionEnds (ws : List ℤ) (at e : ℕ) : Type 0 where
  pub is : e ≡ expression_end ws at
  pub reads : Reads after_expression ws at e

pub record FormulaEnds (ws : List ℤ) (at e : ℕ) : Type 0 where
  pub is : e ≡ formula_end ws at
  pub reads : Reads after_formula ws at e

-- ---- words that are read whole, whatever stands after them

ends_before : {ws us : List ℤ} {at e : ℕ} {o : Option (List ℤ)} → Ends ws at e o → o ≡ some us → (us ≡ drop e ws) × (at < e) × (e ≤ length ws)
ends_before (nowhere p) q = let z : ◌≡◌ {A = ℕ} 0 1 = cc in absurd (omega arith)
ends_before (here p h l) q = (cc, h, l)

module _ (f : ℕ → List ℤ → Option (List ℤ)) (us : List ℤ) (whole : (n : ℕ) (rest : List ℤ) → length us ≤ n → f n (us ++ rest) ≡ some rest)
    (rest : List ℤ) {ws : List ℤ} {at e : ℕ} (stands : drop at ws ≡ us ++ rest) (reads : Reads f ws at e) where
  sizes : length us + length rest ≡ length ws - at
  sizes = sym (length-append us rest) ∙ ap length (sym stands) ∙ length-drop at ws

  -- what stands after them, and where they end
  pub left_after : (rest ≡ drop e ws) × (at < e) × (e ≤ length ws)
  left_after =
      ends_before (rw stands at (reads (length ws) (omega arith))) (whole (length ws) rest (omega (arith, sizes)))

  pub ends_past : e ≡ at + length us
  ends_past =
      let left = ap length left_after.0 ∙ length-drop e ws in
      omega (arith, sizes, left, left_after.1, left_after.2)
