-- What stands in the place of a variable (`Replaced`): the variable itself, where no assignment on the path is to it; else the
-- value of the latest that is. Then that this is what the path makes of it (`stands_itself`, `stands_value`). Assumes nothing.
use Rattle.std.specs.Prelude.{ℕ, zero, suc, ◌+◌, ◌*◌, ◌≤◌, ◌<◌, ◌≡◌, refl, cond, List, eqb, ℤ, length, Option, Some, None, pos, [], ◌∷◌}
use Rattle.std.proofs.Common.{sym, ap, ◌∙◌, ⊎_elim, arith as linear, eq-eqb, ne_eqb}
use Rattle.script.specs.declared.RowNumber.{RowNumber}
use Rattle.script.specs.declared.Sort.TheVariants.{Expression}
use Rattle.script.specs.Rows.{field_number, word}
use Rattle.script.specs.Syntax.{var}
use Rattle.script.specs.Trees.{expr_at}
use Rattle.theorems.specs.Accepted.{Accepted}
use Rattle.theorems.specs.Counting.{eq_or_lt}
use Rattle.theorems.specs.RowTrees.{stmt_is}
use Rattle.output.specs.declared.Output.{Output}
use Rattle.output.specs.Written.{Written}
use Rattle.formula_writer.specs.Links.{links_of}
use Rattle.formula_writer.specs.Nodes.{OnPath, Ready, assignment_is, entry_fits}
use Rattle.formula_writer.specs.Paths.{replaceᵉ, entry_on, passed_row, passed_variable, under}
use Rattle.formula_writer.specs.Search.{Entries, Latest}

-- the row of the value that the assignment at place i assigns
abbrev pub value_on : List ℤ → List ℤ → ℕ → ℕ
value_on t path i = field_number (word t (passed_row path i) 2)

-- what stands in the place of v under j assignments, and what was written of it into o, which is now o': v itself, and it was written;
-- or the value at a row, under so many, and nothing was
pub record Replaced (t path : List ℤ) (v j : ℕ) (o o' : Output ℤ) (w : Option (RowNumber × ℕ)) : Type 0 where
  pub itself : w ≡ None → Latest path v j 0 × Written o (pos 2 ∷ pos v ∷ []) o'
  pub value : (e : RowNumber × ℕ) → w ≡ Some e → Latest path v j (suc e.1) × ((e.0.0 ≡ value_on t path e.1) × (o' ≡ o))

apart : {e : RowNumber × ℕ} → None ≡ Some e → ⊥
apart h = let z : ◌≡◌ {A = ℕ} 0 1 = cc in omega linear

module _ {t path : List ℤ} {v j : ℕ} {o : Output ℤ} where
  pub replaced_itself : {o' : Output ℤ} → Latest path v j 0 → Written o (pos 2 ∷ pos v ∷ []) o' → Replaced t path v j o o' None
  replaced_itself found w = record { itself = λ h. (found, w); value = λ e h. absurd (apart h) }

  pub replaced_value : (e : RowNumber × ℕ) → Latest path v j (suc e.1) → e.0.0 ≡ value_on t path e.1 → Replaced t path v j o o (Some e)
  replaced_value e found read = record {
    itself = λ h. absurd (apart (sym h));
    value = λ f h. let y : f ≡ e = cc in rw y (found, (read, refl));
  }

-- ---- what a variable stands for

-- under j assignments, v stands for the expression at row e under the first i
pub record Stands (t path : List ℤ) (v j e i : ℕ) : Type 0 where
  pub ready : Ready t path i e Expression
  pub earlier : i < j
  pub is : under t path j v ≡ replaceᵉ (under t path i) (expr_at t e)

module _ {t path : List ℤ} (ok : Accepted t) {j : ℕ} (along : OnPath t path j) where
  module _ (i : ℕ) (h : i < j) where
    entry_is : entry_on path i ≡ 2048 * field_number (word t (passed_row path i) 1) + passed_row path i
    entry_is = ap field_number (along.passed i h).entered

    target_is : passed_variable path i ≡ field_number (word t (passed_row path i) 1)
    target_is = let e = entry_is in omega linear

    entry_small : entry_on path i < 2147483648
    entry_small = let e = entry_is in let s = entry_fits t ok (along.passed i h).assigns refl in omega linear

    under_step : (v : ℕ)
        → under t path (suc i) v ≡ cond (eqb v (passed_variable path i)) (replaceᵉ (under t path i) (expr_at t (value_on t path i))) (under t path i v)
    unfolding under
    under_step v =
        let a = (along.passed i h).assigns in
        rw (target_is, stmt_is t ok (passed_row path i) a.inside (assignment_is t ok a))

    pub in_table : 4 * passed_row path i + 3 < length t
    in_table = let a = (along.passed i h).assigns.inside in let f = ok.fours in omega linear

  pub entries : Entries path j
  entries = record { bound = along.bound; small = entry_small }

  -- ---- with the latest assignment to v

  module _ {v k : ℕ} (found : Latest path v j k) where
    one_before : (n : ℕ) → k ≤ n → n < j → under t path (suc n) v ≡ under t path n v
    one_before n h l = under_step n l v ∙ rw (ne_eqb v (passed_variable path n) (λ e. found.none_after.other n h l (sym e)))

    same_before : (n : ℕ) → k ≤ n → n ≤ j → under t path n v ≡ under t path k v
    same_before zero h l = let e : k ≡ 0 = omega linear in rw e
    same_before (suc n) h l =
        ⊎_elim (λ e. rw e)
        (λ e. one_before n (omega linear) l ∙ same_before n (omega linear) (omega linear))
        (eq_or_lt k (suc n) (omega linear))

  pub stands_itself : {v : ℕ} → Latest path v j 0 → under t path j v ≡ var v
  unfolding under
  stands_itself found = same_before found j (omega linear) (omega linear)

  pub stands_value : {v e i : ℕ} → Latest path v j (suc i) → e ≡ value_on t path i → Stands t path v j e i
  stands_value {v} {e} {i} found read =
      let h = found.within in
      let a = (along.passed i h).assigns in
      let l = (links_of t ok (passed_row path i) a.inside (assignment_is t ok a)).0 in
      let lower = l.0 in
      let inside = a.inside in
      let bound = along.bound in
      record {
        ready = record {
          table = ok;
          along = record { bound = omega linear; passed = λ n h. along.passed n (omega linear) };
          inside = omega linear;
          sort = rw read l.1;
        };
        earlier = h;
        is =
            same_before found j h (omega linear)
            ∙ (under_step i h v ∙ rw (eq-eqb v (passed_variable path i) (sym (found.there i refl)), read));
      }
