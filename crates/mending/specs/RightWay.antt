-- With the right ways, the mender by ways of `Variants` is the mender defined (`right_way`): copies, sweeps and capped
-- sizes are the same by induction, words and tests by cases. Assumes nothing.
use Prim.Native.Nat.{ℕ, zero, suc, ◌*◌, ◌-◌}
use Rattle.std.specs.Prelude.{◌≡◌, ℤ}
use Rattle.std.proofs.Math.Path.{refl}
use Rattle.std.proofs.Common.{◌∙◌}
use mathlib.Core.List.{List, [], ◌∷◌, ◌++◌, map}
use Rattle.std.proofs.Math.Bool.{cond}
use Rattle.std.proofs.Math.IntN.{pos}
use Rattle.std.proofs.Math.ListN.{length}
use Rattle.script.specs.declared.ExpressionRow.TheVariants.{Constant, Variable, Arithmetic, Negate, Mark, Choose}
use Rattle.script.specs.declared.Row.{Row}
use Rattle.script.specs.Rows.{parts, rows, row}
use Rattle.script.specs.Refusals.{Verdict, accepted, refused, ◌and_then◌, lowest, length_test, script_test}
use Rattle.script.specs.Generated.{zeros}
use Rattle.mending.specs.Copies.{each, copies, origins, size, capped_at, capped_from, capped_total}
use Rattle.mending.specs.NewTable.{written, renamed, part_places, new_word, new_table}
use Rattle.mending.specs.Reached.{uncut, sweep, reached, reached_rows, escapes}
use Rattle.mending.specs.Mended.{part_fault, mark_fault, part_test, mark_test, size_test, mend_verdict, refuse, mend, mended}
use Rattle.mending.specs.Variants.{right, copies_by, sweep_by, capped_by, word_by, escapes_by, verdict_by, mend_by, settled, mended_by}

module _ (t : List ℤ) where
  same_copies : (n r : ℕ) → copies_by right t n r ≡ copies t n r
  unfolding copies_by copies
  same_copies zero r = refl
  same_copies (suc n) r = λ i. each (λ k. same_copies n k i) (parts (row t r)) ++ (r ∷ [])

  same_sweep : (cut n : ℕ) (seen : List ℕ) → sweep_by right t cut n seen ≡ sweep t cut n seen
  unfolding sweep_by sweep uncut
  same_sweep cut zero seen = refl
  same_sweep cut (suc r) seen = same_sweep cut r _

  same_capped : (n r : ℕ) (sizes : List ℕ) → capped_by right t n r sizes ≡ capped_from t n r sizes
  unfolding capped_by capped_from capped_at
  same_capped zero r sizes = refl
  same_capped (suc n) r sizes = same_capped n (suc r) _

  same_escapes : (r : ℕ) (w : Row) → escapes_by right t (copies t) (sweep t) (capped_from t) r w ≡ escapes t r w
  unfolding escapes reached
  same_escapes r (Row.Expression (Constant z)) = refl
  same_escapes r (Row.Expression (Variable v)) = refl
  same_escapes r (Row.Expression (Arithmetic o a b)) = refl
  same_escapes r (Row.Expression (Negate a)) = refl
  same_escapes r (Row.Expression (Mark m)) = refl
  same_escapes r (Row.Expression (Choose f a b)) = refl
  same_escapes r (Row.Formula x) = refl
  same_escapes r (Row.Statement x) = refl
  same_escapes r (Row.Note i v) = refl
  same_escapes r (Row.Script p s q) = refl
  same_escapes r Row.Unknown = refl

  same_word : (k r f : ℕ) → word_by right t (copies t) (sweep t) (capped_from t) k r f ≡ new_word t k r f
  unfolding new_word renamed part_places size origins
  same_word k r zero = refl
  same_word k r (suc f) = refl

  module _ (table_room origins_room : ℕ) where
    same_verdict : verdict_by right t (copies t) (sweep t) (capped_from t) table_room origins_room ≡
        mend_verdict t table_room origins_room
    unfolding mend_verdict part_test mark_test mark_fault size_test capped_total
    same_verdict = λ i.
        length_test t and_then lowest (part_fault t) (rows t) 0 and_then script_test t
        and_then lowest (λ r. cond (same_escapes r (row t r) i) 13 0)
        (rows t) 0 and_then size_test t table_room origins_room

    same_mend : mend_by right t (copies t) (sweep t) (capped_from t) table_room origins_room ≡
        mend t table_room origins_room
    unfolding origins reached_rows reached new_table
    same_mend = λ i. record {
      number = 0;
      row = 0;
      words = 4 * length (origins t);
      dropped = rows t - reached_rows t;
      copied = length (origins t) - reached_rows t;
      table = written (λ k r f. same_word k r f i) 0 (origins t) ++ zeros (table_room - 4 * length (origins t));
      origins = map pos (origins t) ++ zeros (origins_room - length (origins t));
    }

    pub right_way : mended_by right t table_room origins_room ≡ mended t table_room origins_room
    unfolding mended_by mended
    right_way =
        (λ i. settled
        (verdict_by right t (λ n r. same_copies n r i) (λ c n s. same_sweep c n s i)
        (λ n r s. same_capped n r s i) table_room origins_room)
        (mend_by right t (λ n r. same_copies n r i) (λ c n s. same_sweep c n s i)
        (λ n r s. same_capped n r s i) table_room origins_room)
        table_room origins_room)
        ∙ (λ i. settled (same_verdict i) (same_mend i) table_room origins_room)
        ∙ go (mend_verdict t table_room origins_room)
      where
        go : (v : Verdict) → settled v (mend t table_room origins_room) table_room origins_room ≡
            elim v [ refused n r ↦ refuse n r table_room origins_room | accepted ↦ mend t table_room origins_room ]
        go accepted = refl
        go (refused n r) = refl
