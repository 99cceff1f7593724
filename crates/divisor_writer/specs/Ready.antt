-- What is known where D is to be written: the node's place in the runs, its parts; no words where it does not divide, and what is
-- put before a formula in either case (`conjunct_written`, `no_conjunct`). Assumes nothing.
use Rattle.std.specs.Prelude.{ℕ, ◌*◌, ◌+◌, ◌<◌, ◌≡◌, refl, Bool, true, false, List, [], ◌∷◌, ◌++◌, ℤ, pos, length}
use Rattle.std.proofs.Common.{sym, ap, ◌∙◌, arith as linear}
use Rattle.std.proofs.lemmas.Bool.{false≢true}
use Rattle.std.proofs.Math.Option.{Option, none, some}
use Rattle.script.specs.declared.Sort.{Sort}
use Rattle.script.specs.Syntax.{Formula}
use Rattle.theorems.specs.Unchanged.{stands}
use Rattle.theorems.specs.DivisorWords.{and_if_both}
use Rattle.output.specs.declared.Output.{Output}
use Rattle.output.specs.Written.{Written, nothing_written as Written·nothing, then, written_as}
use Rattle.formula_writer.specs.Links.{Linked}
use Rattle.formula_writer.specs.Paths.{under}
use Rattle.formula_writer.specs.Nodes.{Ready}
use Rattle.dividing.specs.Nodes.{divisors_at}
use Rattle.dividing.specs.Divided.{marked, marked_stands}
use Rattle.dividing.specs.Parts.{Below}
use Rattle.divisor_writer.specs.Words.{divisor_words, conjunct_words, DivisorReady}
use Rattle.divisor_writer.specs.Under.{words_of, replaced_stands}

module _ {t follow path : List ℤ} {j r : ℕ} (g : DivisorReady t follow path j r) where
  pub in_table : 4 * r + 3 < length t
  in_table = let h = g.inside in let k = g.table.fours in omega linear

  pub in_follow : r < length follow
  in_follow = let h = g.inside in let l = g.long in omega linear

  marked_here : marked follow r ≡ stands (divisors_at t r)
  marked_here = marked_stands t follow r g.divided g.inside g.node

  -- a lower node, as a part is
  pub below_ready : (n : ℕ) → Below t r n → DivisorReady t follow path j n
  below_ready n b =
      let h = g.inside in
      let i = b.0 in
      record { table = g.table; along = g.along; inside = omega linear; node = b.1; divided = g.divided; long = g.long }

  pub part_in : {n : ℕ} → Below t r n → n < length follow
  part_in b = let h = g.inside in let l = g.long in let i = b.0 in omega linear

  pub part_marked : {n : ℕ} → Below t r n → stands (divisors_at t n) ≡ marked follow n
  part_marked {n} b = let k = below_ready n b in sym (marked_stands t follow n k.divided k.inside k.node)

  pub part_node : {n : ℕ} {s : Sort} → Linked t r n s → Ready t path j n s
  part_node l =
      let h = g.inside in
      let i = l.0 in
      record { table = g.table; along = g.along; inside = omega linear; sort = l.1 }

  -- what does not divide has no words
  no_words : (x : Option Formula) → stands x ≡ false → words_of (under t path j) x ≡ []
  no_words none h = refl
  no_words (some f) h = absurd (false≢true (sym h))

  undivided : {d : Bool} → d ≡ marked follow r → d ≡ false → divisor_words t path j r ≡ []
  undivided e h = no_words (divisors_at t r) (sym marked_here ∙ (sym e ∙ h))

  pub nothing_written : {d : Bool} {o : Output ℤ} → d ≡ marked follow r → d ≡ false → Written o (divisor_words t path j r) o
  nothing_written {o = o} e h = written_as (sym (undivided e h)) (Written·nothing o)

  -- ---- before a formula

  conjunct : {b : Bool} → stands (divisors_at t r) ≡ b → conjunct_words t path j r ≡ and_if_both b true ++ divisor_words t path j r
  conjunct e = ap (λ b. and_if_both b true ++ divisor_words t path j r) (replaced_stands (under t path j) (divisors_at t r) ∙ e)

  pub conjunct_written : {d : Bool} {o o' o'' : Output ℤ} → d ≡ marked follow r → d ≡ true → Written o (pos 23 ∷ []) o'
      → Written o' (divisor_words t path j r) o'' → Written o (conjunct_words t path j r) o''
  conjunct_written e h w x = written_as (sym (conjunct (sym marked_here ∙ (sym e ∙ h)))) (then w x)

  pub no_conjunct : {d : Bool} {o : Output ℤ} → d ≡ marked follow r → d ≡ false → Written o (conjunct_words t path j r) o
  no_conjunct {o = o} e h =
      written_as (sym (conjunct (sym marked_here ∙ (sym e ∙ h)) ∙ undivided e h)) (Written·nothing o)
