-- The tests of a trailer: a kind 1 to 5, a number below a limit, a formula that takes all the words. Assumes nothing.
use Prim.Native.Nat.{ℕ, zero, suc, ◌≤◌, ◌<◌}
use native.Mathlib.Omega.{arith as linear}
use mathlib.Core.Path.{◌≡◌, refl, sym, ap, ◌∙◌}
use mathlib.Core.Option.{Option, none, some}
use mathlib.Core.List.{List, [], ◌∷◌}
use mathlib.Core.Bool.{Bool, true, false}
use lib.IntN.{ℤ, pos, negsuc}
use lib.Dec.{eqb, ltb}
use lib.ListN.{length, drop, length-drop}
use borrow.Author.Tests.{ltb-true, eq-eqb, ne_eqb}
use Rattle.script.specs.declared.Rule.{Rule}
use Rattle.script.specs.declared.Rule.TheVariants.{Exit, Floor, Step, Main, Guard}
use Rattle.script.specs.Syntax.{Formula}
use Rattle.script.specs.Words.{rule_number}
use Rattle.script.specs.Rows.{field_number}
use Rattle.script.specs.Listing.{◌>>=◌, guarded, Read, next, read_formula, all_read, spelled, spelled_within, rule_of, below}
use Rattle.list_reader.specs.Ends.{Ends, nowhere, here, rest_of, after_formula, FormulaEnds}
use Rattle.list_reader.specs.Lines.{is_some}

-- ---- a kind 1 to 5

no_rule : (n : ℕ) → 6 ≤ n → rule_of n ≡ none
no_rule n h =
    rw (ne_eqb n 1 (omega linear), ne_eqb n 2 (omega linear), ne_eqb n 3 (omega linear), ne_eqb n 4 (omega linear), ne_eqb n 5 (omega linear))

pub rule_is : (n : ℕ) (r : Rule) → rule_of n ≡ some r → rule_number r ≡ n
rule_is zero r q = let z : ◌≡◌ {A = ℕ} 0 1 = cc in absurd (omega linear)
rule_is (suc zero) r q = let z : r ≡ Exit = cc in ap rule_number z
rule_is (suc (suc zero)) r q = let z : r ≡ Floor = cc in ap rule_number z
rule_is (suc (suc (suc zero))) r q = let z : r ≡ Step = cc in ap rule_number z
rule_is (suc (suc (suc (suc zero)))) r q = let z : r ≡ Main = cc in ap rule_number z
rule_is (suc (suc (suc (suc (suc zero))))) r q = let z : r ≡ Guard = cc in ap rule_number z
rule_is (suc (suc (suc (suc (suc (suc n)))))) r q =
    let z : none ≡ some r = sym (no_rule (suc (suc (suc (suc (suc (suc n)))))) (omega linear)) ∙ q in
    let y : ◌≡◌ {A = ℕ} 0 1 = cc in
    absurd (omega linear)

-- ---- a number below a limit

when_some : (b : Bool) (n : ℕ) → b ≡ is_some (guarded b (some n))
when_some true n = refl
when_some false n = refl

when_is : (b : Bool) (n : ℕ) {m : ℕ} → guarded b (some n) ≡ some m → m ≡ n
when_is true n q = cc
when_is false n q = let z : ◌≡◌ {A = ℕ} 0 1 = cc in absurd (omega linear)

pub below_is : (limit : ℕ) (w : ℤ) (n : ℕ) → below limit w ≡ some n → n ≡ field_number w
below_is limit (pos m) n q = when_is (ltb m limit) m q
below_is limit (negsuc m) n q = let z : ◌≡◌ {A = ℕ} 0 1 = cc in absurd (omega linear)

pub below_most : (limit : ℕ) (w : ℤ) → is_some (below limit w) ≡ true → field_number w < limit
below_most limit (pos n) h = ltb-true n limit (when_some (ltb n limit) n ∙ h)
below_most limit (negsuc n) h = let z : ◌≡◌ {A = ℕ} 0 1 = cc in absurd (omega linear)

-- ---- a formula that takes all the words

taken_all : (ws : List ℤ) (e : ℕ) (f : Formula) (us : List ℤ) → us ≡ drop e ws → e ≤ length ws
    → eqb e (length ws) ≡ is_some (all_read (record { got = f; rest = us }))
taken_all ws e f [] h l = eq-eqb e (length ws) (omega (linear, ap length h, length-drop e ws))
taken_all ws e f (u ∷ us) h l = ne_eqb e (length ws) λ q. omega (linear, ap length h, length-drop e ws)

spelled_by : (ws : List ℤ) (e : ℕ) (o : Option (Read Formula)) → Ends ws 0 e (rest_of o) → eqb e (length ws) ≡ is_some (o >>= all_read)
spelled_by ws e none (nowhere h) = ne_eqb e (length ws) (omega linear)
spelled_by ws e (some r) (here h l m) = taken_all ws e r.got r.rest h m

pub spelled_test : {ws : List ℤ} {e : ℕ} → FormulaEnds ws 0 e → eqb e (length ws) ≡ is_some (spelled ws)
unfolding spelled_within after_formula
spelled_test {ws} {e} x = spelled_by ws e (next (read_formula (length ws)) ws) (x.reads (length ws) (omega linear))
