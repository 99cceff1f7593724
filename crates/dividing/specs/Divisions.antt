-- Div and mod: the kinds that have a divisor (`division`), and D of one by its kind (`divisor_of`), which is that of its operator;
-- relations and connectives have none. Assumes nothing.
use Rattle.std.specs.Prelude.{ℕ, ◌≡◌, ◌⊎◌, refl, Bool, true, false, ◌||◌, eqb, pos}
use Rattle.std.proofs.Common.{sym, ap, ⊎_elim, ne_eqb}
use Rattle.std.proofs.Math.Option.{Option, none, some}
use Rattle.script.specs.declared.kinds.Kind.{Kind}
use Rattle.script.specs.Kinds.{kind_of, number_read, other_read}
use Rattle.script.specs.declared.Operator.{Operator}
use Rattle.script.specs.declared.Operator.TheVariants.{Plus, Minus, Times, Div, Mod}
use Rattle.script.specs.declared.Relation.{Relation}
use Rattle.script.specs.declared.Relation.TheVariants.{Less, AtMost, Equal, Unequal}
use Rattle.script.specs.declared.Connective.{Connective}
use Rattle.script.specs.declared.Connective.TheVariants.{And, Or, Implies}
use Rattle.script.specs.Syntax.{Expr, const, Formula, cmp}
use Rattle.script.specs.Conditions.{◌joined◌, divisor}
use Rattle.script.specs.Words.{op_word, rel_word, conn_word}
use Rattle.script.specs.Laws.{pos_inj}
use Rattle.theorems.specs.Unchanged.{stands}

-- whether a kind is div or mod
abbrev pub division : ℕ → Bool
division n = eqb n 6 || eqb n 7

-- by the kind that was read

pub division_kind : {k : Kind} (n : ℕ) → k ≡ kind_of n → (k ≡ Kind.Div) ⊎ (k ≡ Kind.Mod) → division n ≡ true
division_kind n e h = ⊎_elim (λ i. ap division (number_read e i refl)) (λ i. ap division (number_read e i refl)) h

pub other_kind : {k : Kind} (n : ℕ) → k ≡ kind_of n → (k ≡ Kind.Div → ⊥) → (k ≡ Kind.Mod → ⊥) → division n ≡ false
unfolding kind_of
other_kind n e a b =
    let not_div : n ≡ 6 → ⊥ = other_read e a refl in
    let not_mod : n ≡ 7 → ⊥ = other_read e b refl in
    rw (ne_eqb n 6 not_div, ne_eqb n 7 not_mod) refl

-- the answer of its two tests

pub or_first : {x : Bool} (y : Bool) → x ≡ true → true ≡ (x || y)
or_first y e = rw e refl

pub or_then : {x : Bool} (y : Bool) → x ≡ false → y ≡ (x || y)
or_then y e = rw e refl

-- "for div and mod the divisor unequal to 0"
abbrev pub divisor_of : Bool → Expr → Option Formula
divisor_of true d = some (cmp Unequal d (const (pos 0)))
divisor_of false d = none

pub divisor_of_stands : (b : Bool) (d : Expr) → stands (divisor_of b d) ≡ b
divisor_of_stands true d = refl
divisor_of_stands false d = refl

pub operator_divisor : (o : Operator) {n : ℕ} → pos n ≡ op_word o → (d : Expr) → divisor o d ≡ divisor_of (division n) d
operator_divisor Plus e d = rw (pos_inj e) refl
operator_divisor Minus e d = rw (pos_inj e) refl
operator_divisor Times e d = rw (pos_inj e) refl
operator_divisor Div e d = rw (pos_inj e) refl
operator_divisor Mod e d = rw (pos_inj e) refl

pub no_relation : (o : Relation) {n : ℕ} → pos n ≡ rel_word o → division n ≡ false
no_relation Less e = rw (pos_inj e) refl
no_relation AtMost e = rw (pos_inj e) refl
no_relation Equal e = rw (pos_inj e) refl
no_relation Unequal e = rw (pos_inj e) refl

pub no_connective : (o : Connective) {n : ℕ} → pos n ≡ conn_word o → division n ≡ false
no_connective And e = rw (pos_inj e) refl
no_connective Or e = rw (pos_inj e) refl
no_connective Implies e = rw (pos_inj e) refl

pub joined_none : (x y : Option Formula) (d : Expr) {b : Bool} → b ≡ false → x joined y ≡ x joined y joined divisor_of b d
joined_none x y d e = rw e (sym (one (x joined y)))
  where
    one : (x : Option Formula) → x joined none ≡ x
    one none = refl
    one (some f) = refl
