-- A numeral's value is told up to `most`: no range test sees that. Assumes nothing.
use Rattle.std.specs.Prelude.{ℕ, suc, ◌<◌, min, ◌≡◌, refl, Bool, true, false, ◌&&◌, leb}
use Rattle.std.proofs.Common.{sym, ◌∙◌, arith as linear, leb-true, leb-false}
use Rattle.std.proofs.lemmas.Bool.{lt-leb}
use Rattle.grammar.specs.Ranges.{limit, mark_fits, variable_fits}
use Rattle.grammar.specs.Numbers.{most}

leb_capped : (n b : ℕ) → b < most → leb (min n most) b ≡ leb n b
leb_capped n b l = at_test (leb n most) refl
  where
    at_test : (k : Bool) → leb n most ≡ k → leb (min n most) b ≡ leb n b
    at_test true e =
        let low = leb-true n most e in
        let same : min n most ≡ n = omega linear in
        rw same
    at_test false e =
        let high = leb-false n most e in
        lt-leb (min n most) b (omega linear) ∙ sym (lt-leb n b (omega linear))

pub limit_capped : (m : Bool) (n : ℕ) → leb (min n most) (limit m) ≡ leb n (limit m)
limit_capped true n = leb_capped n 2147483648 (omega linear)
limit_capped false n = leb_capped n 2147483647 (omega linear)

pub variable_capped : (n : ℕ) → variable_fits (min n most) ≡ variable_fits n
variable_capped n = at_test (leb n most) refl
  where
    at_test : (k : Bool) → leb n most ≡ k → variable_fits (min n most) ≡ variable_fits n
    at_test true e =
        let low = leb-true n most e in
        let same : min n most ≡ n = omega linear in
        rw same
    at_test false e =
        let high = leb-false n most e in
        lt-leb (suc (min n most)) 1024 (omega linear) ∙ sym (lt-leb (suc n) 1024 (omega linear))

pub mark_capped : (d n : ℕ) → d < most → mark_fits d (min n most) ≡ mark_fits d n
mark_capped d n l = at_test (leb n most) refl
  where
    at_test : (k : Bool) → leb n most ≡ k → mark_fits d (min n most) ≡ mark_fits d n
    at_test true e =
        let low = leb-true n most e in
        let same : min n most ≡ n = omega linear in
        rw same
    at_test false e =
        let high = leb-false n most e in
        rw (lt-leb (min n most) d (omega linear), lt-leb n d (omega linear)) (neither (leb 1 (min n most)) (leb 1 n))
      where
        neither : (a b : Bool) → (a && false) ≡ (b && false)
        neither true true = refl
        neither true false = refl
        neither false true = refl
        neither false false = refl
