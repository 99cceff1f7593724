-- `shortener::rules::pair_change` meets its contract: each kind by its number, then every other kind.
use Rattle.std.proofs.Common.{◌∙◌, refl, sym, ap}
use Rattle.script.specs.Kinds.{kind_of, number_read, other_read}
use Rattle.shortener.specs.Codes.{pair_code, other_pair}
use Rattle.shortener.specs.Runs.{shape_told}
use Rattle.shortener.proofs.rules.pair_change.Goals as goal

pub returns-in-Plus : goal.returns-in-Plus
unfolding pair_code
returns-in-Plus c k e =
    c.plus_change.ensures ∙ ap (λ n. pair_code n (shape_told c.args.x) (shape_told c.args.y)) (sym (number_read e c.in-Plus.is refl))

pub returns-in-Minus : goal.returns-in-Minus
unfolding pair_code
returns-in-Minus c k e =
    c.minus_change.ensures ∙ ap (λ n. pair_code n (shape_told c.args.x) (shape_told c.args.y)) (sym (number_read e c.in-Minus.is refl))

pub returns-in-Times : goal.returns-in-Times
unfolding pair_code
returns-in-Times c k e =
    c.times_change.ensures ∙ ap (λ n. pair_code n (shape_told c.args.x) (shape_told c.args.y)) (sym (number_read e c.in-Times.is refl))

pub returns-in-And : goal.returns-in-And
unfolding pair_code
returns-in-And c k e =
    c.and_change.ensures ∙ ap (λ n. pair_code n (shape_told c.args.x) (shape_told c.args.y)) (sym (number_read e c.in-And.is refl))

pub returns-in-Implies : goal.returns-in-Implies
unfolding pair_code
returns-in-Implies c k e =
    c.implies_change.ensures ∙ ap (λ n. pair_code n (shape_told c.args.x) (shape_told c.args.y)) (sym (number_read e c.in-Implies.is refl))

pub returns-in_default : goal.returns-in_default
unfolding kind_of
returns-in_default c k e =
    let d = c.in_default in
    other_pair k (other_read e d.not-Plus refl) (other_read e d.not-Minus refl) (other_read e d.not-Times refl) (other_read e d.not-And refl)
    (other_read e d.not-Implies refl) (shape_told c.args.x) (shape_told c.args.y)
