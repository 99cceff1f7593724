-- `shortener::plan::entry_at` meets its contract: each kind by its number, then every other kind.
use Rattle.std.proofs.Common.{inl, inr, ◌≡◌, ◌∙◌, ◌+◌, ℕ, List, ℤ, refl, sym, ap, pos, get_or}
use Rattle.script.specs.Kinds.{kind_of, number_read, other_read}
use Rattle.script.specs.Rows.{field_number}
use Rattle.shortener.specs.Codes.{Coded, kept_code, numbered_code, other_code, other_pair}
use Rattle.shortener.specs.Entries.{entry, entry_of, pair_entry, kept_pair, other_entry}
use Rattle.shortener.specs.Runs.{ends, shapes}
use Rattle.shortener.proofs.plan.entry_at.Goals as goal

-- what was read at the place
of_kind : (ws : List ℤ) (es ss : List ℕ) (at : ℕ) {m n : ℕ} {x : Coded} → x ≡ entry_of m ws es ss at → n ≡ m → x ≡ entry_of n ws es ss at
of_kind ws es ss at p q = p ∙ ap (λ k. entry_of k ws es ss at) (sym q)

pub returns-in-Constant : goal.returns-in-Constant
unfolding entry_of
returns-in-Constant c =
    let e = c.kind_at-kind.ensures in
    of_kind c.args.words.now (ends c.args.entries.now) (shapes c.args.entries.now) c.args.at
    (c.number_entry.ensures ∙ ap (λ s. entry (c.args.at + 2) s numbered_code) c.number_shape.ensures)
    (number_read e c.in-Constant.is refl)

pub returns-in-Variable : goal.returns-in-Variable
unfolding entry_of
returns-in-Variable c =
    let e = c.kind_at-kind.ensures in
    of_kind c.args.words.now (ends c.args.entries.now) (shapes c.args.entries.now) c.args.at
    (c.number_entry-in-Variable.ensures)
    (number_read e c.in-Variable.is refl)

pub returns-in-Mark : goal.returns-in-Mark
unfolding entry_of
returns-in-Mark c =
    let e = c.kind_at-kind.ensures in
    of_kind c.args.words.now (ends c.args.entries.now) (shapes c.args.entries.now) c.args.at
    (c.number_entry-in-Mark.ensures)
    (number_read e c.in-Mark.is refl)

pub returns-in-True : goal.returns-in-True
unfolding entry_of
returns-in-True c =
    let e = c.kind_at-kind.ensures in
    of_kind c.args.words.now (ends c.args.entries.now) (shapes c.args.entries.now) c.args.at
    (c.truth_entry.ensures)
    (number_read e c.in-True.is refl)

pub returns-in-False : goal.returns-in-False
unfolding entry_of
returns-in-False c =
    let e = c.kind_at-kind.ensures in
    of_kind c.args.words.now (ends c.args.entries.now) (shapes c.args.entries.now) c.args.at
    (c.truth_entry-in-False.ensures)
    (number_read e c.in-False.is refl)

pub returns-in-Negate : goal.returns-in-Negate
unfolding entry_of
returns-in-Negate c =
    let e = c.kind_at-kind.ensures in
    of_kind c.args.words.now (ends c.args.entries.now) (shapes c.args.entries.now) c.args.at
    (c.kept_entry.ensures ∙ ap (λ n. entry n other_code kept_code) c.end_at.ensures)
    (number_read e c.in-Negate.is refl)

pub returns-in-Choose : goal.returns-in-Choose
unfolding entry_of
returns-in-Choose c =
    let es = c.args.entries.now in
    let formula = c.place-formula.ensures ∙ c.end_at-in-Choose.ensures in
    let chosen = c.place-chosen.ensures ∙ c.end_at-in-Choose-2.ensures ∙ ap (λ k. get_or (ends es) k 0) formula in
    let last = c.end_at-in-Choose-3.ensures ∙ ap (λ k. get_or (ends es) k 0) chosen in
    let e = c.kind_at-kind.ensures in
    of_kind c.args.words.now (ends c.args.entries.now) (shapes c.args.entries.now) c.args.at
    (c.kept_entry-in-Choose.ensures ∙ ap (λ n. entry n other_code kept_code) last)
    (number_read e c.in-Choose.is refl)

pub returns-in-Not : goal.returns-in-Not
unfolding entry_of
returns-in-Not c =
    let e = c.kind_at-kind.ensures in
    of_kind c.args.words.now (ends c.args.entries.now) (shapes c.args.entries.now) c.args.at
    (c.not_entry.ensures)
    (number_read e c.in-Not.is refl)

pub returns-in_default : goal.returns-in_default
unfolding kind_of
returns-in_default c =
    let ws = c.args.words.now in
    let es = c.args.entries.now in
    let k = field_number (get_or ws c.args.at (pos 0)) in
    let d = c.in_default in
    let e = c.kind_at-kind.ensures in
    let middle = c.place-middle.ensures ∙ c.end_at-in_default.ensures in
    let last = c.end_at-in_default-2.ensures ∙ ap (λ k. get_or (ends es) k 0) middle in
    let stays = other_pair k (other_read e d.not-Plus refl) (other_read e d.not-Minus refl) (other_read e d.not-Times refl) (other_read e d.not-And refl)
    (other_read e d.not-Implies refl) in
    c.kept_entry-in_default.ensures
    ∙ ap (λ n. entry n other_code kept_code) last
    ∙ kept_pair k (ends es) (shapes es) c.args.at stays
    ∙ other_entry k ((((((((tt, other_read e d.not-Constant refl), other_read e d.not-Variable refl), other_read e d.not-Mark refl), other_read e d.not-True refl), other_read e d.not-False refl), other_read e d.not-Negate refl), other_read e d.not-Choose refl), other_read e d.not-Not refl) ws (ends es) (shapes es) c.args.at

paired : (ws : List ℤ) (es ss : List ℕ) (at : ℕ) {m n : ℕ} {x : Coded} → x ≡ pair_entry n es ss at → n ≡ m
    → pair_entry m es ss at ≡ entry_of m ws es ss at → x ≡ entry_of n ws es ss at
paired ws es ss at p q r = of_kind ws es ss at (p ∙ ap (λ k. pair_entry k es ss at) q ∙ r) q

-- of the kinds that have rules
pub returns-in-Plus : goal.returns-in-Plus
unfolding entry_of
returns-in-Plus c =
    let ws = c.args.words.now in
    let es = c.args.entries.now in
    let at = c.args.at in
    let k = field_number (get_or ws at (pos 0)) in
    let e = c.kind_at-kind.ensures in
    let r = c.pair_entry.ensures k e in
    elim (c.in-Plus.is) [
      | inl h ↦ paired ws (ends es) (shapes es) at r (number_read e h refl) refl
      | inr h ↦
          elim h [
            | inl h ↦ paired ws (ends es) (shapes es) at r (number_read e h refl) refl
            | inr h ↦
                elim h [
                  | inl h ↦ paired ws (ends es) (shapes es) at r (number_read e h refl) refl
                  | inr h ↦
                      elim h [
                        | inl h ↦ paired ws (ends es) (shapes es) at r (number_read e h refl) refl
                        | inr h ↦ paired ws (ends es) (shapes es) at r (number_read e h refl) refl
                      ]
                ]
          ]
    ]
