-- What holds at each turn of the writer of D: whatever writes D of the node at hand, from the present place on, writes the whole
-- from the first place on (`words`). A turn goes on at the node's source (`at_source`); then there is a law for each kind of
-- row: what is written, or how the next turn goes on with the last part. Assumes nothing.
use Rattle.std.specs.Prelude.{ℕ, ◌+◌, ◌≤◌, ◌<◌, ◌≡◌, Bool, true, false, List, ◌++◌, ℤ, length}
use Rattle.std.proofs.Common.{sym, ◌∙◌, append-nil, arith as linear}
use Rattle.std.proofs.Math.Path.{ap, ap₂}
use Rattle.std.proofs.lemmas.Bool.{false≢true}
use Rattle.std.proofs.Math.Option.{none}
use Rattle.script.specs.declared.Sort.TheVariants as Sort
use Rattle.script.specs.Syntax.{not}
use Rattle.script.specs.Conditions.{behind}
use Rattle.script.specs.Words.{formula_words}
use Rattle.script.specs.Rows.{field_number, word}
use Rattle.script.specs.Trees.{expr_at, formula_at}
use Rattle.theorems.specs.Unchanged.{stands, behind_stands}
use Rattle.output.specs.declared.Output.{Output}
use Rattle.output.specs.Written.{Written, no_room, then, written_as}
use Rattle.formula_writer.specs.Paths.{replaceᶠ, under, expr_under, formula_under}
use Rattle.formula_writer.specs.Nodes.{Ready}
use Rattle.following.specs.Follow.{row_on}
use Rattle.dividing.specs.Nodes.{divisors_at}
use Rattle.dividing.specs.Divided.{marked, Source, source_is}
use Rattle.dividing.specs.Divisions.{division, divisor_of, divisor_of_stands}
use Rattle.dividing.specs.Parts.{Below, expression_below, formula_below, Choice, Pair, choice, pair}
use Rattle.dividing.specs.Parts.{constant_none, variable_none, mark_none, true_none, false_none, no_negation, no_denial}
use Rattle.divisor_writer.specs.Words.{divisor_words, DivisorReady}
use Rattle.divisor_writer.specs.Under.{ands, lead, premise, unequal_zero, words_of, three_under, behind_under, divisor_under}
use Rattle.divisor_writer.specs.Ready.{below_ready, part_marked, part_node, nothing_written}

-- the node at row r; m is the row at the start
pub record Turn (t follow path : List ℤ) (j m : ℕ) (whole : List ℤ) (o₀ : Output ℤ) (r : ℕ) (o : Output ℤ) : Type 0 where
  pub ready : DivisorReady t follow path j r
  pub within : r ≤ m
  pub words : (o'' : Output ℤ) → Written o (divisor_words t path j r) o'' → Written o₀ whole o''

pub begun : {t follow path : List ℤ} {j r : ℕ} {o : Output ℤ} → DivisorReady t follow path j r
    → Turn t follow path j r (divisor_words t path j r) o r o
begun g = record { ready = g; within = omega linear; words = λ o'' w. w }

-- what is below the source is below the node
pub falls_below : {t : List ℤ} {r s n : ℕ} → Source t r s → n < s → n < r
falls_below o h = let i = o.within in omega linear

module _ {t follow path whole : List ℤ} {j m r : ℕ} {o₀ o : Output ℤ} (g : Turn t follow path j m whole o₀ r o) where
  abbrev Next : ℕ → Output ℤ → Type 0
  Next n o' = Turn t follow path j m whole o₀ n o'

  -- the words of D of the node at a row
  abbrev W : ℕ → List ℤ
  W n = divisor_words t path j n

  pub done : {d : Bool} → d ≡ marked follow r → d ≡ false → Written o₀ whole o
  done e h = g.words o (nothing_written g.ready e h)

  -- where there is no room
  pub stopped : length o.list.now < o.at → Written o₀ whole o
  stopped h = g.words o (no_room (W r) h)

  -- ---- the source

  pub source_here : {s : ℕ} → s + 1 ≡ row_on follow r → Source t r s
  source_here e = source_is (g.ready.divided.at r g.ready.inside g.ready.node) e

  pub at_source : {s : ℕ} → s + 1 ≡ row_on follow r → Next s o
  at_source {s} e =
      let from = source_here e in
      let i = from.within in
      let h = g.ready.inside in
      let w = g.within in
      record {
        ready = record {
          table = g.ready.table;
          along = g.ready.along;
          inside = omega linear;
          node = from.node;
          divided = g.ready.divided;
          long = g.ready.long;
        };
        within = omega linear;
        words = λ o'' x. g.words o'' (written_as (ap (words_of (under t path j)) from.same) x);
      }

  -- ---- the parts

  pub part_ready : {n k : ℕ} → m ≡ k → Below t r n → (n < k) × DivisorReady t follow path j n
  part_ready {n} e b =
      let i = b.0 in
      let w = g.within in
      (omega linear, below_ready g.ready n b)

  -- whatever writes the part writes what is left of the node
  onward : {n : ℕ} {o' : Output ℤ} → Below t r n → ((o'' : Output ℤ) → Written o' (W n) o'' → Written o (W r) o'') → Next n o'
  onward {n} b f =
      let i = b.0 in
      let w = g.within in
      record { ready = below_ready g.ready n b; within = omega linear; words = λ o'' x. g.words o'' (f o'' x) }

  -- ---- a choice

  module _ {f a b : ℕ} (c : Choice t r f a b) where
    choice_words :
        W r
        ≡ ands (marked follow f) (marked follow a) (marked follow b)
        ++ (W f
        ++ ((lead (marked follow a) (premise false (formula_under t path j f)) ++ W a)
        ++ (lead (marked follow b) (premise true (formula_under t path j f)) ++ W b)))
    unfolding formula_words replaceᶠ
    choice_words =
        let τ = under t path j in
        let first = part_marked g.ready (expression_below t c.first) in
        let second = part_marked g.ready (expression_below t c.second) in
        ap (words_of τ) c.is
        ∙ (three_under τ (divisors_at t f) (behind (formula_at t f) (divisors_at t a)) (behind (not (formula_at t f)) (divisors_at t b))
        (part_marked g.ready (formula_below t c.by))
        (behind_stands (formula_at t f) (divisors_at t a) ∙ first) (behind_stands (not (formula_at t f)) (divisors_at t b) ∙ second)
        ∙ ap₂
        (λ us vs. ands (marked follow f) (marked follow a) (marked follow b) ++ (W f ++ (us ++ vs)))
        (behind_under τ (formula_at t f) (divisors_at t a) first) (behind_under τ (not (formula_at t f)) (divisors_at t b) second))

    pub choice_turn : {o₁ o₂ o₃ o₄ o₅ : Output ℤ}
        → Written o (ands (marked follow f) (marked follow a) (marked follow b)) o₁
        → Written o₁ (W f) o₂
        → Written o₂ (lead (marked follow a) (premise false (formula_under t path j f))) o₃
        → Written o₃ (W a) o₄
        → Written o₄ (lead (marked follow b) (premise true (formula_under t path j f))) o₅
        → Next b o₅
    choice_turn w₁ w₂ w₃ w₄ w₅ =
        onward (expression_below t c.second) (λ o'' w. written_as (sym choice_words) (then w₁ (then w₂ (then (then w₃ w₄) (then w₅ w)))))

  -- ---- two parts

  module _ {n a b : ℕ} (c : Pair t r n a b) where
    pair_words : {d : Bool} → d ≡ division n
        → W r
        ≡ ands (marked follow a) (marked follow b) d
        ++ (W a ++ (W b ++ lead d (unequal_zero (expr_under t path j b))))
    pair_words {d} e =
        let τ = under t path j in
        ap (words_of τ) c.is
        ∙ (three_under τ (divisors_at t a) (divisors_at t b) (divisor_of (division n) (expr_at t b))
        (part_marked g.ready c.first) (part_marked g.ready c.second) (divisor_of_stands (division n) (expr_at t b) ∙ sym e)
        ∙ ap (λ us. ands (marked follow a) (marked follow b) d ++ (W a ++ (W b ++ us)))
        (divisor_under τ (division n) (expr_at t b) ∙ ap (λ x. lead x (unequal_zero (expr_under t path j b))) (sym e)))

    pub divisor_node : {d : Bool} → d ≡ division n → d ≡ true → Ready t path j b Sort.Expression
    divisor_node e h = part_node g.ready (c.second.0, c.divisor_sort (sym e ∙ h))

    pub division_written : {d : Bool} {o₁ o₂ o₃ o' : Output ℤ} → d ≡ division n → d ≡ true
        → Written o (ands (marked follow a) (marked follow b) true) o₁
        → Written o₁ (W a) o₂
        → Written o₂ (W b) o₃
        → Written o₃ (unequal_zero (expr_under t path j b)) o'
        → Written o₀ whole o'
    division_written {o' = o'} e h w₁ w₂ w₃ w₄ =
        g.words o' (written_as (sym (pair_words (sym h ∙ e))) (then w₁ (then w₂ (then w₃ w₄))))

    pub pair_turn : {d : Bool} {o₁ o₂ : Output ℤ} → d ≡ division n → d ≡ false
        → Written o (ands (marked follow a) (marked follow b) false) o₁
        → Written o₁ (W a) o₂
        → Next b o₂
    pair_turn e h w₁ w₂ =
        onward c.second
        (λ o'' w. written_as (sym (pair_words (sym h ∙ e))) (then w₁ (then w₂ (written_as (sym (append-nil (W b))) w))))

  -- ---- the node, from what was read

  module _ {k : ℕ} (read : k ≡ field_number (word t r 0)) where
    pub choice_here : {f a b : ℕ} → k ≡ 10 → f ≡ field_number (word t r 1) → a ≡ field_number (word t r 2)
        → b ≡ field_number (word t r 3) → Choice t r f a b
    choice_here e hf ha hb = choice t g.ready.table r g.ready.inside read e hf ha hb

    -- a source that is no choice: a leaf has no D, a negation no word of its own
    module _ {n : ℕ} (from : Source t n r) where
      no_leaf : divisors_at t r ≡ none → ⊥
      no_leaf e = false≢true (sym (ap stands e) ∙ from.stood)

      pub pair_here : {a b : ℕ} → (k ≡ 10 → ⊥) → a ≡ field_number (word t r 1) → b ≡ field_number (word t r 2) → Pair t r k a b
      pair_here no-choice ha hb =
          let ok = g.ready.table in
          let h = g.ready.inside in
          pair t ok r h read ha hb g.ready.node (
            (
              (
                ((tt, λ e. no_leaf (constant_none t ok r h read e)), λ e. no_leaf (variable_none t ok r h read e)),
                λ e. no_negation t ok r h read e from.own,
              ),
              λ e. no_leaf (mark_none t ok r h read e),
            ),
            no-choice,
          ) (
            ((tt, λ e. no_leaf (true_none t ok r h read e)), λ e. no_leaf (false_none t ok r h read e)),
            λ e. no_denial t ok r h read e from.own,
          )
