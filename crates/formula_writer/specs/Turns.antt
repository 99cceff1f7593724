-- What holds at each turn of the two writers: whatever writes the node at hand, from the present place on, writes the whole
-- from the first place on (`words`). There is a law for each kind of row: what is written, or how the next turn goes on with
-- the last part. Assumes nothing.
use Rattle.std.specs.Prelude.{ℕ, ◌+◌, ◌≤◌, ◌<◌, ◌≡◌, refl, List, [], ◌∷◌, ℤ, pos, length, Option, Some, None}
use Rattle.std.proofs.Common.{arith as linear}
use Rattle.script.specs.declared.RowNumber.{RowNumber}
use Rattle.script.specs.declared.Sort.{Sort}
use Rattle.script.specs.declared.Sort.TheVariants.{Expression, Formula}
use Rattle.script.specs.Words.{expr_words}
use Rattle.script.specs.Rows.{field_number, row_of, variables, word}
use Rattle.output.specs.declared.Output.{Output}
use Rattle.output.specs.Written.{Written, no_room, then}
use Rattle.formula_writer.specs.Links.{Linked}
use Rattle.formula_writer.specs.Nodes.{Ready, base, variable_small, mark_small, links_at, at_expr, at_formula}
use Rattle.formula_writer.specs.Paths.{replaceᵉ, under, expr_under, formula_under}
use Rattle.formula_writer.specs.Replacing.{Replaced, Stands, stands_itself, stands_value}
use Rattle.formula_writer.specs.Kinds.{of_kind, PastExpressions, PastFormulas, Operation, operation, operation_small, Compared, comparison, Joined, junction, pair_small}

-- the node of sort s at row r under j assignments, with the words `part`; m is the measure at the start
pub record Turn (t path : List ℤ) (s : Sort) (m : ℕ) (whole : List ℤ) (o₀ : Output ℤ) (part : List ℤ) (j r : ℕ) (o : Output ℤ) : Type 0 where
  pub ready : Ready t path j r s
  pub within : base j + (r + 1) ≤ m
  pub words : (o'' : Output ℤ) → Written o part o'' → Written o₀ whole o''

pub begun : {t path ws : List ℤ} {s : Sort} {j r : ℕ} {o : Output ℤ} → Ready t path j r s → Turn t path s (base j + (r + 1)) ws o ws j r o
begun g = record { ready = g; within = omega linear; words = λ o'' w. w }

module _ {t path whole part : List ℤ} {s : Sort} {m j r : ℕ} {o₀ o : Output ℤ} (g : Turn t path s m whole o₀ part j r o) where
  pub full : length o.list.now < o.at → Written o₀ whole o
  full h = g.words o (no_room part h)

  -- a part, at row n

  linked_as : (s' : Sort) {n a : ℕ} → n ≡ a → Linked t r a s' → Linked t r n s'
  linked_as s' e h = rw e h

  pub part_falls : (n : ℕ) → n < r → base j + (n + 1) < base j + (r + 1)
  part_falls n h = omega linear

  pub part_ready : {n k : ℕ} {s' : Sort} → m ≡ k → Linked t r n s' → (base j + (n + 1) < k) × Ready t path j n s'
  part_ready e h =
      let i = g.ready.inside in
      let f = g.within in
      let d = h.0 in
      (omega linear, record { table = g.ready.table; along = g.ready.along; inside = omega linear; sort = h.1 })

  -- whatever writes the part writes what is left of the node
  onward : {n : ℕ} {part' : List ℤ} {o' : Output ℤ} → Linked t r n s
      → ((o'' : Output ℤ) → Written o' part' o'' → Written o part o'') → Turn t path s m whole o₀ part' j n o'
  onward h f =
      let d = h.0 in
      let w = g.within in
      record { ready = (part_ready refl h).1; within = omega linear; words = λ o'' x. g.words o'' (f o'' x) }

-- ---- an expression

module _ {t path whole : List ℤ} {m j r : ℕ} {o₀ o : Output ℤ} (g : Turn t path Expression m whole o₀ (expr_under t path j r) j r o)
    {k : ℕ} (read : k ≡ field_number (word t r 0)) where
  -- a turn under i assignments
  abbrev Next : ℕ → ℕ → Output ℤ → Type 0
  Next i n o' = Turn t path Expression m whole o₀ (expr_under t path i n) i n o'

  pub constant_written : {o' : Output ℤ} → k ≡ 1 → Written o (pos 1 ∷ word t r 1 ∷ []) o' → Written o₀ whole o'
  unfolding row_of expr_words replaceᵉ
  constant_written {o'} e w = g.words o' (at_expr g.ready (of_kind t r k read 1 e) w)

  -- ---- a variable, and the value that stands in its place

  module _ (e : k ≡ 2) {v : ℕ} (named : v ≡ field_number (word t r 1)) where
    pub variable_fits : v < variables
    unfolding row_of
    variable_fits = rw named (variable_small g.ready (of_kind t r k read 2 e))

    spelled : {o' : Output ℤ} → Written o (expr_words (under t path j v)) o' → Written o (expr_under t path j r) o'
    unfolding row_of replaceᵉ
    spelled w = at_expr g.ready (of_kind t r k read 2 e) (rw named at w)

    module _ {o' : Output ℤ} {w : Option (RowNumber × ℕ)} (replaced : Replaced t path v j o o' w) where
      pub variable_written : w ≡ None → Written o₀ whole o'
      unfolding expr_words
      variable_written is =
          let r = replaced.itself is in
          g.words o' (spelled (rw (stands_itself g.ready.table g.ready.along r.0) r.1))

      module _ {x : RowNumber × ℕ} (is : w ≡ Some x) where
        same_output : o' ≡ o
        same_output = (replaced.value x is).1.1

        value : Stands t path v j x.0.0 x.1
        value = let r = replaced.value x is in stands_value g.ready.table g.ready.along r.0 r.1.0

        pub value_falls : base x.1 + (x.0.0 + 1) < base j + (r + 1)
        value_falls =
            let earlier = value.earlier in
            let inside = value.ready.inside in
            let short = g.ready.table.short in
            omega linear

        pub value_turn : Next x.1 x.0.0 o'
        value_turn =
            let falls = value_falls in
            let within = g.within in
            record {
              ready = value.ready;
              within = omega linear;
              words = λ o'' y. g.words o'' (spelled (rw value.is (rw same_output at y)));
            }

  -- ---- a negation

  module _ (e : k ≡ 8) {n : ℕ} (h : n ≡ field_number (word t r 1)) where
    pub negated : Linked t r n Expression
    unfolding row_of
    negated = linked_as g Expression h (links_at g.ready (of_kind t r k read 8 e)).0

    pub negate_turn : {o' : Output ℤ} → Written o (pos 8 ∷ []) o' → Next j n o'
    unfolding row_of expr_words replaceᵉ
    negate_turn w = onward g negated (λ o'' x. at_expr g.ready (of_kind t r k read 8 e) (then w (rw h at x)))

  -- ---- a mark

  module _ (e : k ≡ 9) {n : ℕ} (h : n ≡ field_number (word t r 1)) where
    pub mark_fits : n < 2048
    unfolding row_of
    mark_fits = rw h (mark_small g.ready (of_kind t r k read 9 e))

    pub mark_written : {o' : Output ℤ} → Written o (pos 9 ∷ pos n ∷ []) o' → Written o₀ whole o'
    unfolding row_of expr_words replaceᵉ
    mark_written {o'} w = g.words o' (at_expr g.ready (of_kind t r k read 9 e) (rw h at w))

  -- ---- a choice, with the parts a, b and c

  module _ (e : k ≡ 10) {a b c : ℕ} (ha : a ≡ field_number (word t r 1)) (hb : b ≡ field_number (word t r 2)) (hc : c ≡ field_number (word t r 3)) where
    pub chosen : Linked t r a Formula × Linked t r b Expression × Linked t r c Expression
    unfolding row_of
    chosen =
        let l = links_at g.ready (of_kind t r k read 10 e) in
        (linked_as g Formula ha l.0, linked_as g Expression hb l.1.0, linked_as g Expression hc l.1.1.0)

    pub choose_turn : {o₁ o₂ o₃ : Output ℤ} → Written o (pos 10 ∷ []) o₁ → Written o₁ (formula_under t path j a) o₂
        → Written o₂ (expr_under t path j b) o₃ → Next j c o₃
    unfolding row_of expr_words replaceᵉ
    choose_turn w f x =
        onward g chosen.2
        (λ o'' y. at_expr g.ready (of_kind t r k read 10 e) (then w (then (rw ha at f) (then (rw hb at x) (rw hc at y)))))

  -- ---- an operator, with the parts a and b

  module _ (past : PastExpressions k) where
    operator : Operation t r k
    operator = operation t r k read g.ready.sort past

    pub operator_fits : k < 64
    operator_fits = operation_small t r k read operator

    module _ {a b : ℕ} (ha : a ≡ field_number (word t r 1)) (hb : b ≡ field_number (word t r 2)) where
      pub operands : Linked t r a Expression × Linked t r b Expression
      operands = let l = links_at g.ready operator.is in (linked_as g Expression ha l.0, linked_as g Expression hb l.1.0)

      pub operator_turn : {o₁ o₂ : Output ℤ} → Written o (pos k ∷ []) o₁ → Written o₁ (expr_under t path j a) o₂
          → Next j b o₂
      unfolding expr_words replaceᵉ
      operator_turn w x =
          onward g operands.1
          (λ o'' y. at_expr g.ready operator.is (then (rw operator.spelled at w) (then (rw ha at x) (rw hb at y))))

-- ---- a formula

module _ {t path whole : List ℤ} {m j r : ℕ} {o₀ o : Output ℤ} (g : Turn t path Formula m whole o₀ (formula_under t path j r) j r o)
    {k : ℕ} (read : k ≡ field_number (word t r 0)) where
  abbrev Nextᶠ : ℕ → Output ℤ → Type 0
  Nextᶠ n o' = Turn t path Formula m whole o₀ (formula_under t path j n) j n o'

  pub true_written : {o' : Output ℤ} → k ≡ 16 → Written o (pos 16 ∷ []) o' → Written o₀ whole o'
  unfolding row_of expr_words replaceᵉ
  true_written {o'} e w = g.words o' (at_formula g.ready (of_kind t r k read 16 e) w)

  pub false_written : {o' : Output ℤ} → k ≡ 17 → Written o (pos 17 ∷ []) o' → Written o₀ whole o'
  unfolding row_of expr_words replaceᵉ
  false_written {o'} e w = g.words o' (at_formula g.ready (of_kind t r k read 17 e) w)

  -- ---- a negation

  module _ (e : k ≡ 22) {n : ℕ} (h : n ≡ field_number (word t r 1)) where
    pub denied : Linked t r n Formula
    unfolding row_of
    denied = linked_as g Formula h (links_at g.ready (of_kind t r k read 22 e)).0

    pub not_turn : {o' : Output ℤ} → Written o (pos 22 ∷ []) o' → Nextᶠ n o'
    unfolding row_of expr_words replaceᵉ
    not_turn w = onward g denied (λ o'' x. at_formula g.ready (of_kind t r k read 22 e) (then w (rw h at x)))

  -- ---- a relation or a connective, with the parts a and b

  module _ (past : PastFormulas k) where
    pub pair_fits : k < 64
    pair_fits = pair_small t r k read g.ready.sort past

    module _ {a b : ℕ} (ha : a ≡ field_number (word t r 1)) (hb : b ≡ field_number (word t r 2)) where
      module _ (low : k < 22) where
        relation : Compared t r k
        relation = comparison t r k read g.ready.sort past low

        pub compared : Linked t r a Expression × Linked t r b Expression
        compared = let l = links_at g.ready relation.is in (linked_as g Expression ha l.0, linked_as g Expression hb l.1.0)

        pub relation_written : {o₁ o₂ o' : Output ℤ} → Written o (pos k ∷ []) o₁
            → Written o₁ (expr_under t path j a) o₂ → Written o₂ (expr_under t path j b) o' → Written o₀ whole o'
        unfolding expr_words replaceᵉ
        relation_written {o' = o'} w x y =
            g.words o' (at_formula g.ready relation.is (then (rw relation.spelled at w) (then (rw ha at x) (rw hb at y))))

      module _ (high : 22 ≤ k) where
        connective : Joined t r k
        connective = junction t r k read g.ready.sort past high

        pub joined : Linked t r a Formula × Linked t r b Formula
        joined = let l = links_at g.ready connective.is in (linked_as g Formula ha l.0, linked_as g Formula hb l.1.0)

        pub connective_turn : {o₁ o₂ : Output ℤ} → Written o (pos k ∷ []) o₁ → Written o₁ (formula_under t path j a) o₂
            → Nextᶠ b o₂
        unfolding expr_words replaceᵉ
        connective_turn w x =
            onward g joined.1
            (λ o'' y. at_formula g.ready connective.is (then (rw connective.spelled at w) (then (rw ha at x) (rw hb at y))))
