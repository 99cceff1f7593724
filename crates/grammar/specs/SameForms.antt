-- The tree at the row of a form is made of the trees at its parts (`form_means`). Assumes nothing.
use Prim.Native.Nat.{ℕ, zero, suc, ◌+◌, ◌≤◌}
use Rattle.std.specs.Prelude.{◌≡◌, List, [], ◌∷◌, true, false, ℤ, pos, get_or}
use Rattle.std.proofs.Math.Path.{refl, subst}
use Rattle.std.proofs.Common.{sym, arith as linear}
use Rattle.std.proofs.Math.Option.{none}
use Rattle.script.specs.Rows.{row_of, row}
use Rattle.script.specs.Trees.{expr as expr_in, formula as formula_in, stmt as stmt_in}
use Rattle.theorems.specs.Options.{none_is_not}
use Rattle.grammar.specs.Sorts.{Sort, sort-discrete, expression, formula, statement, only, takes}
use Rattle.grammar.specs.Forms.{Place, in_group, in_mark, when_first, when_second, when_third, if_guard, if_then, if_else, while_guard, while_keep, while_fall, while_body, script_pre, script_body, script_post, place_takes, place_makes, next_place, while_form}
use Rattle.grammar.specs.Grammar.{Phrase, Chain, begun, more, place, sort, GoodChain}
use Rattle.grammar.specs.Counts.{size, chain_size, form_size, begins_body, last, roots}
use Rattle.grammar.specs.Rows.{Quad, quad, nth_loop, counts, form_rows, note_rows}
use Rattle.grammar.specs.Trees.{Value, to_expr, to_formula, nth, form_value, value, chain_values}
use Rattle.grammar.specs.Tests.{same_is}
use Rattle.grammar.specs.Sizes.{sized}
use Rattle.grammar.specs.Shapes.{form_of, at_third, at_fourth, Two, Three}
use Rattle.grammar.specs.SameRows.{quad_row, Stands, stands_at, Means}

module _ (ws : List ℤ) where
  -- ---- the parts of a chain

  abbrev pub ChainMeans : ℕ → List ℕ → ℕ → Chain → Type 0
  ChainMeans n ls b (begun f) = Unit {0}
  ChainMeans n ls b (more c x q) =
      ChainMeans n ls b c × Means ws (sort x) n (last (b + chain_size c) (size x)) (value ls (b + chain_size c) x)
      × Stands ws (b + chain_size c + size x) (note_rows (begins_body q) (roots b c) (last (b + chain_size c) (size x)))

  sort_is : (p : Place) (x : Phrase) (s : Sort) → place_takes p ≡ only s → takes (place_takes p) (sort x) ≡ true → sort x ≡ s
  sort_is p x s e t = sym (same_is sort-discrete s (sort x) (rw e at t))

  -- two parts before the last, of the sorts s and t
  abbrev Parts : Sort → Sort → ℕ → List ℕ → ℕ → Chain → Type 0
  Parts s t n ls b c = Means ws s n (get_or (roots b c) 1 0) (nth (chain_values ls b c) 1) × Means ws t n (get_or (roots b c) 0 0) (nth (chain_values ls b c) 0)

  two_means : (c : Chain) (p q r : Place) (s t : Sort) (n : ℕ) (ls : List ℕ) (b : ℕ) → Two c p q r → begins_body q ≡ false → begins_body r ≡ false
      → place_takes p ≡ only s → place_takes q ≡ only t → ChainMeans n ls b c → Parts s t n ls b c
  unfolding roots chain_values
  two_means c p q r s t n ls b w i j e f h =
      let d = more (more (begun (form_of p)) w.first q) w.second r in
      let g : ChainMeans n ls b d = subst (λ (k : Chain). ChainMeans n ls b k) w.is h in
      subst (λ (k : Chain). Parts s t n ls b k) (sym w.is)
      (rw (i, j) (rw (sort_is p w.first s e w.first_fits) at g.0.1, rw (sort_is q w.second t f w.second_fits) at g.1))

  -- what stands before the body of a loop: its guard, and its note with the invariant and the variant
  record Loop (n : ℕ) (ls : List ℕ) (b : ℕ) (c : Chain) : Type 0 where
    guard : formula_in ws n (get_or (roots b c) 1 0) ≡ to_formula (nth (chain_values ls b c) 2)
    keep : ℕ
    fall : ℕ
    note : row ws (get_or (roots b c) 0 0) ≡ quad_row (quad (pos 37) keep fall 0)
    keeps : formula_in ws n keep ≡ to_formula (nth (chain_values ls b c) 1)
    falls : expr_in ws n fall ≡ to_expr (nth (chain_values ls b c) 0)

  loop_means : (c : Chain) (n : ℕ) (ls : List ℕ) (b : ℕ) → Three c while_guard while_keep while_fall while_body → ChainMeans n ls b c → Loop n ls b c
  unfolding roots chain_values
  loop_means c n ls b w h =
      let e = begun while_form in
      let f = more e w.first while_keep in
      let g = more f w.second while_fall in
      let d = more g w.third while_body in
      let k : ChainMeans n ls b d = subst (λ (k : Chain). ChainMeans n ls b k) w.is h in
      let third = sort_is while_fall w.third expression refl w.third_fits in
      let one : 1 ≤ size w.third = sized w.third (rw third) in
      subst (λ (k : Chain). Loop n ls b k) (sym w.is)
      (record {
        guard = rw (sort_is while_guard w.first formula refl w.first_fits) at k.0.0.1;
        keep = last (b + chain_size f) (size w.second);
        fall = last (b + chain_size g) (size w.third);
        note = (stands_at ws (quad (pos 37) (last (b + chain_size f) (size w.second)) (last (b + chain_size g) (size w.third)) 0 ∷ []) (omega linear) k.2).0;
        keeps = rw (sort_is while_keep w.second formula refl w.second_fits) at k.0.1;
        falls = rw third at k.1;
      })

  -- ---- a form

  module _ (c : Chain) (x : Phrase) (v : Value) (ls : List ℕ) (b : ℕ) (good : GoodChain c)
      (front : (n : ℕ) → 1 ≤ n → b + chain_size c ≤ n → ChainMeans n ls b c)
      (part : (n : ℕ) → 1 ≤ n → b + chain_size c + size x ≤ n → Means ws (sort x) n (last (b + chain_size c) (size x)) v) where
    -- a place, with its row standing after its parts
    abbrev FormMeans : Place → Type 0
    FormMeans p =
        (n : ℕ) → place c ≡ p → takes (place_takes p) (sort x) ≡ true → 1 ≤ n → b + (chain_size c + size x + form_size p) ≤ n
        → Stands ws (b + chain_size c + size x) (form_rows p (nth_loop ls (counts x)) (roots b c) (last (b + chain_size c) (size x)))
        → Means ws (place_makes p (sort x)) n (last b (chain_size c + size x + form_size p))
        (form_value p (last b (chain_size c + size x + form_size p)) (nth_loop ls (counts x)) (chain_values ls b c) v)

    -- the form's own row
    own_row : (q : Quad) → Stands ws (b + chain_size c + size x) (q ∷ []) → row ws (last b (chain_size c + size x + 1)) ≡ quad_row q
    own_row q h = (stands_at ws {c = last b (chain_size c + size x + 1)} (q ∷ []) (omega linear) h).0

    group_means : FormMeans in_group
    group_means n e t l m h = subst (λ (r : ℕ). Means ws (sort x) n r v) (omega linear) (part n l (omega linear))

    mark_means : FormMeans in_mark
    unfolding expr_in row_of
    mark_means zero e t l m h = absurd (omega linear)
    mark_means (suc n) e t l m h = rw (own_row (quad (pos 9) (nth_loop ls (counts x)) 0 0) h)

    when_means : FormMeans when_third
    unfolding expr_in row_of
    when_means zero e t l m h = absurd (omega linear)
    when_means (suc n) e t l m h =
        let s = sort_is when_third x expression refl t in
        let one : 1 ≤ size x = sized x (rw s) in
        let w = at_third c when_first when_second when_third good e refl refl refl in
        let ps = two_means c when_first when_second when_third formula expression n ls b w refl refl refl refl (front n (omega linear) (omega linear)) in
        rw (
          own_row (quad (pos 10) (get_or (roots b c) 1 0) (get_or (roots b c) 0 0) (last (b + chain_size c) (size x))) h,
          ps.0,
          ps.1,
          (rw s at (part n (omega linear) (omega linear))),
        )

    if_means : FormMeans if_else
    unfolding stmt_in row_of
    if_means zero e t l m h = absurd (omega linear)
    if_means (suc n) e t l m h =
        let s = sort_is if_else x statement refl t in
        let one : 1 ≤ size x = sized x (rw s) in
        let w = at_third c if_guard if_then if_else good e refl refl refl in
        let ps = two_means c if_guard if_then if_else formula statement n ls b w refl refl refl refl (front n (omega linear) (omega linear)) in
        rw (
          own_row (quad (pos 35) (get_or (roots b c) 1 0) (get_or (roots b c) 0 0) (last (b + chain_size c) (size x))) h,
          ps.0,
          ps.1,
          (rw s at (part n (omega linear) (omega linear))),
        )

    script_means : FormMeans script_post
    unfolding row_of
    script_means n e t l m h =
        let s = sort_is script_post x formula refl t in
        let one : 1 ≤ size x = sized x (rw s) in
        let w = at_third c script_pre script_body script_post good e refl refl refl in
        let ps = two_means c script_pre script_body script_post formula statement n ls b w refl refl refl refl (front n l (omega linear)) in
        rw (
          own_row (quad (pos 48) (get_or (roots b c) 1 0) (get_or (roots b c) 0 0) (last (b + chain_size c) (size x))) h,
          ps.0,
          ps.1,
          (rw s at (part n l (omega linear))),
        )

    while_means : FormMeans while_body
    unfolding stmt_in row_of
    while_means zero e t l m h = absurd (omega linear)
    while_means (suc n) e t l m h =
        let s = sort_is while_body x statement refl t in
        let one : 1 ≤ size x = sized x (rw s) in
        let w = at_fourth c while_guard while_keep while_fall while_body good e refl refl refl refl in
        let k = loop_means c n ls b w (front n (omega linear) (omega linear)) in
        rw (
          own_row (quad (pos 36) (get_or (roots b c) 1 0) (get_or (roots b c) 0 0) (last (b + chain_size c) (size x))) h,
          k.note,
          k.guard,
          k.keeps,
          k.falls,
          (rw s at (part n (omega linear) (omega linear))),
        )

    pub form_means : (p : Place) → next_place p ≡ none → FormMeans p
    form_means in_group k = group_means
    form_means in_mark k = mark_means
    form_means when_first k = none_is_not (sym k)
    form_means when_second k = none_is_not (sym k)
    form_means when_third k = when_means
    form_means if_guard k = none_is_not (sym k)
    form_means if_then k = none_is_not (sym k)
    form_means if_else k = if_means
    form_means while_guard k = none_is_not (sym k)
    form_means while_keep k = none_is_not (sym k)
    form_means while_fall k = none_is_not (sym k)
    form_means while_body k = while_means
    form_means script_pre k = none_is_not (sym k)
    form_means script_body k = none_is_not (sym k)
    form_means script_post k = script_means
