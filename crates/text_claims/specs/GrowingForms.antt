-- The rows of every phrase are one part of the table that they stand in (`grows`), by induction: forms put their parts
-- together as `Growing` has it of operators. So the rows of a script are one part (`script_grown`). Assumes nothing.
use Prim.Native.Nat.{ℕ, suc, ◌+◌, ◌-◌, ◌≤◌, ◌<◌}
use native.Mathlib.Omega.{arith as linear}
use Rattle.std.specs.Prelude.{◌≡◌, true, ℤ, pos}
use Rattle.std.proofs.Math.Path.{refl, subst}
use Rattle.std.proofs.Common.{sym, ap}
use Rattle.std.proofs.Math.Option.{none}
use mathlib.Core.List.{List, [], ◌∷◌}
use Rattle.std.proofs.Math.Bool.{false}
use Rattle.script.specs.Rows.{rows}
use Rattle.script.specs.Refusals.{linked}
use Rattle.theorems.specs.Options.{none_is_not}
use Rattle.grammar.specs.Tests.{false_is_not, same_is}
use Rattle.grammar.specs.Sorts.{Sort, sort-discrete, number, expression, formula, statement, script, same_sort, only, takes}
use Rattle.grammar.specs.Operators.{semicolon, connective, relation, operator, not_prefix, minus_prefix, assert_prefix, assign_prefix}
use Rattle.grammar.specs.Forms.{Place, in_group, in_mark, when_first, when_second, when_third, if_guard, if_then, if_else, while_guard, while_keep, while_fall, while_body, script_pre, script_body, script_post, group_form, mark_form, when_form, if_form, while_form, script_form, place_takes, next_place}
use Rattle.grammar.specs.Tokens.{constant_leaf, number_leaf, variable_leaf, truth_leaf, skip_leaf}
use Rattle.grammar.specs.Grammar.{Phrase, leaf, before, between, closed, Chain, begun, more, place, sort, Good, GoodChain}
use Rattle.grammar.specs.Counts.{size, chain_size, last, roots}
use Rattle.grammar.specs.Rows.{Quad, quad, nth_loop, counts, by_row, table}
use Rattle.grammar.specs.Ranges.{All, flags}
use Rattle.grammar.specs.Shapes.{at_first, at_third, at_fourth}
use Rattle.grammar.specs.PhraseParts.{no_number}
use Rattle.text_claims.specs.Growing.{Given, Grows, nth_low, leaf_grows, before_grows, between_grows, parts_of}
use Rattle.text_claims.specs.Spans.{Grown, grown_as, above_as, above_part, no_front, with_part, node}
use Rattle.text_claims.specs.RowShapes.{row_sort, HoldsRow, Holds, sound_at, mark_shape, when_shape, if_shape, while_shape, script_shape, note_shape}

-- the number of a mark makes no row
number_rowless : (x : Phrase) → Good x → same_sort number (sort x) ≡ true → size x ≡ 0
unfolding Good size
number_rowless (leaf (constant_leaf n)) g e = false_is_not e
number_rowless (leaf (number_leaf n)) g e = refl
number_rowless (leaf (variable_leaf v)) g e = false_is_not e
number_rowless (leaf (truth_leaf b)) g e = false_is_not e
number_rowless (leaf skip_leaf) g e = false_is_not e
number_rowless (before not_prefix x) g e = false_is_not e
number_rowless (before minus_prefix x) g e = false_is_not e
number_rowless (before assert_prefix x) g e = false_is_not e
number_rowless (before (assign_prefix v) x) g e = false_is_not e
number_rowless (between semicolon x y) g e = false_is_not e
number_rowless (between (connective c) x y) g e = false_is_not e
number_rowless (between (relation r) x y) g e = false_is_not e
number_rowless (between (operator o) x y) g e = false_is_not e
number_rowless (closed c x) g e = absurd (no_number (place c) (sort x) g.2 e)

sort_is : (s : Sort) (x : Phrase) → takes (only s) (sort x) ≡ true → sort x ≡ s
sort_is s x t = sym (same_is sort-discrete s (sort x) t)

module _ (ws : List ℤ) (filled : 0 < rows ws) where
  -- ---- forms

  group_grows : (x : Phrase) → Grows ws filled x → Grows ws filled (closed (begun group_form) x)
  unfolding flags size table
  group_grows x inner e d m ls b g a =
      let k = parts_of ws filled (begun group_form) x d m ls b g in
      grown_as ws (omega linear) (omega linear) refl (inner e d false ls (b + 0) k.back (above_as ws (omega linear) a))

  mark_grows : (x : Phrase) → size x ≡ 0 → Grows ws filled (closed (begun mark_form) x)
  unfolding flags size table
  mark_grows x n e d m ls b g a =
      let k = parts_of ws filled (begun mark_form) x d m ls b g in
      let named = nth_low ws filled ls (counts x - 1) g.low in
      grown_as ws (omega linear) (omega linear) refl
      (node ws (no_front ws (b + 0 + size x) (above_as ws (omega linear) a)) refl
      (sound_at ws k.own.0 (mark_shape ws (nth_loop ls (counts x)) named)))

  module _ (x y z : Phrase) (gx : Grows ws filled x) (gy : Grows ws filled y) (gz : Grows ws filled z) where
    when_grows : sort x ≡ formula → sort y ≡ expression → sort z ≡ expression
        → Grows ws filled (closed (more (more (begun when_form) x when_second) y when_third) z)
    unfolding flags size table roots
    when_grows s t u e d m ls b g a =
        let c1 = more (begun when_form) x when_second in
        let c = more c1 y when_third in
        let k = parts_of ws filled c z d m ls b g in
        let low = above_as ws {c = b + 0} (omega linear) a in
        let i = grown_as ws refl refl (ap row_sort s) (gx (rw s) d false ls (b + 0) k.front.0.1 low) in
        let j = grown_as ws refl refl (ap row_sort t) (gy (rw t) d false ls (b + chain_size c1) k.front.1 (above_part ws (omega linear) i)) in
        let l = grown_as ws refl refl (ap row_sort u) (gz (rw u) d false ls (b + chain_size c) k.back (above_part ws (omega linear) j)) in
        let f = with_part ws (with_part ws (with_part ws (no_front ws (b + 0) low) refl i) (omega linear) j) (omega linear) l in
        grown_as ws (omega linear) (omega linear) refl (node ws f refl (sound_at ws k.own.0 (when_shape ws _ _ _)))

    if_grows : sort x ≡ formula → sort y ≡ statement → sort z ≡ statement
        → Grows ws filled (closed (more (more (begun if_form) x if_then) y if_else) z)
    unfolding flags size table roots
    if_grows s t u e d m ls b g a =
        let c1 = more (begun if_form) x if_then in
        let c = more c1 y if_else in
        let k = parts_of ws filled c z d m ls b g in
        let low = above_as ws {c = b + 0} (omega linear) a in
        let i = grown_as ws refl refl (ap row_sort s) (gx (rw s) d false ls (b + 0) k.front.0.1 low) in
        let j = grown_as ws refl refl (ap row_sort t) (gy (rw t) d false ls (b + chain_size c1) k.front.1 (above_part ws (omega linear) i)) in
        let l = grown_as ws refl refl (ap row_sort u) (gz (rw u) d false ls (b + chain_size c) k.back (above_part ws (omega linear) j)) in
        let f = with_part ws (with_part ws (with_part ws (no_front ws (b + 0) low) refl i) (omega linear) j) (omega linear) l in
        grown_as ws (omega linear) (omega linear) refl (node ws f refl (sound_at ws k.own.0 (if_shape ws _ _ _)))

    script_grows : sort x ≡ formula → sort y ≡ statement → sort z ≡ formula
        → Grows ws filled (closed (more (more (begun script_form) x script_body) y script_post) z)
    unfolding flags size table roots
    script_grows s t u e d m ls b g a =
        let c1 = more (begun script_form) x script_body in
        let c = more c1 y script_post in
        let k = parts_of ws filled c z d m ls b g in
        let low = above_as ws {c = b + 0} (omega linear) a in
        let i = grown_as ws refl refl (ap row_sort s) (gx (rw s) d false ls (b + 0) k.front.0.1 low) in
        let j = grown_as ws refl refl (ap row_sort t) (gy (rw t) d false ls (b + chain_size c1) k.front.1 (above_part ws (omega linear) i)) in
        let l = grown_as ws refl refl (ap row_sort u) (gz (rw u) d false ls (b + chain_size c) k.back (above_part ws (omega linear) j)) in
        let f = with_part ws (with_part ws (with_part ws (no_front ws (b + 0) low) refl i) (omega linear) j) (omega linear) l in
        grown_as ws (omega linear) (omega linear) refl (node ws f refl (sound_at ws k.own.0 (script_shape ws _ _ _)))

    while_grows : (v : Phrase) → Grows ws filled v → sort x ≡ formula → sort y ≡ formula → sort z ≡ expression → sort v ≡ statement
        → Grows ws filled (closed (more (more (more (begun while_form) x while_keep) y while_fall) z while_body) v)
    unfolding flags size table roots
    while_grows v gv s t u w e d m ls b g a =
        let c1 = more (begun while_form) x while_keep in
        let c2 = more c1 y while_fall in
        let c = more c2 z while_body in
        let k = parts_of ws filled c v d m ls b g in
        let r = last b (chain_size c + size v + 1) in
        let low = above_as ws {c = b + 0} (omega linear) a in
        let i = grown_as ws refl refl (ap row_sort s) (gx (rw s) d false ls (b + 0) k.front.0.0.1 low) in
        let next = above_part ws {c = b + chain_size c1} (omega linear) i in
        let j = grown_as ws refl refl (ap row_sort t) (gy (rw t) d false ls (b + chain_size c1) k.front.0.1 next) in
        let l = grown_as ws refl refl (ap row_sort u) (gz (rw u) d false ls (b + chain_size c2) k.front.1 (above_part ws (omega linear) j)) in
        let note = node ws (with_part ws (with_part ws (no_front ws (b + chain_size c1) next) refl j) (omega linear) l) refl
        (sound_at ws k.front.2.0 (note_shape ws _ _)) in
        let n = grown_as ws refl refl (ap row_sort w) (gv (rw w) (suc d) false (r ∷ ls) (b + chain_size c) k.back (above_part ws (omega linear) note)) in
        let f = with_part ws (with_part ws (with_part ws (no_front ws (b + 0) low) refl i) (omega linear) note) (omega linear) n in
        let links : ℕ → Quad = λ q. quad (pos 36) (last (b + 0) (size x)) q (last (b + chain_size c) (size v)) in
        let here = b + chain_size c2 + size z in
        let one : 1 ≤ here = omega (linear, l.some) in
        let same : suc (here - 1) ≡ suc here - 1 = omega linear in
        let own = subst (λ (q : ℕ). HoldsRow ws (b + chain_size c + size v) (links q)) same k.own.0 in
        grown_as ws (omega linear) (omega linear) refl (node ws f refl (sound_at ws own (while_shape ws _ _ _)))

  -- ---- all phrases

  abbrev ChainGrows : Chain → Type 0
  ChainGrows (begun f) = Unit {0}
  ChainGrows (more c x q) = ChainGrows c × Grows ws filled x

  module _ (c : Chain) (x : Phrase) (good : GoodChain c) (front : ChainGrows c) (back : Grows ws filled x) where
    abbrev FormGrows : Place → Type 0
    FormGrows p = place c ≡ p → takes (place_takes p) (sort x) ≡ true → Grows ws filled (closed c x)

    when_form_grows : FormGrows when_third
    when_form_grows e t =
        let w = at_third c when_first when_second when_third good e refl refl refl in
        let h = subst ChainGrows w.is front in
        subst (λ (k : Chain). Grows ws filled (closed k x)) (sym w.is)
        (when_grows w.first w.second x h.0.1 h.1 back
        (sort_is formula w.first w.first_fits) (sort_is expression w.second w.second_fits) (sort_is expression x t))

    if_form_grows : FormGrows if_else
    if_form_grows e t =
        let w = at_third c if_guard if_then if_else good e refl refl refl in
        let h = subst ChainGrows w.is front in
        subst (λ (k : Chain). Grows ws filled (closed k x)) (sym w.is)
        (if_grows w.first w.second x h.0.1 h.1 back
        (sort_is formula w.first w.first_fits) (sort_is statement w.second w.second_fits) (sort_is statement x t))

    script_form_grows : FormGrows script_post
    script_form_grows e t =
        let w = at_third c script_pre script_body script_post good e refl refl refl in
        let h = subst ChainGrows w.is front in
        subst (λ (k : Chain). Grows ws filled (closed k x)) (sym w.is)
        (script_grows w.first w.second x h.0.1 h.1 back
        (sort_is formula w.first w.first_fits) (sort_is statement w.second w.second_fits) (sort_is formula x t))

    while_form_grows : FormGrows while_body
    while_form_grows e t =
        let w = at_fourth c while_guard while_keep while_fall while_body good e refl refl refl refl in
        let h = subst ChainGrows w.is front in
        subst (λ (k : Chain). Grows ws filled (closed k x)) (sym w.is)
        (while_grows w.first w.second w.third h.0.0.1 h.0.1 h.1 x back
        (sort_is formula w.first w.first_fits) (sort_is formula w.second w.second_fits)
        (sort_is expression w.third w.third_fits) (sort_is statement x t))

    form_grows : (p : Place) → next_place p ≡ none → Good x → FormGrows p
    form_grows in_group n g e t = subst (λ (k : Chain). Grows ws filled (closed k x)) (sym (at_first c in_group good e refl)) (group_grows x back)
    form_grows in_mark n g e t =
        subst (λ (k : Chain). Grows ws filled (closed k x)) (sym (at_first c in_mark good e refl)) (mark_grows x (number_rowless x g t))
    form_grows when_first n g e t = none_is_not (sym n)
    form_grows when_second n g e t = none_is_not (sym n)
    form_grows when_third n g e t = when_form_grows e t
    form_grows if_guard n g e t = none_is_not (sym n)
    form_grows if_then n g e t = none_is_not (sym n)
    form_grows if_else n g e t = if_form_grows e t
    form_grows while_guard n g e t = none_is_not (sym n)
    form_grows while_keep n g e t = none_is_not (sym n)
    form_grows while_fall n g e t = none_is_not (sym n)
    form_grows while_body n g e t = while_form_grows e t
    form_grows script_pre n g e t = none_is_not (sym n)
    form_grows script_body n g e t = none_is_not (sym n)
    form_grows script_post n g e t = script_form_grows e t

  mutual
    unfolding Good

    grows : (x : Phrase) → Good x → Grows ws filled x
    grows (leaf l) g = leaf_grows ws filled l
    grows (before p x) g = before_grows ws filled p x g.1 (grows x g.0)
    grows (between o x y) g = between_grows ws filled o x y g.2 g.3 (grows x g.0) (grows y g.1)
    grows (closed c x) g = form_grows c x g.0 (chain_grows c g.0) (grows x g.1) (place c) g.3 g.1 refl g.2

    chain_grows : (c : Chain) → GoodChain c → ChainGrows c
    chain_grows (begun f) g = tt
    chain_grows (more c x q) g = (chain_grows c g.0, grows x g.1)

  -- a script whose rows are the whole table
  pub script_grown : (x : Phrase) → Good x → sort x ≡ script → All (flags 0 false x) → size x ≤ rows ws → Holds ws 0 (table by_row [] 0 x)
      → Grown ws 0 (size x) (row_sort script)
  unfolding linked
  script_grown x g s r n h =
      let given : Given ws filled x 0 false [] 0 = record { ranges = r; low = tt; room = omega linear; holds = h } in
      grown_as ws refl (omega linear) (ap row_sort s) (grows x g (rw s) 0 false [] 0 given (λ k l. refl))
