-- The tree of the table is the tree of the text (`same_tree`). For each part: where its rows stand in a table, the tree
-- at its last row is the part's (`means`), by induction on the phrase; a bound on the depth that is no lower than the
-- number of rows so far is enough. Assumes nothing.
use Prim.Native.Nat.{ℕ, zero, suc, ◌+◌, ◌-◌, ◌≤◌}
use Rattle.std.specs.Prelude.{◌≡◌, refl, ℤ}
use Rattle.std.proofs.Math.Option.{Option, none, some}
use mathlib.Core.List.{List, [], ◌∷◌, ◌++◌}
use native.Mathlib.Omega.{arith as linear}
use Rattle.script.specs.Rows.{row_of, row, rows}
use Rattle.script.specs.Trees.{expr as expr_in, expr_at, formula_at, stmt_at, tree}
use Rattle.theorems.specs.Options.{none_is_not}
use Rattle.grammar.specs.Sorts.{script}
use Rattle.grammar.specs.Operators.{Infix, infix_takes, infix_makes, Prefix, not_prefix, minus_prefix, assert_prefix, assign_prefix, prefix_takes, prefix_makes}
use Rattle.grammar.specs.Tokens.{Leaf, constant_leaf, number_leaf, variable_leaf, truth_leaf, skip_leaf, leaf_makes}
use Rattle.grammar.specs.Grammar.{Phrase, leaf, before, between, closed, Chain, begun, more, place, sort, Good, GoodChain}
use Rattle.grammar.specs.Counts.{negated, minus, size, chain_size, leaf_size, prefix_size, form_size, begins_body, last, roots}
use Rattle.grammar.specs.Rows.{quad, constant, leaf_rows, prefix_row, prefix_rows, infix_kind, nth_loop, counts, form_rows, note_rows, inside, table, chain_table, by_row}
use Rattle.grammar.specs.Trees.{Value, leaf_value, prefix_value, infix_value, value}
use Rattle.grammar.specs.Meaning.{text_rows, text_tree}
use Rattle.grammar.specs.Sizes.{table_length, chain_length, sized, prefix_not_number, infix_not_number}
use Rattle.grammar.specs.SameRows.{quad_row, Stands, stands_at, stands_parts, Means, leaf_means, prefix_means, infix_means}
use Rattle.grammar.specs.SameForms.{ChainMeans, form_means}

module _ (ws : List ℤ) where
  -- ---- a prefix, or a constant with its minus

  minus_means : (p : Prefix) (x : Phrase) (z n r : ℕ) (v : Value) → negated p x ≡ some z → row ws r ≡ quad_row (constant (minus z))
      → Means ws (prefix_makes p) (suc n) r (prefix_value p (some z) v)
  unfolding expr_in row_of
  minus_means not_prefix x z n r v k h = none_is_not k
  minus_means minus_prefix x z n r v k h = rw h
  minus_means assert_prefix x z n r v k h = none_is_not k
  minus_means (assign_prefix y) x z n r v k h = none_is_not k

  before_means : (p : Prefix) (x : Phrase) (o : Option ℕ) (ls : List ℕ) (b n : ℕ) → negated p x ≡ o → sort x ≡ prefix_takes p → 1 ≤ n
      → b + prefix_size o (size x) ≤ n → Stands ws b (prefix_rows p o (last b (size x)) (table by_row ls b x))
      → ((m : ℕ) → 1 ≤ m → b + size x ≤ m → Stands ws b (table by_row ls b x) → Means ws (sort x) m (last b (size x)) (value ls b x))
      → Means ws (prefix_makes p) n (last b (prefix_size o (size x))) (prefix_value p o (value ls b x))
  before_means p x o ls b zero k s l m h part = absurd (omega linear)
  before_means p x (some z) ls b (suc n) k s l m h part =
      minus_means p x z n (last b 1) (value ls b x) k (stands_at ws {c = last b 1} (constant (minus z) ∷ []) (omega linear) h).0
  before_means p x none ls b (suc n) k s l m h part =
      let one : 1 ≤ size x = sized x (rw s (prefix_not_number p)) in
      let q = prefix_row p (last b (size x)) in
      let h2 = stands_parts ws (table by_row ls b x) (q ∷ []) b (size x) (table_length by_row x ls b) h in
      prefix_means ws p n (last b (suc (size x))) (last b (size x)) (value ls b x)
      (stands_at ws {c = last b (suc (size x))} (q ∷ []) (omega linear) h2.1).0
      (rw s at (part n (omega linear) (omega linear) h2.0))

  leaf_all : (l : Leaf) (b n : ℕ) → 1 ≤ n → Stands ws b (leaf_rows l) → Means ws (leaf_makes l) n (last b (leaf_size l)) (leaf_value l)
  leaf_all l b zero k h = absurd (omega linear)
  leaf_all (constant_leaf z) b (suc n) k h = leaf_means ws (constant_leaf z) n (last b 1) (stands_at ws {b = b} {c = last b 1} (leaf_rows (constant_leaf z)) (omega linear) h)
  leaf_all (number_leaf z) b (suc n) k h = tt
  leaf_all (variable_leaf v) b (suc n) k h = leaf_means ws (variable_leaf v) n (last b 1) (stands_at ws {b = b} {c = last b 1} (leaf_rows (variable_leaf v)) (omega linear) h)
  leaf_all (truth_leaf t) b (suc n) k h = leaf_means ws (truth_leaf t) n (last b 1) (stands_at ws {b = b} {c = last b 1} (leaf_rows (truth_leaf t)) (omega linear) h)
  leaf_all skip_leaf b (suc n) k h = leaf_means ws skip_leaf n (last b 1) (stands_at ws {b = b} {c = last b 1} (leaf_rows skip_leaf) (omega linear) h)

  between_means : (o : Infix) (x y : Phrase) (ls : List ℕ) (b n : ℕ) → sort x ≡ infix_takes o → sort y ≡ infix_takes o
      → b + (size x + size y + 1) ≤ n → Stands ws b (table by_row ls b (between o x y))
      → ((m : ℕ) → 1 ≤ m → b + size x ≤ m → Stands ws b (table by_row ls b x) → Means ws (sort x) m (last b (size x)) (value ls b x))
      → ((m : ℕ) → 1 ≤ m → b + size x + size y ≤ m → Stands ws (b + size x) (table by_row ls (b + size x) y)
      → Means ws (sort y) m (last (b + size x) (size y)) (value ls (b + size x) y))
      → Means ws (infix_makes o) n (last b (size x + size y + 1)) (infix_value o (value ls b x) (value ls (b + size x) y))
  unfolding table
  between_means o x y ls b zero s t m h left right = absurd (omega linear)
  between_means o x y ls b (suc n) s t m h left right =
      let one : 1 ≤ size x = sized x (rw s (infix_not_number o)) in
      let q = quad (infix_kind o) (last b (size x)) (last (b + size x) (size y)) 0 in
      let h1 = stands_parts ws (table by_row ls b x) (table by_row ls (b + size x) y ++ (q ∷ [])) b (size x) (table_length by_row x ls b) h in
      let h2 = stands_parts ws (table by_row ls (b + size x) y) (q ∷ []) (b + size x) (size y) (table_length by_row y ls (b + size x)) h1.1 in
      infix_means ws o n (last b (size x + size y + 1)) (last b (size x)) (last (b + size x) (size y)) (value ls b x) (value ls (b + size x) y)
      (stands_at ws {c = last b (size x + size y + 1)} (q ∷ []) (omega linear) h2.1).0
      (rw s at (left n (omega linear) (omega linear) h1.0)) (rw t at (right n (omega linear) (omega linear) h2.0))

  -- ---- all phrases

  mutual
    unfolding Good table size value

    means : (x : Phrase) → Good x → (ls : List ℕ) (b n : ℕ) → 1 ≤ n → b + size x ≤ n → Stands ws b (table by_row ls b x)
        → Means ws (sort x) n (last b (size x)) (value ls b x)
    means (leaf l) g ls b n k m h = leaf_all l b n k h
    means (before p x) g ls b n k m h =
        before_means p x (negated p x) ls b n refl g.1 k m h (λ i j l s. means x g.0 ls b i j l s)
    means (between o x y) g ls b n k m h =
        between_means o x y ls b n g.2 g.3 m h (λ i j l s. means x g.0 ls b i j l s) (λ i j l s. means y g.1 ls (b + size x) i j l s)
    means (closed c x) g ls b n k m h =
        let p = place c in
        let d = b + chain_size c in
        let js = inside by_row p (last b (chain_size c + size x + form_size p)) ls in
        let rest = form_rows p (nth_loop ls (counts x)) (roots b c) (last d (size x)) in
        let h1 = stands_parts ws (chain_table by_row ls b c) (table by_row js d x ++ rest) b (chain_size c) (chain_length by_row c ls b) h in
        let h2 = stands_parts ws (table by_row js d x) rest d (size x) (table_length by_row x js d) h1.1 in
        form_means ws c x (value js d x) ls b g.0 (λ i j l. chain_means c g.0 ls b i j l h1.0) (λ i j l. means x g.1 js d i j l h2.0)
        p g.3 n refl g.2 k m h2.1

    chain_means : (c : Chain) → GoodChain c → (ls : List ℕ) (b n : ℕ) → 1 ≤ n → b + chain_size c ≤ n → Stands ws b (chain_table by_row ls b c)
        → ChainMeans ws n ls b c
    chain_means (begun f) g ls b n k m h = tt
    chain_means (more c x q) g ls b n k m h =
        let d = b + chain_size c in
        let rest = note_rows (begins_body q) (roots b c) (last d (size x)) in
        let h1 = stands_parts ws (chain_table by_row ls b c) (table by_row ls d x ++ rest) b (chain_size c) (chain_length by_row c ls b) h in
        let h2 = stands_parts ws (table by_row ls d x) rest d (size x) (table_length by_row x ls d) h1.1 in
        (chain_means c g.0 ls b n k (omega linear) h1.0, means x g.1 ls d n k (omega linear) h2.0, h2.1)

  pub same_tree : (x : Phrase) → Good x → sort x ≡ script → rows ws ≡ size x → Stands ws 0 (text_rows x) → tree ws ≡ text_tree x
  unfolding tree text_tree text_rows expr_at formula_at stmt_at
  same_tree x g s l h =
      let one : 1 ≤ size x = sized x (rw s) in
      let m = means x g [] 0 (rows ws) (omega linear) (omega linear) h in
      let r : last 0 (size x) ≡ rows ws - 1 = omega linear in
      rw (r, s) at m
