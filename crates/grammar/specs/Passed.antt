-- The pass of `Renamed` gives the table that is asked for, and what is kept is the same after a phrase as before it
-- (`passed`): each loop that its rows add, they drop. By induction on the phrase. Assumes nothing.
use Rattle.std.specs.Prelude.{ℕ, ◌+◌, ◌≡◌, refl, List, [], ◌∷◌, Bool, true, false, cond, length}
use Rattle.std.proofs.Common.{ap, ◌∙◌, arith as linear}
use Rattle.std.proofs.Math.Option.{Option, none, some}
use Rattle.grammar.specs.Operators.{Prefix}
use Rattle.grammar.specs.Forms.{Form, group_form, mark_form, when_form, if_form, while_form, script_form, first_place, Place, in_group, in_mark, when_first, when_second, when_third, if_guard, if_then, if_else, while_guard, while_keep, while_fall, while_body, script_pre, script_body, script_post}
use Rattle.grammar.specs.Grammar.{Phrase, leaf, before, between, closed, Chain, begun, more, place, Good, GoodChain}
use Rattle.grammar.specs.Counts.{negated, minus, size, chain_size, form_size, begins_body, last, roots}
use Rattle.grammar.specs.Rows.{Quad, prefix_row, prefix_rows, counts, by_row, inside, table, chain_table}
use Rattle.grammar.specs.Tests.{false_is_not}
use Rattle.grammar.specs.InRange.{next_no_body}
use Rattle.grammar.specs.Sizes.{table_length, chain_length}
use Rattle.grammar.specs.Written.{by_count}
use Rattle.grammar.specs.Renamed.{Passes, nothing_passes, constant_passes, leaf_passes, prefix_passes, infix_passes, note_passes, form_passes, two_pass, three_pass}

body_size : (p : Place) → begins_body p ≡ true → form_size p ≡ 1
body_size in_group k = false_is_not k
body_size in_mark k = refl
body_size when_first k = refl
body_size when_second k = refl
body_size when_third k = refl
body_size if_guard k = refl
body_size if_then k = refl
body_size if_else k = refl
body_size while_guard k = refl
body_size while_keep k = refl
body_size while_fall k = refl
body_size while_body k = refl
body_size script_pre k = refl
body_size script_body k = refl
body_size script_post k = refl

pub first_no_body : (f : Form) → begins_body (first_place f) ≡ false
first_no_body group_form = refl
first_no_body mark_form = refl
first_no_body when_form = refl
first_no_body if_form = refl
first_no_body while_form = refl
first_no_body script_form = refl

same_loops : (q : Bool) (i j : ℕ) (ls : List ℕ) → (q ≡ true → i ≡ j) → cond q (i ∷ ls) ls ≡ cond q (j ∷ ls) ls
same_loops true i j ls h = ap (λ (r : ℕ). r ∷ ls) (h refl)
same_loops false i j ls h = refl

prefix_passed : (p : Prefix) (o : Option ℕ) (r : ℕ) (qs rs : List Quad) (b : ℕ) (ls : List ℕ) → Passes qs b ls ls rs
    → Passes (prefix_rows p o r qs) b ls ls (prefix_rows p o r rs)
prefix_passed p none r qs rs b ls h = two_pass qs (prefix_row p r ∷ []) b (length qs) ls refl h (prefix_passes p r _ ls)
prefix_passed p (some z) r qs rs b ls h = constant_passes (minus z) b ls

mutual
  unfolding Good table size

  pub passed : (x : Phrase) → Good x → (b : ℕ) (ls : List ℕ) → Passes (table by_count tt b x) b ls ls (table by_row ls b x)
  passed (leaf l) g b ls = leaf_passes l b ls
  passed (before p x) g b ls =
      prefix_passed p (negated p x) (last b (size x)) (table by_count tt b x) (table by_row ls b x) b ls (passed x g.0 b ls)
  passed (between o x y) g b ls =
      let d = b + size x in
      three_pass (table by_count tt b x) (table by_count tt d y) _ b (size x) (size y) ls
      (table_length by_count x tt b) (table_length by_count y tt d)
      (passed x g.0 b ls) (passed y g.1 d ls) (infix_passes o (last b (size x)) (last d (size y)) (d + size y) ls)
  passed (closed c x) g b ls =
      let p = place c in
      let d = b + chain_size c in
      let r = last b (chain_size c + size x + form_size p) in
      let row = form_passes p (counts x) (roots b c) (last d (size x)) (d + size x) ls g.3 in
      three_pass (chain_table by_count tt b c) (table by_count tt d x) _ b (chain_size c) (size x) ls
      (chain_length by_count c tt b) (table_length by_count x tt d)
      (chain_passed c g.0 b r ls) (passed x g.1 d (inside by_row p r ls))
      (row.0 ∙ same_loops (begins_body p) (d + size x) r ls (λ k. omega (linear, body_size p k)), row.1)

  -- r is the row of the loop
  pub chain_passed : (c : Chain) → GoodChain c → (b r : ℕ) (ls : List ℕ)
      → Passes (chain_table by_count tt b c) b (inside by_row (place c) r ls) ls (chain_table by_row ls b c)
  chain_passed (begun f) g b r ls = rw (first_no_body f) (nothing_passes b ls)
  chain_passed (more c x q) g b r ls =
      let d = b + chain_size c in
      three_pass (chain_table by_count tt b c) (table by_count tt d x) _ b (chain_size c) (size x) (inside by_row q r ls)
      (chain_length by_count c tt b) (table_length by_count x tt d)
      (rw (next_no_body (place c) q g.3) at (chain_passed c g.0 b r ls)) (passed x g.1 d ls)
      (note_passes (begins_body q) (roots b c) r (last d (size x)) (d + size x) ls)
