-- A phrase makes as many rows as `size` says (`table_length`), and one at least, a mark's number apart (`sized`).
-- Assumes nothing.
use Rattle.std.specs.Prelude.{ℕ, ◌+◌, ◌≤◌, ◌≡◌, refl, List, [], ◌∷◌, ◌++◌, length}
use Rattle.std.proofs.Common.{sym, arith as linear, length-append}
use Rattle.std.proofs.Math.Option.{Option, none, some}
use mathlib.Core.Bool.{Bool, true, false}
use Rattle.grammar.specs.Sorts.{Sort, number, same_sort}
use Rattle.grammar.specs.Operators.{Infix, semicolon, connective, relation, operator, infix_takes, Prefix, not_prefix, minus_prefix, assert_prefix, assign_prefix, prefix_takes}
use Rattle.grammar.specs.Forms.{Place, place_makes, in_group, in_mark, when_first, when_second, when_third, if_guard, if_then, if_else, while_guard, while_keep, while_fall, while_body, script_pre, script_body, script_post}
use Rattle.grammar.specs.Tokens.{Leaf, constant_leaf, number_leaf, variable_leaf, truth_leaf, skip_leaf}
use Rattle.grammar.specs.Grammar.{Phrase, leaf, before, between, closed, Chain, begun, more, place, sort}
use Rattle.grammar.specs.Counts.{negated, size, chain_size, leaf_size, prefix_size, form_size, note_size, begins_body, last, roots}
use Rattle.grammar.specs.Rows.{Quad, Naming, leaf_rows, prefix_row, prefix_rows, form_rows, note_rows, table, chain_table}
use Rattle.grammar.specs.Tests.{false_is_not}

leaf_length : (l : Leaf) → length (leaf_rows l) ≡ leaf_size l
leaf_length (constant_leaf n) = refl
leaf_length (number_leaf n) = refl
leaf_length (variable_leaf v) = refl
leaf_length (truth_leaf b) = refl
leaf_length skip_leaf = refl

prefix_length : (p : Prefix) (o : Option ℕ) (r n : ℕ) (rs : List Quad) → length rs ≡ n → length (prefix_rows p o r rs) ≡ prefix_size o n
prefix_length p none r n rs e = omega (linear, length-append rs (prefix_row p r ∷ []))
prefix_length p (some z) r n rs e = refl

form_length : (p : Place) (m : ℕ) (rs : List ℕ) (r : ℕ) → length (form_rows p m rs r) ≡ form_size p
form_length in_group m rs r = refl
form_length in_mark m rs r = refl
form_length when_first m rs r = refl
form_length when_second m rs r = refl
form_length when_third m rs r = refl
form_length if_guard m rs r = refl
form_length if_then m rs r = refl
form_length if_else m rs r = refl
form_length while_guard m rs r = refl
form_length while_keep m rs r = refl
form_length while_fall m rs r = refl
form_length while_body m rs r = refl
form_length script_pre m rs r = refl
form_length script_body m rs r = refl
form_length script_post m rs r = refl

note_length : (q : Place) (rs : List ℕ) (r : ℕ) → length (note_rows (begins_body q) rs r) ≡ note_size q
note_length q rs r = at (begins_body q)
  where
    at : (b : Bool) → length (note_rows b rs r) ≡ mathlib.Core.Bool.cond b 1 0
    at true = refl
    at false = refl

three_lengths : (a b c : List Quad) {l m n : ℕ} → length a ≡ l → length b ≡ m → length c ≡ n → length (a ++ (b ++ c)) ≡ l + m + n
three_lengths a b c x y z = omega (linear, length-append a (b ++ c), length-append b c)

module _ (by : Naming) where
  mutual
    unfolding size table

    pub table_length : (x : Phrase) (ls : by.Loops) (b : ℕ) → length (table by ls b x) ≡ size x
    table_length (leaf l) ls b = leaf_length l
    table_length (before p x) ls b = prefix_length p (negated p x) (last b (size x)) (size x) (table by ls b x) (table_length x ls b)
    table_length (between o x y) ls b =
        three_lengths (table by ls b x) (table by ls (b + size x) y) _ (table_length x ls b) (table_length y ls (b + size x)) refl
    table_length (closed c x) ls b =
        three_lengths (chain_table by ls b c) (table by _ (b + chain_size c) x) _ (chain_length c ls b) (table_length x _ (b + chain_size c))
        (form_length (place c) _ (roots b c) _)

    pub chain_length : (c : Chain) (ls : by.Loops) (b : ℕ) → length (chain_table by ls b c) ≡ chain_size c
    chain_length (begun f) ls b = refl
    chain_length (more c x q) ls b =
        three_lengths (chain_table by ls b c) (table by ls (b + chain_size c) x) _ (chain_length c ls b) (table_length x ls (b + chain_size c))
        (note_length q (roots b c) _)

-- ---- at least one row

sized_form : (p : Place) (n k : ℕ) (s : Sort) → (same_sort s number ≡ false → 1 ≤ n) → same_sort (place_makes p s) number ≡ false
    → 1 ≤ k + n + form_size p
sized_form in_group n k s h e = omega (linear, h e)
sized_form in_mark n k s h e = omega linear
sized_form when_first n k s h e = omega linear
sized_form when_second n k s h e = omega linear
sized_form when_third n k s h e = omega linear
sized_form if_guard n k s h e = omega linear
sized_form if_then n k s h e = omega linear
sized_form if_else n k s h e = omega linear
sized_form while_guard n k s h e = omega linear
sized_form while_keep n k s h e = omega linear
sized_form while_fall n k s h e = omega linear
sized_form while_body n k s h e = omega linear
sized_form script_pre n k s h e = omega linear
sized_form script_body n k s h e = omega linear
sized_form script_post n k s h e = omega linear

sized_prefix : (o : Option ℕ) (n : ℕ) → 1 ≤ prefix_size o n
sized_prefix none n = omega linear
sized_prefix (some z) n = omega linear

pub sized : (x : Phrase) → same_sort (sort x) number ≡ false → 1 ≤ size x
unfolding size
sized (leaf (constant_leaf n)) e = omega linear
sized (leaf (number_leaf n)) e = false_is_not (sym e)
sized (leaf (variable_leaf v)) e = omega linear
sized (leaf (truth_leaf b)) e = omega linear
sized (leaf skip_leaf) e = omega linear
sized (before p x) e = sized_prefix (negated p x) (size x)
sized (between o x y) e = omega linear
sized (closed c x) e = sized_form (place c) (size x) (chain_size c) (sort x) (λ h. sized x h) e

-- ---- what an operator takes is no mark's number

pub prefix_not_number : (p : Prefix) → same_sort (prefix_takes p) number ≡ false
prefix_not_number not_prefix = refl
prefix_not_number minus_prefix = refl
prefix_not_number assert_prefix = refl
prefix_not_number (assign_prefix v) = refl

pub infix_not_number : (o : Infix) → same_sort (infix_takes o) number ≡ false
infix_not_number semicolon = refl
infix_not_number (connective c) = refl
infix_not_number (relation r) = refl
infix_not_number (operator o) = refl
