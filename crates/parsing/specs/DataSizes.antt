-- How many rows are written (`stack_length`, `part_length`), and what is no larger: the rows that a chain tells
-- (`roots_below`), the number of open bodies (`depth_below`), and so the number of a mark that is in range
-- (`counts_below`). Assumes nothing.
use Rattle.std.specs.Prelude.{ℕ, zero, suc, ◌+◌, ◌≤◌, ◌≡◌, refl, Bool, true, false, cond, List, [], ◌∷◌, leb, length, get_or}
use Rattle.std.proofs.Common.{arith as linear, leb-true, length-append}
use Rattle.grammar.specs.Tokens.{constant_leaf, number_leaf, variable_leaf, truth_leaf, skip_leaf}
use Rattle.grammar.specs.Grammar.{Phrase, leaf, before, between, closed, Chain, begun, more, place}
use Rattle.grammar.specs.Counts.{begins_body, size, chain_size, last, with_note, roots}
use Rattle.grammar.specs.Rows.{table, chain_table, counts}
use Rattle.grammar.specs.States.{prefix, infix_after, Frame, pending, open_at}
use Rattle.grammar.specs.Ranges.{flags, depth, All}
use Rattle.grammar.specs.Tests.{both}
use Rattle.grammar.specs.Sizes.{table_length, chain_length}
use Rattle.grammar.specs.Written.{by_count, stack_size, stack_rows, part_rows}
use Rattle.grammar.specs.Passed.{first_no_body}

-- ---- rows

pub stack_length : (fs : List Frame) → length (stack_rows fs) ≡ stack_size fs
unfolding stack_rows stack_size
stack_length [] = refl
stack_length (pending (prefix p) ∷ fs) = stack_length fs
stack_length (pending (infix_after o x) ∷ fs) =
    let t = table by_count tt (stack_size fs) x in
    omega (linear, length-append (stack_rows fs) t, table_length by_count x tt (stack_size fs), stack_length fs)
stack_length (open_at h c ∷ fs) =
    let t = chain_table by_count tt (stack_size fs) c in
    omega (linear, length-append (stack_rows fs) t, chain_length by_count c tt (stack_size fs), stack_length fs)

pub part_length : (x : Phrase) (fs : List Frame) → length (part_rows x fs) ≡ stack_size fs + size x
part_length x fs =
    let t = table by_count tt (stack_size fs) x in
    omega (linear, length-append (stack_rows fs) t, table_length by_count x tt (stack_size fs), stack_length fs)

-- ---- the rows where parts end

noted_below : (t : Bool) (r n : ℕ) (rs : List ℕ) (i : ℕ) → ((j : ℕ) → get_or rs j 0 ≤ n) → r ≤ n
    → get_or (with_note t r rs) i 0 ≤ n + cond t 1 0
noted_below false r n rs zero h l = omega linear
noted_below false r n rs (suc i) h l = omega (linear, h i)
noted_below true r n [] zero h l = omega linear
noted_below true r n [] (suc i) h l = omega linear
noted_below true r n (k ∷ rs) zero h l = omega linear
noted_below true r n (k ∷ rs) (suc i) h l = omega (linear, h (suc i))

pub roots_below : (c : Chain) (b i : ℕ) → get_or (roots b c) i 0 ≤ b + chain_size c
unfolding roots chain_size
roots_below (begun f) b i = omega linear
roots_below (more c x q) b i =
    let low : last (b + chain_size c) (size x) ≤ b + chain_size c + size x = omega linear in
    let far : (j : ℕ) → get_or (roots b c) j 0 ≤ b + chain_size c + size x = λ j. omega (linear, roots_below c b j) in
    omega (
      linear,
      noted_below (begins_body q) (last (b + chain_size c) (size x)) (b + chain_size c + size x)
          (roots b c) i far low,
    )

-- ---- bodies and marks

-- an open body has its note
chain_deep : (c : Chain) → cond (begins_body (place c)) 1 0 ≤ chain_size c
unfolding chain_size
chain_deep (begun f) = rw (first_no_body f) (omega linear)
chain_deep (more c x q) = omega linear

deeper_is : (b : Bool) (d : ℕ) → cond b (suc d) d ≡ d + cond b 1 0
deeper_is true d = omega linear
deeper_is false d = omega linear

pub depth_below : (fs : List Frame) → depth fs ≤ stack_size fs
unfolding depth stack_size
depth_below [] = omega linear
depth_below (pending (prefix p) ∷ fs) = depth_below fs
depth_below (pending (infix_after o x) ∷ fs) = omega (linear, depth_below fs)
depth_below (open_at h c ∷ fs) = omega (
  linear,
  depth_below fs,
  chain_deep c,
  deeper_is (begins_body (place c))
      (depth fs),
)

pub counts_below : (x : Phrase) (d : ℕ) (m : Bool) → All (flags d m x) → counts x ≤ d
unfolding flags
counts_below (leaf (constant_leaf n)) d m h = omega linear
counts_below (leaf (number_leaf k)) d m h = leb-true k d (both (leb 1 k) (leb k d) h.0).1
counts_below (leaf (variable_leaf v)) d m h = omega linear
counts_below (leaf (truth_leaf b)) d m h = omega linear
counts_below (leaf skip_leaf) d m h = omega linear
counts_below (before p x) d m h = omega linear
counts_below (between o x y) d m h = omega linear
counts_below (closed c x) d m h = omega linear
