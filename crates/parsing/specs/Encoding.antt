-- How the machine holds a state of the automaton. Numbers and letters stand for frames, sorts and modes; the stack of
-- the machine, read from its top down, has a number for each frame (`framed`), and the parts that stand before a frame
-- are told by the rows where they end (`frame_words`). `Control` holds in every state; `Data` where the rows have room
-- and the numbers are in range so far. Assumes nothing.
use Rattle.std.specs.Prelude.{ℕ, zero, suc, ◌*◌, ◌-◌, ◌%◌, ◌≡◌, cond, List, [], ◌∷◌, ◌++◌, map, pos, length, get_or, replicate}
use Rattle.grammar.specs.Sorts.{Sort, number, expression, formula, statement, script, Hole, only, either}
use Rattle.grammar.specs.Operators.{Prefix, not_prefix, minus_prefix, assert_prefix, assign_prefix}
use Rattle.grammar.specs.Forms.{Place, in_group, in_mark, when_first, when_second, when_third, if_guard, if_then, if_else, while_guard, while_keep, while_fall, while_body, script_pre, script_body, script_post}
use Rattle.grammar.specs.Tokens.{bracket_due, becomes_due}
use Rattle.grammar.specs.Grammar.{place, sort}
use Rattle.grammar.specs.Counts.{size, last, roots}
use Rattle.grammar.specs.Rows.{counts}
use Rattle.grammar.specs.Meaning.{flat}
use Rattle.grammar.specs.States.{Pending, prefix, infix_after, Frame, pending, open_at, Mode, operand, after, due, State}
use Rattle.grammar.specs.Ranges.{depth}
use Rattle.grammar.specs.Outcome.{has_room}
use Rattle.grammar.specs.Numbers.{infix_number}
use Rattle.grammar.specs.Written.{stack_size, written_in}
use Rattle.parser.specs.Machine.{frame, full, Config}

-- ---- sorts and holes

abbrev pub sort_letter : Sort → ℕ
sort_letter number = 78
sort_letter expression = 69
sort_letter formula = 70
sort_letter statement = 83
sort_letter script = 88

abbrev pub hole_letter : Hole → ℕ
hole_letter (only s) = sort_letter s
hole_letter either = 66

-- ---- frames

abbrev pub prefix_number : Prefix → ℕ
prefix_number not_prefix = 22
prefix_number minus_prefix = 8
prefix_number assert_prefix = 38
prefix_number (assign_prefix v) = 33

-- a group that takes an expression only has a number of its own
abbrev pub group_number : Hole → ℕ
group_number (only s) = 63
group_number either = 62

abbrev pub place_number : Hole → Place → ℕ
place_number h in_group = group_number h
place_number h in_mark = 9
place_number h when_first = 49
place_number h when_second = 50
place_number h when_third = 51
place_number h if_guard = 52
place_number h if_then = 53
place_number h if_else = 54
place_number h while_guard = 55
place_number h while_keep = 56
place_number h while_fall = 57
place_number h while_body = 58
place_number h script_pre = 59
place_number h script_body = 60
place_number h script_post = 61

abbrev pub pending_number : Pending → ℕ
pending_number (prefix p) = prefix_number p
pending_number (infix_after o x) = infix_number o

abbrev pub frame_number : Frame → ℕ
frame_number (pending f) = pending_number f
frame_number (open_at h c) = place_number h (place c)

abbrev pub assigned : Prefix → ℕ
assigned not_prefix = 0
assigned minus_prefix = 0
assigned assert_prefix = 0
assigned (assign_prefix v) = v

-- a frame above b rows
abbrev pub pending_word : Pending → ℕ → ℕ
pending_word (prefix p) b = frame (prefix_number p) (assigned p) 0
pending_word (infix_after o x) b = frame (infix_number o) (last b (size x)) 0

abbrev pub frame_word : Frame → ℕ → ℕ
frame_word (pending f) b = pending_word f b
frame_word (open_at h c) b = frame (place_number h (place c)) (get_or (roots b c) 1 0) (get_or (roots b c) 0 0)

unfoldable pub frame_words : List Frame → List ℕ
frame_words [] = []
frame_words (f ∷ fs) = frame_word f (stack_size fs) ∷ frame_words fs

-- the machine's stack, from the top down
unfoldable pub framed : List ℕ → ℕ → List ℕ
framed st zero = []
framed st (suc n) = get_or st n 0 ∷ framed st n

-- ---- modes

abbrev pub mode_number : Mode → ℕ
mode_number operand = 0
mode_number (after x) = 1
mode_number (due bracket_due f) = 2
mode_number (due becomes_due f) = 3

-- the machine pushes the frame of a second word that is due at once
abbrev pub frames_in : Mode → List Frame → List Frame
frames_in operand fs = fs
frames_in (after x) fs = fs
frames_in (due d f) fs = f ∷ fs

abbrev pub Sorted : Mode → ℕ → Type 0
Sorted operand l = Unit {0}
Sorted (after x) l = l ≡ sort_letter (sort x)
Sorted (due d f) l = Unit {0}

abbrev pub Counts : Mode → ℕ → Type 0
Counts operand k = Unit {0}
Counts (after x) k = sort x ≡ number → k ≡ counts x
Counts (due d f) k = Unit {0}

-- ---- states

-- how many rows are counted
abbrev pub counted_rows : ℕ → ℕ → ℕ
counted_rows room n = cond (has_room room n) n full

pub record Control (s : State) (c : Config) : Type 0 where
  pub mode : c.state.mode ≡ mode_number s.mode
  pub numbers : map (λ w. w % 64) (framed c.stack c.state.top) ≡ map frame_number (frames_in s.mode s.stack)
  pub sort : Sorted s.mode c.state.sort
  pub bodies : c.state.bodies ≡ depth (frames_in s.mode s.stack)
  pub rows : c.state.rows ≡ counted_rows (length c.words) (length (written_in s))

pub record Data (s : State) (c : Config) : Type 0 where
  pub words : c.words ≡ flat (written_in s) ++ replicate (length c.words - 4 * length (written_in s)) (pos 0)
  pub frames : framed c.stack c.state.top ≡ frame_words (frames_in s.mode s.stack)
  pub count : Counts s.mode c.state.number
