-- The mender with what a wrong turn changes as arguments (`Ways`): the order, where links go and how marks are renamed
-- (`laying`); what is outside a loop's body, where sums stop, the tests and their order (`testing`); the two counts and
-- what stands behind (`counting`). With the right ones it is the mender defined (`RightWay.right_way`). A wrong turn
-- changes one of them (`Wrong`), and is told from the mender defined by another answer at one table (`all_told`).
-- Assumes nothing.
use Rattle.std.specs.Prelude.{ℕ, zero, suc, ◌*◌, ◌-◌, min, ◌≢◌, List, [], ◌∷◌, ◌++◌, map, Bool, true, false, cond, ◌&&◌, ℤ, pos, T, eqb, length, drop, get_or}
use Rattle.script.specs.declared.ExpressionRow.TheVariants.{Constant, Variable, Arithmetic, Negate, Mark, Choose}
use Rattle.script.specs.declared.Row.{Row}
use Rattle.script.specs.Rows.{Part, fields, parts, rows, word, row}
use Rattle.script.specs.Refusals.{Verdict, accepted, refused, ◌and_then◌, lowest, member, length_test, script_test}
use Rattle.script.specs.Generated.{zeros}
use Rattle.theorems.specs.Truths.{both}
use Rattle.theorems.specs.Differ.{other, told}
use Rattle.mending.specs.Copies.{each, part_sum, cap}
use Rattle.mending.specs.NewTable.{places, renewed, place_of, written}
use Rattle.mending.specs.Reached.{outside, targets, among}
use Rattle.mending.specs.Mended.{part_fault, too_long, Mended, refuse, mended}

-- ---- what a wrong turn changes

pub record Ways : Type 0 where
  -- the copies at a row, from those of its parts
  pub gather : (ℕ → List ℕ) → ℕ → List Part → List ℕ
  -- where the links of a new row go, from the sizes of parts
  pub place : (ℕ → ℕ) → ℕ → List Part → List ℕ
  -- the new number of a loop for a mark at a new row, from the run of old rows
  pub rename : List ℕ → ℕ → ℕ → ℕ
  -- the parts of a loop that are not inside its body
  pub leave : Row → List Part
  -- where sums stop
  pub most : ℕ
  -- the fault of a row
  pub fault : List ℤ → ℕ → ℕ
  -- the test for 7
  pub last : List ℤ → Verdict
  -- whether so many new rows pass the two lengths
  pub long : ℕ → ℕ → ℕ → Bool
  -- the tests of length, rows, last row, marks and room, in order
  pub judge : Verdict → Verdict → Verdict → Verdict → Verdict → Verdict
  -- from old rows, old rows reached, and new rows
  pub drops : ℕ → ℕ → ℕ → ℕ
  pub copies_again : ℕ → ℕ → ℕ → ℕ
  -- so many words behind
  pub behind : ℕ → List ℤ

abbrev pub right : Ways
right = record {
  gather = λ C r ps. each C ps ++ (r ∷ []);
  place = λ S k ps. places S (k - part_sum S ps) ps;
  rename = λ os k m. place_of m (suc k) (drop (suc k) os);
  leave = outside;
  most = cap;
  fault = part_fault;
  last = script_test;
  long = too_long;
  judge = λ l p s m z. l and_then p and_then s and_then m and_then z;
  drops = λ old reached new. old - reached;
  copies_again = λ old reached new. new - reached;
  behind = zeros;
}

-- the right ways but for the order, links and marks; the tests; the counts and what stands behind
abbrev pub laying : ((ℕ → List ℕ) → ℕ → List Part → List ℕ) → ((ℕ → ℕ) → ℕ → List Part → List ℕ) → (List ℕ → ℕ → ℕ → ℕ)
    → Ways
laying gather place rename = record {
  gather = gather;
  place = place;
  rename = rename;
  leave = outside;
  most = cap;
  fault = part_fault;
  last = script_test;
  long = too_long;
  judge = right.judge;
  drops = right.drops;
  copies_again = right.copies_again;
  behind = zeros;
}

abbrev pub testing : (Row → List Part) → ℕ → (List ℤ → ℕ → ℕ) → (List ℤ → Verdict) → (ℕ → ℕ → ℕ → Bool)
    → (Verdict → Verdict → Verdict → Verdict → Verdict → Verdict) → Ways
testing leave most fault last long judge = record {
  gather = right.gather;
  place = right.place;
  rename = right.rename;
  leave = leave;
  most = most;
  fault = fault;
  last = last;
  long = long;
  judge = judge;
  drops = right.drops;
  copies_again = right.copies_again;
  behind = zeros;
}

abbrev pub counting : (ℕ → ℕ → ℕ → ℕ) → (ℕ → ℕ → ℕ → ℕ) → (ℕ → List ℤ) → Ways
counting drops copies_again behind = record {
  gather = right.gather;
  place = right.place;
  rename = right.rename;
  leave = outside;
  most = cap;
  fault = part_fault;
  last = script_test;
  long = too_long;
  judge = right.judge;
  drops = drops;
  copies_again = copies_again;
  behind = behind;
}

-- ---- the mender by these ways

module _ (W : Ways) (t : List ℤ) where
  unfoldable pub copies_by : ℕ → ℕ → List ℕ
  copies_by zero r = []
  copies_by (suc n) r = W.gather (copies_by n) r (parts (row t r))

  unfoldable pub sweep_by : ℕ → ℕ → List ℕ → List ℕ
  sweep_by cut zero seen = seen
  sweep_by cut (suc r) seen =
      sweep_by cut r (cond (member r seen) (targets (cond (eqb r cut) (W.leave (row t r)) (parts (row t r))) ++ seen) seen)

  unfoldable pub capped_by : ℕ → ℕ → List ℕ → List ℕ
  capped_by zero r sizes = sizes
  capped_by (suc n) r sizes =
      capped_by n (suc r) (sizes ++ (min W.most (suc (part_sum (λ k. get_or sizes k 0) (parts (row t r)))) ∷ []))

  -- from the copies, the pass downward and the pass upward
  module _ (C : ℕ → ℕ → List ℕ) (sweeps : ℕ → ℕ → List ℕ → List ℕ) (caps : ℕ → ℕ → List ℕ → List ℕ) where
    abbrev origins_by : List ℕ
    origins_by = C (rows t) (rows t - 1)

    abbrev reached_by : ℕ → List ℕ
    reached_by cut = sweeps cut (rows t) ((rows t - 1) ∷ [])

    abbrev pub word_by : ℕ → ℕ → ℕ → ℤ
    word_by k r zero = word t r 0
    word_by k r (suc f) =
        get_or
        (renewed (W.rename origins_by k) (W.place (λ q. length (C (rows t) q)) k (parts (row t r))) 0
        (fields (row t r))
        (word t r 1 ∷ word t r 2 ∷ word t r 3 ∷ [])) f (pos 0)

    abbrev pub escapes_by : ℕ → Row → Bool
    escapes_by r (Row.Expression (Constant z)) = false
    escapes_by r (Row.Expression (Variable v)) = false
    escapes_by r (Row.Expression (Arithmetic o a b)) = false
    escapes_by r (Row.Expression (Negate a)) = false
    escapes_by r (Row.Expression (Mark m)) = member r (reached_by m.0)
    escapes_by r (Row.Expression (Choose f a b)) = false
    escapes_by r (Row.Formula x) = false
    escapes_by r (Row.Statement x) = false
    escapes_by r (Row.Note i v) = false
    escapes_by r (Row.Script p s q) = false
    escapes_by r Row.Unknown = false

    abbrev pub verdict_by : ℕ → ℕ → Verdict
    verdict_by table_room origins_room =
        W.judge (length_test t) (lowest (W.fault t) (rows t) 0) (W.last t)
        (lowest (λ r. cond (escapes_by r (row t r)) 13 0) (rows t) 0)
        (cond (W.long table_room origins_room (get_or (caps (rows t) 0 []) (rows t - 1) 0)) (refused 14 0) accepted)

    abbrev pub mend_by : ℕ → ℕ → Mended
    mend_by table_room origins_room = record {
      number = 0;
      row = 0;
      words = 4 * length origins_by;
      dropped = W.drops (rows t) (among (rows t) (reached_by (rows t))) (length origins_by);
      copied = W.copies_again (rows t) (among (rows t) (reached_by (rows t))) (length origins_by);
      table = written word_by 0 origins_by ++ W.behind (table_room - 4 * length origins_by);
      origins = map pos origins_by ++ W.behind (origins_room - length origins_by);
    }

-- a refusal, or what was mended
abbrev pub settled : Verdict → Mended → ℕ → ℕ → Mended
settled (refused n r) m table_room origins_room = refuse n r table_room origins_room
settled accepted m table_room origins_room = m

unfoldable pub mended_by : Ways → List ℤ → ℕ → ℕ → Mended
mended_by W t table_room origins_room =
    settled (verdict_by W t (copies_by W t) (sweep_by W t) (capped_by W t) table_room origins_room)
    (mend_by W t (copies_by W t) (sweep_by W t) (capped_by W t) table_room origins_room) table_room origins_room

-- ---- wrong turns, told by another answer

-- an answer and both buffers as words
abbrev pub words_of : Mended → List ℤ
words_of m =
    pos m.number ∷ pos m.row ∷ pos m.words ∷ pos m.dropped ∷ pos m.copied ∷ pos
    (length m.table) ∷ (m.table ++ m.origins)

-- a wrong mender, and the table and lengths at which it answers otherwise
pub record Wrong : Type 0 where
  pub turn : Ways
  pub at : List ℤ
  pub table_room : ℕ
  pub origins_room : ℕ

abbrev pub told_all : List Wrong → Bool
told_all [] = true
told_all (w ∷ ws) =
    other words_of (mended_by w.turn w.at w.table_room w.origins_room)
    (mended w.at w.table_room w.origins_room) && told_all ws

abbrev pub OtherAnswers : List Wrong → Type 0
OtherAnswers [] = Unit {0}
OtherAnswers (w ∷ ws) =
    (mended_by w.turn w.at w.table_room w.origins_room ≢ mended w.at w.table_room
    w.origins_room) × OtherAnswers ws

pub all_told : (ws : List Wrong) → T (told_all ws) → OtherAnswers ws
all_told [] h = tt
all_told (w ∷ ws) h =
    let x = mended_by w.turn w.at w.table_room w.origins_room in
    let y = mended w.at w.table_room w.origins_room in
    let b = both (other words_of x y) (told_all ws) h in
    (told words_of x y b.0, all_told ws b.1)
