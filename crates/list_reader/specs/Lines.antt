-- The line that ends at a place, a whole list and the line at an index, in the steps that the code takes. Assumes nothing.
use Rattle.std.specs.Prelude.{ℕ, suc, ◌+◌, ◌-◌, ◌≤◌, ◌<◌, ◌≡◌, List, Bool, true, false, cond, ◌&&◌, ℤ, pos, eqb, leb, length, get_or}
use Rattle.std.proofs.Math.Option.{Option, none, some}
use Rattle.std.proofs.Math.Seq.{slice}
use Rattle.script.specs.declared.Line.{Line}
use Rattle.script.specs.Rows.{field_number}
use Rattle.script.specs.Listing.{Found, below, row_limit, depth_limit, depth_word, rule_of, spelled, found, line_before, lines_before}
use Rattle.script.specs.Listing.{trailer_length, last_word, form_of, count_told, line, line_of, no_line}
use Rattle.list_reader.specs.declared.lines.Trailer.{Trailer}
use Rattle.list_reader.specs.declared.lines.Missing.{Missing}
use Rattle.list_reader.specs.declared.lines.Missing.TheVariants.{NoList, NoLine}
use Rattle.std.specs.Prelude as P

abbrev pub is_some : {A : Type 0} → Option A → Bool
is_some none = false
is_some (some a) = true

-- ---- the line that ends at a place, in the form that the last word tells

abbrev pub line_ending : List ℤ → ℕ → Option Found
line_ending ws = line_before (form_of ws) ws

-- a trailer has n words: three, or four
pub record Tail (ws : List ℤ) (n : ℕ) : Type 0 where
  pub is : n ≡ trailer_length (form_of ws)
  pub least : 3 ≤ n
  pub most : n ≤ 4

-- the words of the trailer that begins at e
abbrev pub trailer_at : List ℤ → ℕ → Trailer
trailer_at ws e = record {
  kind = get_or ws e (pos 0);
  row = get_or ws (e + 1) (pos 0);
  size = get_or ws (e + 2) (pos 0);
  depth = depth_word (form_of ws) (get_or ws (e + 3) (pos 0));
}

-- the condition whose trailer is t, after a formula that ends at e
abbrev pub found_by : List ℤ → ℕ → Trailer → Option Found
found_by ws e t = found ws e t.kind t.row t.size t.depth

-- whether t is a trailer after a formula that ends at e
unfoldable pub is_line : List ℤ → ℕ → Trailer → Bool
is_line ws e t =
    is_some (rule_of (field_number t.kind))
    && (is_some (below row_limit t.row)
    && (is_some (below (suc e) t.size)
    && (is_some (below depth_limit t.depth) && is_some (spelled (slice (e - field_number t.size) e ws)))))

-- the line that was found, or 20
abbrev pub answer : Option Found → Line
answer o = elim o [ some f ↦ line f | none ↦ no_line 20 ]

-- where the formula of what was found starts
abbrev pub start_found : Option Found → P.Option ℕ
start_found o = elim o [ some f ↦ P.Some f.start | none ↦ P.None ]

-- where the formula of what was found starts; one word past the end of all where nothing was
abbrev pub start_of : List ℤ → Option Found → ℕ
start_of ws o = elim o [ some f ↦ f.start | none ↦ suc (length ws) ]

-- the line that the trailer t tells after a formula that ends at e
abbrev pub trailer_line : ℕ → Trailer → Line
trailer_line e t = record {
  number = 0;
  kind = field_number t.kind;
  row = field_number t.row;
  depth = field_number t.depth;
  start = e - field_number t.size;
  end = e;
}

-- the line that the trailer before the place e tells, the formula unread; 21 where no trailer stands
unfoldable pub line_told : List ℤ → ℕ → Line
line_told ws e =
    let b = e - trailer_length (form_of ws) in
    cond (leb (trailer_length (form_of ws)) e && leb e (length ws)) (trailer_line b (trailer_at ws b)) (no_line 21)

-- the number of a refusal
abbrev pub refusal : Missing → ℕ
refusal NoList = 20
refusal NoLine = 21

-- an answer is the line l, whose number is 0, or why l is none
abbrev pub Told : P.Result Line Missing → Line → Type 0
Told (P.Ok k) l = (k ≡ l) × (l.number ≡ 0)
Told (P.Err m) l = no_line (refusal m) ≡ l

-- where a reader goes on, from the line that it read at the place e
abbrev pub place_after : Line → ℕ → ℕ
place_after l e = cond (eqb l.number 0) l.start e

-- the same, from an answer
abbrev pub place_of : P.Result Line Missing → ℕ → ℕ
place_of (P.Ok l) e = l.start
place_of (P.Err m) e = e

-- an answer as a line alone: the line, or one of zeros with the number of the refusal
abbrev pub line_alone : P.Result Line Missing → Line
line_alone (P.Ok l) = l
line_alone (P.Err m) = no_line (refusal m)

-- ---- a whole list, and the line at an index

-- n lines that end at a place, in the form that the last word tells
abbrev pub lines_ending : List ℤ → ℕ → ℕ → Option (List Found)
lines_ending ws = lines_before (form_of ws) ws

-- the line at an index of those that were found, or 20
abbrev pub line_among : Option (List Found) → ℤ → Line
line_among o i = elim o [ some fs ↦ line_of fs i | none ↦ no_line 20 ]

-- the count that the last word tells; 0 for no list
unfoldable pub claimed : List ℤ → ℕ
claimed ws = cond (leb (length ws) 16384) (count_told (last_word ws)) 0

-- it is a word's number
pub record Claimed (ws : List ℤ) (n : ℕ) : Type 0 where
  pub is : n ≡ claimed ws
  pub small : n < 4294967295
