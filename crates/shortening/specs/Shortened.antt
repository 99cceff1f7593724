-- 02, P6: "Add a pass over one list that writes another": its number, the words used and the whole buffer, for every
-- words and every length of the output. Then the entry over two lists: its number, and the part of which list. Assumes
-- nothing.
use Rattle.std.specs.Prelude.{ℕ, ◌-◌, List, ◌++◌, cond, ℤ, eqb, ltb, length, take}
use Rattle.std.proofs.Math.Option.{Option, none, some}
use Rattle.std.proofs.Math.Seq.{slice}
use Rattle.script.specs.declared.Line.{Line}
use Rattle.script.specs.Conditions.{Condition}
use Rattle.script.specs.Words.{Form, list_words}
use Rattle.script.specs.Listing.{form_of, read_list, line_at}
use Rattle.script.specs.Generated.{zeros}
use Rattle.shortening.specs.Simplify.{Order, shorten_all}

-- ---- the pass

pub record Written : Type 0 where
  pub number : ℕ
  pub used : ℕ
  pub list : List ℤ

-- 01: "refusing, it leaves zeros in all it writes and gives zeros for counts"
abbrev pub refuse : ℕ → ℕ → Written
refuse n room = record { number = n; used = 0; list = zeros room }

-- 01: "it gives 0 and the words or bytes used, with zeros after them"
abbrev pub filled : List ℤ → ℕ → Written
filled ws room = record { number = 0; used = length ws; list = ws ++ zeros (room - length ws) }

-- "31 when the output is too short"
abbrev pub fit : List ℤ → ℕ → Written
fit ws room = cond (ltb room (length ws)) (refuse 31 room) (filled ws room)

-- "after 20"; the words of the shortened conditions, so that "trailers get the new lengths"
abbrev pub written_for : Order → Form → Option (List Condition) → ℕ → Written
written_for o form none room = refuse 20 room
written_for o form (some cs) room = fit (list_words form (shorten_all o cs)) room

-- 02, P9: "P6 take both forms, P6 writing the one it read"
unfoldable pub written : Order → List ℤ → ℕ → Written
written o ws room = written_for o (form_of ws) (read_list ws) room

-- the words used
abbrev pub used_words : Written → List ℤ
used_words r = take r.used r.list

-- ---- the entry over two lists

pub data Which : Type 0 where
  old : Which
  new : Which

pub record Part : Type 0 where
  pub number : ℕ
  pub which : Which
  pub start : ℕ
  pub end : ℕ

-- "with the empty part at the old one's front"
abbrev pub no_part : ℕ → Part
no_part n = record { number = n; which = old; start = 0; end = 0 }

abbrev pub part : Which → Line → Part
part w l = record { number = 0; which = w; start = l.start; end = l.end }

-- "hands back the shorter of the two as a part of the slice it stands in, the old one if equal"
abbrev pub shorter_of : Line → Line → Part
shorter_of a b = cond (ltb (b.end - b.start) (a.end - a.start)) (part new b) (part old a)

-- "20, then 21, for the old list, then for the new"
abbrev pub part_for : Line → Line → Part
part_for a b =
    cond (eqb a.number 0) (cond (eqb b.number 0) (shorter_of a b) (no_part b.number)) (no_part a.number)

unfoldable pub shorter : List ℤ → List ℤ → ℤ → Part
shorter us vs i = part_for (line_at us i) (line_at vs i)

-- the words of the part
abbrev pub in_list : Which → List ℤ → List ℤ → List ℤ
in_list old us vs = us
in_list new us vs = vs

abbrev pub part_words : List ℤ → List ℤ → Part → List ℤ
part_words us vs p = slice p.start p.end (in_list p.which us vs)
