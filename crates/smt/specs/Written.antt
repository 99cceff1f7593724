-- 02, P1: what is answered and left in the text buffer for a list, an index and a buffer of any length. "30 when the text
-- buffer is too short, after 20 and 21." Then what the answer says: where the number is 0, the text is read as the script of
-- the condition at the index (`written_read`); and the buffer keeps its length (`written_length`). Assumes nothing.
use Rattle.std.specs.Prelude.{ℕ, ◌-◌, ◌≡◌, refl, ◌≢◌, ◌↔◌, Bool, true, false, cond, ℤ, pos, negsuc, ltb, length, replicate, take}
use Rattle.std.proofs.Math.Option.{Option, none, some}
use mathlib.Core.List.{List, ◌++◌, Memᴰ}
use Rattle.std.proofs.Common.{arith as linear, length-append, ltb-false}
use Rattle.std.proofs.Math.ListN.{get_elem?}
use Rattle.std.proofs.lemmas.List.{length-replicate}
use Rattle.std.proofs.Math.Seq.{take-append_seam}
use Rattle.script.specs.Rows.{variables}
use Rattle.script.specs.Listing.{Found, form_of, lines, lines_within, read_list}
use Rattle.script.specs.WellFormed.{InRangeᶠ}
use Rattle.theorems.specs.Options.{none_is_not}
use Rattle.theorems.specs.ReadBack.{conditions_of, written_read as well_formed}
use Rattle.theorems.specs.Lookup.{condition_of, range_at}
use Rattle.smt.specs.Smt.{Symbol, declared, claim_symbols}
use Rattle.smt.specs.Declared.{InOrder, declared_in_order, declared_iff, declared_once}
use Rattle.smt.specs.Once.{Once}
use Rattle.smt.specs.Translate.{assertion, script, script_within}
use Rattle.smt.specs.Reader.{read_script}
use Rattle.smt.specs.Text.{script_text}
use Rattle.smt.specs.ReadBack.{script_read}

-- the number, the bytes used, and every byte that the buffer then holds
pub record Written : Type 0 where
  pub number : ℕ
  pub used : ℕ
  pub buffer : List ℕ

abbrev pub refuse : ℕ → ℕ → Written
refuse n room = record { number = n; used = 0; buffer = replicate room 0 }

-- "30 when the text buffer is too short"
abbrev pub fit : List ℕ → ℕ → Written
fit text room =
    cond (ltb room (length text)) (refuse 30 room)
    (record { number = 0; used = length text; buffer = text ++ replicate (room - length text) 0 })

abbrev pub condition_text_within : ℕ → Found → List ℕ
condition_text_within limit f = script_text (script_within limit f.condition.claim)

-- 21: "index negative or not below the count"
abbrev pub found_at : List Found → ℤ → Option Found
found_at fs (pos i) = get_elem? fs i
found_at fs (negsuc i) = none

abbrev pub fit_found_within : ℕ → Option Found → ℕ → Written
fit_found_within limit none room = refuse 21 room
fit_found_within limit (some f) room = fit (condition_text_within limit f) room

-- 20: "the words are not a list, all read"
abbrev pub fit_lines_within : ℕ → Option (List Found) → ℤ → ℕ → Written
fit_lines_within limit none i room = refuse 20 room
fit_lines_within limit (some fs) i room = fit_found_within limit (found_at fs i) room

-- where the variables are those below a limit
unfoldable pub written_within : ℕ → List ℤ → ℤ → ℕ → Written
written_within limit ws i room = fit_lines_within limit (lines_within limit ws) i room

abbrev pub condition_text : Found → List ℕ
condition_text = condition_text_within variables

abbrev pub fit_found : Option Found → ℕ → Written
fit_found = fit_found_within variables

abbrev pub fit_lines : Option (List Found) → ℤ → ℕ → Written
fit_lines = fit_lines_within variables

abbrev pub written : List ℤ → ℤ → ℕ → Written
written = written_within variables

-- ---- the buffer's length

pub written_length : (ws : List ℤ) (i : ℤ) (room : ℕ) → length (written ws i room).buffer ≡ room
unfolding written_within
written_length ws i room = of_lines (lines ws)
  where
    of_room : (text : List ℕ) (b : Bool) → ltb room (length text) ≡ b
        → length (cond b (refuse 30 room) (record { number = 0; used = length text; buffer = text ++ replicate (room - length text) 0 })).buffer
        ≡ room
    of_room text true e = length-replicate room 0
    of_room text false e =
        let fits = ltb-false room (length text) e in
        simp (length-append, length-replicate) (omega linear)

    of_found : (o : Option Found) → length (fit_found o room).buffer ≡ room
    of_found none = length-replicate room 0
    of_found (some f) = of_room (condition_text f) (ltb room (length (condition_text f))) refl

    of_lines : (o : Option (List Found)) → length (fit_lines o i room).buffer ≡ room
    of_lines none = length-replicate room 0
    of_lines (some fs) = of_found (found_at fs i)

-- ---- what the answer says

-- the condition at the index, and its script, which the text is read as
pub record TextOf (ws : List ℤ) (i : ℤ) (w : Written) : Type 0 where
  pub all : List Found
  pub listed : lines ws ≡ some all
  pub found : Found
  pub at : found_at all i ≡ some found
  pub range : InRangeᶠ found.condition.claim
  pub read : read_script (take w.used w.buffer) ≡ some (script found.condition.claim)

range_found : (ws : List ℤ) (fs : List Found) (i : ℤ) → lines ws ≡ some fs → (f : Found) → found_at fs i ≡ some f → InRangeᶠ f.condition.claim
unfolding read_list
range_found ws fs (pos k) p f q =
    range_at (form_of ws) (conditions_of fs) k (well_formed ws (conditions_of fs) (rw (p, read_list))).ranges (condition_of fs k q)
range_found ws fs (negsuc k) p f q = none_is_not q

pub written_read : (ws : List ℤ) (i : ℤ) (room : ℕ) → (written ws i room).number ≡ 0 → TextOf ws i (written ws i room)
unfolding written_within
written_read ws i room e = of_lines (lines ws) refl e
  where
    refused : {A : Type 0} (n : ℕ) → n ≢ 0 → n ≡ 0 → A
    refused n h e = absurd (h e)

    of_room : (fs : List Found) (f : Found) → lines ws ≡ some fs → found_at fs i ≡ some f → (b : Bool)
        → let t = condition_text f in
        let w = cond b (refuse 30 room) (record { number = 0; used = length t; buffer = t ++ replicate (room - length t) 0 }) in
        w.number ≡ 0 → TextOf ws i w
    of_room fs f p q true e = refused 30 (λ z. omega linear) e
    of_room fs f p q false e = record {
      all = fs;
      listed = p;
      found = f;
      at = q;
      range = range_found ws fs i p f q;
      read = rw take-append_seam (script_read f.condition.claim);
    }

    of_found : (fs : List Found) → lines ws ≡ some fs → (o : Option Found) → found_at fs i ≡ o → (fit_found o room).number ≡ 0
        → TextOf ws i (fit_found o room)
    of_found fs p none q e = refused 21 (λ z. omega linear) e
    of_found fs p (some f) q e = of_room fs f p q (ltb room (length (condition_text f))) e

    of_lines : (o : Option (List Found)) → lines ws ≡ o → (fit_lines o i room).number ≡ 0 → TextOf ws i (fit_lines o i room)
    of_lines none p e = refused 20 (λ z. omega linear) e
    of_lines (some fs) p e = of_found fs p (found_at fs i) refl e

-- a text that was written declares exactly the names in its assertion, each once, variables before marks, in rising number
pub written_declares : (ws : List ℤ) (i : ℤ) (room : ℕ) (e : (written ws i room).number ≡ 0)
    → let f = (written_read ws i room e).found.condition.claim in
    ((w : Symbol) → Memᴰ w (claim_symbols (assertion f)) ↔ Memᴰ w (declared (script f)))
    × Once (declared (script f)) × InOrder (declared (script f))
written_declares ws i room e =
    let t = written_read ws i room e in
    let f = t.found.condition.claim in
    (declared_iff f t.range, declared_once f, declared_in_order f)
