-- The turns of the writer of lines: what may be read of the line that is next, that it was written (`lined`), and the count at the end
-- (`all_lined`). Assumes nothing.
use Rattle.std.specs.Prelude.{ℕ, ◌+◌, ◌-◌, ◌≤◌, ◌<◌, ◌≡◌, ℤ, get_or}
use Rattle.std.proofs.Math.Path.{refl, ap}
use Rattle.std.proofs.Common.{sym, ◌∙◌, arith as linear, length-append, length-drop}
use mathlib.Core.List.{List, [], ◌∷◌, ◌++◌, append_assoc}
use Rattle.std.proofs.Math.IntN.{pos}
use Rattle.std.proofs.Math.ListN.{length}
use Rattle.script.specs.Syntax.{Formula}
use Rattle.script.specs.Conditions.{Condition}
use Rattle.script.specs.Words.{Form, without_depth, with_depth, formula_words, depth_words, trailer, line_words, all_lines, count_word}
use Rattle.script.specs.Listing.{trailer_length, form_of}
use Rattle.theorems.specs.Writing.{Wrote, fitted, stopped}
use Rattle.output.specs.declared.Output.{Output}
use Rattle.output.specs.Written.{Written, then, written_as, written_length}
use Rattle.theorems.specs.Line.{trailer_size}
use Rattle.theorems.specs.WordsAt.{Stands, stands_as, inside, word, past, front, behind, formula, node_inside}
use Rattle.shortening.specs.Simplify.{order, shortenᶠ, shorten_condition, shorten_all}
use Rattle.shortening.specs.Never.{never_longer}
use Rattle.list_reader.specs.Lines.{Tail}
use Rattle.shortener.specs.Turns.{Begins, WroteShort}
use Rattle.shortener.specs.Lines.{Trailing, fourth, Trailed, Listed, AllWritten, rest_words, LinesLeft, Lining}

-- ---- a trailer that stands at a place

module _ (ws : List ℤ) (at : ℕ) where
  -- its fourth word is the depth
  fourth_is : (form : Form) (d : ℕ) (us : List ℤ) → Stands ws (at + 3) (depth_words form d ++ us) → fourth form ws at ≡ depth_words form d
  fourth_is without_depth d us s = refl
  fourth_is with_depth d us s = ap (λ w. w ∷ []) (word s)

  -- it ends where the others do, or before
  trailer_ends : (form : Form) (c : Condition) (us : List ℤ) → Stands ws at (trailer form c ++ us) → at + trailer_length form ≤ length ws
  trailer_ends form c us s =
      let size = trailer_size form c in
      let all = length-append (trailer form c) (us ++ s.rest) in
      omega (linear, ap length s.is, ap length (append_assoc (trailer form c) us s.rest), length-drop at ws)

-- ---- the line that is next

pub record LineNext (ws : List ℤ) (count at left : ℕ) (rest : List Condition) : Type 0 where
  pub line : Condition
  pub others : List Condition
  pub is : rest ≡ line ∷ others
  pub many : length others ≡ left - 1
  pub claim : Stands ws at (formula_words line.claim)
  pub trailer_at : Stands ws (at + length (formula_words line.claim)) (trailer (form_of ws) line ++ rest_words (form_of ws) count others)

module _ (ws : List ℤ) (count at left : ℕ) where
  line_next : (rest : List Condition) → 0 < left → length rest ≡ left → Stands ws at (rest_words (form_of ws) count rest)
      → LineNext ws count at left rest
  unfolding all_lines line_words
  line_next [] h m s = absurd (omega (linear, m))
  line_next (c ∷ cs) h m s =
      let form = form_of ws in
      let whole =
      stands_as
      (append_assoc (formula_words c.claim ++ trailer form c) (all_lines form cs) (count_word form count ∷ [])
      ∙ append_assoc (formula_words c.claim) (trailer form c) (rest_words form count cs)) s in
      record {
        line = c;
        others = cs;
        is = refl;
        many = omega (linear, m);
        claim = front (trailer form c ++ rest_words form count cs) whole;
        trailer_at = behind (formula_words c.claim) whole;
      }

module _ {ws : List ℤ} {count : ℕ} {es ks₀ : List ℕ} {o₀ : Output ℤ} {at left : ℕ} {ks : List ℕ} {o : Output ℤ}
    (t : Lining ws count es ks₀ o₀ at left ks o) (more : 0 < left) where
  next_of : (cs : List Condition) (h : Listed ws count cs) → LineNext ws count at left (t.lines cs h).rest
  next_of cs h = let g = t.lines cs h in line_next ws count at left g.rest more g.many g.stands

  -- the line of the conditions that are listed
  next : LineNext ws count at left (t.lines t.ready.conditions t.ready.listed).rest
  next = next_of t.ready.conditions t.ready.listed

  end_is : (f : Formula) → Stands ws at (formula_words f) → get_or es at 0 ≡ at + length (formula_words f)
  end_is f s = t.ready.ended.end at (formula f) s

  pub end_read : at < length es
  end_read = let i = node_inside (formula next.line.claim) next.claim in let r = t.ready.ended.room in omega linear

  trailer_stands : {cs : List Condition} (n : LineNext ws count at left cs)
      → Stands ws (get_or es at 0) (trailer (form_of ws) n.line ++ rest_words (form_of ws) count n.others)
  trailer_stands n = rw (end_is n.line.claim n.claim) n.trailer_at

  pub trailer_inside : get_or es at 0 + trailer_length (form_of ws) ≤ length ws
  trailer_inside = trailer_ends ws (get_or es at 0) (form_of ws) next.line _ (trailer_stands next)

  pub begins : Begins ws at (get_or es at 0) es ks
  begins = record {
    claim = next.line.claim;
    stands = next.claim;
    ends = sym (end_is next.line.claim next.claim);
    ended = t.ready.ended;
    told = record { told = λ q x h i. t.told.told q x h (let j = trailer_inside in omega linear) };
    room = let r = t.ready.room in let s = t.changes in omega linear;
  }

  module _ {ks' : List ℕ} {o' : Output ℤ} (w : WroteShort ws at (get_or es at 0) ks o ks' o') where
    -- the formula of a line
    wrote_claim : (f : Formula) → Stands ws at (formula_words f) → Written o (formula_words (shortenᶠ order f)) o'
    wrote_claim f s = w.wrote f s (sym (end_is f s))

    placed : {vs : List ℤ} → Written o vs o' → o'.at ≤ length o'.list.now → o'.at ≡ o.at + length vs
    placed v = by v.wrote
      where
        by : {vs : List ℤ} → Wrote o.list.now o.at vs o'.at o'.list.now → o'.at ≤ length o'.list.now → o'.at ≡ o.at + length vs
        by (fitted h n s) i = n
        by (stopped h n s) i = absurd (omega linear)

    spanned : {vs : List ℤ} → length vs ≤ 16384 → Written o vs o' → o'.at ≤ length o'.list.now → (o.at ≤ o'.at) × (o'.at - o.at ≤ 16384)
    spanned m w i = let e = placed w i in (omega (linear, e), omega (linear, e))

    pub trailing : {tail : ℕ} → Tail ws tail → Trailing ws tail (get_or es at 0) o.at o'
    trailing words =
        let f = next.line.claim in
        let e = end_is f next.claim in
        let j = trailer_inside in
        let m = never_longer order f in
        let z = t.ready.short in
        record { words = words; inside = rw words.is j; spans = spanned (omega linear) (wrote_claim f next.claim) }

    module _ {o'' : Output ℤ} {tail : ℕ} (words : Tail ws tail) (v : Trailed ws (get_or es at 0) o.at o' o'') where
      -- the whole line
      wrote_line : {cs : List Condition} (n : LineNext ws count at left cs)
          → Written o (line_words (form_of ws) (shorten_condition order n.line)) o''
      unfolding line_words
      wrote_line n =
          let f = shortenᶠ order n.line.claim in
          let first = wrote_claim n.line.claim n.claim in
          let s = trailer_stands n in
          let k = word s in
          let m = word (past s) in
          let d = fourth_is ws (get_or es at 0) (form_of ws) n.line.depth _ (behind (_ ∷ _ ∷ _ ∷ []) s) in
          then first (written_as (λ i. k i ∷ m i ∷ pos (length (formula_words f)) ∷ d i) (v (length (formula_words f)) (placed first)))

      lines_on : (cs : List Condition) (h : Listed ws count cs) → LinesLeft ws count (get_or es at 0 + tail) (left - 1) o₀ cs o''
      unfolding all_lines
      lines_on cs h =
          let g = t.lines cs h in
          let n = next_of cs h in
          let c = shorten_condition order n.line in
          let ds = shorten_all order n.others in
          let form = form_of ws in
          record {
            rest = n.others;
            many = n.many;
            stands = rw (words.is, ← trailer_size form n.line) (behind (trailer form n.line) (trailer_stands n));
            writes = λ k u.
                g.writes k
                (written_as
                (sym (append_assoc (line_words form c) (all_lines form ds) (count_word form count ∷ []))
                ∙ ap (λ (x : List Condition). rest_words form count (shorten_all order x)) (sym n.is))
                (then (wrote_line n) u));
          }

      pub lined : Lining ws count es ks₀ o₀ (get_or es at 0 + tail) (left - 1) ks' o''
      lined = record {
        ready = t.ready;
        told = record {
          told = λ k x h i s.
              let e = end_is next.line.claim next.claim in
              w.same.same k (omega linear) ∙ t.told.told k x (omega linear) i s;
        };
        changes = w.same.length ∙ t.changes;
        list = written_length (wrote_line next) ∙ t.list;
        lines = lines_on;
      }

-- ---- the count

module _ {ws : List ℤ} {count : ℕ} {es ks₀ : List ℕ} {o₀ : Output ℤ} {at left : ℕ} {ks : List ℕ} {o : Output ℤ}
    (t : Lining ws count es ks₀ o₀ at left ks o) (none : left ≤ 0) where
  count_stands : (cs : List Condition) (h : Listed ws count cs) → Stands ws at (count_word (form_of ws) count ∷ [])
  unfolding all_lines
  count_stands cs h = of_rest (t.lines cs h).rest (t.lines cs h).many (t.lines cs h).stands
    where
      of_rest : (rest : List Condition) → length rest ≡ left → Stands ws at (rest_words (form_of ws) count rest)
          → Stands ws at (count_word (form_of ws) count ∷ [])
      of_rest [] m s = s
      of_rest (c ∷ rest) m s = absurd (omega (linear, m))

  pub count_inside : at < length ws
  count_inside = inside (count_stands t.ready.conditions t.ready.listed)

  pub all_lined : {o' : Output ℤ} → Written o (get_or ws at (pos 0) ∷ []) o' → AllWritten ws count o₀ o'
  unfolding all_lines
  all_lined {o'} w cs h =
      let g = t.lines cs h in
      g.writes o' (written_as (ap (λ z. z ∷ []) (word (count_stands cs h)) ∙ of_rest g.rest g.many) w)
    where
      of_rest : (rest : List Condition) → length rest ≡ left
          → (count_word (form_of ws) count ∷ []) ≡ rest_words (form_of ws) count (shorten_all order rest)
      of_rest [] m = refl
      of_rest (c ∷ rest) m = absurd (omega (linear, m))
