-- From what is known after the tokens, and in the end, the answer (`stopped`, `taken`, `answered`). Assumes nothing.
use Rattle.std.specs.Prelude.{ℕ, ◌*◌, ◌-◌, ◌≤◌, ◌<◌, ◌≡◌, refl, true, ℤ, pos, Result, Ok, Err, is_err}
use Rattle.std.proofs.Common.{sym, ◌∙◌, subst, arith as linear, le-leb}
use Rattle.std.proofs.Math.Path.{ap}
use mathlib.Core.List.{List, [], ◌++◌}
use Rattle.std.proofs.lemmas.Bool.{lt-leb}
use Rattle.std.proofs.Math.ListN.{length}
use Rattle.std.proofs.lemmas.List.{length-replicate}
use Rattle.script.specs.Generated.{zeros}
use Rattle.grammar.specs.Scanning.{Scanned, no_token, lexemes, scan}
use Rattle.grammar.specs.Grammar.{Phrase}
use Rattle.grammar.specs.Counts.{size}
use Rattle.grammar.specs.Rows.{by_row}
use Rattle.grammar.specs.Meaning.{text_rows, text_table}
use Rattle.grammar.specs.Outcome.{refused, scanned_out, outcome}
use Rattle.grammar.specs.Answer.{told, answer}
use Rattle.grammar.specs.Tests.{false_is_not}
use Rattle.grammar.specs.Sizes.{table_length}
use Rattle.grammar.specs.TextTree.{flat_length}
use Rattle.grammar.specs.Written.{stack_rows, stack_size}
use Rattle.marks.specs.Quads.{marks_named}
use Rattle.marks.specs.Texts.{text_named}
use Rattle.parser.specs.declared.State.{State}
use Rattle.parser.specs.Machine.{Config, start, run}
use Rattle.parsing.specs.DataRows.{room_is}
use Rattle.parsing.specs.Answers.{Table, Answers, text_answers}
use Rattle.script_reader.specs.declared.refusals.Fault.TheVariants.{NoToken, TooLong}
use Rattle.script_reader.specs.declared.refusals.Refusal.{Refusal}
use Rattle.script_reader.specs.Results.{fault_number}
use Rattle.script_reader.specs.Takes.{Takes, Taken, Told, no_text, out_of_range, no_room, read, Gives, Comes}

-- ---- a refusal

pub refuses : (bs : List ℕ) (room : ℕ) (e : Refusal) (ws : List ℤ) → Comes bs room (Err e) ws → (vs : List ℤ) → vs ≡ zeros room
    → Gives (answer bs room) (Err e) vs
unfolding answer told
refuses bs room e ws h vs z = rw (h, z)

pub too_long : (bs : List ℕ) (room : ℕ) (ws : List ℤ) → 32768 < length bs → ws ≡ zeros room
    → Gives (answer bs room) (Err (record { fault = TooLong; place = 0 })) ws
unfolding outcome
too_long bs room ws h z = refuses bs room (record { fault = TooLong; place = 0 }) ws (rw (lt-leb (length bs) 32768 h)) ws z

-- once the words of a refusal are cleared
pub cleared : (bs : List ℕ) (room : ℕ) (r : Result ℕ Refusal) (ws : List ℤ) → Comes bs room r ws → is_err r ≡ true
    → (vs : List ℤ) → vs ≡ zeros room → Gives (answer bs room) r vs
cleared bs room (Ok n) ws h e vs z = false_is_not e
cleared bs room (Err x) ws h e vs z = refuses bs room x ws h vs z

-- ---- what is answered in the end

table_words : (x : Phrase) → length (text_table x) ≡ 4 * size x
unfolding text_table text_rows
table_words x = omega (linear, flat_length (text_rows x), table_length by_row x [] 0)

module _ (bs : List ℕ) (room : ℕ) (c : Config) (a : Answers room bs c) (r : Result ℕ Refusal) (ws : List ℤ) where
  gives : (b : Table room bs c) → ws ≡ marks_named c.state.rows c.words → Gives (answer bs room) (Ok (4 * c.state.rows)) ws
  unfolding answer told stack_rows stack_size
  gives b z =
      let x = b.of in
      let used : 4 * c.state.rows ≡ length (text_table x) = omega (linear, b.rows, table_words x) in
      let left : zeros (room - 4 * size x) ≡ zeros (room - length (text_table x)) = ap (λ (n : ℕ). zeros (room - n)) (sym (table_words x)) in
      let words = z ∙ ap (λ (n : ℕ). marks_named n c.words) b.rows ∙ ap (λ (vs : List ℤ). marks_named (size x) vs) b.words
      ∙ text_named x b.is.spells.good (zeros (room - 4 * size x)) ∙ ap (λ (vs : List ℤ). text_table x ++ vs) left in
      rw (b.gives, used, words)

  told_answers : Told c.state c.words r ws → Comes bs room r ws
  told_answers (no_text m q) = rw q (a.stuck_there m)
  told_answers (out_of_range m o q) = rw q (a.out_there m o)
  told_answers (no_room m o n q) = rw q (a.too_many m o n)
  told_answers (read m o n q z) = rw q (gives (a.whole m o n) z)

-- ---- the tokens

module _ (bs st : List ℕ) (ws₀ : List ℤ) (short : length bs ≤ 32768) (high : length bs < length st) (cleared : ws₀ ≡ zeros (length ws₀))
    {p : Result State Refusal} {ws : List ℤ} (t : Takes (scan bs) (start st ws₀) p ws) where
  pub stopped : {e : Refusal} → p ≡ Err e → (vs : List ℤ) → Comes bs (length ws₀) (Err e) vs
  unfolding outcome
  stopped {e} w vs = rw (le-leb (length bs) 32768 short) (at_scan (scan bs) refl)
    where
      at_scan : (s : Scanned) → scan bs ≡ s → scanned_out (length ws₀) s ≡ refused (fault_number e.fault) e.place
      at_scan (no_token q) i =
          let same : e ≡ record { fault = NoToken; place = q } = let s = t.stops q i in cc in
          rw same
      at_scan (lexemes ls) i = let s = (t.goes ls i).0 in cc

  -- the machine after the last token
  record Last (s : State) : Type 0 where
    last : Config
    state : s ≡ last.state
    words : ws ≡ last.words
    answers : Answers (length ws₀) bs last

  known : {s : State} → p ≡ Ok s → Last s
  known {s} w = at_scan (scan bs) refl
    where
      at_scan : (r : Scanned) → scan bs ≡ r → Last s
      at_scan (no_token q) e = let n = t.stops q e in cc
      at_scan (lexemes ls) e =
          let g = t.goes ls e in
          record {
            last = run (start st ws₀) ls;
            state = cc (g.0);
            words = g.1;
            answers = text_answers st bs ws₀ ls (le-leb (length bs) 32768 short) e high cleared;
          }

  pub taken : {s : State} → p ≡ Ok s → Taken s ws
  taken w =
      let k = known w in
      rw k.state (λ m o n.
      let b = k.answers.whole m o n in
      let f = room_is (length ws₀) (size b.of) b.is.room_for in
      omega (linear, b.rows, f.most, f.words, t.size))

  pub answered : {s : State} → p ≡ Ok s → {r : Result ℕ Refusal} {ws' : List ℤ} → Told s ws r ws' → Comes bs (length ws₀) r ws'
  answered w {r} {ws'} h =
      let k = known w in
      told_answers bs (length ws₀) k.last k.answers r ws'
      (subst (λ (vs : List ℤ). Told k.last.state vs r ws') k.words (subst (λ (s : State). Told s ws r ws') k.state h))

-- ---- the entry

pub stays_clear : (ws : List ℤ) (n : ℕ) → ws ≡ zeros n → ws ≡ zeros (length ws)
stays_clear ws n e = e ∙ ap (λ (k : ℕ). zeros k) (sym (ap (λ (vs : List ℤ). length vs) e ∙ length-replicate n (pos 0)))
