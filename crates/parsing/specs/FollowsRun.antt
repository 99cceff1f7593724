-- The machine follows the reader along a text (`run_follows`): it is refused where that is stuck, and holds the state
-- that is read, with the place of the first number out of range. By `take_follows`, token by token. Assumes nothing.
use Rattle.std.specs.Prelude.{ℕ, ◌+◌, ◌≤◌, ◌<◌, ◌≡◌, refl, Bool, true, false, cond, List, [], ◌∷◌, ◌++◌, eqb, length}
use Rattle.std.proofs.Common.{sym, ap, ◌∙◌, subst, arith as linear, length-append, ne_eqb}
use Rattle.std.proofs.Math.Option.{Option, none, some}
use Rattle.script.specs.Listing.{◌>>=◌}
use Rattle.theorems.specs.Options.{none_is_not, some_inj}
use Rattle.grammar.specs.Tokens.{Token}
use Rattle.grammar.specs.Scanning.{Lexeme, tokens_of}
use Rattle.grammar.specs.States.{State}
use Rattle.grammar.specs.Reader.{take as take-token, read}
use Rattle.grammar.specs.Ranges.{flag, All, all_of}
use Rattle.grammar.specs.Outcome.{has_room, out_of_range, out_after as range-after, or_at, stuck}
use Rattle.grammar.specs.Numbers.{token_number, token_value}
use Rattle.grammar.specs.TextSound.{Came, take_keeps}
use Rattle.grammar.specs.AllLaws.{all_true}
use Rattle.grammar.specs.StateFlags.{state_flags}
use Rattle.grammar.specs.Written.{written_in, Settled}
use Rattle.grammar.specs.Adds.{take_adds}
use Rattle.parser.specs.Machine.{Config, nowhere, out_after, take, run}
use Rattle.parsing.specs.Encoding.{Control, Data}
use Rattle.parsing.specs.DataTake.{take_move, take_data}
use Rattle.parsing.specs.DataRun.{take_ranges, read_room}
use Rattle.parsing.specs.Heights.{stack_low}
use Rattle.parsing.specs.Following.{from, Kept, Refused, Follows}
use Rattle.parsing.specs.Follows.{take_follows}

-- ---- the first number out of range

abbrev pub out_with : ℕ → Option ℕ → ℕ
out_with o none = o
out_with o (some p) = out_after o false p

-- a place that is kept
kept_out : (o : ℕ) (v : Option ℕ) → eqb o nowhere ≡ false → out_with o v ≡ o
kept_out o none e = refl
kept_out o (some p) e = rw e

out_chained : (o p : ℕ) (b : Bool) (v : Option ℕ) → p < nowhere
    → out_with (out_after o b p) v ≡ out_with o (cond b v (some p))
out_chained o p true v l = refl
out_chained o p false v l = at_test (eqb o nowhere) refl
  where
    at_test : (k : Bool) → eqb o nowhere ≡ k → out_with (cond k p o) v ≡ cond k p o
    at_test true e = kept_out p v (ne_eqb p nowhere (λ q. absurd (omega (linear, q))))
    at_test false e = kept_out o v e

in_range : (b : Bool) (v : Option ℕ) (p : ℕ) → cond b v (some p) ≡ none → (b ≡ true) × (v ≡ none)
in_range true v p e = (refl, e)
in_range false v p e = none_is_not (sym e)

-- ---- along a text

-- in d the machine holds r, which was read from s; v is the place of the first number out of range
pub record Reached (s : State) (c : Config) (v : Option ℕ) (r : State) (d : Config) : Type 0 where
  pub control : Control r d
  pub out : d.state.out ≡ out_with c.state.out v
  pub words : length d.words ≡ length c.words
  pub holding : Data s c → All (state_flags s) → v ≡ none
      → has_room (length c.words) (length (written_in r)) ≡ true → Data r d

-- u is the place of the token that is refused, o what is read
pub record Ran (s : State) (c : Config) (u : Option ℕ) (o : Option State) (v : Option ℕ) (d : Config) : Type 0 where
  pub stops : (p : ℕ) → u ≡ some p → Refused p d
  pub reaches : (r : State) → o ≡ some r → Reached s c v r d

-- places that a text has
abbrev pub Placed : List Lexeme → Type 0
Placed [] = Unit {0}
Placed (l ∷ ls) = (l.place < nowhere) × Placed ls

stays_refused : (ls : List Lexeme) (c : Config) → c.state.mode ≡ 4 → run c ls ≡ c
unfolding run take
stays_refused [] c e = refl
stays_refused (l ∷ ls) c e =
    let same : take c (token_number l.token) (token_value l.token) l.place ≡ c =
    rw (is_mode 0 e, is_mode 1 e, is_mode 2 e, is_mode 3 e) in
    ap (λ (d : Config). run d ls) same ∙ stays_refused ls c e
  where
    is_mode : (n : ℕ) {m i : ℕ} → m ≡ i → eqb m n ≡ eqb i n
    is_mode n q = ap (λ k. eqb k n) q

abbrev taken : Config → Lexeme → Config
taken c l = take c (token_number l.token) (token_value l.token) l.place

-- one token more
reached_then : (s : State) (ts : List Token) (c : Config) (l : Lexeme) (r : State) (ls : List Lexeme) (q : State)
    (d : Config) → Came s ts
    → Settled s.mode s.stack → Control s c → length s.stack < length c.stack → l.place < nowhere
    → take-token s l.token ≡ some r
    → Kept r (from c (all_of (flag s.mode s.stack l.token)) l.place) (taken c l)
    → (all_of (flag s.mode s.stack l.token) ≡ true → taken c l ≡ take_move s l.token c l.place)
    → read r (tokens_of ls) ≡ some q → Reached r (taken c l) (out_of_range r ls) q d
    → Reached s c (cond (all_of (flag s.mode s.stack l.token)) (out_of_range r ls) (some l.place)) q d
reached_then s ts c l r ls q d h a k room low e kept moves read-on i =
    let t = l.token in
    let b = all_of (flag s.mode s.stack t) in
    let v = out_of_range r ls in
    record {
      control = i.control;
      out = i.out ∙ ap (λ (o : ℕ). out_with o v) kept.out ∙ out_chained c.state.out l.place b v low;
      words = i.words ∙ kept.words;
      holding = λ held all sure fits.
          let g = in_range b v l.place sure in
          let own = all_true (flag s.mode s.stack t) g.0 in
          let before = read_room (tokens_of ls) r (ts ++ (t ∷ [])) q (length c.words) (take_keeps s t ts r h e)
          (take_adds s t ts r h a e).settled read-on fits in
          let now = take_data s t ts r c l.place h a all own room k held e before in
          i.holding (subst (λ (m : Config). Data r m) (sym (moves g.0)) now) (take_ranges s t ts r h all own e)
          g.1
          (ap (λ (n : ℕ). has_room n (length (written_in q))) kept.words ∙ fits);
    }

pub run_follows : (ls : List Lexeme) (s : State) (ts : List Token) (c : Config) → Came s ts
    → Settled s.mode s.stack → Control s c
    → length ts + length ls ≤ length c.stack → length ts + length ls < 65536 → Placed ls
    → Ran s c (stuck s ls) (read s (tokens_of ls)) (out_of_range s ls) (run c ls)
unfolding stuck read out_of_range run
run_follows [] s ts c h a k room small low =
    record {
      stops = λ p e. none_is_not e;
      reaches = λ r e. subst (λ (q : State). Reached s c none q c) (some_inj e)
          (record { control = k; out = refl; words = refl; holding = λ d all sure fits. d });
    }
run_follows (l ∷ ls) s ts c h a k room small low =
    let t = l.token in
    let depth = stack_low s ts h in
    at_result (take-token s t) refl (take_follows s ts c t l.place h a k (omega linear) (omega linear))
    (λ r e kept. run_follows ls r (ts ++ (t ∷ [])) (taken c l) (take_keeps s t ts r h e)
    (take_adds s t ts r h a e).settled kept.control
    (omega (linear, length-append ts (t ∷ []), kept.stack)) (omega (linear, length-append ts (t ∷ []))) low.1)
  where
    at_result : (o : Option State) → take-token s l.token ≡ o
        → Follows o (from c (all_of (flag s.mode s.stack l.token)) l.place)
        (take_move s l.token c l.place) (taken c l)
        → ((r : State) → take-token s l.token ≡ some r
        → Kept r (from c (all_of (flag s.mode s.stack l.token)) l.place) (taken c l)
        → Ran r (taken c l) (stuck r ls) (read r (tokens_of ls)) (out_of_range r ls) (run (taken c l) ls))
        → Ran s c (or_at o l.place (λ r. stuck r ls)) (o >>= λ r. read r (tokens_of ls))
        (cond (all_of (flag s.mode s.stack l.token)) (range-after o (λ r. out_of_range r ls))
        (some l.place)) (run (taken c l) ls)
    at_result none e f again =
        let stop = f.stops refl in
        record {
          stops = λ p q. subst (λ (d : Config). Refused p d) (sym (stays_refused ls (taken c l) stop.mode))
              (subst (λ (n : ℕ). Refused n (taken c l)) (some_inj q) stop);
          reaches = λ r q. none_is_not q;
        }
    at_result (some r) e f again =
        let kept = f.goes r refl in
        let i = again r e kept in
        record {
          stops = i.stops;
          reaches =
              λ q z. reached_then s ts c l r ls q (run (taken c l) ls) h a k (omega (linear, stack_low s ts h))
              low.0 e kept
              (f.moved r refl) z (i.reaches q z);
        }
