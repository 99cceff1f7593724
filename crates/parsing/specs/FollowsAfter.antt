-- After a part, the machine follows the automaton (`after_follows`): operators that hold tighter take the part, and
-- then the token goes on from there. Assumes nothing.
use Rattle.std.specs.Prelude.{ℕ, ◌+◌, ◌≤◌, ◌<◌, ◌≡◌, refl, Bool, true, false, cond, ◌&&◌, List, [], ◌∷◌, eqb, leb, length}
use Rattle.std.proofs.Common.{sym, ap, ◌∙◌, subst, arith as linear}
use Rattle.std.proofs.Math.Option.{Option, none, some}
use Rattle.script.specs.Listing.{◌>>=◌, guarded}
use Rattle.theorems.specs.Options.{some_inj, held}
use Rattle.grammar.specs.Sorts.{Sort, number, expression, formula, statement, script, same_sort}
use Rattle.grammar.specs.Operators.{infix_takes}
use Rattle.grammar.specs.Tokens.{Token, numeral, variable, truth_word, skip_word, not_word, assert_word, becomes, infix_word, form_word, closer_word}
use Rattle.grammar.specs.Grammar.{Phrase, sort}
use Rattle.grammar.specs.States.{Frame, pending, open_at, wants, holds, apply, after as after-part, at}
use Rattle.grammar.specs.Automaton.{Reduced, reduce, reduced, token_binds, infix_at, go_on as go-on-at, step_at}
use Rattle.grammar.specs.Ranges.{depth}
use Rattle.grammar.specs.Numbers.{token_number}
use Rattle.grammar.specs.Contexts.{GoodStack}
use Rattle.grammar.specs.Written.{ApartOn}
use Rattle.parser.specs.Machine.{Config, config, complete, top_frame, end_of, binding, operand_sort, closing, Reduced as Machine-reduced, reduce as machine-reduce, go_on, after}
use Rattle.parsing.specs.Encoding.{sort_letter, Control}
use Rattle.parsing.specs.DataAfter.{reduced_config as config-after, shift_move}
use Rattle.parsing.specs.DataTake.{reduced_move}
use Rattle.parsing.specs.TokenLetters.{infix_letters, TokenLetters, token_letters}
use Rattle.parsing.specs.Following.{Going, from, Refused, Follows, stopped}
use Rattle.parsing.specs.FollowsReduce.{Left, Unfit, Reduces, reduce_follows}
use Rattle.parsing.specs.FollowsGoOn.{go_on_follows}

-- ---- what is left of the stack

record Lower (fs : List Frame) (gs : List Frame) : Type 0 where
  good : GoodStack fs → GoodStack gs
  bodies : depth gs ≡ depth fs
  fewer : length gs ≤ length fs

reduce_lowers : (fs : List Frame) (n : ℕ) (x : Phrase) (r : Reduced) → reduce n x fs ≡ some r → Lower fs r.rest
unfolding reduce depth GoodStack
reduce_lowers [] n x r e =
    subst (λ (q : Reduced). Lower [] q.rest) (some_inj e)
    (record { good = λ g. g; bodies = refl; fewer = omega linear })
reduce_lowers (open_at h c ∷ fs) n x r e =
    subst (λ (q : Reduced). Lower (open_at h c ∷ fs) q.rest) (some_inj e)
    (record { good = λ g. g; bodies = refl; fewer = omega linear })
reduce_lowers (pending f ∷ fs) n x r e = at_test (leb n (holds f)) (λ d. reduce_lowers fs n (apply f x) r d) e
  where
    at_test : (k : Bool) → (reduce n (apply f x) fs ≡ some r → Lower fs r.rest)
        → cond k (guarded (same_sort (sort x) (wants f)) (reduce n (apply f x) fs)) (reduced x (pending f ∷ fs))
        ≡ some r
        → Lower (pending f ∷ fs) r.rest
    at_test true again q =
        let l = again (held (same_sort (sort x) (wants f)) (reduce n (apply f x) fs) q).1 in
        record { good = λ g. l.good g.0; bodies = l.bodies; fewer = omega (linear, l.fewer) }
    at_test false again q =
        subst (λ (p : Reduced). Lower (pending f ∷ fs) p.rest) (some_inj q)
        (record { good = λ g. g; bodies = refl; fewer = omega linear })

-- ---- what did not fit

sort_letters : (s : Sort) → eqb (sort_letter s) 0 ≡ false
sort_letters number = refl
sort_letters expression = refl
sort_letters formula = refl
sort_letters statement = refl
sort_letters script = refl

-- no token takes what did not fit
unfit_operand : (t : Token) (n : ℕ) → TokenLetters t n → eqb (operand_sort n) 0 ≡ false
unfit_operand (numeral v) n q = rw q.2
unfit_operand (variable v) n q = rw q.2
unfit_operand (truth_word b) n q = rw q.2
unfit_operand skip_word n q = rw q.2
unfit_operand not_word n q = rw q.2
unfit_operand assert_word n q = rw q.2
unfit_operand becomes n q = rw q.2
unfit_operand (infix_word o) n q = rw (q.2.0, (infix_letters o).1) (sort_letters (infix_takes o))
unfit_operand (form_word f) n q = rw q.2
unfit_operand (closer_word f) n q = rw q.2

never : (b : Bool) → (b && false) ≡ false
never true = refl
never false = refl

abbrev reduced_config : Config → Machine-reduced → Config
reduced_config c m = config (complete c.state m.sort m.rows m.top) c.stack m.words

unfit_follows : (t : Token) (n : ℕ) (c : Config) (p : ℕ) (m : Machine-reduced) → TokenLetters t n → Unfit c.stack m
    → Refused p (go_on (reduced_config c m) n p)
unfolding go_on
unfit_follows t n c p m q u =
    let f = top_frame c.stack m.top in
    rw (u.sort, unfit_operand t n q, u.nothing, never (eqb (end_of f) (closing n)))
    (record { mode = refl; place = refl })

-- ---- a token

-- what is left, as a state
left_control : (x : Phrase) (fs : List Frame) (c : Config) (r : Reduced) (m : Machine-reduced)
    → Control (at (after-part x) fs) c
    → Lower fs r.rest → Left c.stack (length c.words) r m
    → Control (at (after-part r.got) r.rest) (reduced_config c m)
left_control x fs c r m k l d =
    record {
      mode = refl;
      numbers = d.stands;
      sort = d.sort;
      bodies = k.bodies ∙ sym l.bodies;
      rows = rw d.words d.rows;
    }

pub after_follows : (t : Token) (x : Phrase) (fs : List Frame) (c : Config) (p : ℕ) → GoodStack fs → ApartOn fs x
    → Control (at (after-part x) fs) c → length fs < length c.stack → length fs < 65536
    → Follows (step_at (after-part x) fs t) (from c true p) (reduced_move (reduce (token_binds t) x fs) t c)
    (after c (token_number t) p)
unfolding after
after_follows t x fs c p g a k room small =
    let s = c.state in
    let n = token_number t in
    let q = token_letters t in
    let b = token_binds t in
    let m = machine-reduce c.stack (binding n) s.top s.sort s.rows c.words in
    let same : machine-reduce c.stack (98 + b) s.top (sort_letter (sort x)) s.rows c.words ≡ m =
    ap (λ (i : ℕ). machine-reduce c.stack i s.top (sort_letter (sort x)) s.rows c.words) (sym q.0)
    ∙ ap (λ (i : ℕ). machine-reduce c.stack (binding n) s.top i s.rows c.words) (sym k.sort) in
    at_result (reduce b x fs) refl m
    (ap (λ (i : ℕ). reduced_config c (machine-reduce c.stack i s.top s.sort s.rows c.words)) q.0)
    (subst (λ (i : Machine-reduced). Reduces (reduce b x fs) c.stack (length c.words) i) same
    (reduce_follows fs b x c.stack s.top s.rows c.words k.numbers a k.rows))
  where
    with_room : ℕ → Going
    with_room w =
        record {
          out = c.state.out;
          place = c.state.place;
          stack = length c.stack;
          words = w;
          here = p;
          sure = true;
        }

    at_result : (o : Option Reduced) → reduce (token_binds t) x fs ≡ o → (m : Machine-reduced)
        → reduced_config c m ≡ config-after c (98 + token_binds t) → Reduces o c.stack (length c.words) m
        → Follows (o >>= go-on-at t) (from c true p) (reduced_move o t c)
        (go_on (reduced_config c m) (token_number t) p)
    at_result none e m i h = stopped (unfit_follows t (token_number t) c p m (token_letters t) (h.stops refl))
    at_result (some r) e m i h =
        let d = h.goes r refl in
        let l = reduce_lowers fs (token_binds t) x r e in
        let fewer = l.fewer in
        let o = infix_at t (sort r.got) in
        subst (λ (a : Config). Follows (go-on-at t r) (from c true p) (shift_move o a)
        (go_on (reduced_config c m) (token_number t) p)) i
        (subst (λ (w : ℕ). Follows (go-on-at t r) (with_room w) (shift_move o (reduced_config c m))
        (go_on (reduced_config c m) (token_number t) p))
        d.words (go_on_follows t (token_number t) r.got r.rest (reduced_config c m) p (l.good g)
        (left_control x fs c r m k l d)
        (omega linear) (omega linear) (token_letters t)))
