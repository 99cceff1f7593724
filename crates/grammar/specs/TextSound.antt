-- The reader of a text reads only what has a derivation (`read_text`): what it has taken is spelled by what the
-- automaton would have taken (`Came`), since a semicolon which is given up leaves the state as it was. Assumes nothing.
use Rattle.std.specs.Prelude.{◌≡◌, refl, List, [], ◌∷◌, ◌++◌, Bool, true, false, cond}
use Rattle.std.proofs.Common.{sym, ap, ◌∙◌, subst, append_assoc, append-nil, arith as linear}
use Rattle.std.proofs.Math.Option.{some}
use Rattle.theorems.specs.Options.{none_is_not, some_inj, went_on}
use Rattle.grammar.specs.Sorts.{sort-discrete, script}
use Rattle.grammar.specs.Operators.{semicolon, connective, relation, operator}
use Rattle.grammar.specs.Tokens.{closer-discrete, post_closer, Token, numeral, variable, truth_word, skip_word, not_word, assert_word, becomes, infix_word, form_word, closer_word}
use Rattle.grammar.specs.Grammar.{Phrase, words, sort, binds}
use Rattle.grammar.specs.Text.{is_post, post, spelled, text, Spells}
use Rattle.grammar.specs.States.{prefix, infix_after, Frame, pending, open_at, Mode, operand, after, due, State, at, start}
use Rattle.grammar.specs.Automaton.{step}
use Rattle.grammar.specs.Reader.{at_post, take, read}
use Rattle.grammar.specs.Tests.{false_is_not, same_is}
use Rattle.grammar.specs.LevelLaws.{phrase_range}
use Rattle.grammar.specs.Complete.{below_more}
use Rattle.grammar.specs.Contexts.{stack_words, GoodStack, Part, Reads}
use Rattle.grammar.specs.Reduces.{ReadsState}
use Rattle.grammar.specs.Sound.{after_keeps, step_keeps}

pub text_append : (us vs : List Token) → text (us ++ vs) ≡ text us ++ text vs
unfolding text
text_append [] vs = refl
text_append (u ∷ us) vs = ap (λ l. spelled u ++ l) (text_append us vs) ∙ sym (append_assoc (spelled u) (text us) (text vs))

pub post_known : (t : Token) → is_post t ≡ true → t ≡ post
post_known (numeral n) e = false_is_not e
post_known (variable v) e = false_is_not e
post_known (truth_word b) e = false_is_not e
post_known skip_word e = false_is_not e
post_known not_word e = false_is_not e
post_known assert_word e = false_is_not e
post_known becomes e = false_is_not e
post_known (infix_word o) e = false_is_not e
post_known (form_word f) e = false_is_not e
post_known (closer_word c) e = ap closer_word (same_is closer-discrete c post_closer e)

-- ---- what was read is spelled by what the automaton would have read

pub record Came (s : State) (ts : List Token) : Type 0 where
  pub through : List Token
  pub reads : ReadsState s through
  pub spelt : text through ≡ ts

-- the part before a semicolon that is given up
pub before_semicolon : (x : Phrase) (fs : List Frame) → GoodStack (pending (infix_after semicolon x) ∷ fs) → Part 0 x fs (stack_words fs ++ words x)
unfolding GoodStack
before_semicolon x fs g =
    let on = g.1 in
    let range = phrase_range x in
    record {
      stacked = g.0;
      good = on.0.0;
      below = below_more fs 1 (binds x) (omega (linear, on.0.2)) on.1;
      high = omega linear;
      fits = rw on.0.1 on.2;
      spelt = refl;
    }

post_keeps : (m : Mode) (fs : List Frame) (ts us : List Token) (r : State) → Reads m fs us → text us ≡ ts → at_post m fs ≡ some r
    → Came r (ts ++ (post ∷ []))
unfolding stack_words text
post_keeps operand [] ts us r h w e = none_is_not e
post_keeps operand (pending (prefix p) ∷ fs) ts us r h w e = none_is_not e
post_keeps operand (pending (infix_after semicolon x) ∷ fs) ts us r h w e =
    let vs = stack_words fs ++ words x in
    let semi = infix_word semicolon ∷ [] in
    let whole : vs ++ semi ≡ us = append_assoc (stack_words fs) (words x) semi ∙ h.1 in
    record {
      through = vs ++ (post ∷ []);
      reads = after_keeps x fs post vs r (before_semicolon x fs h.0) e;
      spelt =
          text_append vs (post ∷ []) ∙ sym (append_assoc (text vs) semi (post ∷ [])) ∙ ap (λ l. l ++ (post ∷ [])) (sym (text_append vs semi))
          ∙ ap (λ l. text l ++ (post ∷ [])) whole ∙ ap (λ l. l ++ (post ∷ [])) w;
    }
post_keeps operand (pending (infix_after (connective c) x) ∷ fs) ts us r h w e = none_is_not e
post_keeps operand (pending (infix_after (relation q) x) ∷ fs) ts us r h w e = none_is_not e
post_keeps operand (pending (infix_after (operator o) x) ∷ fs) ts us r h w e = none_is_not e
post_keeps operand (open_at i c ∷ fs) ts us r h w e = none_is_not e
post_keeps (after x) fs ts us r h w e = none_is_not e
post_keeps (due d f) fs ts us r h w e = none_is_not e

pub take_keeps : (s : State) (t : Token) (ts : List Token) (r : State) → Came s ts → take s t ≡ some r → Came r (ts ++ (t ∷ []))
unfolding text
take_keeps s t ts r h e = at_test (is_post t) refl e
  where
    at_test : (k : Bool) → is_post t ≡ k → cond k (at_post s.mode s.stack) (step s t) ≡ some r → Came r (ts ++ (t ∷ []))
    at_test true i q = rw (post_known t i) (post_keeps s.mode s.stack ts h.through r h.reads h.spelt q)
    at_test false i q =
        record {
          through = h.through ++ (t ∷ []);
          reads = step_keeps s.mode s.stack t h.through r h.reads q;
          spelt = text_append h.through (t ∷ []) ∙ rw (i, h.spelt);
        }

pub read_keeps : (us : List Token) (s : State) (ts : List Token) (r : State) → Came s ts → read s us ≡ some r → Came r (ts ++ us)
unfolding read
read_keeps [] s ts r h e = rw (append-nil ts) (subst (λ q. Came q ts) (some_inj e) h)
read_keeps (t ∷ us) s ts r h e =
    let k = went_on (take s t) (λ q. read q us) e in
    rw (← append_assoc ts (t ∷ []) us) (read_keeps us k.0 (ts ++ (t ∷ [])) r (take_keeps s t ts k.0 h k.1) k.2)

pub came : Came start []
unfolding GoodStack stack_words text
came = record { through = []; reads = (tt, refl); spelt = refl }

pub read_text : (x : Phrase) (ts : List Token) → read start ts ≡ some (at (after x) []) → Spells x ts
unfolding stack_words
read_text x ts e =
    let h = read_keeps ts start [] (at (after x) []) came e in
    let p = h.reads in
    record { good = p.good; whole = sym (same_is sort-discrete script (sort x) p.fits); spelt = ap text p.spelt ∙ h.spelt }
