-- Soundness of the automaton, first part: an operator that takes its part is good with it (`taken`), and so is what a
-- reduction leaves (`reduce_keeps`). Assumes nothing.
use Rattle.std.specs.Prelude.{ℕ, suc, ◌≤◌, ◌<◌, ◌≡◌, refl, List, [], ◌∷◌, ◌++◌, Bool, true, false, cond, leb}
use Rattle.std.proofs.Common.{sym, ap, ◌∙◌, subst, append_assoc, arith as linear, leb-true, leb-false}
use Rattle.std.proofs.Math.Option.{some}
use Rattle.script.specs.Listing.{guarded}
use Rattle.theorems.specs.Options.{some_inj, held}
use Rattle.grammar.specs.Sorts.{sort-discrete, same_sort}
use Rattle.grammar.specs.Operators.{top}
use Rattle.grammar.specs.Tokens.{Token, infix_word}
use Rattle.grammar.specs.Grammar.{Phrase, words, sort, level, binds, Good}
use Rattle.grammar.specs.States.{Pending, prefix, infix_after, Frame, pending, open_at, wants, holds, apply, State}
use Rattle.grammar.specs.Automaton.{Reduced, reduce, reduced}
use Rattle.grammar.specs.Tests.{same_is}
use Rattle.grammar.specs.LevelLaws.{holds_below}
use Rattle.grammar.specs.Complete.{Below}
use Rattle.grammar.specs.Contexts.{pending_words, stack_words, pending_binds, pending_makes, GoodPending, GoodStack, Part, Reads}

-- what a state reads, of the state as one
abbrev pub ReadsState : State → List Token → Type 0
ReadsState s ts = Reads s.mode s.stack ts

pub below_top : (fs : List Frame) → Below fs (suc top)
below_top [] = tt
below_top (pending f ∷ fs) = omega (linear, holds_below f)
below_top (open_at h c ∷ fs) = tt

-- ---- reduce

good_apply : (f : Pending) (x : Phrase) → GoodPending f → Good x → sort x ≡ wants f → holds f < binds x → Good (apply f x)
unfolding Good
good_apply (prefix p) x g h e l = (h, e, l)
good_apply (infix_after o y) x g h e l = (g.0, h, g.1, e, g.2, l)

apply_binds : (f : Pending) (x : Phrase) → binds (apply f x) ≡ pending_binds f
apply_binds (prefix p) x = refl
apply_binds (infix_after o y) x = refl

pub apply_makes : (f : Pending) (x : Phrase) → sort (apply f x) ≡ pending_makes f
apply_makes (prefix p) x = refl
apply_makes (infix_after o y) x = refl

apply_level : (f : Pending) (x : Phrase) → level (apply f x) ≡ holds f
apply_level (prefix p) x = refl
apply_level (infix_after o y) x = refl

apply_words : (f : Pending) (x : Phrase) → pending_words f ++ words x ≡ words (apply f x)
unfolding words
apply_words (prefix p) x = refl
apply_words (infix_after o y) x = append_assoc (words y) (infix_word o ∷ []) (words x)

-- what is left after a reduction down to n: no operator on top that binds as tight
pub record Left (n : ℕ) (ts : List Token) (r : Reduced) : Type 0 where
  pub part : Part n r.got r.rest ts
  pub stays : Below r.rest n

left_is : {n : ℕ} {ts : List Token} {r : Reduced} (x : Phrase) (fs : List Frame) → Part n x fs ts → Below fs n → reduced x fs ≡ some r
    → Left n ts r
left_is {n} {ts} x fs p b e = subst (λ r. Left n ts r) (some_inj e) (record { part = p; stays = b })

-- an operator that takes the part
pub taken : (f : Pending) (fs : List Frame) (n : ℕ) (x : Phrase) (ts : List Token) → Part n x (pending f ∷ fs) ts → n ≤ holds f → sort x ≡ wants f
    → Part n (apply f x) fs ts
unfolding GoodStack stack_words
taken f fs n x ts p l q =
    let on = p.stacked.1 in
    record {
      stacked = p.stacked.0;
      good = good_apply f x on.0 p.good q p.below;
      below = rw (apply_binds f x) on.1;
      high = rw (apply_level f x) l;
      fits = rw (apply_makes f x) on.2;
      spelt = ap (λ ws. stack_words fs ++ ws) (sym (apply_words f x)) ∙ sym (append_assoc (stack_words fs) (pending_words f) (words x)) ∙ p.spelt;
    }

pub reduce_keeps : (fs : List Frame) (n : ℕ) (x : Phrase) (ts : List Token) (r : Reduced) → Part n x fs ts → reduce n x fs ≡ some r → Left n ts r
unfolding reduce
reduce_keeps [] n x ts r p e = left_is x [] p tt e
reduce_keeps (open_at h c ∷ fs) n x ts r p e = left_is x (open_at h c ∷ fs) p tt e
reduce_keeps (pending f ∷ fs) n x ts r p e =
    at_test (leb n (holds f)) (leb-true n (holds f)) (leb-false n (holds f)) (λ q d. reduce_keeps fs n (apply f x) ts r q d) e
  where
    at_test : (k : Bool) → (k ≡ true → n ≤ holds f) → (k ≡ false → holds f < n)
        → (Part n (apply f x) fs ts → reduce n (apply f x) fs ≡ some r → Left n ts r)
        → cond k (guarded (same_sort (sort x) (wants f)) (reduce n (apply f x) fs)) (reduced x (pending f ∷ fs)) ≡ some r → Left n ts r
    at_test true l g again q =
        let h = held (same_sort (sort x) (wants f)) (reduce n (apply f x) fs) q in
        again (taken f fs n x ts p (l refl) (same_is sort-discrete (sort x) (wants f) h.0)) h.1
    at_test false l g again q = left_is x (pending f ∷ fs) p (g refl) q
