-- Completeness: from any stack whose hole a good phrase may begin, the automaton passes the words of the phrase and
-- comes to `after` with that phrase, provided that the next token binds no tighter than the phrase (`passes`); a script
-- is read whole (`read_whole`). By induction on the phrase. Assumes nothing.
use Rattle.std.specs.Prelude.{ℕ, ◌≤◌, ◌<◌, ◌≡◌, refl, List, [], ◌∷◌, ◌++◌, true}
use Rattle.std.proofs.Common.{sym, ap, ◌∙◌, append_assoc, append-nil, arith as linear, le-leb}
use Rattle.std.proofs.Math.Option.{Option, none, some}
use Rattle.std.proofs.lemmas.Bool.{lt-leb}
use Rattle.script.specs.Listing.{◌>>=◌}
use Rattle.grammar.specs.Sorts.{Sort, sort-discrete, script, expression, same_sort, Hole, only, takes, begins}
use Rattle.grammar.specs.Operators.{semicolon, connective, relation, operator, not_prefix, minus_prefix, assert_prefix, assign_prefix, Infix, infix_takes, infix_makes, infix_binds}
use Rattle.grammar.specs.Forms.{next_place, place_takes, place_makes}
use Rattle.grammar.specs.Tokens.{constant_leaf, number_leaf, variable_leaf, truth_leaf, skip_leaf, ending, ending_word, closer-discrete, ending-discrete, Token, infix_word, Leaf, leaf_makes, leaf_word, Opening, prefix_opening, form_opening, opening_makes, opening_word, opening_due, Due, opening_beginning, beginning}
use Rattle.grammar.specs.Grammar.{Phrase, leaf, before, between, closed, Chain, begun, more, place, words, chain_words, due_words, opening_words, sort, level, binds, Good, GoodChain}
use Rattle.grammar.specs.States.{Pending, prefix, infix_after, Frame, pending, open_at, wants, holds, apply, hole, operand, after, at, start}
use Rattle.grammar.specs.Automaton.{reduce, reduced, token_binds, go_on, advance, constant_on, leaf_on, opening_frame, form_takes, pushed, run}
use Rattle.grammar.specs.Tests.{false_is_not, same_refl, same_is, same_sorts}
use Rattle.grammar.specs.HoleLaws.{begins_own, takes_begins, begins_left}
use Rattle.grammar.specs.LevelLaws.{binds_tight, phrase_range}
use Rattle.grammar.specs.PlaceLaws.{ending_binds, ending_not_infix, ends_word, next_makes, place_begins, form_takes_part}
use Rattle.grammar.specs.WordLaws.{leaf_begins, prefix_begins, due_is_due}

-- the operator on top, if there is one, is below n
abbrev pub Below : List Frame → ℕ → Type 0
Below [] n = Unit {0}
Below (pending f ∷ fs) n = holds f < n
Below (open_at h c ∷ fs) n = Unit {0}

pub below_more : (fs : List Frame) (m n : ℕ) → m ≤ n → Below fs m → Below fs n
below_more [] m n l b = tt
below_more (pending f ∷ fs) m n l b = omega linear
below_more (open_at h c ∷ fs) m n l b = tt

-- ---- reduce

reduce_stays : (n : ℕ) (x : Phrase) (fs : List Frame) → Below fs n → reduce n x fs ≡ reduced x fs
unfolding reduce
reduce_stays n x [] b = refl
reduce_stays n x (pending f ∷ fs) b = rw (lt-leb n (holds f) b)
reduce_stays n x (open_at h c ∷ fs) b = refl

reduce_takes : (n : ℕ) (f : Pending) (x : Phrase) (fs : List Frame) → n ≤ holds f → sort x ≡ wants f
    → reduce n x (pending f ∷ fs) ≡ reduce n (apply f x) fs
unfolding reduce
reduce_takes n f x fs l e = rw (le-leb n (holds f) l, same_sorts e)

-- an operator that the next token does not pull apart takes its part
taken : (f : Pending) (x : Phrase) (fs : List Frame) (t : Token) (ts : List Token) → token_binds t ≤ holds f → sort x ≡ wants f
    → run (at (after x) (pending f ∷ fs)) (t ∷ ts) ≡ run (at (after (apply f x)) fs) (t ∷ ts)
unfolding run
taken f x fs t ts l e = ap (λ o. (o >>= go_on t) >>= λ s. run s ts) (reduce_takes (token_binds t) f x fs l e)

-- ---- one token

due_passes : (d : Option Due) (f : Frame) (fs : List Frame) (ts : List Token)
    → run (pushed d f fs) (due_words d ++ ts) ≡ run (at operand (f ∷ fs)) ts
unfolding run
due_passes none f fs ts = refl
due_passes (some d) f fs ts = rw (due_is_due d)

opening_passes : (o : Opening) (fs : List Frame) (ts : List Token) → beginning (opening_word o) (hole fs) ≡ opening_beginning o
    → begins (hole fs) (opening_makes o) ≡ true
    → run (at operand fs) (opening_words o ++ ts) ≡ run (at operand (opening_frame (hole fs) o ∷ fs)) ts
unfolding run
opening_passes o fs ts b e = rw (b, e) (due_passes (opening_due o) (opening_frame (hole fs) o) fs ts)

constant_on_passes : (n : ℕ) (fs : List Frame) (t : Token) (ts : List Token)
    → run (constant_on n fs) (t ∷ ts) ≡ run (at (after (leaf (constant_leaf n))) fs) (t ∷ ts)
constant_on_passes n [] t ts = refl
constant_on_passes n (pending (prefix not_prefix) ∷ fs) t ts = refl
constant_on_passes n (pending (prefix minus_prefix) ∷ fs) t ts =
    sym (taken (prefix minus_prefix) (leaf (constant_leaf n)) fs t ts (omega (linear, binds_tight t)) refl)
constant_on_passes n (pending (prefix assert_prefix) ∷ fs) t ts = refl
constant_on_passes n (pending (prefix (assign_prefix v)) ∷ fs) t ts = refl
constant_on_passes n (pending (infix_after o x) ∷ fs) t ts = refl
constant_on_passes n (open_at h c ∷ fs) t ts = refl

leaf_on_passes : (l : Leaf) (fs : List Frame) (t : Token) (ts : List Token)
    → run (leaf_on l fs) (t ∷ ts) ≡ run (at (after (leaf l)) fs) (t ∷ ts)
leaf_on_passes (constant_leaf n) fs t ts = constant_on_passes n fs t ts
leaf_on_passes (number_leaf n) fs t ts = refl
leaf_on_passes (variable_leaf v) fs t ts = refl
leaf_on_passes (truth_leaf b) fs t ts = refl
leaf_on_passes skip_leaf fs t ts = refl

leaf_passes : (l : Leaf) (fs : List Frame) → begins (hole fs) (leaf_makes l) ≡ true → (t : Token) (ts : List Token)
    → run (at operand fs) (leaf_word l ∷ t ∷ ts) ≡ run (at (after (leaf l)) fs) (t ∷ ts)
leaf_passes l fs e t ts = begun_leaf ∙ leaf_on_passes l fs t ts
  where
    begun_leaf : run (at operand fs) (leaf_word l ∷ t ∷ ts) ≡ run (leaf_on l fs) (t ∷ ts)
    begun_leaf = unfold run in rw (leaf_begins l (hole fs) e, e)

infix_passes : (o : Infix) (x : Phrase) (fs : List Frame) (ts : List Token) → Below fs (infix_binds o) → sort x ≡ infix_takes o
    → begins (hole fs) (infix_makes o) ≡ true
    → run (at (after x) fs) (infix_word o ∷ ts) ≡ run (at operand (pending (infix_after o x) ∷ fs)) ts
unfolding run
infix_passes o x fs ts b e m = rw (reduce_stays (infix_binds o) x fs b, same_sorts e, m)

ending_passes : (h : Hole) (c : Chain) (x : Phrase) (fs : List Frame) (ts : List Token)
    → takes h (sort x) ≡ true → takes (place_takes (place c)) (sort x) ≡ true
    → run (at (after x) (open_at h c ∷ fs)) (ending_word (ending (place c)) ∷ ts) ≡ run (advance (next_place (place c)) c x fs) ts
unfolding run reduce
ending_passes h c x fs ts e g =
    rw (ending_not_infix (place c) (sort x) g, ends_word (ending (place c)), e, same_refl (ending-discrete closer-discrete) (ending (place c)))

-- ---- phrases

-- what the place of a chain takes, where the form stands in the hole h
abbrev pub chain_takes : Hole → Chain → Hole
chain_takes h (begun f) = form_takes h f
chain_takes h (more c x q) = place_takes q

chain_takes_part : (c : Chain) (h : Hole) (s : Sort) → takes (place_takes (place c)) s ≡ true
    → begins h (place_makes (place c) s) ≡ true → takes (chain_takes h c) s ≡ true
chain_takes_part (begun f) h s g e = form_takes_part f h s g e
chain_takes_part (more c x q) h s g e = g

abbrev Passes : Phrase → Type 0
Passes x = (fs : List Frame) → begins (hole fs) (sort x) ≡ true → Below fs (binds x)
    → (t : Token) (ts : List Token) → token_binds t ≤ level x
    → run (at operand fs) (words x ++ (t ∷ ts)) ≡ run (at (after x) fs) (t ∷ ts)

abbrev ChainPasses : Chain → Type 0
ChainPasses c = (fs : List Frame) → begins (hole fs) (place_makes (place c) expression) ≡ true → (ts : List Token)
    → run (at operand fs) (chain_words c ++ ts) ≡ run (at operand (open_at (chain_takes (hole fs) c) c ∷ fs)) ts

-- a part of the right sort may begin at an operator's hole
own_part : {s t : Sort} → t ≡ s → begins (only s) t ≡ true
own_part {s} e = rw e (begins_own s)

regroup : (us vs : List Token) (w : Token) (ts : List Token) → (us ++ (vs ++ (w ∷ []))) ++ ts ≡ us ++ (vs ++ (w ∷ ts))
regroup us vs w ts = append_assoc us (vs ++ (w ∷ [])) ts ∙ ap (λ l. us ++ l) (append_assoc vs (w ∷ []) ts)

-- a part of a form, with what ends it
part_passes : (c : Chain) (x : Phrase) → ChainPasses c → Passes x → (fs : List Frame) → takes (place_takes (place c)) (sort x) ≡ true
    → begins (hole fs) (place_makes (place c) (sort x)) ≡ true → (ts : List Token)
    → run (at operand fs) ((chain_words c ++ (words x ++ (ending_word (ending (place c)) ∷ []))) ++ ts) ≡ run (advance (next_place (place c)) c x fs) ts
part_passes c x front part fs g e ts =
    let w = ending_word (ending (place c)) in
    let h = chain_takes (hole fs) c in
    let k = chain_takes_part c (hole fs) (sort x) g e in
    ap (λ l. run (at operand fs) l) (regroup (chain_words c) (words x) w ts)
    ∙ front fs (place_begins (place c) (hole fs) (sort x) g e) (words x ++ (w ∷ ts))
    ∙ part (open_at h c ∷ fs) (takes_begins h (sort x) k) tt w ts (ending_binds (place c) x g)
    ∙ ending_passes h c x fs ts k g

mutual
  unfolding Good GoodChain words chain_words

  pub passes : (x : Phrase) → Good x → Passes x
  passes (leaf l) g fs e b t ts n = leaf_passes l fs e t ts
  passes (before p x) g fs e b t ts n =
      let range = phrase_range x in
      ap (λ l. run (at operand fs) l) (append_assoc (opening_words (prefix_opening p)) (words x) (t ∷ ts))
      ∙ opening_passes (prefix_opening p) fs (words x ++ (t ∷ ts)) (prefix_begins p (hole fs) e) e
      ∙ passes x g.0 (pending (prefix p) ∷ fs) (own_part g.1) g.2 t ts (omega linear)
      ∙ taken (prefix p) x fs t ts n g.1
  passes (between o x y) g fs e b t ts n =
      let left = phrase_range x in
      let right = phrase_range y in
      ap (λ l. run (at operand fs) l) (append_assoc (words x) (infix_word o ∷ words y) (t ∷ ts))
      ∙ passes x g.0 fs (rw g.2 (begins_left o (hole fs) e)) (below_more fs (infix_binds o) (binds x) (omega linear) b)
      (infix_word o) (words y ++ (t ∷ ts)) g.4
      ∙ infix_passes o x fs (words y ++ (t ∷ ts)) b g.2 e
      ∙ passes y g.1 (pending (infix_after o x) ∷ fs) (own_part g.3) g.5 t ts (omega linear)
      ∙ taken (infix_after o x) y fs t ts n g.3
  passes (closed c x) g fs e b t ts n =
      part_passes c x (λ gs u us. chain_passes c g.0 gs u us) (λ gs u v w us m. passes x g.1 gs u v w us m) fs g.2 e (t ∷ ts)
      ∙ ap (λ q. run (advance q c x fs) (t ∷ ts)) g.3

  pub chain_passes : (c : Chain) → GoodChain c → ChainPasses c
  chain_passes (begun f) g fs e ts = opening_passes (form_opening f) fs ts refl e
  chain_passes (more c x q) g fs e ts =
      part_passes c x (λ gs u us. chain_passes c g.0 gs u us) (λ gs u v w us m. passes x g.1 gs u v w us m) fs g.2 (rw (next_makes (place c) q (sort x) g.3) at e) ts
      ∙ ap (λ r. run (advance r c x fs) ts) g.3

-- ---- a script

pub read_whole : (x : Phrase) → Good x → same_sort (sort x) script ≡ true → run start (words x) ≡ some (at (after x) [])
unfolding Good words run
read_whole (leaf (constant_leaf n)) g e = false_is_not e
read_whole (leaf (number_leaf n)) g e = false_is_not e
read_whole (leaf (variable_leaf v)) g e = false_is_not e
read_whole (leaf (truth_leaf b)) g e = false_is_not e
read_whole (leaf skip_leaf) g e = false_is_not e
read_whole (before not_prefix x) g e = false_is_not e
read_whole (before minus_prefix x) g e = false_is_not e
read_whole (before assert_prefix x) g e = false_is_not e
read_whole (before (assign_prefix v) x) g e = false_is_not e
read_whole (between semicolon x y) g e = false_is_not e
read_whole (between (connective c) x y) g e = false_is_not e
read_whole (between (relation r) x y) g e = false_is_not e
read_whole (between (operator o) x y) g e = false_is_not e
read_whole (closed c x) g e =
    let fits : begins (only script) (place_makes (place c) (sort x)) ≡ true = rw (same_is sort-discrete (sort (closed c x)) script e) in
    ap (λ l. run start l) (sym (append-nil (words (closed c x))))
    ∙ part_passes c x (chain_passes c g.0) (passes x g.1) [] g.2 fits []
    ∙ ap (λ q. some (advance q c x [])) g.3
