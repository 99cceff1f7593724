-- What the generator's parts answer and leave, test by test. Assumes nothing.
use Rattle.std.specs.Prelude.{ℕ, zero, suc, ◌+◌, ◌-◌, ◌≤◌, ◌<◌, ◌≡◌, refl, Bool, true, false, cond, List, ◌∷◌, ◌++◌, ltb, ℤ, pos, length, take, drop}
use Rattle.std.proofs.Common.{sym, ap, ◌∙◌, append_assoc, arith, zero-add, lt-ltb, le-ltb, length-append, length-drop, length-take-le}
use Rattle.std.proofs.lemmas.List.{length-replicate, replicate-append-replicate}
use Rattle.std.proofs.lemmas.List.Edits.{sets, sets-eq}
use Rattle.std.proofs.Math.Seq.{length-sets}
use Rattle.script.specs.Conditions.{Condition, conditions}
use Rattle.script.specs.Words.{with_depth, list_words}
use Rattle.script.specs.Trees.{tree}
use Rattle.script.specs.Refusals.{verdict, accepted, refused}
use Rattle.script.specs.declared.Answer.{Answer}
use Rattle.theorems.specs.Clearing.{drop_replicate}
use Rattle.line_writer.specs.declared.Progress.{Progress}
use Rattle.line_writer.specs.Spelled.{Whole, whole, cut}
use Rattle.script.specs.Generated.{Outcome, zeros, refusal, refuse, plan, room, scratch_need, outcome_for, outcome, outcome_within}

-- where scratch is long enough: 12 or the list
unfoldable pub fitted : List Condition → ℕ → ℕ → Outcome
fitted cs list scratch = cond (ltb (room list) (length (list_words with_depth cs))) (refuse 12 0 list scratch) (plan cs list scratch)

-- an answer and what is left in the list: where scratch is long enough, and for every table and length; scratch is cleared last
abbrev pub Fitted : List ℤ → ℕ → Answer → List ℤ → Type 0
Fitted t list a l = (a ≡ (fitted (conditions (tree t)) list 0).answer) × (l ≡ (fitted (conditions (tree t)) list 0).list)

abbrev pub Answered : List ℤ → ℕ → ℕ → Answer → List ℤ → Type 0
Answered t list scratch a l = (a ≡ (outcome t list scratch).answer) × (l ≡ (outcome t list scratch).list)

module _ (cs : List Condition) (list scratch : ℕ) where
  no_room : room list < length (list_words with_depth cs) → fitted cs list scratch ≡ refuse 12 0 list scratch
  unfolding fitted
  no_room h = rw (lt-ltb (room list) (length (list_words with_depth cs)) h)

  with_room : length (list_words with_depth cs) ≤ room list → fitted cs list scratch ≡ plan cs list scratch
  unfolding fitted
  with_room h = rw (le-ltb (room list) (length (list_words with_depth cs)) h)

-- ---- the list, cleared and then written from its front

take_zeros : (n m : ℕ) → n ≤ m → take n (zeros m) ≡ zeros n
take_zeros zero m h = refl
take_zeros (suc n) zero h = absurd (omega arith)
take_zeros (suc n) (suc m) h = ap (λ (l : List ℤ). pos 0 ∷ l) (take_zeros n m (omega arith))

-- the words vs in the first n of m cleared words
front_written : (l : List ℤ) (n m : ℕ) (vs : List ℤ) → l ≡ zeros m → n ≤ m → length vs ≤ n
    → sets (take n l) 0 vs ++ drop n l ≡ vs ++ zeros (m - length vs)
front_written l n m vs e h k =
    let rest : n - length vs + (m - n) ≡ m - length vs = omega arith in
    rw (e, take_zeros n m h, drop_replicate (pos 0) n m, sets-eq vs (zeros n) 0 fits, zero-add, drop_replicate (pos 0) (length vs) n)
    (append_assoc vs (zeros (n - length vs)) (zeros (m - n))
    ∙ ap (λ (z : List ℤ). vs ++ z) (replicate-append-replicate (n - length vs) (m - n) (pos 0))
    ∙ ap (λ (i : ℕ). vs ++ zeros i) rest)
  where
    fits : 0 + length vs ≤ length (zeros n)
    fits = rw length-replicate (omega arith)

-- the first words of a list, as many as it has room
pub front_length : (l : List ℤ) (n : ℕ) → n ≡ room (length l) → length (take n l) ≡ n
front_length l n e = length-take-le n l (omega arith)

pub front_short : (l : List ℤ) (n : ℕ) → n ≡ room (length l) → length (take n l) ≤ 16384
front_short l n e = let f = front_length l n e in omega arith

module _ (t l : List ℤ) (n : ℕ) (cleared : l ≡ zeros (length l)) (roomy : n ≡ room (length l)) where
  in_list : n ≤ length l
  in_list = omega arith

  front : length (take n l) ≡ n
  front = front_length l n roomy

  pub planned : {p : Progress} {l' : List ℤ} → Whole (take n l) (conditions (tree t)) p l' → p.at ≤ n
      → Fitted t (length l) (record { number = 0; row = 0; conditions = p.count; words = p.at }) (l' ++ drop n l)
  planned (whole h e c s) a =
      let k : length (list_words with_depth (conditions (tree t))) ≤ n = omega (arith, front) in
      let f = with_room (conditions (tree t)) (length l) 0 (omega arith) in
      (rw (f, e, c), rw (f, s) (front_written l n (length l) (list_words with_depth (conditions (tree t))) cleared in_list k))
  planned (cut h e s) a = absurd (omega (arith, front))

  pub unwritten : {p : Progress} {l' : List ℤ} → Whole (take n l) (conditions (tree t)) p l' → n < p.at → Fitted t (length l) (refusal 12 0) (zeros (length l))
  unwritten (whole h e c s) a = absurd (omega (arith, front))
  unwritten (cut h e s) a =
      let f = no_room (conditions (tree t)) (length l) 0 (omega (arith, front)) in
      (rw f, rw f)

  pub kept_length : {p : Progress} {l' : List ℤ} → Whole (take n l) (conditions (tree t)) p l' → length (l' ++ drop n l) ≡ length l
  kept_length (whole h e c s) =
      rw (s, length-append) (omega (arith, length-sets (take n l) 0 (list_words with_depth (conditions (tree t))), front, length-drop n l))
  kept_length (cut h e s) = rw length-append (omega (arith, front, length-drop n l))

-- ---- 11, and what follows where scratch is long enough

same_answer : (b : Bool) (cs : List Condition) (list scratch : ℕ)
    → ((cond b (refuse 12 0 list scratch) (plan cs list scratch)).answer ≡ (cond b (refuse 12 0 list 0) (plan cs list 0)).answer)
    × ((cond b (refuse 12 0 list scratch) (plan cs list scratch)).list ≡ (cond b (refuse 12 0 list 0) (plan cs list 0)).list)
same_answer true cs list scratch = (refl, refl)
same_answer false cs list scratch = (refl, refl)

-- scratch changes neither the answer nor the list
fitted_same : (cs : List Condition) (list scratch : ℕ)
    → ((fitted cs list scratch).answer ≡ (fitted cs list 0).answer) × ((fitted cs list scratch).list ≡ (fitted cs list 0).list)
unfolding fitted
fitted_same cs list scratch = same_answer (ltb (room list) (length (list_words with_depth cs))) cs list scratch

module _ (t : List ℤ) (list scratch : ℕ) where
  pub outcome_refused : {n r : ℕ} → verdict t ≡ refused n r → outcome t list scratch ≡ refuse n r list scratch
  unfolding outcome_within
  outcome_refused e = rw (e, outcome_within)

  outcome_accepted : verdict t ≡ accepted → outcome t list scratch ≡ outcome_for (scratch_need t) (conditions (tree t)) list scratch
  unfolding outcome_within
  outcome_accepted e = rw (e, outcome_within)

  pub refused_answered : {n r : ℕ} {a : Answer} {l : List ℤ} → verdict t ≡ refused n r → a ≡ refusal n r → l ≡ zeros list → Answered t list scratch a l
  refused_answered h e f = let o = outcome_refused h in (rw o e, rw o f)

  module _ (ok : verdict t ≡ accepted) where
    too_short : scratch < scratch_need t → outcome t list scratch ≡ refuse 11 0 list scratch
    unfolding outcome_for
    too_short h = outcome_accepted ok ∙ rw (lt-ltb scratch (scratch_need t) h)

    long_enough : scratch_need t ≤ scratch → outcome t list scratch ≡ fitted (conditions (tree t)) list scratch
    unfolding outcome_for fitted
    long_enough h = outcome_accepted ok ∙ rw (le-ltb scratch (scratch_need t) h)

    pub short_answered : {a : Answer} {l : List ℤ} → scratch < scratch_need t → a ≡ refusal 11 0 → l ≡ zeros list → Answered t list scratch a l
    short_answered h e f = let o = too_short h in (rw o e, rw o f)

    pub fitted_answered : {a : Answer} {l : List ℤ} → scratch_need t ≤ scratch → Fitted t list a l → Answered t list scratch a l
    fitted_answered h w =
        let o = long_enough h in
        let s = fitted_same (conditions (tree t)) list scratch in
        (rw o (w.0 ∙ sym s.0), rw o (w.1 ∙ sym s.1))
