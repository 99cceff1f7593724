-- The machine's stack: a frame that is put on it is its top, on what was there (`framed_put`), and a frame has the parts that
-- it was made of (`frame_number_is`, `first_is`, `second_is`). Assumes nothing.
use Rattle.std.specs.Prelude.{ℕ, zero, suc, ◌+◌, ◌-◌, ◌%◌, ◌≤◌, ◌<◌, ◌≡◌, refl, Bool, true, false, cond, List, [], ◌∷◌, ltb}
use Rattle.std.proofs.Common.{sym, ap, ◌∙◌, arith as linear, lt-ltb, ltb-true, ltb-false, get_or-set_same, get_or-set_other}
use lib.ListN.{length, get_or, set, get_or-eq_default}
use Rattle.grammar.specs.States.{Frame}
use Rattle.parser.specs.Machine.{frame, first_part, second_part, top_frame, put, top_after}
use Rattle.parsing.specs.Encoding.{framed, frame_words}

-- ---- the parts of a frame

pub frame_number_is : (n a b : ℕ) → n < 64 → frame n a b % 64 ≡ n
frame_number_is n a b h = omega linear

pub first_is : (n a b : ℕ) → a < 4096 → first_part (frame n a b) ≡ a
first_is n a b h = omega linear

pub second_is : (n a b : ℕ) → b < 4096 → second_part (frame n a b) ≡ b
second_is n a b h = omega linear

-- ---- putting

set_below : (st : List ℕ) (n i f : ℕ) → n ≤ i → framed (set st i f) n ≡ framed st n
unfolding framed
set_below st zero i f h = refl
set_below st (suc n) i f h =
    let apart : ¬ (n ≡ i) = omega linear in
    ap (λ (w : ℕ). w ∷ framed (set st i f) n) (get_or-set_other st i n f 0 apart)
    ∙ ap (λ (l : List ℕ). get_or st n 0 ∷ l) (set_below st n i f (omega linear))

pub put_is : (st : List ℕ) (n f : ℕ) → n < length st → put st n f ≡ set st n f
put_is st n f h = rw (lt-ltb n (length st) h)

pub top_is : (st : List ℕ) (n : ℕ) → n < length st → top_after st n ≡ n + 1
top_is st n h = rw (lt-ltb n (length st) h)

pub put_length : (st : List ℕ) (n f : ℕ) → length (put st n f) ≡ length st
put_length st n f = at (ltb n (length st))
  where
    at : (b : Bool) → length (cond b (set st n f) st) ≡ length st
    at true = lib.ListN.length-set st n f
    at false = refl

-- a frame is put, and is the top
pub framed_put : (st : List ℕ) (n f : ℕ) → n < length st → framed (put st n f) (top_after st n) ≡ f ∷ framed st n
unfolding framed
framed_put st n f h =
    let top : top_after st n ≡ suc n = top_is st n h ∙ omega linear in
    ap (λ (k : ℕ). framed (put st n f) k) top
    ∙ ap (λ (l : List ℕ). framed l (suc n)) (put_is st n f h)
    ∙ ap (λ (w : ℕ). w ∷ framed (set st n f) n) (get_or-set_same st n f 0 h)
    ∙ ap (λ (l : List ℕ). f ∷ l) (set_below st n n f (omega linear))

-- ---- taking off

abbrev pub tail_of : List ℕ → List ℕ
tail_of [] = []
tail_of (w ∷ ws) = ws

abbrev pub head_of : List ℕ → ℕ
head_of [] = 0
head_of (w ∷ ws) = w

-- there is a frame, and the top is it
pub record Topped (st : List ℕ) (n w : ℕ) (ws : List ℕ) : Type 0 where
  pub below : ℕ
  pub is : n ≡ suc below
  pub top : get_or st below 0 ≡ w
  pub rest : framed st below ≡ ws

pub topped : (st : List ℕ) (n w : ℕ) (ws : List ℕ) → framed st n ≡ w ∷ ws → Topped st n w ws
unfolding framed
topped st zero w ws e = absurd (let z : ◌≡◌ {A = ℕ} 0 1 = cc in omega linear)
topped st (suc n) w ws e = record { below = n; is = refl; top = ap head_of e; rest = ap tail_of e }

pub bottomed : (st : List ℕ) (n : ℕ) → framed st n ≡ [] → n ≡ 0
unfolding framed
bottomed st zero e = refl
bottomed st (suc n) e = absurd (let z : ◌≡◌ {A = ℕ} 0 1 = cc in omega linear)

pub top_frame_is : {st : List ℕ} {n w : ℕ} {ws : List ℕ} → Topped st n w ws → top_frame st n ≡ w
top_frame_is {st} {n} {w} {ws} t = ap (λ (k : ℕ). top_frame st k) t.is ∙ t.top

-- a frame that is not the bottom's stands in the run
pub in_stack : {st : List ℕ} {n w : ℕ} {ws : List ℕ} → Topped st n w ws → 0 < w % 64 → n ≤ length st
in_stack {st} {n} {w} {ws} t h = at (ltb t.below (length st)) refl
  where
    at : (b : Bool) → ltb t.below (length st) ≡ b → n ≤ length st
    at true e =
        let i = t.is in
        omega (linear, ltb-true t.below (length st) e)
    at false e =
        let z : w ≡ 0 = sym t.top ∙ get_or-eq_default st 0 (ltb-false t.below (length st) e) in
        absurd (omega linear)

-- the frames below the top
pub framed_popped : {st : List ℕ} {n w : ℕ} {ws : List ℕ} → Topped st n w ws → framed st (n - 1) ≡ ws
framed_popped {st} {n} {w} {ws} t =
    let i = t.is in
    let e : n - 1 ≡ t.below = omega linear in
    ap (λ (k : ℕ). framed st k) e ∙ t.rest

-- the top is replaced
pub framed_replaced : {st : List ℕ} {n w : ℕ} {ws : List ℕ} (f : ℕ) → n ≤ length st → Topped st n w ws
    → framed (put st (n - 1) f) (top_after st (n - 1)) ≡ f ∷ ws
framed_replaced {st} {n} {w} {ws} f l t =
    let i = t.is in
    framed_put st (n - 1) f (omega linear) ∙ ap (λ (k : List ℕ). f ∷ k) (framed_popped t)

-- as many as there are
pub framed_length : (st : List ℕ) (n : ℕ) → length (framed st n) ≡ n
unfolding framed
framed_length st zero = refl
framed_length st (suc n) = ap suc (framed_length st n)

pub frame_words_length : (fs : List Frame) → length (frame_words fs) ≡ length fs
unfolding frame_words
frame_words_length [] = refl
frame_words_length (f ∷ fs) = ap suc (frame_words_length fs)

pub top_counts : (st : List ℕ) (n : ℕ) (fs : List Frame) → framed st n ≡ frame_words fs → n ≡ length fs
top_counts st n fs e = sym (framed_length st n) ∙ ap length e ∙ frame_words_length fs
