-- The machine's stack against the automaton's: `Stands fs st n` says that the top n of it have the numbers of the
-- frames fs. Of the top (`stands_top`), of a frame taken away (`stands_pop`), put on (`stands_push`) or replaced
-- (`stands_next`). Assumes nothing.
use Rattle.std.specs.Prelude.{ℕ, zero, suc, ◌-◌, ◌%◌, ◌<◌, ◌≡◌, refl, List, [], ◌∷◌, map, length, get_or}
use Rattle.std.proofs.Common.{sym, ap, ◌∙◌, subst, arith as linear}
use Rattle.grammar.specs.States.{Frame, hole as hole-of}
use Rattle.grammar.specs.Contexts.{GoodStack}
use Rattle.parser.specs.Symbols.{holes}
use Rattle.parser.specs.Machine.{frame, top_frame, put, top_after, hole}
use Rattle.parsing.specs.Encoding.{hole_letter, frame_number, framed}
use Rattle.parsing.specs.DataStack.{framed_put}
use Rattle.parsing.specs.FrameLetters.{top_number, top_hole}

-- ---- frames as numbers

pub frame_mod : (n a b : ℕ) → frame n a b % 64 ≡ n % 64
frame_mod n a b = omega linear

-- ---- what is read of the stack

abbrev IsCons : {A : Type 0} → List A → Type 0
IsCons [] = ⊥
IsCons (a ∷ xs) = Unit {0}

nil_is_not : {A X : Type 0} {a : A} {xs : List A} → ◌≡◌ {A = List A} [] (a ∷ xs) → X
nil_is_not e = absurd (subst IsCons (sym e) tt)

heads : {A : Type 0} {a b : A} {xs ys : List A} → a ∷ xs ≡ b ∷ ys → a ≡ b
heads e = cc

tails : {A : Type 0} {a b : A} {xs ys : List A} → a ∷ xs ≡ b ∷ ys → xs ≡ ys
tails e = cc

abbrev pub Stands : List Frame → List ℕ → ℕ → Type 0
Stands fs st n = map (λ w. w % 64) (framed st n) ≡ map frame_number fs

pub stands_top : (fs : List Frame) (st : List ℕ) (n : ℕ) → Stands fs st n → top_frame st n % 64 ≡ top_number fs
unfolding framed
stands_top [] st zero e = refl
stands_top [] st (suc n) e = nil_is_not (sym e)
stands_top (f ∷ fs) st zero e = nil_is_not e
stands_top (f ∷ fs) st (suc n) e = heads e

pub stands_height : (fs : List Frame) (st : List ℕ) (n : ℕ) → Stands fs st n → n ≡ length fs
unfolding framed
stands_height [] st zero e = refl
stands_height [] st (suc n) e = nil_is_not (sym e)
stands_height (f ∷ fs) st zero e = nil_is_not e
stands_height (f ∷ fs) st (suc n) e = ap suc (stands_height fs st n (tails e))

pub stands_rest : (f : Frame) (fs : List Frame) (st : List ℕ) (n : ℕ) → Stands (f ∷ fs) st (suc n) → Stands fs st n
unfolding framed
stands_rest f fs st n e = tails e

pub stands_pop : (f : Frame) (fs : List Frame) (st : List ℕ) (n : ℕ) → Stands (f ∷ fs) st n → Stands fs st (n - 1)
unfolding framed
stands_pop f fs st zero e = nil_is_not e
stands_pop f fs st (suc n) e =
    let less : suc n - 1 ≡ n = omega linear in
    rw less (tails e)

pub stands_push : (f : Frame) (fs : List Frame) (st : List ℕ) (n w : ℕ) → Stands fs st n → length fs < length st
    → w % 64 ≡ frame_number f
    → Stands (f ∷ fs) (put st n w) (top_after st n)
stands_push f fs st n w e l k =
    let high : n < length st = omega (linear, stands_height fs st n e) in
    rw (framed_put st n w high, k, e)

-- another frame in the place of the one on top
pub stands_next : (f g : Frame) (fs : List Frame) (st : List ℕ) (n w : ℕ) → Stands (f ∷ fs) st n → length fs < length st
    → w % 64 ≡ frame_number g → Stands (g ∷ fs) (put st (n - 1) w) (top_after st (n - 1))
stands_next f g fs st n w e l k = stands_push g fs st (n - 1) w (stands_pop f fs st n e) l k

-- heights that do not agree
pub stands_empty : {X : Type 0} (st : List ℕ) (n : ℕ) → Stands [] st (suc n) → X
unfolding framed
stands_empty st n e = nil_is_not (sym e)

pub stands_low : {X : Type 0} (f : Frame) (fs : List Frame) (st : List ℕ) → Stands (f ∷ fs) st zero → X
unfolding framed
stands_low f fs st e = nil_is_not e

-- what may come next
pub hole_is : (fs : List Frame) (st : List ℕ) (n : ℕ) → GoodStack fs → Stands fs st n
    → hole (top_frame st n) ≡ hole_letter (hole-of fs)
hole_is fs st n g e = ap (λ (i : ℕ). get_or holes i 0) (stands_top fs st n e) ∙ top_hole fs g
