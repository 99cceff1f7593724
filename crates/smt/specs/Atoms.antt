-- Names and numerals are words, and are read back as what they are (`name_back`, `numeral_back`): no numeral is a name, and
-- the decimal text of a number is a numeral. Assumes nothing.
use Rattle.std.specs.Prelude.{ℕ, ◌≤◌, ◌≡◌, refl, ◌⊎◌, List, [], ◌∷◌, Bool, true, false, cond, not, ◌||◌, ◌&&◌, T, eqb}
use Rattle.std.proofs.Common.{sym, ◌∙◌, subst, inl, inr, arith as linear, ne_eqb}
use Rattle.std.proofs.Math.Option.{some}
use Rattle.theorems.specs.Truths.{both, pair}
use Rattle.smt.specs.Smt as Smt
use Rattle.text.specs.Decimal.{decimal, number, number_decimal, digit, all, decimal_digits, decimal_starts}
use Rattle.smt.specs.Sexp.{Sexp, atom}
use Rattle.smt.specs.Reader.{Sorted, int, read_term}
use Rattle.smt.specs.Spaced.{is_word, Wordy}
use Rattle.smt.specs.Lexicon.{among, reserved, solvers_own, empty, symbol_byte, is_numeral, is_symbol, is_name}

-- ---- tests that hold

pub true_is : (b : Bool) → T b → b ≡ true
true_is true h = refl
true_is false h = absurd h

pub all_more : (p q : ℕ → Bool) → ((c : ℕ) → T (p c) → T (q c)) → (cs : List ℕ) → T (all p cs) → T (all q cs)
all_more p q f [] h = tt
all_more p q f (c ∷ cs) h = let b = both (p c) (all p cs) h in pair (q c) (all q cs) (f c b.0) (all_more p q f cs b.1)

pub digit_in_symbol : (c : ℕ) → T (digit c) → T (symbol_byte c)
digit_in_symbol c h = rw (true_is (digit c) h) tt

-- ---- atoms

pub symbol_word : (w : List ℕ) → T (is_symbol w) → T (is_word w)
symbol_word [] h = h
symbol_word (c ∷ cs) h = (both (not (digit c)) (all symbol_byte (c ∷ cs)) h).1

pub name_symbol : (w : List ℕ) → T (is_name w) → T (is_symbol w)
name_symbol w h = (both (is_symbol w) (not (solvers_own w) && not (among w reserved)) h).0

-- s is the text of x: its atoms are words, and it is read as x
abbrev pub Back : Sexp → Sorted → Type 0
Back s x = Wordy s × (read_term s ≡ some x)

-- read as the first of two, and as the second
first_of : {A : Type 0} (b : Bool) (x y : A) → b ≡ true → cond b x y ≡ x
first_of b x y e = rw e

second_of : {A : Type 0} (b : Bool) (x y : A) → b ≡ false → cond b x y ≡ y
second_of b x y e = rw e

pub name_back : (w : List ℕ) → T (is_name w) → Back (atom w) (int (Smt.constant w))
unfolding read_term
name_back w h = (symbol_word w (name_symbol w h), first_of (is_name w) _ _ (true_is (is_name w) h))

not_leading : (c : ℕ) (cs : List ℕ) → (49 ≤ c) ⊎ (cs ≡ []) → T (not (eqb c 48) || empty cs)
not_leading c cs (inl l) = rw (ne_eqb c 48 (λ e. omega linear)) tt
not_leading c cs (inr e) = rw e (or_true (not (eqb c 48)))
  where
    or_true : (a : Bool) → T (a || true)
    or_true true = tt
    or_true false = tt

-- digits that start as a numeral does are read as one
digits_back : (c : ℕ) (cs : List ℕ) → T (all digit (c ∷ cs)) → (49 ≤ c) ⊎ (cs ≡ [])
    → Back (atom (c ∷ cs)) (int (Smt.numeral (number (c ∷ cs))))
unfolding read_term
digits_back c cs h a =
    let w = c ∷ cs in
    let no_name : is_name w ≡ false = rw (true_is (digit c) (both (digit c) (all digit cs) h).0) in
    let numeral = true_is (is_numeral w) (pair (all digit w) (not (eqb c 48) || empty cs) h (not_leading c cs a)) in
    (all_more digit symbol_byte digit_in_symbol w h, second_of (is_name w) _ _ no_name ∙ first_of (is_numeral w) _ _ numeral)

pub numeral_back : (n : ℕ) → Back (atom (decimal n)) (int (Smt.numeral n))
numeral_back n =
    let s = decimal_starts n in
    let back = subst (λ (ds : List ℕ). T (all digit ds) → Back (atom ds) (int (Smt.numeral (number ds)))) (sym s.is)
    (λ h. digits_back s.first s.others h s.alone) in
    subst (λ (m : ℕ). Back (atom (decimal n)) (int (Smt.numeral m))) (number_decimal n) (back (decimal_digits n))
