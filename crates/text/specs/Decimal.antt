-- Natural numbers as decimal text, of any size, and the number that digits spell. Then the laws: the text of a number is that
-- of its tenth and its last digit (`decimal_low`, `decimal_high`); it spells the number (`number_decimal`), so two numbers never
-- have the same text (`decimal_tells`); its bytes are digits (`decimal_digits`), and the first is no 0 unless it stands alone
-- (`decimal_starts`); how many there are at most (`decimal_short`). By induction on the bound of the digits, which the number
-- itself is large enough for. Assumes nothing.
use Rattle.std.specs.Prelude.{ℕ, zero, suc, ◌+◌, ◌*◌, ◌-◌, ◌/◌, ◌%◌, ◌^◌, ◌≤◌, ◌<◌, ◌≡◌, refl, ◌⊎◌, Bool, true, false, ◌&&◌, List, [], ◌∷◌, ◌++◌, T, ltb, leb, length}
use Rattle.std.proofs.Common.{sym, ap, ◌∙◌, inl, inr, pow-suc, div-lt_iff_lt-mul, arith, lt-ltb, le-ltb, le-leb, ltb-true, ltb-false, length-append}
use Rattle.theorems.specs.Truths.{both, pair}

-- the digits of a number that has at most k
unfoldable pub digits : ℕ → ℕ → List ℕ
digits zero n = []
digits (suc k) n = elim (ltb n 10) [ true ↦ (48 + n) ∷ [] | false ↦ digits k (n / 10) ++ ((48 + n % 10) ∷ []) ]

-- no leading zeros; a number n has no more than n + 1 digits
unfoldable pub decimal : ℕ → List ℕ
decimal n = digits (suc n) n

-- the number that digits spell, after those that spell a
abbrev pub number_after : ℕ → List ℕ → ℕ
number_after a [] = a
number_after a (c ∷ cs) = number_after (a * 10 + (c - 48)) cs

abbrev pub number : List ℕ → ℕ
number cs = number_after 0 cs

abbrev pub digit : ℕ → Bool
digit c = leb 48 c && leb c 57

abbrev pub all : (ℕ → Bool) → List ℕ → Bool
all p [] = true
all p (c ∷ cs) = p c && all p cs

-- ---- the digits of a number, by its size

digits_low : (k n : ℕ) → n < 10 → digits (suc k) n ≡ (48 + n) ∷ []
unfolding digits
digits_low k n h = rw (lt-ltb n 10 h, digits)

digits_high : (k n : ℕ) → 10 ≤ n → digits (suc k) n ≡ digits k (n / 10) ++ ((48 + n % 10) ∷ [])
unfolding digits
digits_high k n h = rw (le-ltb n 10 h, digits)

-- what holds of numbers below 10, and of every number for which it holds without the last digit, holds of all
module _ (P : ℕ → List ℕ → Type 0) (low : (n : ℕ) → n < 10 → P n ((48 + n) ∷ []))
    (high : (n : ℕ) (ds : List ℕ) → 10 ≤ n → P (n / 10) ds → P n (ds ++ ((48 + n % 10) ∷ []))) where
  of_test : (k n : ℕ) → (10 ≤ n → P (n / 10) (digits k (n / 10))) → (b : Bool) → ltb n 10 ≡ b → P n (digits (suc k) n)
  of_test k n before true e = rw (digits_low k n (ltb-true n 10 e)) (low n (ltb-true n 10 e))
  of_test k n before false e =
      let l = ltb-false n 10 e in
      rw (digits_high k n l) (high n (digits k (n / 10)) l (before l))

  below : (k n : ℕ) → n ≤ k → P n (digits (suc k) n)
  below zero n h = of_test 0 n (λ l. absurd (omega arith)) (ltb n 10) refl
  below (suc k) n h = of_test (suc k) n (λ l. below k (n / 10) (omega arith)) (ltb n 10) refl

  pub by_digits : (n : ℕ) → P n (decimal n)
  unfolding decimal
  by_digits n = below n n (omega arith)

-- ---- a digit more

-- ds are the digits of n, whatever the bound is
abbrev Bounded : ℕ → List ℕ → Type 0
Bounded n ds = (k : ℕ) → n ≤ k → digits (suc k) n ≡ ds

bounded_high : (n : ℕ) (ds : List ℕ) → 10 ≤ n → Bounded (n / 10) ds → Bounded n (ds ++ ((48 + n % 10) ∷ []))
bounded_high n ds h b zero l = absurd (omega arith)
bounded_high n ds h b (suc k) l = digits_high (suc k) n h ∙ ap (λ (cs : List ℕ). cs ++ ((48 + n % 10) ∷ [])) (b k (omega arith))

bounded : (n : ℕ) → Bounded n (decimal n)
bounded n = by_digits Bounded (λ n h k l. digits_low k n h) bounded_high n

pub decimal_low : (n : ℕ) → n < 10 → decimal n ≡ (48 + n) ∷ []
unfolding decimal
decimal_low n h = digits_low n n h

pub decimal_high : (n : ℕ) → 10 ≤ n → decimal n ≡ decimal (n / 10) ++ ((48 + n % 10) ∷ [])
decimal_high n h = sym (bounded n n (omega arith)) ∙ bounded_high n (decimal (n / 10)) h (bounded (n / 10)) n (omega arith)

-- ---- the text of a number spells it

number_last : (cs : List ℕ) (a d : ℕ) → number_after a (cs ++ (d ∷ [])) ≡ number_after a cs * 10 + (d - 48)
number_last [] a d = refl
number_last (c ∷ cs) a d = number_last cs (a * 10 + (c - 48)) d

pub number_decimal : (n : ℕ) → number (decimal n) ≡ n
number_decimal n = by_digits (λ n ds. number ds ≡ n) (λ n h. omega arith)
    (λ n ds h e. rw (number_last ds 0 (48 + n % 10), e) (omega arith)) n

pub decimal_tells : (m n : ℕ) → decimal m ≡ decimal n → m ≡ n
decimal_tells m n e = sym (number_decimal m) ∙ ap number e ∙ number_decimal n

-- ---- its length, and its bytes

-- a number below 10 ^ (k + 1) has at most k + 1 digits
pub decimal_short : (k n : ℕ) → n < 10 ^ suc k → length (decimal n) ≤ suc k
decimal_short k n = by_digits (λ n ds. (k : ℕ) → n < 10 ^ suc k → length ds ≤ suc k) (λ n h k l. omega arith) one_more n k
  where
    one_more : (n : ℕ) (ds : List ℕ) → 10 ≤ n → ((k : ℕ) → n / 10 < 10 ^ suc k → length ds ≤ suc k) → (k : ℕ) → n < 10 ^ suc k
        → length (ds ++ ((48 + n % 10) ∷ [])) ≤ suc k
    one_more n ds h short zero l = absurd (omega arith)
    one_more n ds h short (suc k) l =
        let s = short k ((div-lt_iff_lt-mul {k = 10} (omega arith)).1 (rw pow-suc at l)) in
        rw length-append (omega arith)

digit_is : (d : ℕ) → d < 10 → T (digit (48 + d))
digit_is d h = rw (le-leb 48 (48 + d) (omega arith), le-leb (48 + d) 57 (omega arith)) tt

all_last : (p : ℕ → Bool) (cs : List ℕ) (d : ℕ) → T (all p cs) → T (p d) → T (all p (cs ++ (d ∷ [])))
all_last p [] d h l = pair (p d) true l tt
all_last p (c ∷ cs) d h l = let b = both (p c) (all p cs) h in pair (p c) (all p (cs ++ (d ∷ []))) b.0 (all_last p cs d b.1 l)

pub decimal_digits : (n : ℕ) → T (all digit (decimal n))
decimal_digits n = by_digits (λ n ds. T (all digit ds)) (λ n h. pair (digit (48 + n)) true (digit_is n h) tt)
    (λ n ds h e. all_last digit ds (48 + n % 10) e (digit_is (n % 10) (omega arith))) n

-- the first byte, and the others: the first is 48 only where there is no other
pub record Starts (ds : List ℕ) : Type 0 where
  pub first : ℕ
  pub others : List ℕ
  pub is : ds ≡ first ∷ others
  pub digit : (48 ≤ first) × (first ≤ 57)
  pub alone : (49 ≤ first) ⊎ (others ≡ [])

-- a number above 0 starts with no 0
abbrev Leads : ℕ → List ℕ → Type 0
Leads n ds = (s : Starts ds) × (0 < n → 49 ≤ s.first)

leads : (n : ℕ) → Leads n (decimal n)
leads n = by_digits Leads
    (λ n h. (record { first = 48 + n; others = []; is = refl; digit = omega arith; alone = inr refl }, λ l. omega arith))
    (λ n ds h s. let l : 49 ≤ s.0.first = s.1 (omega arith) in (
      record {
        first = s.0.first;
        others = s.0.others ++ ((48 + n % 10) ∷ []);
        is = ap (λ (l : List ℕ). l ++ ((48 + n % 10) ∷ [])) s.0.is;
        digit = s.0.digit;
        alone = inl l;
      },
      λ z. l,
    )) n

pub decimal_starts : (n : ℕ) → Starts (decimal n)
decimal_starts n = (leads n).0
