-- What `word_of` and `symbol_of` find: a word's token where it has one; the longest of the symbols that stand at the
-- front. Assumes nothing.
use Rattle.std.specs.Prelude.{ℕ, ◌≤◌, ◌≡◌, refl, ◌⊎◌, List, [], ◌∷◌, Bool, true, false, cond, ◌&&◌, eqb, leb, length, take}
use Rattle.std.proofs.Common.{ap, sym, subst, ◌∙◌, inl, inr, ⊎_elim, arith as linear, leb-true, eq-eqb, eqb-true, length-take, length-take-le}
use Rattle.std.proofs.Math.Option.{Option, none, some}
use Rattle.std.proofs.Math.Seq.{take-length}
use Rattle.grammar.specs.Tokens.{Token, variable}
use Rattle.grammar.specs.Scanning.{is_digit, front, number, same_bytes, begins_with, Spelling, Found, variable_of, word_of, symbol_of}
use Rattle.grammar.specs.Pieces.{All, Digits, Listed}
use Rattle.grammar.specs.Tests.{false_is_not, both}
use Rattle.grammar.specs.Fronts.{front_fits, all_run, run_longest, same_refl, same_true}

-- ---- a word's token

-- what is found is all of the word and such a token, and none is found where no token is such
abbrev pub Finds : List ℕ → (Token → Type 0) → Option Found → Type 0
Finds w Such none = (t : Token) → Such t → ⊥
Finds w Such (some f) = (f.size ≡ length w) × Such f.token

finds_as : (w : List ℕ) {Such So : Token → Type 0} (o : Option Found) → ((t : Token) → Such t → So t)
    → ((t : Token) → So t → Such t)
    → Finds w Such o → Finds w So o
finds_as w none to from h = λ t s. h t (from t s)
finds_as w (some f) to from h = (h.0, to f.token h.1)

pub record Variable (w : List ℕ) (t : Token) : Type 0 where
  pub after_v : List ℕ
  pub all_digits : Digits after_v
  pub is_word : 118 ∷ after_v ≡ w
  pub is_token : variable (number after_v) ≡ t

front_all : (ds : List ℕ) → front is_digit ds ≡ length ds → All is_digit ds
front_all ds e = subst (All is_digit) (ap (λ n. take n ds) e ∙ take-length ds) (all_run is_digit ds)

all_front : (ds : List ℕ) → All is_digit ds → front is_digit ds ≡ length ds
all_front ds a =
    omega (linear, front_fits is_digit ds, run_longest is_digit (length ds) ds (omega linear) (rw (take-length ds) a))

-- digits after v
v_then : (b d : ℕ) (ds : List ℕ) (t : Token) → Variable (b ∷ d ∷ ds) t
    → (eqb b 118 && eqb (front is_digit (d ∷ ds)) (length (d ∷ ds))) ≡ true
v_then b d ds t v =
    let first : b ≡ 118 = cc v.is_word in
    let others : v.after_v ≡ d ∷ ds = cc v.is_word in
    let all = all_front (d ∷ ds) (subst Digits others v.all_digits) in
    rw (eq-eqb b 118 first, eq-eqb (front is_digit (d ∷ ds)) (length (d ∷ ds)) all)

finds_variable : (w : List ℕ) → Finds w (Variable w) (variable_of w)
finds_variable [] = λ t v. let z : ◌≡◌ {A = ℕ} 0 1 = cc v.is_word in omega linear
finds_variable (b ∷ []) = λ t v. let e : v.after_v ≡ [] = cc v.is_word in subst Digits e v.all_digits
finds_variable (b ∷ d ∷ ds) = by_test (eqb b 118 && eqb (front is_digit (d ∷ ds)) (length (d ∷ ds))) refl
  where
    by_test : (k : Bool) → (eqb b 118 && eqb (front is_digit (d ∷ ds)) (length (d ∷ ds))) ≡ k
        → Finds (b ∷ d ∷ ds) (Variable (b ∷ d ∷ ds))
        (cond k (some (record { token = variable (number (d ∷ ds)); size = length (b ∷ d ∷ ds) })) none)
    by_test true e =
        let h = both (eqb b 118) (eqb (front is_digit (d ∷ ds)) (length (d ∷ ds))) e in (
          refl,
          record {
            after_v = d ∷ ds;
            all_digits = front_all (d ∷ ds) (eqb-true (front is_digit (d ∷ ds)) (length (d ∷ ds)) h.1);
            is_word = ap (λ c. c ∷ d ∷ ds) (sym (eqb-true b 118 h.0));
            is_token = refl;
          },
        )
    by_test false e = λ t v. false_is_not (sym e ∙ v_then b d ds t v)

abbrev pub WordToken : List Spelling → List ℕ → Token → Type 0
WordToken ss w t = Listed ss t w ⊎ Variable w t

pub finds_word : (ss : List Spelling) (w : List ℕ) → Finds w (WordToken ss w) (word_of ss w)
finds_word [] w = finds_as w (variable_of w) (λ t v. inr v) (λ t. ⊎_elim (λ l. absurd l) (λ v. v)) (finds_variable w)
finds_word (s ∷ ss) w = by_test (same_bytes w s.bytes) refl (finds_word ss w)
  where
    other : {A : Type 0} {t : Token} → same_bytes w s.bytes ≡ false → (s.token ≡ t) × (s.bytes ≡ w) → A
    other e h = false_is_not (sym e ∙ subst (λ v. same_bytes v s.bytes ≡ true) h.1 (same_refl s.bytes))

    by_test : (k : Bool) → same_bytes w s.bytes ≡ k → Finds w (WordToken ss w) (word_of ss w)
        → Finds w (WordToken (s ∷ ss) w) (cond k (some (record { token = s.token; size = length w })) (word_of ss w))
    by_test true e h = (refl, inl (inl (refl, sym (same_true w s.bytes e))))
    by_test false e h =
        finds_as w (word_of ss w) (λ t. ⊎_elim (λ l. inl (inr l)) inr) (λ t. ⊎_elim (⊎_elim (λ l. other e l) inl) inr) h

-- ---- a symbol

-- longer spellings stand first: a computed test
abbrev no_longer : ℕ → List Spelling → Bool
no_longer n [] = true
no_longer n (s ∷ ss) = leb (length s.bytes) n && no_longer n ss

abbrev pub longer_first : List Spelling → Bool
longer_first [] = true
longer_first (s ∷ ss) = no_longer (length s.bytes) ss && longer_first ss

listed_length : (n : ℕ) (ss : List Spelling) (t : Token) (w : List ℕ) → no_longer n ss ≡ true
    → Listed ss t w → length w ≤ n
listed_length n [] t w e l = absurd l
listed_length n (s ∷ ss) t w e (inl h) =
    let short = (both (leb (length s.bytes) n) (no_longer n ss) e).0 in
    subst (λ v. length v ≤ n) h.1 (leb-true (length s.bytes) n short)
listed_length n (s ∷ ss) t w e (inr l) =
    listed_length n ss t w (both (leb (length s.bytes) n) (no_longer n ss) e).1 l

-- what is found is listed and stands at the front, and so does none that is longer; or none does
abbrev pub Starts : List Spelling → List ℕ → Option Found → Type 0
Starts ss bs none = (t : Token) (m : ℕ) → m ≤ length bs → Listed ss t (take m bs) → ⊥
Starts ss bs (some f) =
    (f.size ≤ length bs) × Listed ss f.token (take f.size bs)
    × ((t : Token) (m : ℕ) → m ≤ length bs → Listed ss t (take m bs) → m ≤ f.size)

begins_so : (bs w : List ℕ) (m : ℕ) → m ≤ length bs → w ≡ take m bs → begins_with bs w ≡ true
begins_so bs w m h q =
    let size = ap length q ∙ length-take-le m bs h in
    subst (λ v. same_bytes v w ≡ true) (q ∙ ap (λ n. take n bs) (sym size)) (same_refl w)

pub starts : (ss : List Spelling) (bs : List ℕ) → longer_first ss ≡ true → Starts ss bs (symbol_of ss bs)
starts [] bs e = λ t m h l. l
starts (s ∷ ss) bs e =
    let h = both (no_longer (length s.bytes) ss) (longer_first ss) e in
    by_test h.0 (begins_with bs s.bytes) refl (symbol_of ss bs) (starts ss bs h.1)
  where
    not_here : begins_with bs s.bytes ≡ false → (m : ℕ) → m ≤ length bs → s.bytes ≡ take m bs → ⊥
    not_here e m h q = false_is_not (sym e ∙ begins_so bs s.bytes m h q)

    by_test : no_longer (length s.bytes) ss ≡ true → (k : Bool) → begins_with bs s.bytes ≡ k
        → (o : Option Found) → Starts ss bs o
        → Starts (s ∷ ss) bs (cond k (some (record { token = s.token; size = length s.bytes })) o)
    by_test n true e o h =
        let q = same_true (take (length s.bytes) bs) s.bytes e in (
          omega (linear, ap length q, length-take (length s.bytes) bs),
          inl (refl, sym q),
          λ t m l.
              ⊎_elim (λ i. omega (linear, ap length i.1, length-take-le m bs l))
              (λ i. omega (linear, listed_length (length s.bytes) ss t (take m bs) n i, length-take-le m bs l)),
        )
    by_test n false e none h = λ t m l. ⊎_elim (λ i. not_here e m l i.1) (h t m l)
    by_test n false e (some f) h =
        (h.0, inr h.1, λ t m l. ⊎_elim (λ i. absurd (not_here e m l i.1)) (h.2 t m l))
