-- The S-expression of a term whose symbols are names has words for atoms, and is read back as that term (`term_back`,
-- `claim_back`). An operator with its arguments is read where these are (`with_one_back` to `with_three_back`); the rest is
-- induction on the term. Assumes nothing.
use Rattle.std.specs.Prelude.{ℕ, ◌≡◌, refl, T}
use Rattle.std.proofs.Common.{ap, ◌∙◌}
use Rattle.std.proofs.Math.Option.{some}
use mathlib.Core.List.Memᴰ
use mathlib.Core.List.{List, [], ◌∷◌, ◌++◌, Memᴰ}
use Rattle.script.specs.Listing.{◌>>=◌}
use Rattle.text.specs.Ascii.{bytes}
use Rattle.smt.specs.Smt as Smt
use Rattle.smt.specs.Smt.{Symbol, Term, Claim, term_symbols, claim_symbols}
use Rattle.smt.specs.Sexp.{Sexp, atom, form, Sexps, end, then}
use Rattle.smt.specs.Reader.{Sorted, int, bool, apply, read_term, read_terms}
use Rattle.smt.specs.Text.{with_one, with_two, with_three, term_sexp, claim_sexp}
use Rattle.smt.specs.Spaced.{is_word}
use Rattle.smt.specs.Lexicon.{is_name}
use Rattle.smt.specs.Atoms.{Back, name_back, numeral_back}

-- ---- an operator with its arguments

more_terms : (s : Sexp) (ss : Sexps) (x : Sorted) (xs : List Sorted) → read_term s ≡ some x → read_terms ss ≡ some xs
    → read_terms (then s ss) ≡ some (x ∷ xs)
unfolding read_terms
more_terms s ss x xs p q =
    ap (λ o. o >>= λ y. read_terms ss >>= λ ys. some (y ∷ ys)) p ∙ ap (λ o. o >>= λ ys. some (x ∷ ys)) q

no_terms : read_terms end ≡ some []
unfolding read_terms
no_terms = refl

applied : (w : List ℕ) (ss : Sexps) (xs : List Sorted) → read_terms ss ≡ some xs → read_term (form (then (atom w) ss)) ≡ apply w xs
unfolding read_term
applied w ss xs p = ap (λ o. o >>= λ ys. apply w ys) p

with_one_back : (w : List ℕ) (s : Sexp) (x y : Sorted) → T (is_word w) → apply w (x ∷ []) ≡ some y → Back s x → Back (with_one w s) y
with_one_back w s x y h e b =
    ((h, (b.0, tt)), applied w (then s end) (x ∷ []) (more_terms s end x [] b.1 no_terms) ∙ e)

with_two_back : (w : List ℕ) (s t : Sexp) (x y z : Sorted) → T (is_word w) → apply w (x ∷ y ∷ []) ≡ some z → Back s x → Back t y
    → Back (with_two w s t) z
with_two_back w s t x y z h e b c = (
  (h, (b.0, (c.0, tt))),
  applied w (then s (then t end)) (x ∷ y ∷ []) (more_terms s (then t end) x (y ∷ []) b.1 (more_terms t end y [] c.1 no_terms)) ∙ e,
)

with_three_back : (w : List ℕ) (s t u : Sexp) (x y z r : Sorted) → T (is_word w) → apply w (x ∷ y ∷ z ∷ []) ≡ some r → Back s x
    → Back t y → Back u z → Back (with_three w s t u) r
with_three_back w s t u x y z r h e b c d = (
  (h, (b.0, (c.0, (d.0, tt)))),
  applied w (then s (then t (then u end))) (x ∷ y ∷ z ∷ [])
      (more_terms s (then t (then u end)) x (y ∷ z ∷ []) b.1
      (more_terms t (then u end) y (z ∷ []) c.1 (more_terms u end z [] d.1 no_terms))) ∙ e,
)

-- ---- terms

-- every symbol is a name
pub record AllNames (ws : List Symbol) : Type 0 where
  pub each : (w : Symbol) → Memᴰ w ws → T (is_name w)

names_left : {xs : List Symbol} (ys : List Symbol) → AllNames (xs ++ ys) → AllNames xs
names_left ys h = record { each = λ w m. h.each w (Memᴰ.append_left ys m) }

names_right : (xs : List Symbol) {ys : List Symbol} → AllNames (xs ++ ys) → AllNames ys
names_right xs h = record { each = λ w m. h.each w (Memᴰ.append_right xs m) }

-- an operator at two terms, and at two claims
module _ (w : List ℕ) (a b : Term) (z : Sorted) (h : AllNames (term_symbols a ++ term_symbols b)) where
  two_terms : T (is_word w) → apply w (int a ∷ int b ∷ []) ≡ some z
      → (AllNames (term_symbols a) → Back (term_sexp a) (int a)) → (AllNames (term_symbols b) → Back (term_sexp b) (int b))
      → Back (with_two w (term_sexp a) (term_sexp b)) z
  two_terms t e f g =
      with_two_back w (term_sexp a) (term_sexp b) (int a) (int b) z t e (f (names_left (term_symbols b) h))
      (g (names_right (term_symbols a) h))

module _ (w : List ℕ) (a b : Claim) (z : Sorted) (h : AllNames (claim_symbols a ++ claim_symbols b)) where
  two_claims : T (is_word w) → apply w (bool a ∷ bool b ∷ []) ≡ some z
      → (AllNames (claim_symbols a) → Back (claim_sexp a) (bool a)) → (AllNames (claim_symbols b) → Back (claim_sexp b) (bool b))
      → Back (with_two w (claim_sexp a) (claim_sexp b)) z
  two_claims t e f g =
      with_two_back w (claim_sexp a) (claim_sexp b) (bool a) (bool b) z t e (f (names_left (claim_symbols b) h))
      (g (names_right (claim_symbols a) h))

mutual
  unfolding term_sexp term_symbols read_term

  pub term_back : (t : Term) → AllNames (term_symbols t) → Back (term_sexp t) (int t)
  term_back (Smt.numeral n) h = numeral_back n
  term_back (Smt.constant c) h = name_back c (h.each c (Memᴰ.head refl))
  term_back (Smt.minus a) h = with_one_back (bytes "-") (term_sexp a) (int a) (int (Smt.minus a)) tt refl (term_back a h)
  term_back (Smt.add a b) h =
      two_terms (bytes "+") a b (int (Smt.add a b)) h tt refl (λ k. term_back a k) (λ k. term_back b k)
  term_back (Smt.sub a b) h =
      two_terms (bytes "-") a b (int (Smt.sub a b)) h tt refl (λ k. term_back a k) (λ k. term_back b k)
  term_back (Smt.mul a b) h =
      two_terms (bytes "*") a b (int (Smt.mul a b)) h tt refl (λ k. term_back a k) (λ k. term_back b k)
  term_back (Smt.div a b) h =
      two_terms (bytes "div") a b (int (Smt.div a b)) h tt refl (λ k. term_back a k) (λ k. term_back b k)
  term_back (Smt.modulo a b) h =
      two_terms (bytes "mod") a b (int (Smt.modulo a b)) h tt refl (λ k. term_back a k) (λ k. term_back b k)
  term_back (Smt.ite c a b) h =
      let rest : AllNames (term_symbols a ++ term_symbols b) = names_right (claim_symbols c) h in
      with_three_back (bytes "ite") (claim_sexp c) (term_sexp a) (term_sexp b) (bool c) (int a) (int b) (int (Smt.ite c a b)) tt refl
      (claim_back c (names_left (term_symbols a ++ term_symbols b) h)) (term_back a (names_left (term_symbols b) rest))
      (term_back b (names_right (term_symbols a) rest))

  pub claim_back : (f : Claim) → AllNames (claim_symbols f) → Back (claim_sexp f) (bool f)
  claim_back Smt.true h = (tt, refl)
  claim_back Smt.false h = (tt, refl)
  claim_back (Smt.less a b) h =
      two_terms (bytes "<") a b (bool (Smt.less a b)) h tt refl (λ k. term_back a k) (λ k. term_back b k)
  claim_back (Smt.at_most a b) h =
      two_terms (bytes "<=") a b (bool (Smt.at_most a b)) h tt refl (λ k. term_back a k) (λ k. term_back b k)
  claim_back (Smt.equal a b) h =
      two_terms (bytes "=") a b (bool (Smt.equal a b)) h tt refl (λ k. term_back a k) (λ k. term_back b k)
  claim_back (Smt.distinct a b) h =
      two_terms (bytes "distinct") a b (bool (Smt.distinct a b)) h tt refl (λ k. term_back a k) (λ k. term_back b k)
  claim_back (Smt.not f) h = with_one_back (bytes "not") (claim_sexp f) (bool f) (bool (Smt.not f)) tt refl (claim_back f h)
  claim_back (Smt.and f g) h =
      two_claims (bytes "and") f g (bool (Smt.and f g)) h tt refl (λ k. claim_back f k) (λ k. claim_back g k)
  claim_back (Smt.or f g) h =
      two_claims (bytes "or") f g (bool (Smt.or f g)) h tt refl (λ k. claim_back f k) (λ k. claim_back g k)
  claim_back (Smt.implies f g) h =
      two_claims (bytes "=>") f g (bool (Smt.implies f g)) h tt refl (λ k. claim_back f k) (λ k. claim_back g k)
