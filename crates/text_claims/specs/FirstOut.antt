-- The place that goes with 42: the numbers of a derivation, in their order, and the places of the numerals and
-- variables of its tokens stand side by side, and the place is that of the first number out of range (`FirstOut`).
-- Then the same as a function (`first_out`), with what it says of both (`first_says`, `says_first`, `none_first`,
-- `first_none`). Assumes nothing.
use Rattle.std.specs.Prelude.{ℕ, zero, suc, ◌<◌, ◌≡◌, refl, List, [], ◌∷◌, Bool, true, false, cond, length}
use Rattle.std.proofs.Common.{sym, arith as linear}
use Rattle.std.proofs.Math.Option.{Option, none, some}
use Rattle.std.proofs.Math.ListN.{get_elem?}
use Rattle.theorems.specs.Options.{none_is_not, some_inj}
use Rattle.grammar.specs.Tokens.{Token, numeral, variable, truth_word, skip_word, not_word, assert_word, becomes, infix_word, form_word, closer_word}
use Rattle.grammar.specs.Scanning.{Lexeme}
use Rattle.grammar.specs.Ranges.{All}
use Rattle.grammar.specs.Tests.{false_is_not}

abbrev pub is_number : Token → Bool
is_number (numeral n) = true
is_number (variable v) = true
is_number (truth_word b) = false
is_number skip_word = false
is_number not_word = false
is_number assert_word = false
is_number becomes = false
is_number (infix_word o) = false
is_number (form_word f) = false
is_number (closer_word c) = false

-- the places of the numerals and variables
abbrev pub number_places : List Lexeme → List ℕ
number_places [] = []
number_places (l ∷ ls) = cond (is_number l.token) (l.place ∷ number_places ls) (number_places ls)

-- whether each number is in range, and the place of each: p is that of the first which is not
pub record FirstOut (in_range : List Bool) (places : List ℕ) (p : ℕ) : Type 0 where
  pub nth : ℕ
  pub earlier : (i : ℕ) → i < nth → get_elem? in_range i ≡ some true
  pub out : get_elem? in_range nth ≡ some false
  pub placed : get_elem? places nth ≡ some p

-- ---- the first one, by computation

abbrev pub first_out : List Bool → List ℕ → Option ℕ
first_out [] ps = none
first_out (b ∷ bs) [] = none
first_out (b ∷ bs) (p ∷ ps) = cond b (first_out bs ps) (some p)

pub first_says : (bs : List Bool) (ps : List ℕ) (p : ℕ) → first_out bs ps ≡ some p → FirstOut bs ps p
first_says [] ps p e = none_is_not e
first_says (b ∷ bs) [] p e = none_is_not e
first_says (false ∷ bs) (q ∷ ps) p e =
    record { nth = 0; earlier = λ i l. absurd (omega linear); out = refl; placed = e }
first_says (true ∷ bs) (q ∷ ps) p e =
    let f = first_says bs ps p e in
    record { nth = suc f.nth; earlier = one_more f.nth f.earlier; out = f.out; placed = f.placed }
  where
    one_more : (n : ℕ) → ((i : ℕ) → i < n → get_elem? bs i ≡ some true)
        → (i : ℕ) → i < suc n → get_elem? (true ∷ bs) i ≡ some true
    one_more n h zero l = refl
    one_more n h (suc i) l = h i (omega linear)

pub says_first : (bs : List Bool) (ps : List ℕ) (p n : ℕ) → ((i : ℕ) → i < n → get_elem? bs i ≡ some true)
    → get_elem? bs n ≡ some false → get_elem? ps n ≡ some p → first_out bs ps ≡ some p
says_first [] ps p n earlier out placed = none_is_not out
says_first (b ∷ bs) [] p n earlier out placed = none_is_not placed
says_first (false ∷ bs) (q ∷ ps) p zero earlier out placed = placed
says_first (false ∷ bs) (q ∷ ps) p (suc n) earlier out placed = false_is_not (some_inj (earlier 0 (omega linear)))
says_first (true ∷ bs) (q ∷ ps) p zero earlier out placed = false_is_not (sym (some_inj out))
says_first (true ∷ bs) (q ∷ ps) p (suc n) earlier out placed =
    says_first bs ps p n (λ i l. earlier (suc i) (omega linear)) out placed

pub none_first : (bs : List Bool) (ps : List ℕ) → All bs → first_out bs ps ≡ none
none_first [] ps h = refl
none_first (b ∷ bs) [] h = refl
none_first (b ∷ bs) (p ∷ ps) h = rw h.0 (none_first bs ps h.1)

pub first_none : (bs : List Bool) (ps : List ℕ) → length bs ≡ length ps → first_out bs ps ≡ none → All bs
first_none [] ps n e = tt
first_none (b ∷ bs) [] n e = absurd (omega linear)
first_none (true ∷ bs) (p ∷ ps) n e = (refl, first_none bs ps (omega linear) e)
first_none (false ∷ bs) (p ∷ ps) n e = none_is_not (sym e)
