-- How a token is written (`spelling`), and that the token begins where it is written so with a blank after it (`begins`), any but the
-- end of a text (`BeforeEnd`). A numeral and a variable are written in decimal; what the others are written as is computed.
-- Assumes nothing.
use Rattle.std.specs.Prelude.{ℕ, suc, ◌+◌, ◌*◌, ◌-◌, ◌≡◌, refl, List, [], ◌∷◌, ◌++◌, Bool, true, false, cond, ◌||◌, T, length, take}
use Rattle.std.proofs.Common.{ap, ◌∙◌, subst, ⊎_elim, arith as linear, eq-eqb, ne_eqb}
use Rattle.std.proofs.Math.Option.{Option, none, some}
use Rattle.std.proofs.Math.Seq.{take-append_seam}
use Rattle.script.specs.declared.Operator.TheVariants.{Plus, Minus, Times, Div, Mod}
use Rattle.script.specs.declared.Relation.TheVariants.{Less, AtMost, Equal, Unequal}
use Rattle.script.specs.declared.Connective.TheVariants.{And, Or, Implies}
use Rattle.theorems.specs.Truths.{is_true, both}
use Rattle.text.specs.Decimal as Decimal
use Rattle.grammar.specs.Operators.{semicolon, connective, relation, operator}
use Rattle.grammar.specs.Forms.{group_form, mark_form, when_form, if_form, while_form, script_form}
use Rattle.grammar.specs.Tokens.{bracket_closer, comma_closer, then_closer, else_closer, end_closer, keep_closer, fall_closer, do_closer, post_closer, end_of_text, Token, numeral, variable, truth_word, skip_word, not_word, assert_word, becomes, infix_word, form_word, closer_word}
use Rattle.grammar.specs.Scanning.{bytes, is_digit, is_letter, is_word_byte, front, decimal, number, Found, numeral_of, word_of, symbol_of, keywords, symbols, token_at}
use Rattle.grammar.specs.Pieces.{All, Digits, TokenBegins}
use Rattle.grammar.specs.Longest.{Begun, begun}

-- ---- runs of bytes before a blank

front_blank : (p : ℕ → Bool) (w rest : List ℕ) → All p w → p 32 ≡ false → front p (w ++ (32 ∷ rest)) ≡ length w
front_blank p [] rest h e = rw e
front_blank p (b ∷ w) rest h e = rw h.0 (ap suc (front_blank p w rest h.1 e))

run_blank : (p : ℕ → Bool) (w rest : List ℕ) → All p w → p 32 ≡ false → take (front p (w ++ (32 ∷ rest))) (w ++ (32 ∷ rest)) ≡ w
run_blank p w rest h e =
    ap (λ n. take n (w ++ (32 ∷ rest))) (front_blank p w rest h e) ∙ take-append_seam w (32 ∷ rest)

front_all : (p : ℕ → Bool) (w : List ℕ) → All p w → front p w ≡ length w
front_all p [] h = refl
front_all p (b ∷ w) h = rw h.0 (ap suc (front_all p w h.1))

-- ---- decimal text

all_digits : (w : List ℕ) → T (Decimal.all Decimal.digit w) → All is_digit w
all_digits [] h = tt
all_digits (b ∷ w) h =
    let k = both (Decimal.digit b) (Decimal.all Decimal.digit w) h in
    (is_true (is_digit b) k.0, all_digits w k.1)

digits_of : (n : ℕ) → All is_digit (Decimal.decimal n)
digits_of n = all_digits (Decimal.decimal n) (Decimal.decimal_digits n)

same_decimal : (w : List ℕ) (a : ℕ) → decimal a w ≡ Decimal.number_after a w
same_decimal [] a = refl
same_decimal (b ∷ w) a = let e : 10 * a + (b - 48) ≡ a * 10 + (b - 48) = omega linear in rw e (same_decimal w (a * 10 + (b - 48)))

-- no 0 stands first but alone
plain : (w : List ℕ) → Decimal.Starts w → number w ≡ decimal 0 w
plain [] s = refl
plain (d ∷ []) s = omega linear
plain (d ∷ e ∷ ds) s =
    let first : d ≡ s.first = cc s.is in
    let others : e ∷ ds ≡ s.others = cc s.is in
    ⊎_elim (λ l. rw (ne_eqb d 48 (λ z. omega linear))) (λ n. let z : suc (length ds) ≡ 0 = ap length (others ∙ n) in absurd (omega linear)) s.alone

number_is : (n : ℕ) → number (Decimal.decimal n) ≡ n
number_is n =
    let w = Decimal.decimal n in
    plain w (Decimal.decimal_starts n) ∙ same_decimal w 0 ∙ Decimal.number_decimal n

some_digits : (w : List ℕ) → Decimal.Starts w → All is_digit w → Digits w
some_digits [] s h = let z : 0 ≡ suc (length s.others) = ap length s.is in absurd (omega linear)
some_digits (b ∷ w) s h = h

led : (n : ℕ) → Digits (Decimal.decimal n)
led n = some_digits (Decimal.decimal n) (Decimal.decimal_starts n) (digits_of n)

begins_numeral : (w rest : List ℕ) → Digits w → TokenBegins (w ++ (32 ∷ rest)) (numeral (number w)) (length w)
unfolding token_at
begins_numeral [] rest h = absurd h
begins_numeral (b ∷ w) rest h =
    let bs : List ℕ = (b ∷ w) ++ (32 ∷ rest) in
    let other = cond (is_letter b) (word_of keywords (take (front is_word_byte bs) bs)) (symbol_of symbols bs) in
    let here : token_at bs ≡ numeral_of (b ∷ w) =
    ap (λ k. cond k (numeral_of (take (front is_digit bs) bs)) other) h.0 ∙ ap numeral_of (run_blank is_digit (b ∷ w) rest h refl) in
    subst (Begun bs) here (begun bs)

word_bytes : (w : List ℕ) → All is_digit w → All is_word_byte w
word_bytes [] h = tt
word_bytes (b ∷ w) h = (later (is_letter b) (is_digit b) h.0, word_bytes w h.1)
  where
    later : (a d : Bool) → d ≡ true → (a || d) ≡ true
    later true d e = refl
    later false d e = e

begins_variable : (ds rest : List ℕ) → Digits ds
    → TokenBegins ((118 ∷ ds) ++ (32 ∷ rest)) (variable (number ds)) (suc (length ds))
unfolding token_at
begins_variable [] rest h = absurd h
begins_variable (d ∷ ds) rest h =
    let bs : List ℕ = (118 ∷ d ∷ ds) ++ (32 ∷ rest) in
    let it : Option Found = some (record { token = variable (number (d ∷ ds)); size = suc (suc (length ds)) }) in
    let here : token_at bs ≡ it =
    ap (λ w. word_of keywords (118 ∷ w)) (run_blank is_word_byte (d ∷ ds) rest (word_bytes (d ∷ ds) h) refl)
    ∙ ap (λ k. cond k it none) (eq-eqb (front is_digit (d ∷ ds)) (length (d ∷ ds)) (front_all is_digit (d ∷ ds) h)) in
    subst (Begun bs) here (begun bs)

-- ---- a token, written

abbrev pub spelling : Token → List ℕ
spelling (numeral n) = Decimal.decimal n
spelling (variable v) = 118 ∷ Decimal.decimal v
spelling (truth_word true) = bytes "true"
spelling (truth_word false) = bytes "false"
spelling skip_word = bytes "skip"
spelling not_word = bytes "not"
spelling assert_word = bytes "assert"
spelling becomes = bytes ":="
spelling (infix_word semicolon) = bytes ";"
spelling (infix_word (connective And)) = bytes "and"
spelling (infix_word (connective Or)) = bytes "or"
spelling (infix_word (connective Implies)) = bytes "implies"
spelling (infix_word (relation Less)) = bytes "<"
spelling (infix_word (relation AtMost)) = bytes "<="
spelling (infix_word (relation Equal)) = bytes "="
spelling (infix_word (relation Unequal)) = bytes "<>"
spelling (infix_word (operator Plus)) = bytes "+"
spelling (infix_word (operator Minus)) = bytes "-"
spelling (infix_word (operator Times)) = bytes "*"
spelling (infix_word (operator Div)) = bytes "div"
spelling (infix_word (operator Mod)) = bytes "mod"
spelling (form_word group_form) = bytes "("
spelling (form_word mark_form) = bytes "mark"
spelling (form_word when_form) = bytes "when"
spelling (form_word if_form) = bytes "if"
spelling (form_word while_form) = bytes "while"
spelling (form_word script_form) = bytes "pre"
spelling (closer_word bracket_closer) = bytes ")"
spelling (closer_word comma_closer) = bytes ","
spelling (closer_word then_closer) = bytes "then"
spelling (closer_word else_closer) = bytes "else"
spelling (closer_word end_closer) = bytes "end"
spelling (closer_word keep_closer) = bytes "keep"
spelling (closer_word fall_closer) = bytes "fall"
spelling (closer_word do_closer) = bytes "do"
spelling (closer_word post_closer) = bytes "post"
spelling (closer_word end_of_text) = []

-- any but the end of a text
abbrev pub BeforeEnd : Token → Type 0
BeforeEnd (numeral n) = Unit {0}
BeforeEnd (variable v) = Unit {0}
BeforeEnd (truth_word b) = Unit {0}
BeforeEnd skip_word = Unit {0}
BeforeEnd not_word = Unit {0}
BeforeEnd assert_word = Unit {0}
BeforeEnd becomes = Unit {0}
BeforeEnd (infix_word o) = Unit {0}
BeforeEnd (form_word f) = Unit {0}
BeforeEnd (closer_word bracket_closer) = Unit {0}
BeforeEnd (closer_word comma_closer) = Unit {0}
BeforeEnd (closer_word then_closer) = Unit {0}
BeforeEnd (closer_word else_closer) = Unit {0}
BeforeEnd (closer_word end_closer) = Unit {0}
BeforeEnd (closer_word keep_closer) = Unit {0}
BeforeEnd (closer_word fall_closer) = Unit {0}
BeforeEnd (closer_word do_closer) = Unit {0}
BeforeEnd (closer_word post_closer) = Unit {0}
BeforeEnd (closer_word end_of_text) = ⊥

pub begins : (t : Token) → BeforeEnd t → (rest : List ℕ) → TokenBegins (spelling t ++ (32 ∷ rest)) t (length (spelling t))
unfolding token_at
begins (numeral n) h rest =
    let w = Decimal.decimal n in
    subst (λ k. TokenBegins (w ++ (32 ∷ rest)) (numeral k) (length w)) (number_is n) (begins_numeral w rest (led n))
begins (variable v) h rest =
    let w = Decimal.decimal v in
    subst (λ k. TokenBegins ((118 ∷ w) ++ (32 ∷ rest)) (variable k) (suc (length w))) (number_is v) (begins_variable w rest (led v))
begins (truth_word true) h rest = begun (spelling (truth_word true) ++ (32 ∷ rest))
begins (truth_word false) h rest = begun (spelling (truth_word false) ++ (32 ∷ rest))
begins skip_word h rest = begun (spelling skip_word ++ (32 ∷ rest))
begins not_word h rest = begun (spelling not_word ++ (32 ∷ rest))
begins assert_word h rest = begun (spelling assert_word ++ (32 ∷ rest))
begins becomes h rest = begun (spelling becomes ++ (32 ∷ rest))
begins (infix_word semicolon) h rest = begun (spelling (infix_word semicolon) ++ (32 ∷ rest))
begins (infix_word (connective And)) h rest = begun (spelling (infix_word (connective And)) ++ (32 ∷ rest))
begins (infix_word (connective Or)) h rest = begun (spelling (infix_word (connective Or)) ++ (32 ∷ rest))
begins (infix_word (connective Implies)) h rest = begun (spelling (infix_word (connective Implies)) ++ (32 ∷ rest))
begins (infix_word (relation Less)) h rest = begun (spelling (infix_word (relation Less)) ++ (32 ∷ rest))
begins (infix_word (relation AtMost)) h rest = begun (spelling (infix_word (relation AtMost)) ++ (32 ∷ rest))
begins (infix_word (relation Equal)) h rest = begun (spelling (infix_word (relation Equal)) ++ (32 ∷ rest))
begins (infix_word (relation Unequal)) h rest = begun (spelling (infix_word (relation Unequal)) ++ (32 ∷ rest))
begins (infix_word (operator Plus)) h rest = begun (spelling (infix_word (operator Plus)) ++ (32 ∷ rest))
begins (infix_word (operator Minus)) h rest = begun (spelling (infix_word (operator Minus)) ++ (32 ∷ rest))
begins (infix_word (operator Times)) h rest = begun (spelling (infix_word (operator Times)) ++ (32 ∷ rest))
begins (infix_word (operator Div)) h rest = begun (spelling (infix_word (operator Div)) ++ (32 ∷ rest))
begins (infix_word (operator Mod)) h rest = begun (spelling (infix_word (operator Mod)) ++ (32 ∷ rest))
begins (form_word group_form) h rest = begun (spelling (form_word group_form) ++ (32 ∷ rest))
begins (form_word mark_form) h rest = begun (spelling (form_word mark_form) ++ (32 ∷ rest))
begins (form_word when_form) h rest = begun (spelling (form_word when_form) ++ (32 ∷ rest))
begins (form_word if_form) h rest = begun (spelling (form_word if_form) ++ (32 ∷ rest))
begins (form_word while_form) h rest = begun (spelling (form_word while_form) ++ (32 ∷ rest))
begins (form_word script_form) h rest = begun (spelling (form_word script_form) ++ (32 ∷ rest))
begins (closer_word bracket_closer) h rest = begun (spelling (closer_word bracket_closer) ++ (32 ∷ rest))
begins (closer_word comma_closer) h rest = begun (spelling (closer_word comma_closer) ++ (32 ∷ rest))
begins (closer_word then_closer) h rest = begun (spelling (closer_word then_closer) ++ (32 ∷ rest))
begins (closer_word else_closer) h rest = begun (spelling (closer_word else_closer) ++ (32 ∷ rest))
begins (closer_word end_closer) h rest = begun (spelling (closer_word end_closer) ++ (32 ∷ rest))
begins (closer_word keep_closer) h rest = begun (spelling (closer_word keep_closer) ++ (32 ∷ rest))
begins (closer_word fall_closer) h rest = begun (spelling (closer_word fall_closer) ++ (32 ∷ rest))
begins (closer_word do_closer) h rest = begun (spelling (closer_word do_closer) ++ (32 ∷ rest))
begins (closer_word post_closer) h rest = begun (spelling (closer_word post_closer) ++ (32 ∷ rest))
begins (closer_word end_of_text) h rest = absurd h
