-- The nonterminal of a sort and a level (`at`), and that a derivation from it is one from every looser nonterminal of the
-- sort (`raise`). What stands right of an operator that groups to the left is tighter (`next_levels`). Assumes nothing.
use Rattle.std.specs.Prelude.{ℕ, zero, suc, ◌≤◌, ◌<◌, ◌≡◌, refl, List, Bool, true, false, leb}
use Rattle.std.proofs.Common.{subst, arith as linear, leb-true, leb-false}
use Rattle.script.specs.declared.Operator.TheVariants.{Plus, Minus, Times, Div, Mod}
use Rattle.script.specs.declared.Connective.TheVariants.{And, Or, Implies}
use Rattle.grammar.specs.Sorts.{Sort, number, expression, formula, statement as statement-sort, script as script-sort}
use Rattle.grammar.specs.Operators.{semicolon, connective, relation, operator, not_prefix, minus_prefix, assert_prefix, assign_prefix}
use Rattle.grammar.specs.Tokens.{Token}
use Rattle.grammar.specs.Productions.{Nonterminal, script, statements, statement, implication, disjunction, conjunction, negation, comparison, sum, product, negative, operand, Derives, last_statement, to_implication, to_disjunction, to_conjunction, to_negation, to_sum, to_product, to_negative}
use Rattle.grammar.specs.Grammar.{Phrase, leaf, before, between, closed, level, binds}

-- ---- the nonterminal of a level

abbrev pub formula_at : ℕ → Nonterminal
formula_at zero = implication
formula_at (suc zero) = implication
formula_at (suc (suc zero)) = implication
formula_at (suc (suc (suc zero))) = disjunction
formula_at (suc (suc (suc (suc zero)))) = conjunction
formula_at (suc (suc (suc (suc (suc zero))))) = negation
formula_at (suc (suc (suc (suc (suc (suc n)))))) = comparison

-- from level 7 on
abbrev pub expression_past : ℕ → Nonterminal
expression_past zero = sum
expression_past (suc zero) = product
expression_past (suc (suc zero)) = negative
expression_past (suc (suc (suc n))) = operand

abbrev pub expression_at : ℕ → Nonterminal
expression_at zero = sum
expression_at (suc zero) = sum
expression_at (suc (suc zero)) = sum
expression_at (suc (suc (suc zero))) = sum
expression_at (suc (suc (suc (suc zero)))) = sum
expression_at (suc (suc (suc (suc (suc zero))))) = sum
expression_at (suc (suc (suc (suc (suc (suc zero)))))) = sum
expression_at (suc (suc (suc (suc (suc (suc (suc n))))))) = expression_past n

abbrev pub statement_at : ℕ → Nonterminal
statement_at zero = statements
statement_at (suc n) = statement

-- the k of a mark is a numeral, as an operand may be
abbrev pub at : Sort → ℕ → Nonterminal
at number n = operand
at expression n = expression_at n
at formula n = formula_at n
at statement-sort n = statement_at n
at script-sort n = script

-- ---- a looser one

module _ {ts : List Token} where
  formula_up : (n : ℕ) → Derives (formula_at (suc n)) ts → Derives (formula_at n) ts
  formula_up zero d = d
  formula_up (suc zero) d = d
  formula_up (suc (suc zero)) d = to_implication d
  formula_up (suc (suc (suc zero))) d = to_disjunction d
  formula_up (suc (suc (suc (suc zero)))) d = to_conjunction d
  formula_up (suc (suc (suc (suc (suc zero))))) d = to_negation d
  formula_up (suc (suc (suc (suc (suc (suc n)))))) d = d

  past_up : (n : ℕ) → Derives (expression_past (suc n)) ts → Derives (expression_past n) ts
  past_up zero d = to_sum d
  past_up (suc zero) d = to_product d
  past_up (suc (suc zero)) d = to_negative d
  past_up (suc (suc (suc n))) d = d

  expression_up : (n : ℕ) → Derives (expression_at (suc n)) ts → Derives (expression_at n) ts
  expression_up zero d = d
  expression_up (suc zero) d = d
  expression_up (suc (suc zero)) d = d
  expression_up (suc (suc (suc zero))) d = d
  expression_up (suc (suc (suc (suc zero)))) d = d
  expression_up (suc (suc (suc (suc (suc zero))))) d = d
  expression_up (suc (suc (suc (suc (suc (suc zero)))))) d = d
  expression_up (suc (suc (suc (suc (suc (suc (suc n))))))) d = past_up n d

  statement_up : (n : ℕ) → Derives (statement_at (suc n)) ts → Derives (statement_at n) ts
  statement_up zero d = last_statement d
  statement_up (suc n) d = d

  up : (s : Sort) (n : ℕ) → Derives (at s (suc n)) ts → Derives (at s n) ts
  up number n d = d
  up expression n d = expression_up n d
  up formula n d = formula_up n d
  up statement-sort n d = statement_up n d
  up script-sort n d = d

  pub raise : (s : Sort) (k n : ℕ) → k ≤ n → Derives (at s n) ts → Derives (at s k) ts
  raise s k zero l d = subst (λ (m : ℕ). Derives (at s m) ts) (omega linear) d
  raise s k (suc n) l d = at_test (leb k n) refl (λ h. raise s k n h (up s n d))
    where
      at_test : (b : Bool) → leb k n ≡ b → (k ≤ n → Derives (at s k) ts) → Derives (at s k) ts
      at_test true e f = f (leb-true k n e)
      at_test false e f = let h = leb-false k n e in subst (λ (m : ℕ). Derives (at s m) ts) (omega linear) d

-- ---- the next level, right of or, and, + or -, and * div mod

abbrev pub Next : ℕ → ℕ → Type 0
Next l b = (3 < b → 4 ≤ l) × (4 < b → 5 ≤ l) × (7 < b → 8 ≤ l) × (8 < b → 9 ≤ l)

-- where it groups to the left
left : (l : ℕ) → Next l l
left l = (λ h. omega linear, λ h. omega linear, λ h. omega linear, λ h. omega linear)

pub next_levels : (x : Phrase) → Next (level x) (binds x)
next_levels (leaf l) = (λ h. omega linear, λ h. omega linear, λ h. omega linear, λ h. omega linear)
next_levels (before not_prefix x) = (λ h. omega linear, λ h. omega linear, λ h. omega linear, λ h. omega linear)
next_levels (before minus_prefix x) = (λ h. omega linear, λ h. omega linear, λ h. omega linear, λ h. omega linear)
next_levels (before assert_prefix x) = (λ h. omega linear, λ h. omega linear, λ h. omega linear, λ h. omega linear)
next_levels (before (assign_prefix v) x) = (λ h. omega linear, λ h. omega linear, λ h. omega linear, λ h. omega linear)
next_levels (between semicolon x y) = (λ h. omega linear, λ h. omega linear, λ h. omega linear, λ h. omega linear)
next_levels (between (connective Implies) x y) = (λ h. omega linear, λ h. omega linear, λ h. omega linear, λ h. omega linear)
next_levels (between (connective Or) x y) = left 3
next_levels (between (connective And) x y) = left 4
next_levels (between (relation r) x y) = left 6
next_levels (between (operator Plus) x y) = left 7
next_levels (between (operator Minus) x y) = left 7
next_levels (between (operator Times) x y) = left 8
next_levels (between (operator Div) x y) = left 8
next_levels (between (operator Mod) x y) = left 8
next_levels (closed c x) = (λ h. omega linear, λ h. omega linear, λ h. omega linear, λ h. omega linear)
