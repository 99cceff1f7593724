-- Marks. While a text is read, the row of a mark holds the mark's number; one pass over the rows, from the last down,
-- puts the row of its loop there. It keeps the rows of the loops whose body it is in, inner first: it comes to a loop's
-- row before the rows of its body, and adds it, and to the loop's note after them, and drops it (`after_pass`: what is
-- kept then; `pass_rows`: the rows). `Passes` says both of some rows. `Passed`: that gives the table that is asked for.
-- Assumes nothing.
use Rattle.std.specs.Prelude.{ℕ, suc, ◌+◌, ◌≡◌, refl, List, [], ◌∷◌, ◌++◌, Bool, true, false, cond, ℤ, pos, negsuc, eqb, length}
use Rattle.std.proofs.Common.{sym, ap, ◌∙◌, arith as linear}
use Rattle.std.proofs.Math.Option.{none}
use Rattle.script.specs.declared.Operator.TheVariants.{Plus, Minus, Times, Div, Mod}
use Rattle.script.specs.declared.Relation.TheVariants.{Less, AtMost, Equal, Unequal}
use Rattle.script.specs.declared.Connective.TheVariants.{And, Or, Implies}
use Rattle.theorems.specs.Options.{none_is_not}
use Rattle.grammar.specs.Operators.{Infix, semicolon, connective, relation, operator, Prefix, not_prefix, minus_prefix, assert_prefix, assign_prefix}
use Rattle.grammar.specs.Forms.{next_place, Place, in_group, in_mark, when_first, when_second, when_third, if_guard, if_then, if_else, while_guard, while_keep, while_fall, while_body, script_pre, script_body, script_post}
use Rattle.grammar.specs.Tokens.{Leaf, constant_leaf, number_leaf, variable_leaf, truth_leaf, skip_leaf}
use Rattle.grammar.specs.Counts.{begins_body}
use Rattle.grammar.specs.Rows.{Quad, quad, constant, leaf_rows, prefix_row, infix_kind, nth_loop, form_rows, note_rows}

-- ---- a row

abbrev pub is_kind : ℕ → ℤ → Bool
is_kind k (pos n) = eqb n k
is_kind k (negsuc n) = false

abbrev pub outer : List ℕ → List ℕ
outer [] = []
outer (l ∷ ls) = ls

-- what is kept after row r, which is of kind k: a loop is added, and dropped at its note
abbrev pub kept : ℤ → ℕ → List ℕ → List ℕ
kept k r ls = cond (is_kind 36 k) (r ∷ ls) (cond (is_kind 37 k) (outer ls) ls)

-- the row of the loop that a mark's number names
abbrev pub loop_of : List ℕ → ℤ → ℤ
loop_of ls (pos k) = pos (nth_loop ls k)
loop_of ls (negsuc k) = pos 0

abbrev pub named : List ℕ → Quad → Quad
named ls q = record { kind = q.kind; first = cond (is_kind 9 q.kind) (loop_of ls q.first) q.first; second = q.second; third = q.third }

-- ---- the pass

-- what is kept when the rows from b on are passed
unfoldable pub after_pass : List Quad → ℕ → List ℕ → List ℕ
after_pass [] b ls = ls
after_pass (q ∷ qs) b ls = kept q.kind b (after_pass qs (suc b) ls)

unfoldable pub pass_rows : List Quad → ℕ → List ℕ → List Quad
pass_rows [] b ls = []
pass_rows (q ∷ qs) b ls = named (after_pass qs (suc b) ls) q ∷ pass_rows qs (suc b) ls

-- the rows qs from b on become rs, and the loops ls become ks
abbrev pub Passes : List Quad → ℕ → List ℕ → List ℕ → List Quad → Type 0
Passes qs b ls ks rs = (after_pass qs b ls ≡ ks) × (pass_rows qs b ls ≡ rs)

-- ---- single rows: loops change at those of loops and notes, and only a mark's row changes

pub nothing_passes : (b : ℕ) (ls : List ℕ) → Passes [] b ls ls []
unfolding after_pass pass_rows
nothing_passes b ls = (refl, refl)

pub constant_passes : (z : ℤ) (b : ℕ) (ls : List ℕ) → Passes (constant z ∷ []) b ls ls (constant z ∷ [])
unfolding after_pass pass_rows
constant_passes z b ls = (refl, refl)

pub leaf_passes : (l : Leaf) (b : ℕ) (ls : List ℕ) → Passes (leaf_rows l) b ls ls (leaf_rows l)
unfolding after_pass pass_rows
leaf_passes (constant_leaf n) b ls = (refl, refl)
leaf_passes (number_leaf n) b ls = (refl, refl)
leaf_passes (variable_leaf v) b ls = (refl, refl)
leaf_passes (truth_leaf true) b ls = (refl, refl)
leaf_passes (truth_leaf false) b ls = (refl, refl)
leaf_passes skip_leaf b ls = (refl, refl)

pub prefix_passes : (p : Prefix) (r b : ℕ) (ls : List ℕ) → Passes (prefix_row p r ∷ []) b ls ls (prefix_row p r ∷ [])
unfolding after_pass pass_rows
prefix_passes not_prefix r b ls = (refl, refl)
prefix_passes minus_prefix r b ls = (refl, refl)
prefix_passes assert_prefix r b ls = (refl, refl)
prefix_passes (assign_prefix v) r b ls = (refl, refl)

pub infix_passes : (o : Infix) (i j b : ℕ) (ls : List ℕ)
    → Passes (quad (infix_kind o) i j 0 ∷ []) b ls ls (quad (infix_kind o) i j 0 ∷ [])
unfolding after_pass pass_rows
infix_passes semicolon i j b ls = (refl, refl)
infix_passes (connective And) i j b ls = (refl, refl)
infix_passes (connective Or) i j b ls = (refl, refl)
infix_passes (connective Implies) i j b ls = (refl, refl)
infix_passes (relation Less) i j b ls = (refl, refl)
infix_passes (relation AtMost) i j b ls = (refl, refl)
infix_passes (relation Equal) i j b ls = (refl, refl)
infix_passes (relation Unequal) i j b ls = (refl, refl)
infix_passes (operator Plus) i j b ls = (refl, refl)
infix_passes (operator Minus) i j b ls = (refl, refl)
infix_passes (operator Times) i j b ls = (refl, refl)
infix_passes (operator Div) i j b ls = (refl, refl)
infix_passes (operator Mod) i j b ls = (refl, refl)

-- with the loop of the note, if there is one
pub note_passes : (k : Bool) (rs : List ℕ) (i r b : ℕ) (ls : List ℕ) → Passes (note_rows k rs r) b (cond k (i ∷ ls) ls) ls (note_rows k rs r)
unfolding after_pass pass_rows
note_passes true rs i r b ls = (refl, refl)
note_passes false rs i r b ls = (refl, refl)

pub form_passes : (p : Place) (m : ℕ) (rs : List ℕ) (r b : ℕ) (ls : List ℕ) → next_place p ≡ none
    → Passes (form_rows p m rs r) b ls (cond (begins_body p) (b ∷ ls) ls) (form_rows p (nth_loop ls m) rs r)
unfolding after_pass pass_rows
form_passes in_group m rs r b ls e = (refl, refl)
form_passes in_mark m rs r b ls e = (refl, refl)
form_passes when_first m rs r b ls e = none_is_not (sym e)
form_passes when_second m rs r b ls e = none_is_not (sym e)
form_passes when_third m rs r b ls e = (refl, refl)
form_passes if_guard m rs r b ls e = none_is_not (sym e)
form_passes if_then m rs r b ls e = none_is_not (sym e)
form_passes if_else m rs r b ls e = (refl, refl)
form_passes while_guard m rs r b ls e = none_is_not (sym e)
form_passes while_keep m rs r b ls e = none_is_not (sym e)
form_passes while_fall m rs r b ls e = none_is_not (sym e)
form_passes while_body m rs r b ls e = (refl, refl)
form_passes script_pre m rs r b ls e = none_is_not (sym e)
form_passes script_body m rs r b ls e = none_is_not (sym e)
form_passes script_post m rs r b ls e = (refl, refl)

-- ---- parts of the rows

pub after_append : (ps qs : List Quad) (b : ℕ) (ls : List ℕ) → after_pass (ps ++ qs) b ls ≡ after_pass ps b (after_pass qs (b + length ps) ls)
unfolding after_pass
after_append [] qs b ls = ap (λ (n : ℕ). after_pass qs n ls) (omega linear)
after_append (p ∷ ps) qs b ls =
    ap (λ (ks : List ℕ). kept p.kind b ks)
    (after_append ps qs (suc b) ls ∙ ap (λ (n : ℕ). after_pass ps (suc b) (after_pass qs n ls)) (omega linear))

pub pass_append : (ps qs : List Quad) (b : ℕ) (ls : List ℕ)
    → pass_rows (ps ++ qs) b ls ≡ pass_rows ps b (after_pass qs (b + length ps) ls) ++ pass_rows qs (b + length ps) ls
unfolding after_pass pass_rows
pass_append [] qs b ls = ap (λ (n : ℕ). pass_rows qs n ls) (omega linear)
pass_append (p ∷ ps) qs b ls =
    let e : suc b + length ps ≡ b + suc (length ps) = omega linear in
    rw (← e, after_append ps qs (suc b) ls, pass_append ps qs (suc b) ls)

-- two parts; the first has l rows
pub two_pass : (u v : List Quad) {u₁ v₁ : List Quad} (b l : ℕ) (ls : List ℕ) {ks is : List ℕ} → length u ≡ l
    → Passes u b ks is u₁ → Passes v (b + l) ls ks v₁ → Passes (u ++ v) b ls is (u₁ ++ v₁)
two_pass u v b l ls n p q = (
  after_append u v b ls ∙ rw (n, q.0, p.0),
  pass_append u v b ls ∙ rw (n, q.0, q.1, p.1),
)

-- three parts
pub three_pass : (u v w : List Quad) {u₁ v₁ w₁ : List Quad} (b l m : ℕ) (ls : List ℕ) {ks is hs : List ℕ} → length u ≡ l → length v ≡ m
    → Passes u b is hs u₁ → Passes v (b + l) ks is v₁ → Passes w (b + l + m) ls ks w₁
    → Passes (u ++ (v ++ w)) b ls hs (u₁ ++ (v₁ ++ w₁))
three_pass u v w b l m ls i j p q r = two_pass u (v ++ w) b l ls i p (two_pass v w (b + l) m ls j q r)
