-- The names in the words of a formula, found in one pass (`spelled_scans`): a constant, a variable and a mark have a number
-- after their kind word, and no other kind has. Then what a turn of the pass meets (`next`), and what is noted after it.
-- Assumes nothing.
use Rattle.std.specs.Prelude.{ℕ, ◌+◌, ◌≤◌, ◌<◌, ◌≡◌, refl, true, false, ℤ, pos, length, get_or, set, drop}
use Rattle.std.proofs.Common.{sym, ap, ◌∙◌, arith as linear, drop_of_length-le, drop-cons}
use mathlib.Core.List.{List, [], ◌∷◌, ◌++◌, append_assoc, append-nil}
use Rattle.script.specs.declared.Operator.{Operator}
use Rattle.script.specs.declared.Operator.TheVariants.{Plus, Minus, Times, Div, Mod}
use Rattle.script.specs.declared.Relation.{Relation}
use Rattle.script.specs.declared.Relation.TheVariants.{Less, AtMost, Equal, Unequal}
use Rattle.script.specs.declared.Connective.{Connective}
use Rattle.script.specs.declared.Connective.TheVariants.{And, Or, Implies}
use Rattle.script.specs.Syntax.{Expr, const, var, arith, neg, choose, Formula, truth, cmp, join}
use Rattle.script.specs.Syntax as Syntax
use Rattle.script.specs.Rows.{field_number, variables}
use Rattle.script.specs.Listing.{row_limit}
use Rattle.script.specs.Words.{op_word, rel_word, conn_word, expr_words, formula_words}
use Rattle.script.specs.WellFormed.{InRange, InRangeᶠ}
use Rattle.smt.specs.Translate.{Reference, variable, mark, expr_references, references}
use Rattle.theorems.specs.WordsAt.{first_inside, first_word, after_first}
use Rattle.smt_writer.specs.Nodes.{Spells}
use Rattle.smt_writer.specs.Noted.{place_of, variable_place, mark_place, noted, past_place, top_of}

-- no number stands after this kind word
pub record Numberless (k : ℕ) : Type 0 where
  pub constant : ¬ (k ≡ 1)
  pub variable : ¬ (k ≡ 2)
  pub mark : ¬ (k ≡ 9)

-- from these words on, these names are met
pub data Scans : List ℤ → List Reference → Type 0 where
  done : Scans [] []
  a_constant : (z : ℤ) {ws : List ℤ} {rs : List Reference} → Scans ws rs → Scans (pos 1 ∷ z ∷ ws) rs
  a_variable : (v : ℕ) {ws : List ℤ} {rs : List Reference} → v < variables → Scans ws rs → Scans (pos 2 ∷ pos v ∷ ws) (variable v ∷ rs)
  a_mark : (m : ℕ) {ws : List ℤ} {rs : List Reference} → m < row_limit → Scans ws rs → Scans (pos 9 ∷ pos m ∷ ws) (mark m ∷ rs)
  a_kind : (w : ℤ) {ws : List ℤ} {rs : List Reference} → Numberless (field_number w) → Scans ws rs → Scans (w ∷ ws) rs

-- ---- the words of a formula

past_nine : (k : ℕ) → 9 < k → Numberless k
past_nine k h = record { constant = λ e. omega linear; variable = λ e. omega linear; mark = λ e. omega linear }

low_kind : (k : ℕ) → 2 < k → k < 9 → Numberless k
low_kind k h g = record { constant = λ e. omega linear; variable = λ e. omega linear; mark = λ e. omega linear }

op_numberless : (o : Operator) → Numberless (field_number (op_word o))
op_numberless Plus = low_kind 3 (omega linear) (omega linear)
op_numberless Minus = low_kind 4 (omega linear) (omega linear)
op_numberless Times = low_kind 5 (omega linear) (omega linear)
op_numberless Div = low_kind 6 (omega linear) (omega linear)
op_numberless Mod = low_kind 7 (omega linear) (omega linear)

rel_numberless : (r : Relation) → Numberless (field_number (rel_word r))
rel_numberless Less = past_nine 18 (omega linear)
rel_numberless AtMost = past_nine 19 (omega linear)
rel_numberless Equal = past_nine 20 (omega linear)
rel_numberless Unequal = past_nine 21 (omega linear)

conn_numberless : (c : Connective) → Numberless (field_number (conn_word c))
conn_numberless And = past_nine 23 (omega linear)
conn_numberless Or = past_nine 24 (omega linear)
conn_numberless Implies = past_nine 25 (omega linear)

-- two parts, one after the other
both : (us vs ws : List ℤ) (qs ps rs : List Reference) → Scans (us ++ (vs ++ ws)) (qs ++ (ps ++ rs)) → Scans ((us ++ vs) ++ ws) ((qs ++ ps) ++ rs)
both us vs ws qs ps rs s = rw (append_assoc us vs ws, append_assoc qs ps rs) s

mutual
  unfolding expr_words references

  expr_scans : (e : Expr) → InRange e → {ws : List ℤ} {rs : List Reference} → Scans ws rs → Scans (expr_words e ++ ws) (expr_references e ++ rs)
  expr_scans (const z) h s = a_constant z s
  expr_scans (var v) h s = a_variable v h s
  expr_scans (Syntax.mark m) h s = a_mark m h s
  expr_scans (arith o a b) h {ws} {rs} s =
      a_kind (op_word o) (op_numberless o)
      (both (expr_words a) (expr_words b) ws (expr_references a) (expr_references b) rs (expr_scans a h.0 (expr_scans b h.1 s)))
  expr_scans (neg a) h s = a_kind (pos 8) (low_kind 8 (omega linear) (omega linear)) (expr_scans a h s)
  expr_scans (choose f a b) h {ws} {rs} s =
      a_kind (pos 10) (past_nine 10 (omega linear))
      (both (formula_words f) (expr_words a ++ expr_words b) ws (references f) (expr_references a ++ expr_references b) rs
      (scans f h.0
      (both (expr_words a) (expr_words b) ws (expr_references a) (expr_references b) rs (expr_scans a h.1 (expr_scans b h.2 s)))))

  scans : (f : Formula) → InRangeᶠ f → {ws : List ℤ} {rs : List Reference} → Scans ws rs → Scans (formula_words f ++ ws) (references f ++ rs)
  scans (truth true) h s = a_kind (pos 16) (past_nine 16 (omega linear)) s
  scans (truth false) h s = a_kind (pos 17) (past_nine 17 (omega linear)) s
  scans (cmp r a b) h {ws} {rs} s =
      a_kind (rel_word r) (rel_numberless r)
      (both (expr_words a) (expr_words b) ws (expr_references a) (expr_references b) rs (expr_scans a h.0 (expr_scans b h.1 s)))
  scans (Syntax.not f) h s = a_kind (pos 22) (past_nine 22 (omega linear)) (scans f h s)
  scans (join c f g) h {ws} {rs} s =
      a_kind (conn_word c) (conn_numberless c)
      (both (formula_words f) (formula_words g) ws (references f) (references g) rs (scans f h.0 (scans g h.1 s)))

pub spelled_scans : {ws : List ℤ} {f : Formula} → Spells ws f → Scans ws (references f)
spelled_scans {ws} {f} s = rw (← s.words) (rw (append-nil, append-nil) at (scans f s.range done))

-- ---- a turn of the pass

-- a name: its number stands after the kind word
pub record Named (kind : ℕ → Reference) (limit : ℕ) (ws : List ℤ) (i : ℕ) (rs : List Reference) : Type 0 where
  pub number : ℕ
  pub others : List Reference
  pub is : rs ≡ kind number ∷ others
  pub within : i + 1 < length ws
  pub spelled : get_or ws (i + 1) (pos 0) ≡ pos number
  pub low : number < limit
  pub after : Scans (drop (i + 2) ws) others

pub data Next (ws : List ℤ) (i : ℕ) (rs : List Reference) : ℕ → Type 0 where
  past_constant : i + 1 < length ws → Scans (drop (i + 2) ws) rs → Next ws i rs 1
  past_variable : Named variable variables ws i rs → Next ws i rs 2
  past_mark : Named mark row_limit ws i rs → Next ws i rs 9
  past_kind : (k : ℕ) → Numberless k → Scans (drop (i + 1) ws) rs → Next ws i rs k

module _ (ws : List ℤ) (i : ℕ) where
  after_second : {v w : ℤ} {us : List ℤ} → drop i ws ≡ v ∷ w ∷ us → drop (i + 2) ws ≡ us
  after_second d = ap (λ k. drop k ws) two ∙ after_first ws (i + 1) (after_first ws i d)
    where
      two : i + 2 ≡ i + 1 + 1
      two = omega linear

  named : (kind : ℕ → Reference) (limit n : ℕ) {w : ℤ} {us : List ℤ} {rs : List Reference} → drop i ws ≡ w ∷ pos n ∷ us → n < limit
      → Scans us rs → Named kind limit ws i (kind n ∷ rs)
  named kind limit n {rs = rs} d h t = record {
    number = n;
    others = rs;
    is = refl;
    within = first_inside ws (i + 1) (after_first ws i d);
    spelled = first_word ws (i + 1) (after_first ws i d);
    low = h;
    after = rw (after_second d) t;
  }

  met : {l : List ℤ} {rs : List Reference} → drop i ws ≡ l → Scans l rs → i < length ws → Next ws i rs (field_number (get_or ws i (pos 0)))
  met d done h = let z = sym d ∙ drop-cons ws i (pos 0) h in let o : ◌≡◌ {A = ℕ} 0 1 = cc in absurd (omega linear)
  met d (a_constant z t) h =
      rw (first_word ws i d) (past_constant (first_inside ws (i + 1) (after_first ws i d)) (rw (after_second d) t))
  met d (a_variable v l t) h = rw (first_word ws i d) (past_variable (named variable variables v d l t))
  met d (a_mark m l t) h = rw (first_word ws i d) (past_mark (named mark row_limit m d l t))
  met d (a_kind w n t) h = rw (first_word ws i d) (past_kind (field_number w) n (rw (after_first ws i d) t))

module _ {ws : List ℤ} {i : ℕ} {rs : List Reference} where
  at_constant : Next ws i rs 1 → (i + 1 < length ws) × Scans (drop (i + 2) ws) rs
  at_constant (past_constant h t) = (h, t)
  at_constant (past_kind _ n t) = absurd (n.constant refl)

  at_variable : Next ws i rs 2 → Named variable variables ws i rs
  at_variable (past_variable v) = v
  at_variable (past_kind _ n t) = absurd (n.variable refl)

  at_mark : Next ws i rs 9 → Named mark row_limit ws i rs
  at_mark (past_mark v) = v
  at_mark (past_kind _ n t) = absurd (n.mark refl)

at_other : {ws : List ℤ} {i k : ℕ} {rs : List Reference} → Numberless k → Next ws i rs k → Scans (drop (i + 1) ws) rs
at_other n (past_constant h t) = absurd (n.constant refl)
at_other n (past_variable v) = absurd (n.variable refl)
at_other n (past_mark v) = absurd (n.mark refl)
at_other n (past_kind _ m t) = t

-- ---- what is noted

-- the names from the place i on are left to be noted; the last variable noted stands before the place `variables`, the last mark
-- before the place `marks`
pub record Left (ws : List ℤ) (rs : List Reference) (flags₀ flags : List ℕ) (i variables marks : ℕ) : Type 0 where
  pub left : List Reference
  pub scans : Scans (drop i ws) left
  pub flagged : noted left flags ≡ noted rs flags₀
  pub variables_topped : top_of variable_place left variables ≡ top_of variable_place rs 0
  pub marks_topped : top_of mark_place left marks ≡ top_of mark_place rs 0

pub all_left : {ws : List ℤ} {f : Formula} {flags : List ℕ} → Spells ws f → Left ws (references f) flags flags 0 0 0
all_left {f = f} s = record { left = references f; scans = spelled_scans s; flagged = refl; variables_topped = refl; marks_topped = refl }

module _ {ws : List ℤ} {rs : List Reference} {flags₀ flags : List ℕ} {i v m : ℕ} (g : Left ws rs flags₀ flags i v m) where
  pub none_left : length ws ≤ i → (flags ≡ noted rs flags₀) × (v ≡ top_of variable_place rs 0) × (m ≡ top_of mark_place rs 0)
  unfolding noted top_of
  none_left h = at_end g.left (rw (drop_of_length-le ws h) at g.scans) g.flagged g.variables_topped g.marks_topped
    where
      at_end : (l : List Reference) → Scans [] l → noted l flags ≡ noted rs flags₀ → top_of variable_place l v ≡ top_of variable_place rs 0
          → top_of mark_place l m ≡ top_of mark_place rs 0
          → (flags ≡ noted rs flags₀) × (v ≡ top_of variable_place rs 0) × (m ≡ top_of mark_place rs 0)
      at_end [] done e n o = (e, n, o)
      at_end (r ∷ l) s e n o = elim s [ ]

  module _ (inside : i < length ws) {k : ℕ} (read : k ≡ field_number (get_or ws i (pos 0))) where
    here : Next ws i g.left k
    here = rw read (met ws i refl g.scans inside)

    -- no name is noted
    passed : (n : ℕ) → Scans (drop (i + n) ws) g.left → Left ws rs flags₀ flags (i + n) v m
    passed n s = record {
      left = g.left;
      scans = s;
      flagged = g.flagged;
      variables_topped = g.variables_topped;
      marks_topped = g.marks_topped;
    }

    pub constant_inside : k ≡ 1 → i + 1 < length ws
    constant_inside e = (at_constant (rw e at here)).0

    pub constant_left : k ≡ 1 → Left ws rs flags₀ flags (i + 2) v m
    constant_left e = passed 2 (at_constant (rw e at here)).1

    pub other_left : Numberless k → Left ws rs flags₀ flags (i + 1) v m
    other_left n = passed 1 (at_other n here)

    pub variable_here : k ≡ 2 → Named variable variables ws i g.left
    variable_here e = at_variable (rw e at here)

    pub mark_here : k ≡ 9 → Named mark row_limit ws i g.left
    mark_here e = at_mark (rw e at here)

  -- a name is noted at its place
  pub name_left : (kind : ℕ → Reference) {limit : ℕ} (w : Named kind limit ws i g.left) {k v' m' : ℕ} {flags' : List ℕ}
      → k ≡ place_of (kind w.number) → flags' ≡ set flags k 1
      → v' ≡ past_place (variable_place (kind w.number)) v → m' ≡ past_place (mark_place (kind w.number)) m
      → Left ws rs flags₀ flags' (i + 2) v' m'
  unfolding noted top_of
  name_left kind w e d t u = record {
    left = w.others;
    scans = w.after;
    flagged = rw (d, e) (ap (λ (l : List Reference). noted l flags) (sym w.is) ∙ g.flagged);
    variables_topped = rw t (ap (λ (l : List Reference). top_of variable_place l v) (sym w.is) ∙ g.variables_topped);
    marks_topped = rw u (ap (λ (l : List Reference). top_of mark_place l m) (sym w.is) ∙ g.marks_topped);
  }

pub number_told : {kind : ℕ → Reference} {limit i n : ℕ} {ws : List ℤ} {rs : List Reference} (v : Named kind limit ws i rs)
    → n ≡ field_number (get_or ws (i + 1) (pos 0)) → n ≡ v.number
number_told v e = e ∙ ap field_number v.spelled
