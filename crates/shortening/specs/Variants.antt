-- The pass with what a wrong turn changes as arguments: the rules (`Rules`), whether they look at a part as it was or as it
-- became (`Seen`), the trailer (`Trailed`), the form that is written (`Formed`), and the answer (`Answering`). With the
-- right ones it is the pass defined (`right_pass`). A wrong turn is a change of one of them (`Wrong`, `WrongAnswers`), and
-- is told from the pass defined by another answer at one list and room (`all_told`). Assumes nothing.
use Rattle.std.specs.Prelude.{ℕ, ◌≡◌, ◌≢◌, Bool, true, ◌&&◌, pos, T, length}
use Rattle.std.proofs.Math.Path.{refl, sym}
use Rattle.std.proofs.Common.{ap}
use Rattle.std.proofs.Math.Option.{Option, none, some}
use mathlib.Core.List.{List, [], ◌∷◌, ◌++◌}
use Rattle.std.proofs.Math.IntN.{ℤ}
use Rattle.script.specs.declared.Operator.{Operator}
use Rattle.script.specs.declared.Connective.{Connective}
use Rattle.script.specs.Syntax.{Expr, const, var, mark, arith, neg, choose, Formula, truth, cmp, not, join}
use Rattle.script.specs.Conditions.{Condition, condition}
use Rattle.script.specs.Words.{Form, formula_words, trailer, line_words, all_lines, count_word, list_words}
use Rattle.script.specs.Listing.{◌>>=◌, form_of, read_list}
use Rattle.theorems.specs.Truths.{both}
use Rattle.theorems.specs.Differ.{other, told}
use Rattle.shortening.specs.Simplify.{Rule, pick, Change, TruthChange, shape, truth_shape, order, arith_rules, join_rules, arith_changed, join_changed, arith_node, join_node, not_node, shorten, shortenᶠ, shorten_all}
use Rattle.shortening.specs.Simplify as Simplify
use Rattle.shortening.specs.Shortened.{Written, refuse, fit, written_for, written}
use Rattle.shortening.specs.Lists.{count_same}

-- ---- what a wrong turn changes

pub record Rules : Type 0 where
  pub of_arith : Operator → List (Rule Change)
  pub of_join : Connective → List (Rule TruthChange)
  -- of a not and of a negate, from the shortened part
  pub of_not : Formula → Formula
  pub of_neg : Expr → Expr

-- what the rules look at, of a part and what it became
pub record Seen : Type 0 where
  pub expression : Expr → Expr → Expr
  pub claim : Formula → Formula → Formula

-- of the form, the old condition and the new one
abbrev pub Trailed : Type 0
Trailed = Form → Condition → Condition → List ℤ

-- the form that is written, of the one that is read
abbrev pub Formed : Type 0
Formed = Form → Form

-- of the words, the words of the new list, or none where they are no list, and the room
abbrev pub Answering : Type 0
Answering = List ℤ → Option (List ℤ) → ℕ → Written

module _ (R : Rules) (S : Seen) where
  unfoldable mutual
    pub shorten_by : Expr → Expr
    shorten_by (const z) = const z
    shorten_by (var v) = var v
    shorten_by (mark m) = mark m
    shorten_by (arith p a b) =
        arith_changed
        (pick Simplify.kept (R.of_arith p)
        (shape (S.expression a (shorten_by a))) (shape (S.expression b (shorten_by b))))
        p (shorten_by a) (shorten_by b)
    shorten_by (neg a) = R.of_neg (shorten_by a)
    shorten_by (choose f a b) = choose (shorten_byᶠ f) (shorten_by a) (shorten_by b)

    pub shorten_byᶠ : Formula → Formula
    shorten_byᶠ (truth b) = truth b
    shorten_byᶠ (cmp r a b) = cmp r (shorten_by a) (shorten_by b)
    shorten_byᶠ (not f) = R.of_not (shorten_byᶠ f)
    shorten_byᶠ (join c f g) =
        join_changed
        (pick Simplify.kept (R.of_join c)
        (truth_shape (S.claim f (shorten_byᶠ f))) (truth_shape (S.claim g (shorten_byᶠ g))))
        c (shorten_byᶠ f) (shorten_byᶠ g)

  abbrev pub condition_by : Condition → Condition
  condition_by c = condition c.rule c.row c.depth (shorten_byᶠ c.claim)

  module _ (trailed : Trailed) where
    unfoldable pub lines_by : Form → List Condition → List ℤ
    lines_by form [] = []
    lines_by form (c ∷ cs) = (formula_words (shorten_byᶠ c.claim) ++ trailed form c (condition_by c)) ++ lines_by form cs

    abbrev pub list_by : Form → List Condition → List ℤ
    list_by form cs = lines_by form cs ++ (count_word form (length cs) ∷ [])

    unfoldable pub pass_by : Formed → Answering → List ℤ → ℕ → Written
    pass_by formed answering ws room = answering ws (read_list ws >>= λ cs. some (list_by (formed (form_of ws)) cs)) room

-- ---- the right ones

abbrev pub right_rules : Rules
right_rules = record { of_arith = arith_rules order; of_join = join_rules; of_not = not_node; of_neg = neg }

abbrev pub right_seen : Seen
right_seen = record { expression = λ a x. x; claim = λ f x. x }

abbrev pub right_trailed : Trailed
right_trailed form c d = trailer form d

abbrev pub right_formed : Formed
right_formed form = form

abbrev pub right_answer : Answering
right_answer ws none room = refuse 20 room
right_answer ws (some us) room = fit us room

mutual
  unfolding shorten_by shorten arith_node join_node

  right_shorten : (e : Expr) → shorten_by right_rules right_seen e ≡ shorten order e
  right_shorten (const z) = refl
  right_shorten (var v) = refl
  right_shorten (mark m) = refl
  right_shorten (arith p a b) = λ i. arith_node order p (right_shorten a i) (right_shorten b i)
  right_shorten (neg a) = λ i. neg (right_shorten a i)
  right_shorten (choose f a b) = λ i. choose (right_shortenᶠ f i) (right_shorten a i) (right_shorten b i)

  right_shortenᶠ : (f : Formula) → shorten_byᶠ right_rules right_seen f ≡ shortenᶠ order f
  right_shortenᶠ (truth b) = refl
  right_shortenᶠ (cmp r a b) = λ i. cmp r (right_shorten a i) (right_shorten b i)
  right_shortenᶠ (not f) = λ i. not_node (right_shortenᶠ f i)
  right_shortenᶠ (join c f g) = λ i. join_node c (right_shortenᶠ f i) (right_shortenᶠ g i)

module _ (form : Form) where
  right_lines : (cs : List Condition)
      → lines_by right_rules right_seen right_trailed form cs ≡ all_lines form (shorten_all order cs)
  unfolding lines_by all_lines line_words
  right_lines [] = refl
  right_lines (c ∷ cs) =
      let line : Formula → List ℤ = λ f. formula_words f ++ trailer form (condition c.rule c.row c.depth f) in
      λ i. line (right_shortenᶠ c.claim i) ++ right_lines cs i

  right_list : (cs : List Condition)
      → list_by right_rules right_seen right_trailed form cs ≡ list_words form (shorten_all order cs)
  unfolding list_words
  right_list cs = let count = sym (count_same order cs) in λ i. right_lines cs i ++ (count_word form (count i) ∷ [])

pub right_pass : (ws : List ℤ) (room : ℕ)
    → pass_by right_rules right_seen right_trailed right_formed right_answer ws room ≡ written order ws room
unfolding pass_by written
right_pass ws room = of_list (read_list ws)
  where
    of_list : (l : Option (List Condition))
        → right_answer ws (l >>= λ cs. some (list_by right_rules right_seen right_trailed (form_of ws) cs)) room
        ≡ written_for order (form_of ws) l room
    of_list none = refl
    of_list (some cs) = ap (λ us. fit us room) (right_list (form_of ws) cs)

-- ---- a wrong turn, with a list and a room

abbrev pub Pass : Type 0
Pass = List ℤ → ℕ → Written

pub record Wrong : Type 0 where
  pub pass : Pass
  pub words : List ℤ
  pub room : ℕ

-- what it answers, and what is to be answered
abbrev given : Wrong → Written
given w = w.pass w.words w.room

abbrev due : Wrong → Written
due w = written order w.words w.room

-- each answers otherwise than the pass defined
abbrev pub OtherAnswers : List Wrong → Type 0
OtherAnswers [] = Unit {0}
OtherAnswers (w ∷ ws) = (given w ≢ due w) × OtherAnswers ws

abbrev answer_words : Written → List ℤ
answer_words r = pos r.number ∷ pos r.used ∷ r.list

-- tested, for all of them
abbrev pub differ : List Wrong → Bool
differ [] = true
differ (w ∷ ws) = other answer_words (given w) (due w) && differ ws

pub all_told : (ws : List Wrong) → T (differ ws) → OtherAnswers ws
all_told [] h = tt
all_told (w ∷ ws) h =
    let k = both (other answer_words (given w) (due w)) (differ ws) h in
    (told answer_words _ _ k.0, all_told ws k.1)
