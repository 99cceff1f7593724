-- What the writer meets at a node, by the number of what becomes of it (`head`): the words of the node and of what it is shortened to,
-- from those of its parts. Assumes nothing.
use Rattle.std.specs.Prelude.{ℕ, zero, suc, ◌≡◌, refl, true, false, cond, List, [], ◌∷◌, ◌++◌, ℤ, pos}
use Rattle.std.proofs.Common.{sym, ap, ◌∙◌, append-nil}
use Rattle.script.specs.declared.Operator.{Operator}
use Rattle.script.specs.declared.Connective.{Connective}
use Rattle.script.specs.Syntax.{Expr, const, var, mark, arith, neg, choose, Formula, truth, cmp, not, join}
use Rattle.script.specs.Words.{expr_words, formula_words, op_word, rel_word, conn_word}
use Rattle.theorems.specs.WordsAt.{Node, expression, formula, words_of}
use Rattle.shortening.specs.Simplify.{truth_shape, Change, TruthChange, order, arith_changed, join_changed, arith_node, join_node, not_node, shorten, shortenᶠ}
use Rattle.shortening.specs.Simplify as Simplify
use Rattle.shortening.specs.Shapes.{not_change}
use Rattle.shortener.specs.Codes.{change_code, truth_change_code}
use Rattle.shortener.specs.NodeEntries.{arith_step, join_step, node_change}

-- the words of a node when it is shortened
abbrev pub short_words : Node → List ℤ
short_words (expression e) = expr_words (shorten order e)
short_words (formula f) = formula_words (shortenᶠ order f)

abbrev pub all_words : List Node → List ℤ
all_words [] = []
all_words (x ∷ xs) = words_of x ++ all_words xs

abbrev pub all_short : List Node → List ℤ
all_short [] = []
all_short (x ∷ xs) = short_words x ++ all_short xs

-- ---- by what becomes of it

-- its kind is written, then its parts
pub record Keeps (x : Node) : Type 0 where
  pub kind : ℤ
  pub parts : List Node
  pub words : words_of x ≡ kind ∷ all_words parts
  pub short : short_words x ≡ kind ∷ all_short parts

-- its kind and its number are written
pub record Numbered (x : Node) : Type 0 where
  pub kind : ℤ
  pub number : ℤ
  pub words : words_of x ≡ kind ∷ number ∷ []
  pub short : short_words x ≡ kind ∷ number ∷ []

-- of its two parts the first is written
pub record First (x : Node) : Type 0 where
  pub kind : ℤ
  pub first : Node
  pub second : Node
  pub words : words_of x ≡ kind ∷ (words_of first ++ words_of second)
  pub short : short_words x ≡ short_words first

-- of its two parts the second is written, after some words
pub record Second (before : List ℤ) (x : Node) : Type 0 where
  pub kind : ℤ
  pub first : Node
  pub second : Node
  pub words : words_of x ≡ kind ∷ (words_of first ++ words_of second)
  pub short : short_words x ≡ before ++ short_words second

-- one word is written
pub record Value (word : ℤ) (x : Node) : Type 0 where
  pub short : short_words x ≡ word ∷ []

abbrev pub Head : ℕ → Node → Type 0
Head zero x = Keeps x
Head (suc zero) x = Numbered x
Head (suc (suc zero)) x = First x
Head (suc (suc (suc zero))) x = Second [] x
Head (suc (suc (suc (suc zero)))) x = Second (pos 8 ∷ []) x
Head (suc (suc (suc (suc (suc zero))))) x = Value (pos 16) x
Head (suc (suc (suc (suc (suc (suc zero)))))) x = Value (pos 17) x
Head (suc (suc (suc (suc (suc (suc (suc n))))))) x = ⊥

-- ---- the nodes

-- two parts, and no others
two : (a b : Node) → words_of a ++ words_of b ≡ all_words (a ∷ b ∷ [])
two a b = ap (λ (l : List ℤ). words_of a ++ l) (sym (append-nil (words_of b)))

two_short : (a b : Node) → short_words a ++ short_words b ≡ all_short (a ∷ b ∷ [])
two_short a b = ap (λ (l : List ℤ). short_words a ++ l) (sym (append-nil (short_words b)))

arith_head : (p : Operator) (a b : Expr) (t : Change) → arith_step p a b ≡ t → Head (change_code t) (expression (arith p a b))
unfolding expr_words shorten arith_node
arith_head p a b Simplify.kept e = record {
  kind = op_word p;
  parts = expression a ∷ expression b ∷ [];
  words = ap (λ (l : List ℤ). op_word p ∷ l) (two (expression a) (expression b));
  short =
      ap (λ (t : Change). expr_words (arith_changed t p (shorten order a) (shorten order b))) e
      ∙ ap (λ (l : List ℤ). op_word p ∷ l) (two_short (expression a) (expression b));
}
arith_head p a b Simplify.first e = record {
  kind = op_word p;
  first = expression a;
  second = expression b;
  words = refl;
  short = ap (λ (t : Change). expr_words (arith_changed t p (shorten order a) (shorten order b))) e;
}
arith_head p a b Simplify.second e = record {
  kind = op_word p;
  first = expression a;
  second = expression b;
  words = refl;
  short = ap (λ (t : Change). expr_words (arith_changed t p (shorten order a) (shorten order b))) e;
}
arith_head p a b Simplify.negated_second e = record {
  kind = op_word p;
  first = expression a;
  second = expression b;
  words = refl;
  short = ap (λ (t : Change). expr_words (arith_changed t p (shorten order a) (shorten order b))) e;
}

join_head : (c : Connective) (f g : Formula) (t : TruthChange) → join_step c f g ≡ t → Head (truth_change_code t) (formula (join c f g))
unfolding formula_words shorten join_node
join_head c f g Simplify.kept e = record {
  kind = conn_word c;
  parts = formula f ∷ formula g ∷ [];
  words = ap (λ (l : List ℤ). conn_word c ∷ l) (two (formula f) (formula g));
  short =
      ap (λ (t : TruthChange). formula_words (join_changed t c (shortenᶠ order f) (shortenᶠ order g))) e
      ∙ ap (λ (l : List ℤ). conn_word c ∷ l) (two_short (formula f) (formula g));
}
join_head c f g Simplify.first e = record {
  kind = conn_word c;
  first = formula f;
  second = formula g;
  words = refl;
  short = ap (λ (t : TruthChange). formula_words (join_changed t c (shortenᶠ order f) (shortenᶠ order g))) e;
}
join_head c f g Simplify.second e = record {
  kind = conn_word c;
  first = formula f;
  second = formula g;
  words = refl;
  short = ap (λ (t : TruthChange). formula_words (join_changed t c (shortenᶠ order f) (shortenᶠ order g))) e;
}
join_head c f g (Simplify.value true) e =
    record { short = ap (λ (t : TruthChange). formula_words (join_changed t c (shortenᶠ order f) (shortenᶠ order g))) e }
join_head c f g (Simplify.value false) e =
    record { short = ap (λ (t : TruthChange). formula_words (join_changed t c (shortenᶠ order f) (shortenᶠ order g))) e }

not_keeps : (f : Formula) → not_node (shortenᶠ order f) ≡ not (shortenᶠ order f) → Keeps (formula (not f))
unfolding formula_words shorten
not_keeps f e = record {
  kind = pos 22;
  parts = formula f ∷ [];
  words = ap (λ (l : List ℤ). pos 22 ∷ l) (sym (append-nil (formula_words f)));
  short = ap formula_words e ∙ ap (λ (l : List ℤ). pos 22 ∷ l) (sym (append-nil (formula_words (shortenᶠ order f))));
}

-- by what the part of a not is shortened to
not_head : (f g : Formula) → shortenᶠ order f ≡ g → Head (truth_change_code (not_change (truth_shape g))) (formula (not f))
unfolding formula_words shorten not_node
not_head f (truth true) e = record { short = ap (λ (g : Formula). formula_words (not_node g)) e }
not_head f (truth false) e = record { short = ap (λ (g : Formula). formula_words (not_node g)) e }
not_head f (cmp r a b) e = not_keeps f (ap not_node e ∙ sym (ap not e))
not_head f (not g) e = not_keeps f (ap not_node e ∙ sym (ap not e))
not_head f (join c g h) e = not_keeps f (ap not_node e ∙ sym (ap not e))

pub head : (x : Node) → Head (node_change x) x
unfolding expr_words shorten
head (expression (const z)) = record { kind = pos 1; number = z; words = refl; short = refl }
head (expression (var v)) = record { kind = pos 2; number = pos v; words = refl; short = refl }
head (expression (mark m)) = record { kind = pos 9; number = pos m; words = refl; short = refl }
head (expression (arith p a b)) = arith_head p a b (arith_step p a b) refl
head (expression (neg a)) = record {
  kind = pos 8;
  parts = expression a ∷ [];
  words = ap (λ (l : List ℤ). pos 8 ∷ l) (sym (append-nil (expr_words a)));
  short = ap (λ (l : List ℤ). pos 8 ∷ l) (sym (append-nil (expr_words (shorten order a))));
}
head (expression (choose f a b)) = record {
  kind = pos 10;
  parts = formula f ∷ expression a ∷ expression b ∷ [];
  words = ap (λ (l : List ℤ). pos 10 ∷ (formula_words f ++ l)) (two (expression a) (expression b));
  short = ap (λ (l : List ℤ). pos 10 ∷ (formula_words (shortenᶠ order f) ++ l)) (two_short (expression a) (expression b));
}
head (formula (truth b)) = record { kind = cond b (pos 16) (pos 17); parts = []; words = refl; short = refl }
head (formula (cmp r a b)) = record {
  kind = rel_word r;
  parts = expression a ∷ expression b ∷ [];
  words = ap (λ (l : List ℤ). rel_word r ∷ l) (two (expression a) (expression b));
  short = ap (λ (l : List ℤ). rel_word r ∷ l) (two_short (expression a) (expression b));
}
head (formula (not f)) = not_head f (shortenᶠ order f) refl
head (formula (join c f g)) = join_head c f g (join_step c f g) refl
