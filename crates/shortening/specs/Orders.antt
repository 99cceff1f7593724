-- 02, P10: "The results that change are exactly those that kept a subtraction whose two sides had both become constant 0"
-- (`changed_iff`); all others are equal (`else_same`), and each of those becomes shorter (`changed_shorter`). Argument: by
-- induction. Where nothing is kept, both orders give the same tree. Where something is kept, P6's result is neither 0 nor
-- 1, and P10's is shorter (`MovedNode`). Truths do not move: no rule makes a truth of a comparison. Assumes nothing.
use Rattle.std.specs.Prelude.{◌+◌, ◌<◌, ◌≡◌, refl, ◌↔◌, ◌≢◌, Bool, true, false, ◌||◌}
use Rattle.std.proofs.Common.{ap, arith as linear}
use Rattle.script.specs.declared.Connective.{Connective}
use Rattle.script.specs.Syntax.{Expr, const, var, mark, arith, neg, choose, Formula, truth, cmp, not, join}
use Rattle.script.specs.Words.{expr_words, formula_words}
use Rattle.shortening.specs.Simplify.{other, truth_shape, TruthChange, join_change, join_changed, join_node, not_node, shorten}
use Rattle.shortening.specs.Simplify as Simplify
use Rattle.shortening.specs.Never.{size, sizeᶠ, join_size, cmp_size, choose_size, some_wordsᶠ}
use Rattle.shortening.specs.Kept.{old, oldᶠ, new, newᶠ, in_partsᶠ, node_keepsᶠ, keeps, keepsᶠ}
use Rattle.shortening.specs.Moved.{Moved, same, less, no, kept_less, two_moved}
use Rattle.shortening.specs.Moved as Moved
use Rattle.shortening.specs.MovedNode.{Status, Statusᶠ, stays, arith_status}

-- ---- a node of two formulas

module _ (k l : Bool) (c : Connective) (f g x y : Formula) (m : Statusᶠ k f x) (n : Statusᶠ l g y) where
  changed_status : (t : TruthChange) → Statusᶠ (in_partsᶠ t k l) (join_changed t c f g) (join_changed t c x y)
  changed_status Simplify.kept = record {
    moved = two_moved sizeᶠ sizeᶠ sizeᶠ 1 (λ a b. join c a b) (λ a b. omega (linear, join_size c a b))
        m.moved n.moved;
    shaped = refl;
  }
  changed_status Simplify.first = m
  changed_status Simplify.second = n
  changed_status (Simplify.value b) = record { moved = same refl refl; shaped = refl }

  join_status : Statusᶠ (node_keepsᶠ c (truth_shape f) (truth_shape g) k l) (join_node c f g) (join_node c x y)
  unfolding join_node
  join_status = rw (m.shaped, n.shaped) (changed_status (join_change c (truth_shape f) (truth_shape g)))

-- ---- the other nodes

neg_moved : {k : Bool} {x y : Expr} → Moved size k x y → Moved size k (neg x) (neg y)
unfolding expr_words
neg_moved (same d e) = same d (ap neg e)
neg_moved (less d h) = less d (omega linear)

choose_moved : {j k l : Bool} {f g : Formula} {a b c d : Expr} → Moved sizeᶠ j f g → Moved size k a c → Moved size l b d
    → Moved size (j || (k || l)) (choose f a b) (choose g c d)
choose_moved m n r =
    two_moved sizeᶠ (λ (q : Expr × Expr). size q.0 + size q.1) size 1 (λ f q. choose f q.0 q.1)
    (λ f q. omega (linear, choose_size f q.0 q.1)) m
    (two_moved size size (λ (q : Expr × Expr). size q.0 + size q.1) 0 (λ a b. (a, b)) (λ a b. omega linear) n r)

not_kept : (f : Formula) → truth_shape f ≡ other → not_node f ≡ not f
unfolding not_node
not_kept (truth true) e = cc
not_kept (truth false) e = cc
not_kept (cmp r a b) e = refl
not_kept (not f) e = refl
not_kept (join c f g) e = refl

-- a truth is as short as can be: it does not move
not_moved : (k : Bool) (f x : Formula) → truth_shape x ≡ truth_shape f → Moved sizeᶠ k f x
    → Statusᶠ k (not_node f) (not_node x)
unfolding not_node formula_words
not_moved k f x e (same d h) = rw h (record { moved = same d refl; shaped = refl })
not_moved k (truth b) x e (less d h) = absurd (omega (linear, some_wordsᶠ x))
not_moved k (cmp r a b) x e (less d h) = rw (not_kept x e) (record { moved = less d (omega linear); shaped = refl })
not_moved k (not f) x e (less d h) = rw (not_kept x e) (record { moved = less d (omega linear); shaped = refl })
not_moved k (join c f g) x e (less d h) = rw (not_kept x e) (record { moved = less d (omega linear); shaped = refl })

not_status : (k : Bool) (f x : Formula) → Statusᶠ k f x → Statusᶠ k (not_node f) (not_node x)
not_status k f x m = not_moved k f x m.shaped m.moved

mutual
  unfolding shorten keeps

  pub status : (e : Expr) → Status (keeps e) (old e) (new e)
  status (const z) = stays refl
  status (var v) = stays refl
  status (mark m) = stays refl
  status (arith p a b) =
      arith_status (keeps a) (keeps b) (old a) (old b) (new a) (new b) p (status a) (status b)
  status (neg a) = record { moved = neg_moved (status a).moved; shaped = λ e. refl }
  status (choose f a b) = record {
    moved = choose_moved (statusᶠ f).moved (status a).moved (status b).moved;
    shaped = λ e. refl;
  }

  pub statusᶠ : (f : Formula) → Statusᶠ (keepsᶠ f) (oldᶠ f) (newᶠ f)
  statusᶠ (truth b) = record { moved = same refl refl; shaped = refl }
  statusᶠ (cmp r a b) = record {
    moved = two_moved size size sizeᶠ 1 (λ a b. cmp r a b) (λ a b. omega (linear, cmp_size r a b))
        (status a).moved (status b).moved;
    shaped = refl;
  }
  statusᶠ (not f) = not_status (keepsᶠ f) (oldᶠ f) (newᶠ f) (statusᶠ f)
  statusᶠ (join c f g) =
      join_status (keepsᶠ f) (keepsᶠ g) c (oldᶠ f) (oldᶠ g) (newᶠ f) (newᶠ g) (statusᶠ f) (statusᶠ g)

-- ---- 02's sentence

pub changed_iff : (f : Formula) → (keepsᶠ f ≡ true) ↔ (newᶠ f ≢ oldᶠ f)
changed_iff f = of_moved (statusᶠ f).moved
  where
    of_moved : {k : Bool} {x y : Formula} → Moved sizeᶠ k x y → (k ≡ true) ↔ (y ≢ x)
    of_moved (same d e) = (λ t. no t d, λ n. absurd (n e))
    of_moved (less d h) = (λ t e. absurd (omega (linear, ap sizeᶠ e)), λ n. d)

pub else_same : (f : Formula) → keepsᶠ f ≡ false → newᶠ f ≡ oldᶠ f
else_same f = Moved.else_same (statusᶠ f).moved

pub changed_shorter : (f : Formula) → keepsᶠ f ≡ true → sizeᶠ (newᶠ f) < sizeᶠ (oldᶠ f)
changed_shorter f = kept_less (statusᶠ f).moved
