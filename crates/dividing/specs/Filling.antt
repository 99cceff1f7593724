-- Filling in the entries of nodes from the first row up: a store at a node changes nothing that is said of statements; and what
-- holds at each turn (`Filled`). Assumes nothing.
use Rattle.std.specs.Prelude.{ℕ, ◌+◌, ◌≤◌, ◌<◌, ◌≡◌, refl, List, T, ℤ, pos, length, set}
use Rattle.std.proofs.Common.{sym, ◌∙◌, ⊎_elim, arith as linear, length-set, get_or-set_same, SFits}
use Rattle.std.specs.Int.{w32}
use Rattle.script.specs.declared.StatementRow.TheVariants.{Skip, Assign, Sequence, If, While, Assert}
use Rattle.script.specs.declared.Row.{Row}
use Rattle.script.specs.declared.Sort.{Sort}
use Rattle.script.specs.Rows.{row, rows, parts, sort_of}
use Rattle.script.specs.Refusals.{verdict, accepted, same_sort}
use Rattle.theorems.specs.Accepted.{Accepted, passed}
use Rattle.theorems.specs.Counting.{eq_or_lt}
use Rattle.formula_writer.specs.Links.{Links, links_of}
use Rattle.following.specs.Follow.{row_on, Follows, Followed}
use Rattle.following.specs.Filling.{unstored}
use Rattle.dividing.specs.Nodes.{is_node, Node}
use Rattle.dividing.specs.Divided.{Entry, Divided}
use Rattle.dividing.specs.Entries.{DividedTo, RowReady, entry_bound}

-- ---- what is said of statements, after a store at a node

no_statement : (s : Sort) → T (same_sort s Sort.Statement) → T (is_node s) → ⊥
no_statement Sort.Expression h n = absurd h
no_statement Sort.Formula h n = absurd h
no_statement Sort.Statement h n = absurd n
no_statement Sort.Note h n = absurd n
no_statement Sort.Script h n = absurd n
no_statement Sort.Unknown h n = absurd n

module _ (t : List ℤ) (f g : ℕ → ℕ) (same : (k : ℕ) → T (same_sort (sort_of (row t k)) Sort.Statement) → g k ≡ f k) where
  follows_same : (q : ℕ) (w : Row) → row t q ≡ w → Links t q (parts w) → Follows f q w → Follows g q w
  follows_same q (Row.Statement (Sequence a b)) e l k =
      (same a.0 l.0.1 ∙ k.0, same b.0 l.1.0.1 ∙ (k.1 ∙ sym (same q (rw e tt))))
  follows_same q (Row.Statement (If b x y)) e l k =
      (same x.0 l.1.0.1 ∙ (k.0 ∙ sym (same q (rw e tt))), same y.0 l.1.1.0.1 ∙ (k.1 ∙ sym (same q (rw e tt))))
  follows_same q (Row.Statement (While b i x)) e l k = same x.0 l.1.1.0.1 ∙ k
  follows_same q (Row.Statement Skip) e l k = tt
  follows_same q (Row.Statement (Assign v x)) e l k = tt
  follows_same q (Row.Statement (Assert a)) e l k = tt
  follows_same q (Row.Script p s z) e l k = same s.0 l.1.0.1 ∙ k
  follows_same q (Row.Expression x) e l k = tt
  follows_same q (Row.Formula x) e l k = tt
  follows_same q (Row.Note i v) e l k = tt
  follows_same q Row.Unknown e l k = tt

followed_on : (t : List ℤ) {follow : List ℤ} (r : ℕ) (z : ℤ) → Accepted t → Node t r → Followed t follow → Followed t (set follow r z)
followed_on t {follow} r z ok n f = record {
  long = length-set follow r z ∙ f.long;
  at = λ q {w} h e.
      follows_same t (row_on follow) (row_on (set follow r z))
      (λ k s. unstored follow r z k (λ i. no_statement (sort_of (row t k)) s (rw i n)))
      q w e (links_of t ok q h e) (f.at q h e);
}

-- ---- the turns

pub record Filled (t follow : List ℤ) (r : ℕ) : Type 0 where
  pub within : r ≤ rows t
  pub followed : Followed t follow
  pub divided : DividedTo t follow r

apart : {k r : ℕ} → k < r → k ≡ r → ⊥
apart h e = omega linear

module _ (t : List ℤ) (v : verdict t ≡ accepted) where
  pub begun : {follow : List ℤ} → Followed t follow → Filled t follow 0
  begun f = record { within = omega linear; followed = f; divided = record { at = λ r h. absurd (none_below h) } }
    where
      none_below : {r : ℕ} → r < 0 → ⊥
      none_below h = omega linear

  module _ {follow : List ℤ} {r : ℕ} (f : Filled t follow r) where
    pub done : rows t ≤ r → Followed t follow × Divided t follow
    done h = (f.followed, record { at = λ k i n. f.divided.at k (omega linear) n })

    pub row_ready : r < rows t → Node t r → RowReady t follow r
    row_ready h n = let l = f.followed.long in record { table = passed t v; inside = h; node = n; below = f.divided; long = omega linear }

    pub in_follow : r < rows t → r < length follow
    in_follow h = let l = f.followed.long in omega linear

    -- no node
    pub filled_past : r < rows t → (Node t r → ⊥) → Filled t follow (r + 1)
    filled_past h e = record {
      within = omega linear;
      followed = f.followed;
      divided = record {
        at = λ k i n. ⊎_elim (λ (d : k ≡ r). absurd (e (rw d at n))) (λ (d : k < r). f.divided.at k d n) (eq_or_lt k r (omega linear));
      };
    }

    -- a node, whose entry is stored
    pub filled_more : {e : ℕ} {z : ℤ} → r < rows t → Node t r → Entry t r e → z ≡ pos e → Filled t (set follow r z) (r + 1)
    filled_more {e} {z} h n entry i = record {
      within = omega linear;
      followed = followed_on t r z (passed t v) n f.followed;
      divided = record {
        at = λ k d m.
            ⊎_elim (λ (x : k ≡ r). rw (x, stored_here) entry)
            (λ (x : k < r). rw (unstored follow r z k (apart x)) (f.divided.at k x m)) (eq_or_lt k r (omega linear));
      };
    }
      where
        stored_here : row_on (set follow r z) r ≡ e
        stored_here = rw (get_or-set_same follow r z (pos 0) (in_follow h), i) refl

    pub entry_fits : {e : ℕ} → r < rows t → Entry t r e → SFits w32 (pos e)
    entry_fits h entry =
        let k = (passed t v).short in
        let b = entry_bound entry in
        record { sfits = omega linear }
