-- What the writer has before it: nodes that stand one after the other, each to be written or to be passed over (`Ahead`), and the
-- words that are to be written of them (`task_words`). Assumes nothing.
use Rattle.std.specs.Prelude.{ℕ, ◌+◌, ◌≤◌, ◌<◌, ◌≡◌, refl, List, [], ◌∷◌, ◌++◌, ℤ, length, get_or, set}
use Rattle.std.proofs.Common.{sym, ap, ◌∙◌, append_assoc, arith as linear, length-append, get_or-set_other}
use Rattle.theorems.specs.WordsAt.{Stands, front, behind, Node, words_of, size, node_size}
use Rattle.shortener.specs.Codes.{passed_code}
use Rattle.shortener.specs.NodeEntries.{node_change}
use Rattle.shortener.specs.Heads.{short_words, all_words, all_short}

pub data Task : Type 0 where
  write : Node → Task
  pass : Node → Task

abbrev pub task_words : List Task → List ℤ
task_words [] = []
task_words (write x ∷ ts) = short_words x ++ task_words ts
task_words (pass x ∷ ts) = task_words ts

abbrev pub writing : List Node → List Task → List Task
writing [] ts = ts
writing (x ∷ xs) ts = write x ∷ writing xs ts

pub writing_words : (xs : List Node) (ts : List Task) → task_words (writing xs ts) ≡ all_short xs ++ task_words ts
writing_words [] ts = refl
writing_words (x ∷ xs) ts =
    ap (λ (l : List ℤ). short_words x ++ l) (writing_words xs ts) ∙ sym (append_assoc (short_words x) (all_short xs) (task_words ts))

module _ (ws : List ℤ) where
  -- the run says what becomes of each node that stands from one place to another
  pub record Noted (ks : List ℕ) (from to : ℕ) : Type 0 where
    pub told : (at : ℕ) (x : Node) → from ≤ at → at < to → Stands ws at (words_of x) → get_or ks at 0 ≡ node_change x

  module _ (ks : List ℕ) (end : ℕ) where
    abbrev pub Ahead : ℕ → List Task → Type 0
    Ahead at [] = at ≡ end
    Ahead at (write x ∷ ts) = Stands ws at (words_of x) × (Noted ks at (at + size x) × Ahead (at + size x) ts)
    Ahead at (pass x ∷ ts) = Stands ws at (words_of x) × ((get_or ks at 0 ≡ passed_code) × Ahead (at + size x) ts)

    pub ahead_within : (at : ℕ) (ts : List Task) → Ahead at ts → at ≤ end
    ahead_within at [] a = omega linear
    ahead_within at (write x ∷ ts) a = let h = ahead_within (at + size x) ts a.1.1 in omega linear
    ahead_within at (pass x ∷ ts) a = let h = ahead_within (at + size x) ts a.1.1 in omega linear

    -- at the end there is nothing left
    pub ahead_none : (at : ℕ) (ts : List Task) → Ahead at ts → end ≤ at → task_words ts ≡ []
    ahead_none at [] a h = refl
    ahead_none at (write x ∷ ts) a h =
        absurd (let i = ahead_within (at + size x) ts a.1.1 in let n = node_size x in omega linear)
    ahead_none at (pass x ∷ ts) a h =
        absurd (let i = ahead_within (at + size x) ts a.1.1 in let n = node_size x in omega linear)

    -- nodes that stand one after the other
    pub ahead_parts : (at : ℕ) (xs : List Node) (ts : List Task) → Stands ws at (all_words xs) → Noted ks at (at + length (all_words xs))
        → Ahead (at + length (all_words xs)) ts → Ahead at (writing xs ts)
    ahead_parts at [] ts s t a = rw (none at) at a
      where
        none : (n : ℕ) → n + 0 ≡ n
        none n = omega linear
    ahead_parts at (x ∷ xs) ts s t a =
        let n : at + length (words_of x ++ all_words xs) ≡ at + size x + length (all_words xs) = more in (
          front (all_words xs) s,
          (
            record { told = λ q y h i. t.told q y h (omega (linear, n)) },
            ahead_parts (at + size x) xs ts (behind (words_of x) s)
                (record { told = λ q y h i. t.told q y (omega linear) (omega (linear, n)) }) (rw n at a),
          ),
        )
      where
        more : at + length (words_of x ++ all_words xs) ≡ at + size x + length (all_words xs)
        more = let l = length-append (words_of x) (all_words xs) in omega (linear, l)

  -- a place before them may be noted otherwise
  pub told_set : {ks : List ℕ} {from to : ℕ} (k v : ℕ) → ((at : ℕ) → from ≤ at → at < to → at ≡ k → ⊥) → Noted ks from to → Noted (set ks k v) from to
  told_set {ks} k v n t = record { told = λ at x h i s. get_or-set_other ks k at v 0 (n at h i) ∙ t.told at x h i s }

  pub ahead_set : (ks : List ℕ) (end k v at : ℕ) (ts : List Task) → k < at → Ahead ks end at ts → Ahead (set ks k v) end at ts
  ahead_set ks end k v at [] h a = a
  ahead_set ks end k v at (write x ∷ ts) h a =
      (a.0, (told_set k v (λ q i j e. omega linear) a.1.0, ahead_set ks end k v (at + size x) ts (omega linear) a.1.1))
  ahead_set ks end k v at (pass x ∷ ts) h a =
      (a.0, (get_or-set_other ks k at v 0 (λ e. omega linear) ∙ a.1.0, ahead_set ks end k v (at + size x) ts (omega linear) a.1.1))
