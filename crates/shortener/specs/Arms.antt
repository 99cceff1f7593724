-- What is ahead after a turn, one law for each number of what becomes of a node (`kept_going` to `passed_going`). First the node that
-- is next. Assumes nothing.
use Rattle.std.specs.Prelude.{ℕ, zero, suc, ◌+◌, ◌<◌, ◌≡◌, refl, List, [], ◌∷◌, ◌++◌, ℤ, pos, length, get_or, set}
use Rattle.std.proofs.Common.{sym, ap, ◌∙◌, subst, append_assoc, arith as linear, length-append, get_or-set_same}
use Rattle.output.specs.declared.Output.{Output}
use Rattle.output.specs.Written.{Written, then, nothing_written, written_as}
use Rattle.theorems.specs.WordsAt.{Stands, stands_as, word, past, front, behind, Node, words_of, size, node_size}
use Rattle.shortener.specs.Codes.{kept_code, numbered_code, passed_code}
use Rattle.shortener.specs.Heads.{short_words, all_words, all_short, Keeps, Numbered, First, Second, Value, Head, head}
use Rattle.shortener.specs.Tasks.{Task, write, pass, task_words, writing, writing_words, Noted, Ahead, ahead_parts, told_set, ahead_set}
use Rattle.shortener.specs.Turns.{Ended, Going}

-- ---- the node that is next

pub record ToWrite (ws : List ℤ) (ks : List ℕ) (end at : ℕ) (ts : List Task) : Type 0 where
  pub node : Node
  pub rest : List Task
  pub is : ts ≡ write node ∷ rest
  pub stands : Stands ws at (words_of node)
  pub told : Noted ws ks at (at + size node)
  pub ahead : Ahead ws ks end (at + size node) rest

pub record ToPass (ws : List ℤ) (ks : List ℕ) (end at : ℕ) (ts : List Task) : Type 0 where
  pub node : Node
  pub rest : List Task
  pub is : ts ≡ pass node ∷ rest
  pub stands : Stands ws at (words_of node)
  pub ahead : Ahead ws ks end (at + size node) rest

-- none of the numbers that nodes have, in the order of the writer's arms
abbrev pub PastChanges : ℕ → Type 0
PastChanges k =
    (((((((Unit {0} × (k ≡ 0 → ⊥)) × (k ≡ 1 → ⊥)) × (k ≡ 2 → ⊥)) × (k ≡ 3 → ⊥)) × (k ≡ 4 → ⊥)) × (k ≡ 5 → ⊥)) × (k ≡ 6 → ⊥))

no_head : (k : ℕ) (x : Node) → PastChanges k → Head k x → ⊥
no_head zero x h v = h.0.0.0.0.0.0.1 refl
no_head (suc zero) x h v = h.0.0.0.0.0.1 refl
no_head (suc (suc zero)) x h v = h.0.0.0.0.1 refl
no_head (suc (suc (suc zero))) x h v = h.0.0.0.1 refl
no_head (suc (suc (suc (suc zero)))) x h v = h.0.0.1 refl
no_head (suc (suc (suc (suc (suc zero))))) x h v = h.0.1 refl
no_head (suc (suc (suc (suc (suc (suc zero)))))) x h v = h.1 refl
no_head (suc (suc (suc (suc (suc (suc (suc n))))))) x h v = v

module _ (ws : List ℤ) (ks : List ℕ) (end at : ℕ) where
  to_write : (ts : List Task) → Ahead ws ks end at ts → at < end → (get_or ks at 0 ≡ passed_code → ⊥) → ToWrite ws ks end at ts
  to_write [] a h n = absurd (omega linear)
  to_write (write x ∷ ts) a h n = record { node = x; rest = ts; is = refl; stands = a.0; told = a.1.0; ahead = a.1.1 }
  to_write (pass x ∷ ts) a h n = absurd (n a.1.0)

  -- what becomes of it, by its number
  pub headed : {ts : List Task} (w : ToWrite ws ks end at ts) (k : ℕ) → get_or ks at 0 ≡ k → Head k w.node
  headed w k e =
      let x = w.node in
      subst (λ j. Head j x) (sym (w.told.told at x (omega linear) (let n = node_size x in omega linear) w.stands) ∙ e) (head x)

  pub to_pass : (ts : List Task) → Ahead ws ks end at ts → at < end → PastChanges (get_or ks at 0) → ToPass ws ks end at ts
  to_pass [] a h n = absurd (omega linear)
  to_pass (write x ∷ ts) a h n =
      absurd
      (no_head (get_or ks at 0) x n
      (subst (λ j. Head j x) (sym (a.1.0.told at x (omega linear) (let m = node_size x in omega linear) a.0)) (head x)))
  to_pass (pass x ∷ ts) a h n = record { node = x; rest = ts; is = refl; stands = a.0; ahead = a.1.1 }

-- ---- the way on

module _ {ws : List ℤ} {end at : ℕ} {ks : List ℕ} {o₀ o : Output ℤ} {whole : List ℤ} where
  -- the words vs were written, and the tasks ts are ahead now
  onward : (g : Going ws end at ks o₀ whole o) (vs : List ℤ) (ts : List Task) {at' : ℕ} {ks' : List ℕ} {o' : Output ℤ} → Written o vs o'
      → vs ++ task_words ts ≡ task_words g.tasks → Ahead ws ks' end at' ts → Going ws end at' ks' o₀ whole o'
  onward g vs ts w e a = record { tasks = ts; ahead = a; left = λ o'' v. g.left o'' (written_as e (then w v)) }

  module _ (g : Going ws end at ks o₀ whole o) (more : at < end) where
    pub next : (k : ℕ) → k < passed_code → get_or ks at 0 ≡ k → ToWrite ws ks end at g.tasks
    next k h e = to_write ws ks end at g.tasks g.ahead more (λ f. omega (linear, e, f))

    -- what was to be written, where the next node is x
    words_are : (w : ToWrite ws ks end at g.tasks) {vs : List ℤ} → vs ≡ short_words w.node → vs ++ task_words w.rest ≡ task_words g.tasks
    words_are w e = ap (λ (v : List ℤ). v ++ task_words w.rest) e ∙ ap task_words (sym w.is)

    pub kept_going : get_or ks at 0 ≡ kept_code → {o' : Output ℤ} → Written o (get_or ws at (pos 0) ∷ []) o' → Going ws end (at + 1) ks o₀ whole o'
    kept_going e {o'} w =
        let n = next kept_code (omega linear) e in
        let h : Keeps n.node = headed ws ks end at n kept_code e in
        let s = stands_as h.words n.stands in
        let m : at + size n.node ≡ at + 1 + length (all_words h.parts) = sum at (ap length h.words) in
        onward g (get_or ws at (pos 0) ∷ []) (writing h.parts n.rest) w
        (ap (λ (v : List ℤ). get_or ws at (pos 0) ∷ v) (writing_words h.parts n.rest)
        ∙ ap (λ z. z ∷ (all_short h.parts ++ task_words n.rest)) (word s)
        ∙ words_are n (sym h.short))
        (ahead_parts ws ks end (at + 1) h.parts n.rest (past s)
        (record { told = λ r y i j. n.told.told r y (omega linear) (omega (linear, m)) })
        (subst (λ r. Ahead ws ks end r n.rest) m n.ahead))
      where
        sum : (a : ℕ) {b c : ℕ} → b ≡ suc c → a + b ≡ a + 1 + c
        sum a i = omega linear

    pub numbered_going : get_or ks at 0 ≡ numbered_code → {o' : Output ℤ} → Written o (get_or ws at (pos 0) ∷ get_or ws (at + 1) (pos 0) ∷ []) o'
        → Going ws end (at + 2) ks o₀ whole o'
    numbered_going e {o'} w =
        let n = next numbered_code (omega linear) e in
        let h : Numbered n.node = headed ws ks end at n numbered_code e in
        let s = stands_as h.words n.stands in
        let k = word s in
        let z = word (past s) in
        onward g (get_or ws at (pos 0) ∷ get_or ws (at + 1) (pos 0) ∷ []) n.rest w
        (words_are n ((λ i. k i ∷ z i ∷ []) ∙ sym h.short))
        (subst (λ r. Ahead ws ks end r n.rest) (ap (λ m. at + m) (ap length h.words)) n.ahead)

    module _ {es : List ℕ} (ended : Ended ws es) where
      -- of a node with two parts: where the second stands
      module _ (w : ToWrite ws ks end at g.tasks) {kind : ℤ} (a b : Node) (words : words_of w.node ≡ kind ∷ (words_of a ++ words_of b)) where
        parts : Stands ws (at + 1) (words_of a ++ words_of b)
        parts = past (stands_as words w.stands)

        pub first_part : Stands ws (at + 1) (words_of a)
        first_part = front (words_of b) parts

        pub middle : get_or es (at + 1) 0 ≡ at + 1 + size a
        middle = ended.end (at + 1) a first_part

        pub second_part : Stands ws (get_or es (at + 1) 0) (words_of b)
        second_part = rw middle (behind (words_of a) parts)

        pub both : at + size w.node ≡ get_or es (at + 1) 0 + size b
        both =
            let n = ap length words in
            let m = length-append (words_of a) (words_of b) in
            omega (linear, n, m, middle)

      pub second_going : {before : List ℤ} (w : ToWrite ws ks end at g.tasks) → Second before w.node → {o' : Output ℤ} → Written o before o'
          → Going ws end (get_or es (at + 1) 0) ks o₀ whole o'
      second_going {before} n h w =
          let b = h.second in
          let e = both n h.first b h.words in
          let m = middle n h.first b h.words in
          onward g before (write b ∷ n.rest) w
          (sym (append_assoc before (short_words b) (task_words n.rest)) ∙ words_are n (sym h.short)) (
            second_part n h.first b h.words,
            (
              record { told = λ r y i j. n.told.told r y (omega (linear, m)) (omega (linear, e)) },
              subst (λ r. Ahead ws ks end r n.rest) e n.ahead,
            ),
          )

      pub first_going : (w : ToWrite ws ks end at g.tasks) → First w.node → get_or es (at + 1) 0 < length ks
          → Going ws end (at + 1) (set ks (get_or es (at + 1) 0) passed_code) o₀ whole o
      first_going n h room =
          let a = h.first in
          let b = h.second in
          let e = both n a b h.words in
          let m = middle n a b h.words in
          let k = get_or es (at + 1) 0 in
          onward g [] (write a ∷ pass b ∷ n.rest) (nothing_written o) (words_are n (sym h.short)) (
            first_part n a b h.words,
            (
              told_set ws {ks = ks} k passed_code (λ r i j f. omega (linear, m, f)) (record { told = λ r y i j. n.told.told r y (omega linear) (omega (linear, m, e)) }),
              subst (λ r. Ahead ws (set ks k passed_code) end r (pass b ∷ n.rest)) m (
                second_part n a b h.words,
                (
                  get_or-set_same ks k passed_code 0 room,
                  ahead_set ws ks end k passed_code (k + size b) n.rest (let i = node_size b in omega linear)
                      (subst (λ r. Ahead ws ks end r n.rest) e n.ahead),
                ),
              ),
            ),
          )

      pub value_going : {word : ℤ} (w : ToWrite ws ks end at g.tasks) → Value word w.node → {o' : Output ℤ} → Written o (word ∷ []) o'
          → Going ws end (get_or es at 0) ks o₀ whole o'
      value_going {word} n h w =
          onward g (word ∷ []) n.rest w (words_are n (sym h.short))
          (subst (λ r. Ahead ws ks end r n.rest) (sym (ended.end at n.node n.stands)) n.ahead)

      pub passed_going : PastChanges (get_or ks at 0) → Going ws end (get_or es at 0) ks o₀ whole o
      passed_going h =
          let n = to_pass ws ks end at g.tasks g.ahead more h in
          onward g [] n.rest (nothing_written o) (ap task_words (sym n.is))
          (subst (λ r. Ahead ws ks end r n.rest) (sym (ended.end at n.node n.stands)) n.ahead)
