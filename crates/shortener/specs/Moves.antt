-- The writer's turns, as its loop takes them: what may be read at the place, that the place moves on, and that the next turn holds, for
-- each number of what becomes of a node. Assumes nothing.
use Rattle.std.specs.Prelude.{ℕ, ◌+◌, ◌<◌, ◌≡◌, List, [], ◌∷◌, ◌++◌, ℤ, pos, length, get_or, set}
use Rattle.std.proofs.Common.{◌∙◌, arith as linear, length-set, get_or-set_other}
use Rattle.script.specs.Words.{formula_words}
use Rattle.script.specs.Syntax.{Formula}
use Rattle.output.specs.declared.Output.{Output}
use Rattle.output.specs.Written.{Written, written_length, nothing_written}
use Rattle.theorems.specs.WordsAt.{stands_as, inside, past, Node, words_of, size, node_size, node_inside}
use Rattle.shortening.specs.Simplify.{order, shortenᶠ}
use Rattle.shortener.specs.Codes.{kept_code, numbered_code, first_code, passed_code}
use Rattle.shortener.specs.Heads.{Numbered, First, Second, Value, Head}
use Rattle.shortener.specs.Tasks.{Task, write, pass, Ahead, ahead_within}
use Rattle.shortener.specs.Turns.{Ended, Going, Turn}
use Rattle.shortener.specs.Arms.{ToWrite, PastChanges, headed, to_pass, next, kept_going, numbered_going, second_going, first_going, value_going, passed_going, middle, first_part, second_part, both}

-- where the two parts of a node stand
pub record Parts (ws : List ℤ) (es : List ℕ) (end at : ℕ) : Type 0 where
  pub first : at + 1 < length ws
  pub later : at < get_or es (at + 1) 0
  pub second : get_or es (at + 1) 0 < length ws
  pub before_end : get_or es (at + 1) 0 < end

module _ {ws : List ℤ} {first end : ℕ} {es ks₀ : List ℕ} {o₀ : Output ℤ} {at : ℕ} {ks : List ℕ} {o : Output ℤ}
    (t : Turn ws first end es ks₀ o₀ at ks o) (more : at < end) where
  ended : Ended ws es
  ended = t.begun.ended

  -- of the formula that stands there
  going : Going ws end at ks o₀ (formula_words (shortenᶠ order t.begun.claim)) o
  going = t.going t.begun.claim t.begun.stands t.begun.ends

  pub here : at < length ws
  here = of_tasks going.tasks going.ahead
    where
      of_tasks : (ts : List Task) → Ahead ws ks end at ts → at < length ws
      of_tasks [] a = absurd (omega linear)
      of_tasks (write x ∷ ts) a = node_inside x a.0
      of_tasks (pass x ∷ ts) a = node_inside x a.0

  pub in_changes : at < length ks
  in_changes = let h = here in let r = t.begun.room in let s = t.same.length in omega linear

  pub in_ends : at < length es
  in_ends = let h = here in let r = ended.room in omega linear

  -- ---- the words written, the rest as before

  after : {at' : ℕ} {o' : Output ℤ} {vs : List ℤ} → Written o vs o'
      → ((f : Formula) → Going ws end at ks o₀ (formula_words (shortenᶠ order f)) o
      → Going ws end at' ks o₀ (formula_words (shortenᶠ order f)) o')
      → Turn ws first end es ks₀ o₀ at' ks o'
  after w g = record { begun = t.begun; same = t.same; list = written_length w ∙ t.list; going = λ f s e. g f (t.going f s e) }

  pub kept_turn : get_or ks at 0 ≡ kept_code → {o' : Output ℤ} → Written o (get_or ws at (pos 0) ∷ []) o' → Turn ws first end es ks₀ o₀ (at + 1) ks o'
  kept_turn e w = after w (λ f g. kept_going g more e w)

  -- ---- a number

  pub number_here : get_or ks at 0 ≡ numbered_code → at + 1 < length ws
  number_here e =
      let n = next going more numbered_code (omega linear) e in
      let h : Numbered n.node = headed ws ks end at n numbered_code e in
      inside (past (stands_as h.words n.stands))

  pub numbered_turn : get_or ks at 0 ≡ numbered_code → {o' : Output ℤ} → Written o (get_or ws at (pos 0) ∷ get_or ws (at + 1) (pos 0) ∷ []) o'
      → Turn ws first end es ks₀ o₀ (at + 2) ks o'
  numbered_turn e w = after w (λ f g. numbered_going g more e w)

  -- ---- two parts

  parts_of : (n : ToWrite ws ks end at going.tasks) {kind : ℤ} (a b : Node) → words_of n.node ≡ kind ∷ (words_of a ++ words_of b) → Parts ws es end at
  parts_of n a b w =
      let m = middle going more ended n a b w in
      let e = both going more ended n a b w in
      let i = ahead_within ws ks end (at + size n.node) n.rest n.ahead in
      let s = node_size b in
      record {
        first = node_inside a (first_part going more ended n a b w);
        later = omega (linear, m);
        second = node_inside b (second_part going more ended n a b w);
        before_end = omega (linear, e, i, s);
      }

  pub first_parts : get_or ks at 0 ≡ first_code → Parts ws es end at
  first_parts e =
      let n = next going more first_code (omega linear) e in
      let h : First n.node = headed ws ks end at n first_code e in
      parts_of n h.first h.second h.words

  pub first_turn : get_or ks at 0 ≡ first_code → Turn ws first end es ks₀ o₀ (at + 1) (set ks (get_or es (at + 1) 0) passed_code) o
  first_turn e =
      let k = get_or es (at + 1) 0 in
      let ps = first_parts e in
      record {
        begun = t.begun;
        same = record {
          length = length-set ks k passed_code ∙ t.same.length;
          same = λ q h. get_or-set_other ks k q passed_code 0 (λ i. let b = ps.before_end in omega (linear, i)) ∙ t.same.same q h;
        };
        list = t.list;
        going = λ f s i.
            let g = t.going f s i in
            let n = next g more first_code (omega linear) e in
            first_going g more ended n (headed ws ks end at n first_code e)
            (let r = t.begun.room in let l = t.same.length in let b = ps.second in omega linear);
      }

  pub second_parts : (before : List ℤ) (k : ℕ) → k < passed_code → ((x : Node) → Head k x → Second before x) → get_or ks at 0 ≡ k → Parts ws es end at
  second_parts before k i f e =
      let n = next going more k i e in
      let h = f n.node (headed ws ks end at n k e) in
      parts_of n h.first h.second h.words

  pub second_turn : (before : List ℤ) (k : ℕ) → k < passed_code → ((x : Node) → Head k x → Second before x) → get_or ks at 0 ≡ k
      → {o' : Output ℤ} → Written o before o' → Turn ws first end es ks₀ o₀ (get_or es (at + 1) 0) ks o'
  second_turn before k i h e w =
      after w (λ f g. let n = next g more k i e in second_going g more ended n (h n.node (headed ws ks end at n k e)) w)

  -- ---- a value

  pub moves_on : (k : ℕ) → k < passed_code → get_or ks at 0 ≡ k → at < get_or es at 0
  moves_on k i e =
      let n = next going more k i e in
      let m = ended.end at n.node n.stands in
      let s = node_size n.node in
      omega (linear, m, s)

  pub value_turn : (v : ℤ) (k : ℕ) → k < passed_code → ((x : Node) → Head k x → Value v x) → get_or ks at 0 ≡ k
      → {o' : Output ℤ} → Written o (v ∷ []) o' → Turn ws first end es ks₀ o₀ (get_or es at 0) ks o'
  value_turn v k i h e w =
      after w (λ f g. let n = next g more k i e in value_going g more ended n (h n.node (headed ws ks end at n k e)) w)

  -- ---- a part that is passed over

  pub passes_on : PastChanges (get_or ks at 0) → at < get_or es at 0
  passes_on h =
      let n = to_pass ws ks end at going.tasks going.ahead more h in
      let m = ended.end at n.node n.stands in
      let s = node_size n.node in
      omega (linear, m, s)

  pub passed_turn : PastChanges (get_or ks at 0) → Turn ws first end es ks₀ o₀ (get_or es at 0) ks o
  passed_turn h = after (nothing_written o) (λ f g. passed_going g more ended h)
