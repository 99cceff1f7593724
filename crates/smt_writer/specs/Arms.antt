-- The turns of the writer, shape by shape: how the next turn goes on with the last part, or that the whole was written.
-- Assumes nothing.
use Rattle.std.specs.Prelude.{ℕ, ◌+◌, ◌≤◌, ◌<◌, ◌≡◌, refl, Bool, true, false, List, [], ◌∷◌, ◌++◌, ltb, ℤ, pos, length, get_or}
use Rattle.std.proofs.Common.{sym, ap, ◌∙◌, arith as linear, ltb-true, ltb-false, length-append}
use Rattle.script.specs.Rows.{field_number}
use Rattle.script.specs.Words.{expr_words}
use Rattle.theorems.specs.Writing.{wrote_within}
use Rattle.output.specs.declared.Output.{Output}
use Rattle.output.specs.Written.{Written, then, written_as, written_length}
use Rattle.smt_writer.specs.declared.terms.Shape.{Shape}
use Rattle.smt_writer.specs.declared.terms.Shape.TheVariants.{Leaf, Truth, Single, Pair, Division, Choice}
use Rattle.theorems.specs.WordsAt.{Stands, stands_as, inside, word, past, front, behind, Node, expression, words_of, size, node_inside}
use Rattle.smt_writer.specs.Nodes.{text_of, NodeAt, at_place}
use Rattle.smt_writer.specs.Openings.{opening, leaf_text, truth_name, closes}
use Rattle.smt_writer.specs.Shapes.{shape_of, ALeaf, ATruth, ASingle, APair, ADivision, AChoice, view, as_leaf, as_truth, as_single, as_pair, as_division, as_choice}
use Rattle.smt_writer.specs.Turns.{Begins, NodeWritten, Turns, leaf, onward}
use Rattle.smt_writer.specs.Divisions.{DivisionAt, Divides, Divided, divisor_at}

-- ---- the parts of a node, where they stand

module _ {ws : List ℤ} {at k : ℕ} {x : Node} (s : NodeAt ws at x) where
  single_at : (v : ASingle k x) → NodeAt ws (at + 1) v.part
  single_at v = record { words = past (stands_as v.words s.words); range = v.range s.range }

  module _ (v : APair k x) where
    parts : Stands ws (at + 1) (words_of v.first ++ words_of v.second)
    parts = past (stands_as v.words s.words)

    pair_first : NodeAt ws (at + 1) v.first
    pair_first = record { words = front (words_of v.second) parts; range = (v.ranges s.range).0 }

    pair_second : NodeAt ws (at + 1 + size v.first) v.second
    pair_second = record { words = behind (words_of v.first) parts; range = (v.ranges s.range).1 }

  division_at : (v : ADivision k x) → DivisionAt ws at k v.dividend v.divisor
  division_at v = record { words = stands_as v.words s.words; ranges = v.ranges s.range }

  module _ (v : AChoice k x) where
    choice_parts : Stands ws (at + 1) (words_of v.test ++ (words_of v.first ++ words_of v.second))
    choice_parts = past (stands_as v.words s.words)

    later_parts : Stands ws (at + 1 + size v.test) (words_of v.first ++ words_of v.second)
    later_parts = behind (words_of v.test) choice_parts

    choice_test : NodeAt ws (at + 1) v.test
    choice_test = record { words = front (words_of v.first ++ words_of v.second) choice_parts; range = (v.ranges s.range).0 }

    choice_first : NodeAt ws (at + 1 + size v.test) v.first
    choice_first = record { words = front (words_of v.second) later_parts; range = (v.ranges s.range).1 }

    choice_second : NodeAt ws (at + 1 + size v.test + size v.first) v.second
    choice_second = record { words = behind (words_of v.first) later_parts; range = (v.ranges s.range).2 }

-- ---- a turn at which there is room

module _ {ws : List ℤ} {first at closing : ℕ} {o₀ o : Output ℕ} (g : Turns ws first o₀ at closing o) (room : o.at ≤ length o.list.now) where
  pub within : at < length ws
  within = let b = g.here room in node_inside b.node b.stands.words

  module _ {k : ℕ} (read : k ≡ field_number (get_or ws at (pos 0))) {s : Shape} (told : s ≡ shape_of k) where
    -- ---- a constant, a variable or a mark

    module _ (arm : s ≡ Leaf) where
      a_leaf : (x : Node) → NodeAt ws at x → ALeaf k x
      a_leaf x h = as_leaf (rw (sym told ∙ arm) at (view read x h))

      pub number_inside : at + 1 < length ws
      number_inside = let b = g.here room in inside (past (stands_as (a_leaf b.node b.stands).words b.stands.words))

      pub leaf_left : {e : ℕ} {number : ℤ} {o' o'' : Output ℕ} → number ≡ get_or ws (at + 1) (pos 0) → e ≡ at + 2
          → Written o (leaf_text k number) o' → Written o' (closes closing) o'' → NodeWritten ws first o₀ e o''
      leaf_left {e} {number} m n w v = record {
        reaches = λ x h.
            let t = g.turn x h in
            let here = t.stands room in
            let a = a_leaf t.part here in
            let same : number ≡ a.number = m ∙ word (past (stands_as a.words here.words)) in
            leaf t room (written_as (ap (leaf_text k) same ∙ sym a.text) w) v (rw (n, a.words));
        stays = λ ts i. let e = g.entered room in absurd (omega linear);
        forward = let f = g.forward in omega linear;
      }

    -- ---- true or false

    module _ (arm : s ≡ Truth) where
      a_truth : (x : Node) → NodeAt ws at x → ATruth k x
      a_truth x h = as_truth (rw (sym told ∙ arm) at (view read x h))

      pub truth_left : {e : ℕ} {o' o'' : Output ℕ} → e ≡ at + 1 → Written o (truth_name k) o' → Written o' (closes closing) o''
          → NodeWritten ws first o₀ e o''
      truth_left n w v = record {
        reaches = λ x h.
            let t = g.turn x h in
            let a = a_truth t.part (t.stands room) in
            leaf t room (written_as (sym a.text) w) v (rw (n, a.words));
        stays = λ ts i. let e = g.entered room in absurd (omega linear);
        forward = let f = g.forward in omega linear;
      }

    -- ---- one part

    module _ (arm : s ≡ Single) where
      a_single : (x : Node) → NodeAt ws at x → ASingle k x
      a_single x h = as_single (rw (sym told ∙ arm) at (view read x h))

      pub single_turn : {o' : Output ℕ} → Written o (opening k) o' → Turns ws first o₀ (at + 1) (closing + 1) o'
      single_turn w = record {
        same = written_length w ∙ g.same;
        lent = w.same ∙ g.lent;
        here = λ r. let b = g.here room in
            record { node = (a_single b.node b.stands).part; stands = single_at b.stands (a_single b.node b.stands) };
        entered = λ i. g.entered room;
        forward = let f = g.forward in omega linear;
        few = let f = g.few in omega linear;
        turn = λ x h.
            let t = g.turn x h in
            let here = t.stands room in
            let a = a_single t.part here in
            onward t room 1 a.part a.text w (λ r. single_at here a) (λ r. rw a.words (omega linear));
      }

    -- ---- two parts

    module _ (arm : s ≡ Pair) where
      a_pair : (x : Node) → NodeAt ws at x → APair k x
      a_pair x h = as_pair (rw (sym told ∙ arm) at (view read x h))

      pub first_begins : Begins ws (at + 1)
      first_begins = let b = g.here room in
          record { node = (a_pair b.node b.stands).first; stands = pair_first b.stands (a_pair b.node b.stands) }

      module _ {e : ℕ} {o₁ o₂ o' : Output ℕ} (w : Written o (opening k) o₁) (v : NodeWritten ws (at + 1) o₁ e o₂)
          (u : Written o₂ (32 ∷ []) o') where
        first_written : {x : Node} → (h : NodeAt ws at x) → (a : APair k x) → Written o ((opening k ++ text_of a.first) ++ (32 ∷ [])) o'
        first_written h a = then (then w (v.reaches a.first (pair_first h a)).wrote) u

        second_at : {x : Node} → (h : NodeAt ws at x) → (a : APair k x) → o'.at ≤ length o'.list.now
            → (e ≡ at + 1 + size a.first) × NodeAt ws e a.second
        second_at h a i =
            let n = (v.reaches a.first (pair_first h a)).ends (wrote_within u.wrote i) in
            (n, at_place n (pair_second h a))

        pub pair_turn : Turns ws first o₀ e (closing + 1) o'
        pair_turn = record {
          same = written_length (first_written b.stands a) ∙ g.same;
          lent = (first_written b.stands a).same ∙ g.lent;
          here = λ i. record { node = a.second; stands = (second_at b.stands a i).1 };
          entered = λ i. g.entered room;
          forward = let f = g.forward in let n = v.forward in omega linear;
          few = let f = g.few in let n = v.forward in omega linear;
          turn = λ x h.
              let t = g.turn x h in
              let here = t.stands room in
              let c = a_pair t.part here in
              onward t room 1 c.second c.text (first_written here c)
              (λ i. (second_at here c i).1)
              (λ i. let n = (second_at here c i).0 in
              rw (n, c.words) (omega (linear, length-append (words_of c.first) (words_of c.second))));
        }
          where
            b : Begins ws at
            b = g.here room

            a : APair k b.node
            a = a_pair b.node b.stands

    -- ---- a division

    module _ (arm : s ≡ Division) where
      a_division : (x : Node) → NodeAt ws at x → ADivision k x
      a_division x h = as_division (rw (sym told ∙ arm) at (view read x h))

      pub divides : Divides ws at k
      divides = let b = g.here room in
          let a = a_division b.node b.stands in
          record { dividend = a.dividend; divisor = a.divisor; stands = division_at b.stands a }

      pub division_turn : {e : ℕ} {o' : Output ℕ} → Divided ws at k o e o' → Turns ws first o₀ e (closing + 2) o'
      division_turn v =
          let d = divides in
          let placed = v.divisor d.dividend d.divisor d.stands in
          let w = v.wrote d.dividend d.divisor d.stands in
          record {
            same = written_length w ∙ g.same;
            lent = w.same ∙ g.lent;
            here = λ i. record { node = expression d.divisor; stands = at_place placed (divisor_at d.stands) };
            entered = λ i. g.entered room;
            forward = let f = g.forward in omega linear;
            few = let f = g.few in omega linear;
            turn = λ x h.
                let t = g.turn x h in
                let here = t.stands room in
                let a = a_division t.part here in
                let s = division_at here a in
                let n = v.divisor a.dividend a.divisor s in
                onward t room 2 (expression a.divisor) a.text (v.wrote a.dividend a.divisor s)
                (λ i. at_place n (divisor_at s))
                (λ i. rw (n, a.words) (omega (linear, length-append (expr_words a.dividend) (expr_words a.divisor))));
          }

    -- ---- three parts

    module _ (arm : s ≡ Choice) where
      a_choice : (x : Node) → NodeAt ws at x → AChoice k x
      a_choice x h = as_choice (rw (sym told ∙ arm) at (view read x h))

      pub test_begins : Begins ws (at + 1)
      test_begins = let b = g.here room in
          record { node = (a_choice b.node b.stands).test; stands = choice_test b.stands (a_choice b.node b.stands) }

      module _ {c : ℕ} {o₁ o₂ o₃ : Output ℕ} (w : Written o (opening k) o₁) (v : NodeWritten ws (at + 1) o₁ c o₂)
          (u : Written o₂ (32 ∷ []) o₃) where
        test_written : {x : Node} → (h : NodeAt ws at x) → (a : AChoice k x) → Written o ((opening k ++ text_of a.test) ++ (32 ∷ [])) o₃
        test_written h a = then (then w (v.reaches a.test (choice_test h a)).wrote) u

        first_at : {x : Node} → (h : NodeAt ws at x) → (a : AChoice k x) → o₃.at ≤ length o₃.list.now
            → (c ≡ at + 1 + size a.test) × NodeAt ws c a.first
        first_at h a i =
            let n = (v.reaches a.test (choice_test h a)).ends (wrote_within u.wrote i) in
            (n, at_place n (choice_first h a))

        pub chosen_begins : o₃.at ≤ length o₃.list.now → Begins ws c
        chosen_begins i = let b = g.here room in
            let a = a_choice b.node b.stands in
            record { node = a.first; stands = (first_at b.stands a i).1 }

        module _ {e : ℕ} {o₄ o' : Output ℕ} (v₂ : NodeWritten ws c o₃ e o₄) (u₂ : Written o₄ (32 ∷ []) o') where
          -- the first part: where there was no room for it, it is not known to stand there, and nothing was written
          first_wrote : {x : Node} → (h : NodeAt ws at x) → (a : AChoice k x) → Written o₃ (text_of a.first) o₄
          first_wrote h a = by_room (ltb (length o₃.list.now) o₃.at) refl
            where
              by_room : (b : Bool) → ltb (length o₃.list.now) o₃.at ≡ b → Written o₃ (text_of a.first) o₄
              by_room true n = v₂.stays (text_of a.first) (ltb-true (length o₃.list.now) o₃.at n)
              by_room false n = (v₂.reaches a.first (first_at h a (ltb-false (length o₃.list.now) o₃.at n)).1).wrote

          parts_written : {x : Node} → (h : NodeAt ws at x) → (a : AChoice k x)
              → Written o ((((opening k ++ text_of a.test) ++ (32 ∷ [])) ++ text_of a.first) ++ (32 ∷ [])) o'
          parts_written h a = then (then (test_written h a) (first_wrote h a)) u₂

          last_at : {x : Node} → (h : NodeAt ws at x) → (a : AChoice k x) → o'.at ≤ length o'.list.now
              → (e ≡ at + 1 + size a.test + size a.first) × NodeAt ws e a.second
          last_at h a i =
              let j = wrote_within u₂.wrote i in
              let n = first_at h a (wrote_within (first_wrote h a).wrote j) in
              let m = (v₂.reaches a.first n.1).ends j ∙ ap (λ m. m + size a.first) n.0 in
              (m, at_place m (choice_second h a))

          pub choice_turn : Turns ws first o₀ e (closing + 1) o'
          choice_turn = record {
            same = written_length (parts_written b.stands a) ∙ g.same;
            lent = (parts_written b.stands a).same ∙ g.lent;
            here = λ i. record { node = a.second; stands = (last_at b.stands a i).1 };
            entered = λ i. g.entered room;
            forward = let n = g.forward in let m = v.forward in let o = v₂.forward in omega linear;
            few = let n = g.few in let m = v.forward in let o = v₂.forward in omega linear;
            turn = λ x h.
                let t = g.turn x h in
                let here = t.stands room in
                let p = a_choice t.part here in
                onward t room 1 p.second p.text (parts_written here p)
                (λ i. (last_at here p i).1)
                (λ i. let n = (last_at here p i).0 in
                let sizes = length-append (words_of p.test) (words_of p.first ++ words_of p.second) in
                rw (n, p.words) (omega (linear, sizes, length-append (words_of p.first) (words_of p.second))));
          }
            where
              b : Begins ws at
              b = g.here room

              a : AChoice k b.node
              a = a_choice b.node b.stands
