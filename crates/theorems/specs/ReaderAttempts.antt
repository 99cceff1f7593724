-- 01, "A reviewer's attempts": "The list reader gets the same attempts, against the well-formed lists." No function with the
-- results of one of these wrong readers meets the contract of its entry: the line at an index (`line_at`), the part where its
-- formula stands (`part_at`), the count (`condition_count`), the reader that walks back (`first_place`, `step_back`,
-- `next_place`). What is assumed of a wrong reader is what it does with well-formed lists. Assumes nothing.
use Prim.Native.Nat.{ℕ, zero, suc, ◌+◌, ◌-◌, ◌<◌}
use native.Mathlib.Omega.{arith as linear}
use Rattle.std.specs.Prelude.{◌≡◌, ◌≢◌, true, false, List, [], ◌∷◌, ◌++◌, map, reverse, ℤ, pos, length, replicate}
use Rattle.std.proofs.Math.Path.{refl, ap}
use Rattle.std.proofs.Common.{sym, ◌∙◌}
use Rattle.std.proofs.Math.Option.{Option, none, some}
use Rattle.std.proofs.Math.ListN.{get_elem?}
use Rattle.script.specs.declared.Line.{Line}
use Rattle.script.specs.declared.Rule.TheVariants.{Exit, Main}
use Rattle.script.specs.Syntax.{truth}
use Rattle.script.specs.Conditions.{Condition, condition}
use Rattle.script.specs.Words.{Form, without_depth, with_depth, rule_number, formula_words}
use Rattle.script.specs.WellFormed.{WellFormed}
use Rattle.script.specs.Rows.{row_of}
use Rattle.script.specs.Listing.{last_word, count_told, form_of, Found, no_line, line, read_expr_within, read_formula_within, spelled_within, found_within, line_before_within, lines_before_within, lines, lines_within, read_list, line_at, line_at_within, part_at, condition_count, condition_count_within, first_place, first_place_within, step_back, step_back_within, next_place, next_place_within}
use Rattle.script.specs.Computed.{numbers, counted_down}
use Rattle.theorems.specs.ReadBack.{tested, written_read}
use Rattle.theorems.specs.Lookup.{count_written, line_at_index, part_at_index, walk_back, walk_back_list, walk_back_malformed}

-- ---- a list of two conditions in each form, and words that are none

-- false for the loop at row 5 (exit), true for the script at row 6 (main)
unfoldable two : List ℤ
two = numbers (17 ∷ 1 ∷ 5 ∷ 1 ∷ 16 ∷ 4 ∷ 6 ∷ 1 ∷ 2 ∷ [])

two_conditions : List Condition
two_conditions = condition Exit 5 0 (truth false) ∷ condition Main 6 0 (truth true) ∷ []

-- the same with depths, 1 for the loop
unfoldable deep : List ℤ
deep = counted_down (17 ∷ 1 ∷ 5 ∷ 1 ∷ 1 ∷ 16 ∷ 4 ∷ 6 ∷ 1 ∷ 0 ∷ []) 2

deep_conditions : List Condition
deep_conditions = condition Exit 5 1 (truth false) ∷ condition Main 6 0 (truth true) ∷ []

-- true for the script at row 6, with this depth
unfoldable pub at_depth : ℕ → List ℤ
at_depth d = counted_down (16 ∷ 4 ∷ 6 ∷ 1 ∷ d ∷ []) 1

-- a count of 1, and no condition
unfoldable torn : List ℤ
torn = numbers (1 ∷ [])

record Facts : Type 0 where
  read : read_list two ≡ some two_conditions
  first : line_at two (pos 0) ≡ record { number = 0; kind = 1; row = 5; depth = 0; start = 0; end = 1 }
  second : line_at two (pos 1) ≡ record { number = 0; kind = 4; row = 6; depth = 0; start = 4; end = 5 }
  past : (line_at two (pos 2)).number ≡ 21
  refused : (line_at torn (pos 0)).number ≡ 20
  first_part : part_at two (pos 0) ≡ pos 17 ∷ []
  second_part : part_at two (pos 1) ≡ pos 16 ∷ []
  counted : condition_count two ≡ 2
  uncounted : condition_count torn ≡ 0
  many : length two_conditions ≡ 2
  claimed : count_told (last_word torn) ≡ 1
  place : first_place two ≡ 8
  last_step : step_back two 8 ≡ record { number = 0; kind = 4; row = 6; depth = 0; start = 4; end = 5 }
  next : next_place two 8 ≡ 4
  first_step : step_back two 4 ≡ record { number = 0; kind = 1; row = 5; depth = 0; start = 0; end = 1 }
  torn_place : first_place torn ≡ 1
  torn_step : (step_back torn 1).number ≡ 20
  two_form : form_of two ≡ without_depth
  deep_form : form_of deep ≡ with_depth
  deep_read : read_list deep ≡ some deep_conditions
  deep_many : length deep_conditions ≡ 2
  deep_first : line_at deep (pos 0) ≡ record { number = 0; kind = 1; row = 5; depth = 1; start = 0; end = 1 }
  deep_place : first_place deep ≡ 10
  deep_step : step_back deep 10 ≡ record { number = 0; kind = 4; row = 6; depth = 0; start = 5; end = 6 }
  deep_next : next_place deep 10 ≡ 5
  too_deep : (line_at (at_depth 8) (pos 0)).number ≡ 20

facts : Facts
unfolding two two_conditions deep deep_conditions at_depth torn numbers counted_down row_of read_expr_within read_formula_within spelled_within found_within line_before_within lines_before_within lines_within read_list line_at_within condition_count_within first_place_within step_back_within next_place_within
facts = record {
  read = refl;
  first = refl;
  second = refl;
  past = refl;
  refused = refl;
  first_part = refl;
  second_part = refl;
  counted = refl;
  uncounted = refl;
  many = refl;
  claimed = refl;
  place = refl;
  last_step = refl;
  next = refl;
  first_step = refl;
  torn_place = refl;
  torn_step = refl;
  two_form = refl;
  deep_form = refl;
  deep_read = refl;
  deep_many = refl;
  deep_first = refl;
  deep_place = refl;
  deep_step = refl;
  deep_next = refl;
  too_deep = refl;
}

two_formed : WellFormed two two_conditions
two_formed = written_read two two_conditions facts.read

deep_formed : WellFormed deep deep_conditions
deep_formed = written_read deep deep_conditions facts.deep_read

-- at every index of every well-formed list
abbrev pub Everywhere : (List ℤ → List Condition → ℕ → Type 0) → Type 0
Everywhere P = (ws : List ℤ) (cs : List Condition) → WellFormed ws cs → (i : ℕ) → i < length cs → P ws cs i

-- of every well-formed list in one form
abbrev pub EverywhereIn : Form → (List ℤ → List Condition → ℕ → Type 0) → Type 0
EverywhereIn form P =
    (ws : List ℤ) (cs : List Condition) → WellFormed ws cs → form_of ws ≡ form → (i : ℕ) → i < length cs → P ws cs i

abbrev kind_of : Line → ℕ
kind_of l = l.kind

-- ---- the line at an index

module _ (l : List ℤ → ℤ → Line) (meets : (ws : List ℤ) (i : ℤ) → l ws i ≡ line_at ws i) where
  kind_first : (l two (pos 0)).kind ≡ 1
  kind_first = ap kind_of (meets two (pos 0) ∙ facts.first)

  kind_second : (l two (pos 1)).kind ≡ 4
  kind_second = ap kind_of (meets two (pos 1) ∙ facts.second)

  at_second : (P : List ℤ → List Condition → ℕ → Type 0) → Everywhere P → P two two_conditions 1
  at_second P h = h two two_conditions two_formed 1 (omega (linear, facts.many))

  pub refuses_all_lines : Everywhere (λ ws cs i. (l ws (pos i)).number ≢ 0) → ⊥
  refuses_all_lines h = at_second _ h (ap (λ (x : Line). x.number) (meets two (pos 1) ∙ facts.second))

  -- "take both forms"
  pub refuses_old_lists : EverywhereIn without_depth (λ ws cs i. (l ws (pos i)).number ≢ 0) → ⊥
  refuses_old_lists h =
      h two two_conditions two_formed facts.two_form 1 (omega (linear, facts.many))
      (ap (λ (x : Line). x.number) (meets two (pos 1) ∙ facts.second))

  pub refuses_new_lists : EverywhereIn with_depth (λ ws cs i. (l ws (pos i)).number ≢ 0) → ⊥
  refuses_new_lists h =
      h deep deep_conditions deep_formed facts.deep_form 0 (omega (linear, facts.deep_many))
      (ap (λ (x : Line). x.number) (meets deep (pos 0) ∙ facts.deep_first))

  pub tells_no_depth : Everywhere (λ ws cs i. (l ws (pos i)).depth ≡ 0) → ⊥
  tells_no_depth h =
      let a = h deep deep_conditions deep_formed 0 (omega (linear, facts.deep_many)) in
      let b : (l deep (pos 0)).depth ≡ 1 = ap (λ (x : Line). x.depth) (meets deep (pos 0) ∙ facts.deep_first) in
      omega linear

  -- "20 when the fourth word is not 0 to 7"
  pub takes_any_depth : ((d : ℕ) → (l (at_depth d) (pos 0)).number ≢ 20) → ⊥
  takes_any_depth h = h 8 (ap (λ (x : Line). x.number) (meets (at_depth 8) (pos 0)) ∙ facts.too_deep)

  pub accepts_all_words : ((ws : List ℤ) (i : ℤ) → (l ws i).number ≢ 20) → ⊥
  accepts_all_words h = h torn (pos 0) (ap (λ (x : Line). x.number) (meets torn (pos 0)) ∙ facts.refused)

  pub accepts_all_indices : ((ws : List ℤ) (i : ℤ) → (l ws i).number ≢ 21) → ⊥
  accepts_all_indices h = h two (pos 2) (ap (λ (x : Line). x.number) (meets two (pos 2)) ∙ facts.past)

  pub one_line_for_all : (x : Line) → Everywhere (λ ws cs i. l ws (pos i) ≡ x) → ⊥
  one_line_for_all x h =
      let a = ap kind_of (h two two_conditions two_formed 0 (omega (linear, facts.many))) in
      let b = ap kind_of (at_second _ h) in
      omega (linear, kind_first, kind_second)

  pub answers_zeros : Everywhere (λ ws cs i. l ws (pos i) ≡ no_line 0) → ⊥
  answers_zeros h = one_line_for_all (no_line 0) h

  pub only_first_found : Everywhere (λ ws cs i. l ws (pos i) ≡ l ws (pos 0)) → ⊥
  only_first_found h = let a = ap kind_of (at_second _ h) in omega (linear, kind_first, kind_second)

  pub only_last_found : Everywhere (λ ws cs i. l ws (pos i) ≡ l ws (pos (length cs - 1))) → ⊥
  unfolding two_conditions
  only_last_found h =
      let a = ap kind_of (h two two_conditions two_formed 0 (omega (linear, facts.many))) in
      omega (linear, kind_first, kind_second)

  -- "invents kind, row or part": at any index of any well-formed list
  module _ (ws : List ℤ) (cs : List Condition) (w : WellFormed ws cs) (i : ℕ) (c : Condition) (q : get_elem? cs i ≡ some c) where
    pub invents_number : (l ws (pos i)).number ≢ 0 → ⊥
    invents_number h = h (ap (λ (x : Line). x.number) (meets ws (pos i) ∙ line_at_index ws cs w i c q))

    pub invents_kind : (l ws (pos i)).kind ≢ rule_number c.rule → ⊥
    invents_kind h = h (ap kind_of (meets ws (pos i) ∙ line_at_index ws cs w i c q))

    pub invents_row : (l ws (pos i)).row ≢ c.row → ⊥
    invents_row h = h (ap (λ (x : Line). x.row) (meets ws (pos i) ∙ line_at_index ws cs w i c q))

    -- "The reader gives it beside the row"
    pub invents_depth : (l ws (pos i)).depth ≢ c.depth → ⊥
    invents_depth h = h (ap (λ (x : Line). x.depth) (meets ws (pos i) ∙ line_at_index ws cs w i c q))

  -- "0 for an old list"
  pub invents_old_depth : EverywhereIn without_depth (λ ws cs i. (l ws (pos i)).depth ≢ 0) → ⊥
  invents_old_depth h =
      h two two_conditions two_formed facts.two_form 1 (omega (linear, facts.many))
      (ap (λ (x : Line). x.depth) (meets two (pos 1) ∙ facts.second))

-- ---- the part

module _ (p : List ℤ → ℤ → List ℤ) (meets : (ws : List ℤ) (i : ℤ) → p ws i ≡ part_at ws i) where
  pub invents_part : (ws : List ℤ) (cs : List Condition) → WellFormed ws cs → (i : ℕ) (c : Condition) → get_elem? cs i ≡ some c
      → p ws (pos i) ≢ formula_words c.claim → ⊥
  invents_part ws cs w i c q h = h (meets ws (pos i) ∙ part_at_index ws cs w i c q)

  pub one_part_for_all : (x : List ℤ) → Everywhere (λ ws cs i. p ws (pos i) ≡ x) → ⊥
  one_part_for_all x h =
      let a = sym facts.first_part ∙ sym (meets two (pos 0)) ∙ h two two_conditions two_formed 0 (omega (linear, facts.many)) in
      let b = sym facts.second_part ∙ sym (meets two (pos 1)) ∙ h two two_conditions two_formed 1 (omega (linear, facts.many)) in
      let z : ◌≡◌ {A = ℕ} 17 16 = cc in
      omega linear

-- ---- the count

module _ (n : List ℤ → ℕ) (meets : (ws : List ℤ) → n ws ≡ condition_count ws) where
  pub counts_none : ((ws : List ℤ) (cs : List Condition) → WellFormed ws cs → n ws ≡ 0) → ⊥
  counts_none h = let a = h two two_conditions two_formed in omega (linear, meets two, facts.counted)

  pub counts_all_words : ((ws : List ℤ) → 0 < n ws) → ⊥
  counts_all_words h = let a = h torn in omega (linear, meets torn, facts.uncounted)

  -- the count that the last word claims, nothing read
  pub counts_unread : ((ws : List ℤ) → n ws ≡ count_told (last_word ws)) → ⊥
  counts_unread h = let a = h torn in omega (linear, meets torn, facts.claimed, facts.uncounted)

  -- words that are too many for a list
  pub counts_too_long : (ws : List ℤ) → 16384 < length ws → 0 < n ws → ⊥
  unfolding condition_count_within
  counts_too_long ws h c = by_lines (lines ws) refl
    where
      by_lines : (o : Option (List Found)) → lines ws ≡ o → ⊥
      by_lines none q = let e : condition_count ws ≡ 0 = rw (q, condition_count_within) in omega (linear, meets ws, e)
      by_lines (some fs) q = let short = (tested ws fs q).short in omega linear

  pub invents_count : (ws : List ℤ) (cs : List Condition) → WellFormed ws cs → n ws ≢ length cs → ⊥
  invents_count ws cs w h = h (meets ws ∙ count_written ws cs w)

-- ---- the reader that walks back: its first place, the answer of a step, the place after it

module _ (g : List ℤ → ℕ) (s : List ℤ → ℕ → Line) (k : List ℤ → ℕ → ℕ) (starts : (ws : List ℤ) → g ws ≡ first_place ws)
    (steps : (ws : List ℤ) (e : ℕ) → s ws e ≡ step_back ws e) (goes : (ws : List ℤ) (e : ℕ) → k ws e ≡ next_place ws e) where
  -- the answers of n steps from a place
  unfoldable pub walks : List ℤ → ℕ → ℕ → List Line
  walks ws zero e = []
  walks ws (suc n) e = s ws e ∷ walks ws n (k ws e)

  as_defined : (ws : List ℤ) (n e : ℕ) → walks ws n e ≡ walk_back ws n e
  unfolding walks walk_back
  as_defined ws zero e = refl
  as_defined ws (suc n) e = rw (steps ws e, goes ws e, as_defined ws n (next_place ws e))

  last_answer : s two (g two) ≡ record { number = 0; kind = 4; row = 6; depth = 0; start = 4; end = 5 }
  last_answer = ap (s two) (starts two ∙ facts.place) ∙ steps two 8 ∙ facts.last_step

  next_is : k two (g two) ≡ 4
  next_is = ap (k two) (starts two ∙ facts.place) ∙ goes two 8 ∙ facts.next

  first_answer : s two (k two (g two)) ≡ record { number = 0; kind = 1; row = 5; depth = 0; start = 0; end = 1 }
  first_answer = ap (s two) next_is ∙ steps two 4 ∙ facts.first_step

  abbrev OfEveryList : (List ℤ → Type 0) → Type 0
  OfEveryList P = (ws : List ℤ) (cs : List Condition) → WellFormed ws cs → P ws

  pub refuses_every_step : OfEveryList (λ ws. (s ws (g ws)).number ≢ 0) → ⊥
  refuses_every_step h = h two two_conditions two_formed (ap (λ (x : Line). x.number) last_answer)

  pub accepts_every_step : ((ws : List ℤ) → (s ws (g ws)).number ≢ 20) → ⊥
  accepts_every_step h =
      h torn (ap (λ (x : Line). x.number) (ap (s torn) (starts torn ∙ facts.torn_place) ∙ steps torn 1) ∙ facts.torn_step)

  pub one_step_for_all : (x : Line) → OfEveryList (λ ws. (s ws (g ws) ≡ x) × (s ws (k ws (g ws)) ≡ x)) → ⊥
  one_step_for_all x h =
      let a = h two two_conditions two_formed in
      let z : ◌≡◌ {A = ℕ} 1 4 = sym (ap kind_of first_answer) ∙ ap kind_of a.1 ∙ sym (ap kind_of a.0) ∙ ap kind_of last_answer in
      omega linear

  -- it steps back over the words of the old form, whatever the form is
  pub steps_as_before : OfEveryList (λ ws. k ws (g ws) + (s ws (g ws)).end + 3 ≡ g ws + (s ws (g ws)).start) → ⊥
  steps_as_before h =
      let a = h deep deep_conditions deep_formed in
      let last : s deep (g deep) ≡ record { number = 0; kind = 4; row = 6; depth = 0; start = 5; end = 6 } =
      ap (s deep) (starts deep ∙ facts.deep_place) ∙ steps deep 10 ∙ facts.deep_step in
      let b : (s deep (g deep)).start ≡ 5 = ap (λ (x : Line). x.start) last in
      let c : (s deep (g deep)).end ≡ 6 = ap (λ (x : Line). x.end) last in
      let d : k deep (g deep) ≡ 5 = ap (k deep) (starts deep ∙ facts.deep_place) ∙ goes deep 10 ∙ facts.deep_next in
      omega (linear, starts deep, facts.deep_place)

  -- only the last one is found: the reader stays, or is at the front at once
  pub stays : OfEveryList (λ ws. k ws (g ws) ≡ g ws) → ⊥
  stays h = let a = h two two_conditions two_formed in omega (linear, next_is, starts two, facts.place)

  pub ends_at_once : OfEveryList (λ ws. k ws (g ws) ≡ 0) → ⊥
  ends_at_once h = let a = h two two_conditions two_formed in omega (linear, next_is)

  -- only the first one is found
  pub starts_at_first : OfEveryList (λ ws. s ws (g ws) ≡ line_at ws (pos 0)) → ⊥
  starts_at_first h =
      let z : ◌≡◌ {A = ℕ} 4 1 = sym (ap kind_of last_answer) ∙ ap kind_of (h two two_conditions two_formed ∙ facts.first) in
      omega linear

  -- whatever it invents: from the last condition to the first, then 21; of words that are no list, 20
  pub invents_answers : (ws : List ℤ) (fs : List Found) (n : ℕ) → lines ws ≡ some fs
      → walks ws (length fs + n) (g ws) ≢ reverse (map line fs) ++ replicate n (no_line 21) → ⊥
  invents_answers ws fs n q h = h (as_defined ws _ (g ws) ∙ ap (walk_back ws _) (starts ws) ∙ walk_back_list ws fs n q)

  pub invents_of_torn : (ws : List ℤ) (n : ℕ) → lines ws ≡ none → walks ws n (g ws) ≢ replicate n (no_line 20) → ⊥
  invents_of_torn ws n q h = h (as_defined ws n (g ws) ∙ ap (walk_back ws n) (starts ws) ∙ walk_back_malformed ws n q)
