-- Demand 3 and the solvers' verdicts, through the shortened list. The words that the pass leaves are valid exactly where
-- the old list is (`list_valid_iff`), so demand 3 holds with them in the old list's place: of any answer that keeps it
-- (`through`), of what the generator leaves (`generated_through`), and for any arithmetic with the laws that the rules
-- use (`keeps_through`). From verdicts: where no script of P1 for the shortened list has a model (`solved_through`), and
-- where for every index below the count a text was written for the shortened list whose script has none
-- (`verdicts_through`); that is so exactly where the shortened list is true in all states (`verdicts_iff`). An output of
-- as many words as the generator's answer tells is long enough for all this (`long_enough`). Assumes nothing.
use Rattle.std.specs.Prelude.{ℕ, ◌≤◌, ◌<◌, ◌≡◌, ◌↔◌, List, ℤ, T, length, take}
use Rattle.std.proofs.Common.{sym, ap, ◌∙◌, subst, arith as linear, length-take}
use Rattle.script.specs.declared.Answer.{Answer}
use Rattle.script.specs.Meaning.{State, Arithmetic, whole, holds}
use Rattle.script.specs.Run.{TotalCorrectness}
use Rattle.script.specs.Conditions.{conditions}
use Rattle.script.specs.Trees.{tree}
use Rattle.script.specs.Generated.{Outcome, outcome}
use Rattle.script.specs.Promise.{ListValid, Demand3}
use Rattle.theorems.specs.Options.{some_inj}
use Rattle.theorems.specs.ReadBack.{read_written, written_read}
use Rattle.theorems.specs.Demand.{keeps, planned_list}
use Rattle.theorems.specs.EitherForm.{valid_of}
use Rattle.smt.specs.Verdicts.{ListUnsatisfiable, unsatisfiable_iff}
use Rattle.smt.specs.Refutations.{Refuted, refuted_iff}
use Rattle.shortening.specs.Simplify.{Order, shorten_all}
use Rattle.shortening.specs.Laws.{Lawful, All, whole_law}
use Rattle.shortening.specs.Shortened.{Written, written, used_words}
use Rattle.shortening.specs.Lists.{count_same, all_valid_iff}
use Rattle.shortening.specs.Answers.{room_enough, new_list}

module _ (o : Order) where
  -- the new list is true in all states exactly where the old one is
  pub list_valid_iff : (𝔸 : Arithmetic) → Lawful 𝔸 All → (ws : List ℤ) (room : ℕ) → let r = written o ws room in
      r.number ≡ 0 → ListValid 𝔸 (used_words r) ↔ ListValid 𝔸 ws
  list_valid_iff 𝔸 law ws room z =
      let n = new_list o ws room z in
      let new = valid_of 𝔸 (used_words (written o ws room)) (shorten_all o n.before) n.read_again in
      let old = valid_of 𝔸 ws n.before (read_written ws n.before n.listed) in
      let same = all_valid_iff o 𝔸 law n.before in
      (λ h. old.1 (same.0 (new.0 h)), λ h. new.1 (same.1 (old.0 h)))

  -- ---- demand 3

  -- of an answer and the list left with it, as the generator's contract has them
  pub through : (table : List ℤ) (answer : Answer) (list : List ℤ) (room : ℕ) → Demand3 table answer list
      → answer.number ≡ 0 → let r = written o (take answer.words list) room in
      r.number ≡ 0 → ListValid whole (used_words r)
      → (s : State) → T (holds whole s (tree table).pre) → TotalCorrectness whole (tree table) s
  unfolding Demand3
  through table answer list room d e z v = d e ((list_valid_iff whole whole_law (take answer.words list) room z).0 v)

  module _ (table : List ℤ) (list scratch room : ℕ) where
    -- what the generator leaves
    abbrev left : Outcome
    left = outcome table list scratch

    abbrev old_words : List ℤ
    old_words = take left.answer.words left.list

    -- the words that the pass over it leaves
    abbrev new_words : List ℤ
    new_words = used_words (written o old_words room)

    abbrev Promised : Arithmetic → Type 0
    Promised 𝔸 = (s : State) → T (holds 𝔸 s (tree table).pre) → TotalCorrectness 𝔸 (tree table) s

    -- an output of as many words as the generator's answer tells is long enough
    pub long_enough : left.answer.number ≡ 0 → left.answer.words ≤ room → (written o old_words room).number ≡ 0
    long_enough planned h =
        let w = written_read old_words (conditions (tree table)) (planned_list table list scratch planned).reads in
        let short : length old_words ≤ room = omega (linear, length-take left.answer.words left.list) in
        ap (λ (r : Written). r.number) (room_enough o old_words room (conditions (tree table)) w short)

    -- the generator planned the table, and the output was long enough
    module _ (planned : left.answer.number ≡ 0) (fits : (written o old_words room).number ≡ 0) where
      -- for any arithmetic, in which the conditions are true and the script runs
      pub keeps_through : (𝔸 : Arithmetic) → Lawful 𝔸 All → ListValid 𝔸 new_words → Promised 𝔸
      keeps_through 𝔸 law v = keeps table list scratch 𝔸 planned ((list_valid_iff 𝔸 law old_words room fits).0 v)

      pub generated_through : ListValid whole new_words → Promised whole
      generated_through = keeps_through whole whole_law

      -- ---- from verdicts to runs

      -- the script of no condition of the shortened list has a model
      pub solved_through : ListUnsatisfiable new_words → Promised whole
      solved_through h = generated_through (λ cs r. (unsatisfiable_iff cs).0 (h cs r))

      -- as many conditions as the generator's answer tells
      counted : length (shorten_all o (new_list o old_words room fits).before) ≡ left.answer.conditions
      counted =
          let p = planned_list table list scratch planned in
          let n = new_list o old_words room fits in
          let same = some_inj (sym (read_written old_words n.before n.listed) ∙ p.reads) in
          count_same o n.before ∙ ap length same ∙ sym p.counts

      pub verdicts_iff : ((i : ℕ) → i < left.answer.conditions → Refuted new_words i) ↔ ListValid whole new_words
      verdicts_iff =
          let n = new_list o old_words room fits in
          let all = refuted_iff new_words (shorten_all o n.before) n.read_again in
          let valid = valid_of whole new_words (shorten_all o n.before) n.read_again in (
            λ h. valid.1 (all.0 (λ i l. h i (subst (λ c. i < c) counted l))),
            λ v i l. all.1 (valid.0 v) i (subst (λ c. i < c) (sym counted) l),
          )

      -- for each index below the count a text was written for the shortened list, and its script has no model
      pub verdicts_through : ((i : ℕ) → i < left.answer.conditions → Refuted new_words i) → Promised whole
      verdicts_through h = generated_through (verdicts_iff.0 h)
