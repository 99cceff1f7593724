-- What the parts of the program answer: an input that is no table by its length, and the words that are used of the list.
-- Assumes nothing.
use Rattle.std.specs.Prelude.{ℕ, ◌+◌, ◌*◌, ◌-◌, ◌%◌, ◌≤◌, ◌<◌, ◌≡◌, ◌≢◌, List, [], ◌∷◌, ℤ, pos, length, take, drop}
use Rattle.std.proofs.Common.{arith, sym, ap, ◌∙◌, inr, ne_eqb, eq-eqb, length-append, length-take-le}
use Rattle.std.proofs.lemmas.List.{length-replicate}
use Rattle.std.proofs.lemmas.List.Edits.{sets-eq}
use Rattle.std.proofs.Math.Seq.{take-append_seam}
use Rattle.script.specs.declared.Answer.{Answer}
use Rattle.script.specs.Conditions.{Condition, conditions}
use Rattle.script.specs.Words.{with_depth, list_words}
use Rattle.script.specs.Trees.{tree}
use Rattle.script.specs.Generated.{Outcome, zeros, refusal, refuse, plan, room, outcome}
use Rattle.theorems.specs.Writing.{Wrote, wrote_length, wrote_whole}
use Rattle.theorems.specs.Numbers.{length_refused}
use Rattle.theorems.specs.Outcomes.{outcome_cases}
use Rattle.generator.specs.Outcomes.{outcome_refused}
use Rattle.printer.specs.Input.{words_of}
use Rattle.printer.specs.Text.{answer_text, conditions_in, Listed}
use Rattle.printer.specs.Output.{output, table_output, used_list, used_text}

-- `refused 1 0`
unfoldable pub unread_output : List ℕ
unread_output = answer_text (refusal 1 0) []

-- a refusal's text has no conditions
refused_text : (n r : ℕ) → n ≢ 0 → (cs ds : List Condition) → answer_text (refusal n r) cs ≡ answer_text (refusal n r) ds
unfolding answer_text
refused_text n r h cs ds = rw (ne_eqb n 0 h)

pub unread_wrote : {l l' : List ℕ} {e : ℕ} (cs : List Condition) → Wrote l 0 (answer_text (refusal 1 0) cs) e l' → Wrote l 0 unread_output e l'
unfolding unread_output
unread_wrote cs w = rw (refused_text 1 0 (λ e. omega arith) [] cs) w

-- ---- an input that is no table by its length

pub not_fours : (input : List ℕ) → (length input % 4 ≡ 0 → ⊥) → output input ≡ unread_output
unfolding output unread_output
not_fours input h = rw (ne_eqb (length input % 4) 0 h)

pub fours : (input : List ℕ) → length input % 4 ≡ 0 → output input ≡ table_output (words_of input)
unfolding output
fours input h = rw (eq-eqb (length input % 4) 0 h)

-- four bytes a word
pub words_length : (input : List ℕ) → length input ≤ 4 * length (words_of input) + 3
unfolding words_of
words_length [] = omega arith
words_length (a ∷ []) = omega arith
words_length (a ∷ b ∷ []) = omega arith
words_length (a ∷ b ∷ c ∷ []) = omega arith
words_length (a ∷ b ∷ c ∷ d ∷ bytes) = let h = words_length bytes in omega arith

pub too_long : (input : List ℕ) → length input % 4 ≡ 0 → 32768 < length input → output input ≡ unread_output
unfolding table_output unread_output
too_long input e h =
    let l = words_length input in
    let o = outcome_refused (words_of input) 512 5120 (length_refused (words_of input) (inr (inr (omega arith)))) in
    fours input e ∙ rw o (refused_text 1 0 (λ z. omega arith) (conditions (tree (words_of input))) [])

-- ---- the words that are used of the list

record Fits (list : ℕ) (o : Outcome) : Type 0 where
  pub used_within : o.answer.words ≤ list
  pub whole : length o.list ≡ list

refused_fits : (list scratch n r : ℕ) → n ≢ 0 → Fits list (refuse n r list scratch)
refused_fits list scratch n r h = record { used_within = omega arith; whole = length-replicate list (pos 0) }

plan_fits : (cs : List Condition) (list scratch : ℕ) → length (list_words with_depth cs) ≤ room list → Fits list (plan cs list scratch)
plan_fits cs list scratch h = record {
  used_within = omega arith;
  whole = length-append (list_words with_depth cs) (zeros (list - length (list_words with_depth cs))) ∙ rw length-replicate (omega arith);
}

fits : (t : List ℤ) (list scratch : ℕ) → Fits list (outcome t list scratch)
fits t list scratch =
    outcome_cases (Fits list) t list scratch (refused_fits list scratch) (λ h. plan_fits (conditions (tree t)) list scratch)

module _ (t l : List ℤ) (a : Answer) (e : a ≡ (outcome t 512 5120).answer) (f : l ≡ (outcome t 512 5120).list) where
  pub within : a.words ≤ length l
  within = let w = fits t 512 5120 in rw (e, f) (omega arith)

  list_long : length l ≡ 512
  list_long = ap length f ∙ (fits t 512 5120).whole

  pub front : a.words ≡ length (take a.words l)
  front = sym (length-take-le a.words l within)

  pub ready : (n : ℕ) → 6208 ≤ n → (a.number ≡ 0 → Listed (take a.words l)) × (12 * length (take a.words l) + 64 ≤ n)
  ready n h =
      let w = within in
      let k = front in
      let b = list_long in
      (λ z. rw (e, f) (used_list t 512 5120 (ap (λ (x : Answer). x.number) (sym e) ∙ z)), omega arith)

  pub wrote_table : {o o' : List ℕ} {r : ℕ} → Wrote o 0 (answer_text a (conditions_in (take a.words l))) r o'
      → Wrote o 0 (table_output t) r o'
  unfolding table_output
  wrote_table w = rw (used_text t 512 5120) at (rw (e, f) at w)

-- ---- what was written from the front

module _ {A : Type 0} {l l' ts : List A} {n : ℕ} (w : Wrote l 0 ts n l' × (n ≤ length l)) where
  pub written : take n l' ≡ ts
  written =
      let whole = wrote_whole w.0 w.1 in
      rw (whole.1, whole.2, sets-eq ts l 0 (omega arith)) (take-append_seam ts (drop (0 + length ts) l))

  pub written_within : n ≤ length l'
  written_within = rw (wrote_length w.0) w.1

  pub written_length : n ≡ length (take n l')
  written_length = rw written (wrote_whole w.0 w.1).1
