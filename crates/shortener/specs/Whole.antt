-- The entry for the pass: what is written for a list (`WrittenShort`), and so what is answered. Assumes nothing.
use Rattle.std.specs.Prelude.{ℕ, ◌≤◌, ◌<◌, ◌≡◌, refl, List, ℤ, pos, length, replicate, Result, Ok, Err}
use Rattle.std.proofs.Common.{sym, ◌∙◌, arith as linear}
use Rattle.std.proofs.Math.Option.{Option, none, some}
use Rattle.std.proofs.lemmas.List.{length-map, length-replicate}
use Rattle.script.specs.Conditions.{Condition}
use Rattle.script.specs.Words.{list_words}
use Rattle.script.specs.Generated.{zeros}
use Rattle.script.specs.Listing.{form_of, Found, lines, read_list, condition_count, condition_count_within}
use Rattle.script.specs.WellFormed.{WellFormed}
use Rattle.theorems.specs.ReadBack.{conditions_of, written_read}
use Rattle.theorems.specs.Lookup.{count_written}
use Rattle.theorems.specs.Writing.{Wrote, wrote_short}
use Rattle.theorems.specs.Clearing.{wrote_cleared}
use Rattle.output.specs.declared.Output.{Output}
use Rattle.shortening.specs.Simplify.{order, shorten_all}
use Rattle.shortening.specs.Shortened.{Written, written}
use Rattle.shortening.specs.Answers.{only_answer, torn, too_short, fits}
use Rattle.shortener.specs.declared.Refusal.{Refusal}
use Rattle.shortener.specs.declared.Refusal.TheVariants.{NoList, NoRoom}
use Rattle.shortener.specs.Planning.{Roomy, Planned}
use Rattle.shortener.specs.Lines.{Ready, AllWritten}

-- the conditions that are read, as the pass wrote them
pub record WrittenShort (ws l : List ℤ) (p : ℕ) (l' : List ℤ) : Type 0 where
  pub conditions : List Condition
  pub well : WellFormed ws conditions
  pub wrote : Wrote l 0 (list_words (form_of ws) (shorten_all order conditions)) p l'

-- ---- the conditions that are counted

pub record Counted (ws : List ℤ) (count : ℕ) : Type 0 where
  pub conditions : List Condition
  pub well : WellFormed ws conditions
  pub many : length conditions ≡ count

pub counted : (ws : List ℤ) (count : ℕ) → count ≡ condition_count ws → 0 < count → Counted ws count
unfolding condition_count_within read_list
counted ws count e h = of_lines (lines ws) refl
  where
    of_lines : (o : Option (List Found)) → lines ws ≡ o → Counted ws count
    of_lines none p = absurd (let z : count ≡ 0 = e ∙ rw (p, condition_count_within) in omega linear)
    of_lines (some fs) p = record {
      conditions = conditions_of fs;
      well = written_read ws (conditions_of fs) (rw (p, read_list));
      many = length-map fs (λ (f : Found). f.condition) ∙ sym (e ∙ rw (p, condition_count_within));
    }

uncounted : (ws : List ℤ) → condition_count ws ≡ 0 → (cs : List Condition) → ¬ WellFormed ws cs
uncounted ws e cs w = absurd (omega (linear, sym (count_written ws cs w) ∙ e, w.counted))

-- ---- what the pass has before it

-- runs of n entries, for a list that is no longer
pub roomy : {ws : List ℤ} {count : ℕ} (n : ℕ) → Counted ws count → length ws ≤ n → Roomy ws (replicate n 0) (replicate n 0) (replicate n 0)
roomy n c h =
    let m = length-replicate {A = ℕ} n 0 in
    record { short = c.well.short; ends = omega (linear, m); shapes = omega (linear, m); changes = omega (linear, m) }

pub ready : {ws : List ℤ} {count : ℕ} {es ss ks : List ℕ} → Counted ws count → Planned ws es ss ks → Ready ws count es ks
ready c p = record {
  conditions = c.conditions;
  listed = record { spells = c.well.spells; counted = c.many };
  short = c.well.short;
  ended = record { room = p.roomy.ends; end = λ at x s. (p.known.right at x (omega linear) s).end };
  told = record { told = λ at x h i s. (p.known.right at x (omega linear) s).change };
  room = p.roomy.changes;
}

pub written_short : {ws : List ℤ} {count : ℕ} {o o' : Output ℤ} → o.at ≡ 0 → Counted ws count → AllWritten ws count o o'
    → WrittenShort ws o.list.now o'.at o'.list.now
written_short first c w = record {
  conditions = c.conditions;
  well = c.well;
  wrote = rw first at ((w c.conditions (record { spells = c.well.spells; counted = c.many })).wrote);
}

-- ---- the answer

abbrev pub refusal_number : Refusal → ℕ
refusal_number NoList = 20
refusal_number NoRoom = 31

-- the number of a refusal, 0 for none, and how many words were used
abbrev pub number_told : Result ℕ Refusal → ℕ
number_told (Ok used) = 0
number_told (Err refusal) = refusal_number refusal

abbrev pub used_told : Result ℕ Refusal → ℕ
used_told (Ok used) = used
used_told (Err refusal) = 0

pub record Answered (w : Written) (r : Result ℕ Refusal) (l : List ℤ) : Type 0 where
  pub number : number_told r ≡ w.number
  pub used : used_told r ≡ w.used
  pub list : l ≡ w.list

as_written : {w v : Written} {r : Result ℕ Refusal} {l : List ℤ} → w ≡ v → Answered v r l → Answered w r l
as_written e a = rw e a

module _ (ws : List ℤ) where
  pub no_list : (room : ℕ) → condition_count ws ≡ 0 → Answered (written order ws room) (Err NoList) (zeros room)
  no_list room e = as_written (only_answer order ws room _ (torn (uncounted ws e) refl)) (record { number = refl; used = refl; list = refl })

  module _ {l l' : List ℤ} {p : ℕ} (clear : l ≡ zeros (length l)) (w : WrittenShort ws l p l') where
    pub no_room : length l < p → Answered (written order ws (length l)) (Err NoRoom) (zeros (length l))
    no_room h =
        as_written (only_answer order ws (length l) _ (too_short w.conditions w.well (wrote_short w.wrote h) refl))
        (record { number = refl; used = refl; list = refl })

    pub fitting : p ≤ length l → Answered (written order ws (length l)) (Ok p) l'
    fitting h =
        let whole = wrote_cleared (pos 0) clear w.wrote h in
        as_written (only_answer order ws (length l) _ (fits w.conditions w.well whole.0 refl))
        (record { number = refl; used = whole.1; list = whole.2 })
