-- From a solver's verdicts on what the writer left to runs (`verdicts_to_runs`): if a table is planned, and for every index
-- below the count a text was written whose script has no model (what a solver's `unsat` says, if it is right), then every run
-- from a start that meets the precondition fails no assertion, divides by no zero, ends, meets the postcondition, and begins
-- loops' bodies no more often than their variants say. These verdicts ask no more than demand 3 does: of a list that is read,
-- they stand at every index exactly where every condition is true in all states (`refuted_iff`). The same of a list that was stored
-- in either form of 02, P9 (`verdicts_either`). Assumes nothing.
use Rattle.std.specs.Prelude.{ℕ, zero, suc, ◌≤◌, ◌<◌, ◌≡◌, refl, ◌↔◌, List, [], ◌∷◌, T, ℤ, pos, length, take}
use Rattle.std.proofs.Common.{sym, ap, ◌∙◌, subst, arith as linear, le-ltb}
use Rattle.std.proofs.Math.Option.{some}
use Rattle.std.proofs.lemmas.List.{length-map}
use Rattle.std.proofs.Math.ListN.{get_elem?}
use Rattle.script.specs.Meaning.{State, whole, holds}
use Rattle.script.specs.Run.{TotalCorrectness}
use Rattle.script.specs.Conditions.{Condition, conditions}
use Rattle.script.specs.Words.{Form}
use Rattle.script.specs.Refusals.{accepted, verdict}
use Rattle.script.specs.Trees.{tree}
use Rattle.script.specs.Listing.{Found, lines, read_list}
use Rattle.script.specs.Generated.{outcome}
use Rattle.script.specs.Promise.{Valid, AllValid}
use Rattle.theorems.specs.Options.{none_is_not, some_inj, went_on}
use Rattle.theorems.specs.ReadBack.{conditions_of}
use Rattle.theorems.specs.Lookup.{condition_of}
use Rattle.theorems.specs.Demand.{planned_list}
use Rattle.theorems.specs.EitherForm.{told_in, all_told_in, table_list, reads_either, valid_of, keeps_either}
use Rattle.smt.specs.Smt.{Script, Satisfiable}
use Rattle.smt.specs.Agreement.{no_model_iff}
use Rattle.smt.specs.Translate.{script}
use Rattle.smt.specs.Written.{TextOf, condition_text, written, written_within, written_read}
use Rattle.smt.specs.Verdicts.{AllUnsatisfiable, unsatisfiable_iff, Solved, UnsatisfiableText, unsatisfiable_correct}

-- for the index i, in some room, a text was written, and its script has no model
pub record Refuted (ws : List ℤ) (i : ℕ) : Type 0 where
  pub room : ℕ
  pub fits : (written ws (pos i) room).number ≡ 0
  pub no_model : UnsatisfiableText (take (written ws (pos i) room).used (written ws (pos i) room).buffer)

-- ---- what was written for an index is the text of the condition there

-- the condition at the index, of which the text was written
condition_there : (ws : List ℤ) (cs : List Condition) → read_list ws ≡ some cs → (i room : ℕ) (t : TextOf ws (pos i) (written ws (pos i) room))
    → get_elem? cs i ≡ some t.found.condition
unfolding read_list
condition_there ws cs r i room t =
    let same : conditions_of t.all ≡ cs = some_inj (rw (t.listed, read_list) at r) in
    subst (λ (l : List Condition). get_elem? l i ≡ some t.found.condition) same (condition_of t.all i t.at)

-- ---- so it has no model of its negation

refuted_at : (ws : List ℤ) (cs : List Condition) → read_list ws ≡ some cs → (i : ℕ) (c : Condition) → get_elem? cs i ≡ some c → Refuted ws i
    → ¬ Satisfiable (script c.claim)
refuted_at ws cs r i c q v =
    let t = written_read ws (pos i) v.room v.fits in
    let there : c ≡ t.found.condition = some_inj (sym q ∙ condition_there ws cs r i v.room t) in
    rw there (v.no_model (script t.found.condition.claim) t.read)

by_index : (cs : List Condition) → ((i : ℕ) (c : Condition) → get_elem? cs i ≡ some c → ¬ Satisfiable (script c.claim)) → AllUnsatisfiable cs
by_index [] h = tt
by_index (c ∷ cs) h = (h 0 c refl, by_index cs (λ i d q. h (suc i) d q))

below : (cs : List Condition) (i : ℕ) (c : Condition) → get_elem? cs i ≡ some c → i < length cs
below [] i c q = none_is_not q
below (d ∷ cs) zero c q = omega linear
below (d ∷ cs) (suc i) c q = let l = below cs i c q in omega linear

all_refuted : (ws : List ℤ) (cs : List Condition) → read_list ws ≡ some cs → ((i : ℕ) → i < length cs → Refuted ws i) → AllUnsatisfiable cs
all_refuted ws cs r h = by_index cs (λ i c q. refuted_at ws cs r i c q (h i (below cs i c q)))

-- ---- and the other way round: a condition that is true in all states is refuted, in a room of its text's length

valid_at : (cs : List Condition) (i : ℕ) {c : Condition} → AllValid whole cs → get_elem? cs i ≡ some c → Valid whole c.claim
valid_at [] i h q = none_is_not q
valid_at (d ∷ cs) zero h q = subst (λ (c : Condition). Valid whole c.claim) (some_inj q) h.0
valid_at (d ∷ cs) (suc i) h q = valid_at cs i h.1 q

found_at_index : (fs : List Found) (i : ℕ) → i < length (conditions_of fs) → (f : Found) × (get_elem? fs i ≡ some f)
found_at_index [] i h = absurd (omega linear)
found_at_index (f ∷ fs) zero h = (f, refl)
found_at_index (f ∷ fs) (suc i) h = found_at_index fs i (omega linear)

-- a room of its length holds the text of what was found
holds_text : (ws : List ℤ) (fs : List Found) (i : ℕ) (f : Found) → lines ws ≡ some fs → get_elem? fs i ≡ some f
    → (written ws (pos i) (length (condition_text f))).number ≡ 0
unfolding written_within
holds_text ws fs i f p q = let n = length (condition_text f) in rw (p, q, le-ltb n n (omega linear))

some_room : (ws : List ℤ) (cs : List Condition) → read_list ws ≡ some cs → (i : ℕ) → i < length cs
    → (room : ℕ) × ((written ws (pos i) room).number ≡ 0)
unfolding read_list
some_room ws cs r i l =
    let fs = went_on (lines ws) _ r in
    let f = found_at_index fs.0 i (subst (λ (ds : List Condition). i < length ds) (sym (some_inj fs.2)) l) in
    (length (condition_text f.0), holds_text ws fs.0 i f.0 fs.1 f.1)

valid_refuted : (ws : List ℤ) (cs : List Condition) → read_list ws ≡ some cs → AllValid whole cs → (i : ℕ) → i < length cs → Refuted ws i
valid_refuted ws cs r valid i l =
    let n = some_room ws cs r i l in
    let t = written_read ws (pos i) n.0 n.1 in
    let no_model = (no_model_iff t.found.condition.claim).1 (valid_at cs i valid (condition_there ws cs r i n.0 t)) in
    record {
      room = n.0;
      fits = n.1;
      no_model = λ ss e. subst (λ (s : Script). ¬ Satisfiable s) (some_inj (sym t.read ∙ e)) no_model;
    }

pub refuted_iff : (ws : List ℤ) (cs : List Condition) → read_list ws ≡ some cs
    → ((i : ℕ) → i < length cs → Refuted ws i) ↔ AllValid whole cs
refuted_iff ws cs r = (λ h. (unsatisfiable_iff cs).0 (all_refuted ws cs r h), valid_refuted ws cs r)

-- ---- from verdicts to runs; the answer counts the conditions of the list

pub verdicts_to_runs : (table : List ℤ) (list scratch : ℕ) → let o = outcome table list scratch in
    o.answer.number ≡ 0
    → ((i : ℕ) → i < o.answer.conditions → Refuted (take o.answer.words o.list) i)
    → (s : State) → T (holds whole s (tree table).pre) → TotalCorrectness whole (tree table) s
unfolding Solved
verdicts_to_runs table list scratch e refuted =
    unsatisfiable_correct table list scratch e λ cs r.
    let p = planned_list table list scratch e in
    let count : length cs ≡ (outcome table list scratch).answer.conditions =
    ap length (some_inj (sym r ∙ p.reads)) ∙ sym p.counts in
    all_refuted _ cs r (λ i l. refuted i (subst (λ n. i < n) count l))

-- of the list of a table's conditions in either form
pub verdicts_either : (form : Form) (table : List ℤ) → verdict table ≡ accepted → length (table_list form table) ≤ 16384
    → ((i : ℕ) → i < length (conditions (tree table)) → Refuted (table_list form table) i)
    → (s : State) → T (holds whole s (tree table).pre) → TotalCorrectness whole (tree table) s
verdicts_either form table h short refuted =
    let cs = conditions (tree table) in
    let ws = table_list form table in
    let r = reads_either form table h short in
    let all = (refuted_iff ws (all_told_in form cs) r).0 (λ i l. refuted i (subst (λ n. i < n) (length-map cs (told_in form)) l)) in
    keeps_either whole form table h short ((valid_of whole ws (all_told_in form cs) r).1 all)
