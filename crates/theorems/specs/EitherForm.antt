-- 02, P9: the conditions of a table as a list in either form (`table_list`): in the form of 01 it is the list that the generator gave
-- before P9 (`former_list`, stated again), in the other the one that it gives now. Both are well-formed and read as these conditions (`reads_either`), both
-- are true in all states or neither is (`valid_either`), and by either runs keep demand 3's promise (`keeps_either`). "Every trailer
-- gains a fourth word": the new one has as many words more as there are conditions (`one_word_more`), so of the generator's numbers
-- only that of a plan that had room for the old list and has none for the new one moves, to 12 (`answers_move`). Assumes nothing.
use Rattle.std.specs.Prelude.{ℕ, suc, ◌+◌, ◌≤◌, ◌<◌, ◌≡◌, refl, ◌↔◌, ◌⊎◌, Bool, true, false, cond, List, [], ◌∷◌, ◌++◌, map, T, ltb, ℤ, pos, length}
use Rattle.std.proofs.Common.{arith as linear, sym, ap, ap₂, ◌∙◌, subst, inl, inr, length-append, ltb-true, ltb-false}
use Rattle.std.proofs.Math.Logic.Iff
use Rattle.std.proofs.Math.Option.{Option, none, some}
use Rattle.std.proofs.lemmas.List.{map-append, length-map}
use Rattle.script.specs.declared.Answer.{Answer}
use Rattle.script.specs.Meaning.{Arithmetic, State, holds}
use Rattle.script.specs.Run.{TotalCorrectness}
use Rattle.script.specs.declared.Rule.{Rule}
use Rattle.script.specs.declared.Rule.TheVariants.{Exit, Floor, Step, Main, Guard}
use Rattle.script.specs.declared.Connective.TheVariants.{Implies}
use Rattle.script.specs.Syntax.{Formula, join, Stmt, skip, assign, seq, branch, loop, assert, Tree}
use Rattle.script.specs.Conditions.{Condition, condition, divisorsᶠ, wp, decreased, exit, floor, step, guard, walk, conditions}
use Rattle.script.specs.Trees.{tree}
use Rattle.script.specs.Words.{Form, without_depth, with_depth, rule_number, trailer, formula_words, line_words, all_lines, count_word, list_words}
use Rattle.script.specs.WellFormed.{AllInRange, DepthInRange, WellFormed}
use Rattle.script.specs.Listing.{depth_limit, read_list}
use Rattle.script.specs.Refusals.{Verdict, accepted, refused, verdict}
use Rattle.script.specs.Generated.{Outcome, refusal, refuse, plan, room, scratch_need, outcome_for, outcome, outcome_within}
use Rattle.script.specs.Promise.{AllValid, ListValid}
use Rattle.theorems.specs.Options.{some_inj}
use Rattle.theorems.specs.InRange.{in_range_conditions}
use Rattle.theorems.specs.Scoped.{scoped}
use Rattle.theorems.specs.Sound.{sound}
use Rattle.theorems.specs.ReadBack.{form_written, read_written}
use Rattle.theorems.specs.Demand.{some_conditions}

-- ---- what a list in this form tells of conditions: "0 for an old list"

abbrev pub told_in : Form → Condition → Condition
told_in without_depth c = condition c.rule c.row 0 c.claim
told_in with_depth c = c

abbrev pub all_told_in : Form → List Condition → List Condition
all_told_in form cs = map (told_in form) cs

line_told : (form : Form) (c : Condition) → line_words form (told_in form c) ≡ line_words form c
unfolding line_words
line_told without_depth c = refl
line_told with_depth c = refl

lines_told : (form : Form) (cs : List Condition) → all_lines form (all_told_in form cs) ≡ all_lines form cs
unfolding all_lines
lines_told form [] = refl
lines_told form (c ∷ cs) = ap₂ ◌++◌ (line_told form c) (lines_told form cs)

list_told : (form : Form) (cs : List Condition) → list_words form (all_told_in form cs) ≡ list_words form cs
unfolding list_words
list_told form cs = rw (lines_told form cs, length-map cs (told_in form))

-- ---- the list of a table's conditions

abbrev pub table_list : Form → List ℤ → List ℤ
table_list form t = list_words form (conditions (tree t))

depth_fits : (form : Form) (c : Condition) → c.depth < depth_limit → DepthInRange form (told_in form c).depth
depth_fits without_depth c h = refl
depth_fits with_depth c h = h

same_row : (form : Form) (c : Condition) → ((told_in form c).row ≡ c.row) × ((told_in form c).claim ≡ c.claim)
same_row without_depth c = (refl, refl)
same_row with_depth c = (refl, refl)

in_range_told : (form : Form) (cs : List Condition) → AllInRange with_depth cs → AllInRange form (all_told_in form cs)
in_range_told form [] h = tt
in_range_told form (c ∷ cs) h =
    let same = same_row form c in
    ((rw same.0 h.0.0, depth_fits form c h.0.1), rw same.1 h.1, in_range_told form cs h.2)

-- it is well-formed, and read as the conditions that it tells
pub well_formed_either : (form : Form) (t : List ℤ) → verdict t ≡ accepted → length (table_list form t) ≤ 16384
    → WellFormed (table_list form t) (all_told_in form (conditions (tree t)))
well_formed_either form t h short =
    let cs = conditions (tree t) in
    let told = form_written form cs (some_conditions (tree t)) in
    record {
      spells = ap (λ f. list_words f (all_told_in form cs)) told ∙ list_told form cs;
      short = short;
      counted = rw (length-map cs (told_in form)) (some_conditions (tree t));
      ranges = subst (λ f. AllInRange f (all_told_in form cs)) (sym told) (in_range_told form cs (in_range_conditions t h));
    }

pub reads_either : (form : Form) (t : List ℤ) → verdict t ≡ accepted → length (table_list form t) ≤ 16384
    → read_list (table_list form t) ≡ some (all_told_in form (conditions (tree t)))
reads_either form t h short = read_written _ _ (well_formed_either form t h short)

-- ---- validity, and runs

-- what is read from the words is one list of conditions
pub valid_of : (𝔸 : Arithmetic) (ws : List ℤ) (cs : List Condition) → read_list ws ≡ some cs → ListValid 𝔸 ws ↔ AllValid 𝔸 cs
valid_of 𝔸 ws cs e = (λ h. h cs e, λ h ds q. subst (AllValid 𝔸) (some_inj (sym e ∙ q)) h)

valid_told : (𝔸 : Arithmetic) (form : Form) (cs : List Condition) → AllValid 𝔸 (all_told_in form cs) ↔ AllValid 𝔸 cs
valid_told 𝔸 form cs = (out cs, back cs)
  where
    out : (cs : List Condition) → AllValid 𝔸 (all_told_in form cs) → AllValid 𝔸 cs
    out [] h = tt
    out (c ∷ cs) h = (rw (same_row form c).1 at h.0, out cs h.1)

    back : (cs : List Condition) → AllValid 𝔸 cs → AllValid 𝔸 (all_told_in form cs)
    back [] h = tt
    back (c ∷ cs) h = (rw (same_row form c).1 h.0, back cs h.1)

pub conditions_valid : (𝔸 : Arithmetic) (form : Form) (t : List ℤ) → verdict t ≡ accepted → length (table_list form t) ≤ 16384
    → ListValid 𝔸 (table_list form t) ↔ AllValid 𝔸 (conditions (tree t))
conditions_valid 𝔸 form t h short =
    Iff.trans (valid_of 𝔸 (table_list form t) _ (reads_either form t h short)) (valid_told 𝔸 form (conditions (tree t)))

pub valid_either : (𝔸 : Arithmetic) (f g : Form) (t : List ℤ) → verdict t ≡ accepted → length (table_list f t) ≤ 16384
    → length (table_list g t) ≤ 16384 → ListValid 𝔸 (table_list f t) ↔ ListValid 𝔸 (table_list g t)
valid_either 𝔸 f g t h a b =
    let x = conditions_valid 𝔸 f t h a in
    let y = conditions_valid 𝔸 g t h b in
    (λ v. y.1 (x.0 v), λ v. x.1 (y.0 v))

pub keeps_either : (𝔸 : Arithmetic) (form : Form) (t : List ℤ) → verdict t ≡ accepted → length (table_list form t) ≤ 16384
    → ListValid 𝔸 (table_list form t) → (s : State) → T (holds 𝔸 s (tree t).pre) → TotalCorrectness 𝔸 (tree t) s
keeps_either 𝔸 form t h short valid = sound 𝔸 (tree t) (scoped t h) ((conditions_valid 𝔸 form t h short).0 valid)

-- ---- "Every trailer gains a fourth word"

line_longer : (c : Condition) → length (line_words with_depth c) ≡ suc (length (line_words without_depth c))
unfolding line_words
line_longer c =
    let part = formula_words c.claim in
    omega (linear, length-append part (trailer with_depth c), length-append part (trailer without_depth c))

lines_longer : (cs : List Condition) → length (all_lines with_depth cs) ≡ length (all_lines without_depth cs) + length cs
unfolding all_lines
lines_longer [] = refl
lines_longer (c ∷ cs) =
    let a = length-append (line_words with_depth c) (all_lines with_depth cs) in
    let b = length-append (line_words without_depth c) (all_lines without_depth cs) in
    omega (linear, a, b, line_longer c, lines_longer cs)

pub one_word_more : (cs : List Condition) → length (list_words with_depth cs) ≡ length (list_words without_depth cs) + length cs
unfolding list_words
one_word_more cs =
    let a = length-append (all_lines with_depth cs) (count_word with_depth (length cs) ∷ []) in
    let b = length-append (all_lines without_depth cs) (count_word without_depth (length cs) ∷ []) in
    omega (linear, a, b, lines_longer cs)

-- ---- which answers of the generator move

-- the answer for conditions to be listed in this form, by the tests for 11 and 12
abbrev by_tests : Form → List Condition → Bool → Bool → Answer
by_tests form cs a b =
    cond a (refusal 11 0) (cond b (refusal 12 0) (record { number = 0; row = 0; conditions = length cs; words = length (list_words form cs) }))

abbrev pub answer_in : Form → ℕ → List Condition → ℕ → ℕ → Answer
answer_in form need cs list scratch = by_tests form cs (ltb scratch need) (ltb (room list) (length (list_words form cs)))

abbrev pub table_answer : Form → List ℤ → ℕ → ℕ → Answer
table_answer form t list scratch =
    elim (verdict t) [ refused n r ↦ refusal n r | accepted ↦ answer_in form (scratch_need t) (conditions (tree t)) list scratch ]

abbrev answered : Outcome → Answer
answered o = o.answer

-- with lists in the new form it is the generator's
pub answer_now : (t : List ℤ) (list scratch : ℕ) → table_answer with_depth t list scratch ≡ (outcome t list scratch).answer
unfolding outcome_within outcome_for
answer_now t list scratch = by_verdict (verdict t)
  where
    tested : (a b : Bool) (cs : List Condition) → by_tests with_depth cs a b
        ≡ (cond a (refuse 11 0 list scratch) (cond b (refuse 12 0 list scratch) (plan cs list scratch))).answer
    tested true b cs = refl
    tested false true cs = refl
    tested false false cs = refl

    by_verdict : (v : Verdict)
        → elim v [ refused n r ↦ refusal n r | accepted ↦ answer_in with_depth (scratch_need t) (conditions (tree t)) list scratch ]
        ≡ answered (elim v [ refused n r ↦ refuse n r list scratch | accepted ↦ outcome_for (scratch_need t) (conditions (tree t)) list scratch ])
    by_verdict (refused n r) = refl
    by_verdict accepted =
        let cs = conditions (tree t) in
        tested (ltb scratch (scratch_need t)) (ltb (room list) (length (list_words with_depth cs))) cs

-- the same but for the words of the longer list; or a plan that has no room now
abbrev pub Moved : ℕ → Answer → Answer → Type 0
Moved list old new =
    ((new.number ≡ old.number) × (new.row ≡ old.row) × (new.conditions ≡ old.conditions) × (new.words ≡ old.words + old.conditions))
    ⊎ ((old.number ≡ 0) × (new ≡ refusal 12 0) × (room list < old.words + old.conditions))

module _ (t : List ℤ) (list scratch : ℕ) where
  abbrev cs : List Condition
  cs = conditions (tree t)

  tests_move : (a b c : Bool) → ltb (room list) (length (list_words without_depth cs)) ≡ b → ltb (room list) (length (list_words with_depth cs)) ≡ c
      → Moved list (by_tests without_depth cs a b) (by_tests with_depth cs a c)
  tests_move true b c p q = inl (refl, refl, refl, refl)
  tests_move false true true p q = inl (refl, refl, refl, refl)
  tests_move false true false p q =
      let l = ltb-true (room list) _ p in
      let m = ltb-false (room list) _ q in
      absurd (omega (linear, one_word_more cs))
  tests_move false false true p q =
      let m = ltb-true (room list) _ q in
      inr (refl, refl, omega (linear, one_word_more cs))
  tests_move false false false p q = inl (refl, refl, refl, one_word_more cs)

  verdict_moves : (v : Verdict) → Moved list
      (elim v [ refused n r ↦ refusal n r | accepted ↦ answer_in without_depth (scratch_need t) cs list scratch ])
      (elim v [ refused n r ↦ refusal n r | accepted ↦ answer_in with_depth (scratch_need t) cs list scratch ])
  verdict_moves (refused n r) = inl (refl, refl, refl, refl)
  verdict_moves accepted = tests_move (ltb scratch (scratch_need t)) _ _ refl refl

  pub answers_move : Moved list (table_answer without_depth t list scratch) (outcome t list scratch).answer
  answers_move = subst (Moved list (table_answer without_depth t list scratch)) (answer_now t list scratch) (verdict_moves (verdict t))

-- ---- the list from before P9

-- a condition without its depth, and 01's walk and list of such
pub record Former : Type 0 where
  pub rule : Rule
  pub row : ℕ
  pub claim : Formula

abbrev former : Rule → ℕ → Formula → Former
former k r f = record { rule = k; row = r; claim = f }

abbrev former_guard : ℕ → Formula → Option Formula → List Former
former_guard m i none = []
former_guard m i (some d) = former Guard m (join Implies i d) ∷ []

unfoldable pub former_walk : Stmt → Formula → List Former
former_walk skip q = []
former_walk (assign v e) q = []
former_walk (seq a b) q = former_walk b q ++ former_walk a (wp b q)
former_walk (branch b x y) q = former_walk x q ++ former_walk y q
former_walk (loop m b i v x) q =
    former_guard m i (divisorsᶠ b)
    ++ (former Exit m (exit b i q) ∷ former Floor m (floor b i v)
    ∷ (former_walk x (decreased m i v) ++ (former Step m (step m b i v x) ∷ [])))
former_walk (assert a) q = []

unfoldable pub former_conditions : Tree → List Former
former_conditions t =
    former_walk t.body t.post
    ++ (former Main t.row (join Implies t.pre (wp t.body t.post)) ∷ [])

unfoldable pub former_lines : List Former → List ℤ
former_lines [] = []
former_lines (c ∷ cs) =
    (formula_words c.claim ++ (pos (rule_number c.rule) ∷ pos c.row ∷ pos (length (formula_words c.claim)) ∷ []))
    ++ former_lines cs

unfoldable pub former_list : List ℤ → List ℤ
former_list t = former_lines (former_conditions (tree t)) ++ (pos (length (former_conditions (tree t))) ∷ [])

abbrev forget : Condition → Former
forget c = former c.rule c.row c.claim

forget_guard : (m depth : ℕ) (i : Formula) (x : Option Formula) → map forget (guard m depth i x) ≡ former_guard m i x
forget_guard m depth i none = refl
forget_guard m depth i (some d) = refl

forget_walk : (depth : ℕ) (x : Stmt) (q : Formula) → map forget (walk depth x q) ≡ former_walk x q
unfolding walk former_walk
forget_walk depth skip q = refl
forget_walk depth (assign v e) q = refl
forget_walk depth (seq a b) q =
    map-append forget (walk depth b q) (walk depth a (wp b q)) ∙ ap₂ ◌++◌ (forget_walk depth b q) (forget_walk depth a (wp b q))
forget_walk depth (branch b x y) q =
    map-append forget (walk depth x q) (walk depth y q) ∙ ap₂ ◌++◌ (forget_walk depth x q) (forget_walk depth y q)
forget_walk depth (loop m b i v x) q =
    let inner = decreased m i v in
    map-append forget (guard m depth i (divisorsᶠ b)) _
    ∙ ap₂ ◌++◌ (forget_guard m depth i (divisorsᶠ b))
    (ap (λ l. former Exit m (exit b i q) ∷ former Floor m (floor b i v) ∷ l)
    (map-append forget (walk (suc depth) x inner) _
    ∙ ap (λ l. l ++ (former Step m (step m b i v x) ∷ [])) (forget_walk (suc depth) x inner)))
forget_walk depth (assert a) q = refl

forget_all : (t : Tree) → map forget (conditions t) ≡ former_conditions t
unfolding conditions former_conditions
forget_all t =
    map-append forget (walk 0 t.body t.post) _
    ∙ ap (λ l. l ++ (former Main t.row (join Implies t.pre (wp t.body t.post)) ∷ [])) (forget_walk 0 t.body t.post)

forget_lines : (cs : List Condition) → former_lines (map forget cs) ≡ all_lines without_depth cs
unfolding former_lines all_lines line_words
forget_lines [] = refl
forget_lines (c ∷ cs) = ap (λ l. (formula_words c.claim ++ trailer without_depth c) ++ l) (forget_lines cs)

pub former_same : (t : List ℤ) → former_list t ≡ table_list without_depth t
unfolding former_list list_words
former_same t =
    let cs = conditions (tree t) in
    let all = forget_all (tree t) in
    ap₂ (λ ls n. ls ++ (pos n ∷ [])) (ap former_lines (sym all) ∙ forget_lines cs) (ap length (sym all) ∙ length-map cs forget)
