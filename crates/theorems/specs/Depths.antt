-- 02, P9: "how many loops enclose the named one, 0 for main", of the list that is left for a table. The named row stands inside
-- the bodies of certain loops (`Standing.Stands`); the fourth word is their number (`fourth_word`). They are different loops, since
-- each stands higher than the one inside it (`rises`), and a row stands in one place (`stands_once`), so the number is one.
-- Argument: the walk goes with the loops around what it walks, by induction on the row (`depths_at`). Assumes nothing.
use Rattle.std.specs.Prelude.{ℕ, zero, suc, ◌+◌, ◌-◌, ◌<◌, ◌≡◌, refl, Bool, true, false, cond, ℤ, pos, T, eqb, get_or, take}
use Rattle.std.proofs.Common.{arith as linear, sym, ap, ◌∙◌, subst, inl, inr}
use Rattle.std.proofs.Math.Decide.{ℕ_discrete}
use Rattle.std.proofs.Math.Option.{Option, none, some}
use mathlib.Core.List.{List, [], ◌∷◌, ◌++◌}
use Rattle.std.proofs.Math.ListN.{length, get_elem?}
use Rattle.script.specs.declared.Line.{Line}
use Rattle.script.specs.declared.StatementRow.TheVariants.{Skip, Assign, Sequence, If, While, Assert}
use Rattle.script.specs.declared.Row.{Row}
use Rattle.script.specs.Syntax.{Formula, Stmt}
use Rattle.script.specs.Rows.{Part, parts, row, rows}
use Rattle.script.specs.Trees.{loop_node, stmt_node, script_node, expr_at, formula_at, stmt_at, tree}
use Rattle.script.specs.Refusals.{accepted, all_below, all_new, linked, verdict}
use Rattle.script.specs.Conditions.{Condition, conditions, walk, wp, guard, decreased, divisorsᶠ}
use Rattle.script.specs.Words.{Form, with_depth, formula_words, trailer, all_lines}
use Rattle.script.specs.WellFormed.{WellFormed}
use Rattle.script.specs.Listing.{form_of, line_at}
use Rattle.script.specs.Generated.{outcome}
use Rattle.theorems.specs.Options.{none_is_not, some_inj}
use Rattle.theorems.specs.Truths.{is_true}
use Rattle.theorems.specs.Links.{Link, here, there, Shared, shared_iff}
use Rattle.theorems.specs.Standing.{code_at, inside_at, Stands, script, link}
use Rattle.theorems.specs.Accepted.{Accepted, passed}
use Rattle.theorems.specs.RowTrees.{lower₂, lower₃, stmt_is, tree_is}
use Rattle.theorems.specs.RowPaths.{link_low}
use Rattle.theorems.specs.Induction.{by_lower}
use Rattle.theorems.specs.Line.{word_after}
use Rattle.theorems.specs.ReadBack.{form_written, written_read}
use Rattle.theorems.specs.Lookup.{condition_at, line_at_index, laid_out}
use Rattle.theorems.specs.Demand.{planned_list}

-- ---- a row of an accepted table stands in one place

-- an earlier link is among those before a later one
earlier : {k i : ℕ} {ps : List Part} (j : ℕ) → Link k i ps → i < j → Link k i (take j ps)
earlier zero (here e) h = absurd (omega linear)
earlier zero (there l) h = absurd (omega linear)
earlier (suc j) (here e) h = here e
earlier (suc j) (there l) h = there (earlier j l (omega linear))

module _ (t : List ℤ) (ok : Accepted t) where
  unshared : (r : ℕ) → r < rows t → Shared t r → ⊥
  unshared r h s =
      let no = (shared_iff t r).1 s in
      let yes = is_true (all_new t (linked t r) (parts (row t r))) (ok.unshared r h) in
      let z : ◌≡◌ {A = Bool} false true = sym no ∙ yes in
      absurd (let n : ◌≡◌ {A = ℕ} 0 1 = cc in omega linear)

  -- a link from a higher row is a second one
  not_again : {k i j r s : ℕ} → s < rows t → r < s → Link k i (parts (row t r)) → Link k j (parts (row t s)) → ⊥
  not_again {k} {i} {j} {r} {s} h l a b = unshared s h (record { field = j; to = k; link = b; taken = inr (r, l, (i, a)) })

  -- and so is a later one of the same row
  not_later : {k i j r : ℕ} → r < rows t → i < j → Link k i (parts (row t r)) → Link k j (parts (row t r)) → ⊥
  not_later {k} {i} {j} {r} h l a b = unshared r h (record { field = j; to = k; link = b; taken = inl (i, earlier j a l) })

  linked_once : {k i j r s : ℕ} → r < rows t → s < rows t → Link k i (parts (row t r)) → Link k j (parts (row t s)) → (r ≡ s) × (i ≡ j)
  linked_once {k} {i} {j} {r} {s} g h a b = rows_first (ℕ_discrete r s)
    where
      fields : r ≡ s → Dec (i ≡ j) → (r ≡ s) × (i ≡ j)
      fields e (yes f) = (e, f)
      fields e (no d) =
          let b₁ : Link k j (parts (row t r)) = subst (λ x. Link k j (parts (row t x))) (sym e) b in
          let x : i < j → ⊥ = λ l. not_later g l a b₁ in
          let y : j < i → ⊥ = λ l. not_later g l b₁ a in
          absurd (omega linear)

      rows_first : Dec (r ≡ s) → (r ≡ s) × (i ≡ j)
      rows_first (yes e) = fields e (ℕ_discrete i j)
      rows_first (no d) =
          let x : r < s → ⊥ = λ l. not_again h l a b in
          let y : s < r → ⊥ = λ l. not_again g l b a in
          absurd (omega linear)

  stands_low : {r : ℕ} {code : Bool} {inside : List ℕ} → Stands t r code inside → r < rows t
  stands_low script = let f = ok.filled in omega linear
  stands_low (link {r = r} {i = i} {k = k} S l) =
      let h = stands_low S in
      let d = link_low t r k i (parts (row t r)) l (ok.ordered r h) in
      omega linear

  once : {r s : ℕ} {c d : Bool} {xs ys : List ℕ} → Stands t r c xs → Stands t s d ys → r ≡ s → xs ≡ ys
  once script script e = refl
  once script (link {r = q} {i = i} {k = k} S l) e =
      let h = stands_low S in
      let d = link_low t q k i (parts (row t q)) l (ok.ordered q h) in
      absurd (omega linear)
  once (link {r = q} {i = i} {k = k} S l) script e =
      let h = stands_low S in
      let d = link_low t q k i (parts (row t q)) l (ok.ordered q h) in
      absurd (omega linear)
  once (link {r = q} {i = i} {k = k} S l) (link {r = p} {i = j} {k = m} R n) e =
      let same = linked_once (stands_low S) (stands_low R) l (subst (λ x. Link x j (parts (row t p))) (sym e) n) in
      let outer = once S R same.0 in
      λ z. inside_at (same.0 z) (row t (same.0 z)) (same.1 z) (outer z)

  pub stands_once : {r : ℕ} {c d : Bool} {xs ys : List ℕ} → Stands t r c xs → Stands t r d ys → xs ≡ ys
  stands_once S R = once S R refl

-- ---- the loops around a row rise

abbrev pub Rising : ℕ → List ℕ → Type 0
Rising r [] = Unit {0}
Rising r (m ∷ ms) = (r < m) × Rising m ms

lower_rises : (k r : ℕ) (ms : List ℕ) → k < r → Rising r ms → Rising k ms
lower_rises k r [] l h = tt
lower_rises k r (m ∷ ms) l h = (omega (linear, h.0), h.1)

inside_rises : (k r i : ℕ) (w : Row) (inside : List ℕ) → k < r → Rising r inside → Rising k (inside_at r w i inside)
inside_rises k r i (Row.Expression x) inside l h = lower_rises k r inside l h
inside_rises k r i (Row.Formula x) inside l h = lower_rises k r inside l h
inside_rises k r i (Row.Statement Skip) inside l h = lower_rises k r inside l h
inside_rises k r i (Row.Statement (Assign v e)) inside l h = lower_rises k r inside l h
inside_rises k r i (Row.Statement (Sequence a b)) inside l h = lower_rises k r inside l h
inside_rises k r i (Row.Statement (If b x y)) inside l h = lower_rises k r inside l h
inside_rises k r i (Row.Statement (While b n x)) inside l h = in_body (eqb i 2)
  where
    in_body : (b : Bool) → Rising k (cond b (r ∷ inside) inside)
    in_body true = (l, h)
    in_body false = lower_rises k r inside l h
inside_rises k r i (Row.Statement (Assert f)) inside l h = lower_rises k r inside l h
inside_rises k r i (Row.Note f v) inside l h = lower_rises k r inside l h
inside_rises k r i (Row.Script p s q) inside l h = lower_rises k r inside l h
inside_rises k r i Row.Unknown inside l h = lower_rises k r inside l h

-- ---- the row stands inside the bodies of so many loops

pub record Enclosed (t : List ℤ) (r depth : ℕ) : Type 0 where
  -- the loops, innermost first
  pub loops : List ℕ
  pub stands : Stands t r false loops
  pub many : depth ≡ length loops
  pub rises : Rising r loops
  pub only : {code : Bool} {others : List ℕ} → Stands t r code others → others ≡ loops

module _ (t : List ℤ) (ok : Accepted t) where
  rising : {r : ℕ} {code : Bool} {inside : List ℕ} → Stands t r code inside → Rising r inside
  rising script = tt
  rising (link {r = r} {i = i} {k = k} {inside = inside} S l) =
      inside_rises k r i (row t r) inside (link_low t r k i (parts (row t r)) l (ok.ordered r (stands_low t ok S))) (rising S)

  enclosed : {r : ℕ} {inside : List ℕ} → Stands t r false inside → Enclosed t r (length inside)
  enclosed {inside = inside} S =
      record { loops = inside; stands = S; many = refl; rises = rising S; only = λ R. stands_once t ok R S }

-- ---- the conditions of a walk

abbrev Told : List ℤ → List Condition → Type 0
Told t [] = Unit {0}
Told t (c ∷ cs) = Enclosed t c.row c.depth × Told t cs

told_both : (t : List ℤ) (cs ds : List Condition) → Told t cs → Told t ds → Told t (cs ++ ds)
told_both t [] ds h k = k
told_both t (c ∷ cs) ds h k = (h.0, told_both t cs ds h.1 k)

module _ (t : List ℤ) (ok : Accepted t) where
  told_guard : (r n : ℕ) (i : Formula) (x : Option Formula) → Enclosed t r n → Told t (guard r n i x)
  told_guard r n i none E = tt
  told_guard r n i (some d) E = (E, tt)

  -- a part stands inside what its row does, and the body of a loop inside the loop
  part_stands : {r i k : ℕ} {inside : List ℕ} {w : Row} → row t r ≡ w → Stands t r false inside → Link k i (parts w)
      → Stands t k (code_at w i false) (inside_at r w i inside)
  part_stands {r} {i} {k} {inside} e S l =
      subst (λ w. Link k i (parts w) → Stands t k (code_at w i false) (inside_at r w i inside)) e (λ m. link S m) l

  loop_told : (r : ℕ) (b : Formula) (w : Row) (x : Stmt) (inside : List ℕ) (q : Formula) → Stands t r false inside
      → ((p : Formula) → Told t (walk (suc (length inside)) x p)) → Told t (walk (length inside) (loop_node (expr_at t) (formula_at t) r b w x) q)
  unfolding walk
  loop_told r b (Row.Note f v) x inside q S body =
      let E = enclosed t ok S in
      let n = length inside in
      let i = formula_at t f.0 in
      let inner = decreased r i (expr_at t v.0) in
      told_both t (guard r n i (divisorsᶠ b)) _ (told_guard r n i (divisorsᶠ b) E)
      (E, (E, told_both t (walk (suc n) x inner) _ (body inner) (E, tt)))
  loop_told r b (Row.Expression w) x inside q S body = tt
  loop_told r b (Row.Formula w) x inside q S body = tt
  loop_told r b (Row.Statement w) x inside q S body = tt
  loop_told r b (Row.Script p s z) x inside q S body = tt
  loop_told r b Row.Unknown x inside q S body = tt

  abbrev ToldAt : ℕ → Type 0
  ToldAt r = (inside : List ℕ) (q : Formula) → Stands t r false inside → Told t (walk (length inside) (stmt_at t r) q)

  module _ (r : ℕ) (lower : (k : ℕ) → k < r → ToldAt k) (inside : List ℕ) (S : Stands t r false inside) where
    told_node : (w : Row) (q : Formula) → row t r ≡ w → T (all_below t r (parts w))
        → Told t (walk (length inside) (stmt_node (expr_at t) (formula_at t) (stmt_at t) (row t) r w) q)
    unfolding walk
    told_node (Row.Statement Skip) q e l = tt
    told_node (Row.Statement (Assign v x)) q e l = tt
    told_node (Row.Statement (Sequence a b)) q e l =
        let d = lower₂ a.0 b.0 r l in
        let n = length inside in
        told_both t (walk n (stmt_at t b.0) q) _
        (lower b.0 d.1 inside q (part_stands e S (there (here refl))))
        (lower a.0 d.0 inside (wp (stmt_at t b.0) q) (part_stands e S (here refl)))
    told_node (Row.Statement (If b x y)) q e l =
        let d = lower₃ b.0 x.0 y.0 r l in
        told_both t (walk (length inside) (stmt_at t x.0) q) _
        (lower x.0 d.1.0 inside q (part_stands e S (there (here refl))))
        (lower y.0 d.1.1 inside q (part_stands e S (there (there (here refl)))))
    told_node (Row.Statement (While b i x)) q e l =
        let d = lower₃ b.0 i.0 x.0 r l in
        loop_told r (formula_at t b.0) (row t i.0) (stmt_at t x.0) inside q S
        (λ p. lower x.0 d.1.1 (r ∷ inside) p (part_stands e S (there (there (here refl)))))
    told_node (Row.Statement (Assert f)) q e l = tt
    told_node (Row.Expression w) q e l = tt
    told_node (Row.Formula w) q e l = tt
    told_node (Row.Note i v) q e l = tt
    told_node (Row.Script p s z) q e l = tt
    told_node Row.Unknown q e l = tt

  depths_at : (r : ℕ) → ToldAt r
  depths_at r =
      by_lower ToldAt
      (λ k lower inside q S. let h = stands_low t ok S in
      rw (stmt_is t ok k h refl) (told_node k lower inside S (row t k) q refl (ok.ordered k h)))
      r

  script_told : (w : Row) → row t (rows t - 1) ≡ w → Told t (conditions (script_node (expr_at t) (formula_at t) (stmt_at t) (rows t - 1) w))
  unfolding conditions walk
  script_told (Row.Script p s q) e =
      told_both t (walk 0 (stmt_at t s.0) (formula_at t q.0)) _
      (depths_at s.0 [] (formula_at t q.0) (part_stands e script (there (here refl)))) (enclosed t ok script, tt)
  script_told (Row.Expression w) e = (enclosed t ok script, tt)
  script_told (Row.Formula w) e = (enclosed t ok script, tt)
  script_told (Row.Statement w) e = (enclosed t ok script, tt)
  script_told (Row.Note i v) e = (enclosed t ok script, tt)
  script_told Row.Unknown e = (enclosed t ok script, tt)

pub depths_told : (t : List ℤ) → verdict t ≡ accepted → Told t (conditions (tree t))
depths_told t h = rw (tree_is t refl) (script_told t (passed t h) (row t (rows t - 1)) refl)

told_index : (t : List ℤ) (cs : List Condition) (i : ℕ) {c : Condition} → Told t cs → get_elem? cs i ≡ some c → Enclosed t c.row c.depth
told_index t [] i h q = none_is_not q
told_index t (d ∷ cs) zero h q = subst (λ (x : Condition). Enclosed t x.row x.depth) (some_inj q) h.0
told_index t (d ∷ cs) (suc i) h q = told_index t cs i h.1 q

-- ---- the list that is left

-- of the line at an index: the word after the length is its depth, and its row stands inside the bodies of so many loops
pub record FourthWord (t ws : List ℤ) (l : Line) : Type 0 where
  pub number : l.number ≡ 0
  pub word : get_or ws (l.end + 3) (pos 0) ≡ pos l.depth
  pub right : Enclosed t l.row l.depth

depth_at : (ws : List ℤ) (cs : List Condition) → WellFormed ws cs → (i : ℕ) (c : Condition) → get_elem? cs i ≡ some c
    → form_of ws ≡ with_depth
    → get_or ws (length (all_lines (form_of ws) (take i cs)) + length (formula_words c.claim) + 3) (pos 0) ≡ pos c.depth
depth_at ws cs w i c q f =
    let before = all_lines (form_of ws) (take i cs) in
    let part = formula_words c.claim in
    ap (λ l. get_or l (length before + length part + 3) (pos 0)) (sym (laid_out ws cs w i c q))
    ∙ word_after before part _ 3
    ∙ fourth (form_of ws) f _
  where
    fourth : (form : Form) → form ≡ with_depth → (rest : List ℤ) → get_or (trailer form c ++ rest) 3 (pos 0) ≡ pos c.depth
    fourth form f rest = subst (λ x. get_or (trailer x c ++ rest) 3 (pos 0) ≡ pos c.depth) (sym f) refl

at_index : (t ws : List ℤ) (cs : List Condition) → WellFormed ws cs → (i : ℕ) (c : Condition) → get_elem? cs i ≡ some c
    → form_of ws ≡ with_depth → Enclosed t c.row c.depth → FourthWord t ws (line_at ws (pos i))
at_index t ws cs w i c q f E =
    rw (line_at_index ws cs w i c q) (record { number = refl; word = depth_at ws cs w i c q f; right = E })

pub fourth_word : (t : List ℤ) (list scratch : ℕ) → let o = outcome t list scratch in
    o.answer.number ≡ 0 → (i : ℕ) → i < o.answer.conditions
    → FourthWord t (take o.answer.words o.list) (line_at (take o.answer.words o.list) (pos i))
fourth_word t list scratch e i h =
    let p = planned_list t list scratch e in
    let o = outcome t list scratch in
    let ws = take o.answer.words o.list in
    let cs = conditions (tree t) in
    let w = written_read ws cs p.reads in
    let at = condition_at cs i (rw p.counts at h) in
    let form : form_of ws ≡ with_depth = ap form_of p.words ∙ form_written with_depth cs w.counted in
    at_index t ws cs w i at.0 at.1 form (told_index t cs i (depths_told t p.accepts) at.1)
