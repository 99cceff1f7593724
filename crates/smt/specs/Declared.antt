-- The names that a script declares are exactly those that occur in its assertion (`declared_iff`), each once
-- (`declared_once`), variables before marks, each in rising number (`declared_in_order`). A name tells its letter and its
-- number, so two references never have the same name (`name_tells`). Assumes nothing.
use Rattle.std.specs.Prelude.{ℕ, ◌<◌, ◌≡◌, refl, ◌↔◌, Bool, true, false, cond}
use Rattle.std.proofs.Common.{sym, ap, ◌∙◌, arith as linear}
use mathlib.Core.List.Memᴰ
use mathlib.Core.List.{List, [], ◌∷◌, ◌++◌, map, append-nil, Memᴰ}
use Rattle.script.specs.Syntax.{Expr, const, var, arith, neg, choose, Formula, truth, cmp, join}
use Rattle.script.specs.Syntax as Syntax
use Rattle.script.specs.Rows.{variables}
use Rattle.script.specs.Refusals.{frozen}
use Rattle.script.specs.Listing.{row_limit}
use Rattle.script.specs.WellFormed.{InRangeWithin, InRangeᶠ, InRangeᶠWithin}
use Rattle.smt.specs.Smt.{Symbol, assert, check_sat, Script, declared, claim_symbols}
use Rattle.text.specs.Decimal.{decimal, decimal_tells}
use Rattle.smt.specs.Translate.{Reference, variable, mark, name, assertion, expr_references, references, occurring, declared_references, declarations, script, script_within}
use Rattle.smt.specs.Symbols.{NamedIn, either, claim_within, claim_named}
use Rattle.smt.specs.Once.{Once, Rising, once_append, in_map, map_in, once_map, rising_once}
use Rattle.smt.specs.Occurring.{refers_in, in_refers, occurring_in, in_occurring, occurring_rising}

-- ---- the references of a condition are in range

module _ (limit : ℕ) where
  abbrev pub RangedWithin : Reference → Type 0
  RangedWithin (variable v) = v < limit
  RangedWithin (mark m) = m < row_limit

  abbrev pub AllRangedWithin : List Reference → Type 0
  AllRangedWithin rs = (r : Reference) → Memᴰ r rs → RangedWithin r

  ranged_append : (rs qs : List Reference) → AllRangedWithin rs → AllRangedWithin qs → AllRangedWithin (rs ++ qs)
  ranged_append rs qs f g r m = either (Memᴰ.append_cases rs m) (f r) (g r)

  ranged_one : (r : Reference) → RangedWithin r → AllRangedWithin (r ∷ [])
  ranged_one r h q m = rw (Memᴰ.eq_of_singleton m) h

  mutual
    unfolding references

    expr_ranged : (e : Expr) → InRangeWithin limit e → AllRangedWithin (expr_references e)
    expr_ranged (const z) h = λ r m. absurd (Memᴰ.not-nil m)
    expr_ranged (var v) h = ranged_one (variable v) h
    expr_ranged (Syntax.mark m) h = ranged_one (mark m) h
    expr_ranged (arith o a b) h = ranged_append (expr_references a) (expr_references b) (expr_ranged a h.0) (expr_ranged b h.1)
    expr_ranged (neg a) h = expr_ranged a h
    expr_ranged (choose f a b) h =
        ranged_append (references f) (expr_references a ++ expr_references b) (ranged_within f h.0)
        (ranged_append (expr_references a) (expr_references b) (expr_ranged a h.1) (expr_ranged b h.2))

    pub ranged_within : (f : Formula) → InRangeᶠWithin limit f → AllRangedWithin (references f)
    ranged_within (truth b) h = λ r m. absurd (Memᴰ.not-nil m)
    ranged_within (cmp r a b) h = ranged_append (expr_references a) (expr_references b) (expr_ranged a h.0) (expr_ranged b h.1)
    ranged_within (Syntax.not f) h = ranged_within f h
    ranged_within (join c f g) h = ranged_append (references f) (references g) (ranged_within f h.0) (ranged_within g h.1)

abbrev pub Ranged : Reference → Type 0
Ranged = RangedWithin variables

abbrev pub AllRanged : List Reference → Type 0
AllRanged = AllRangedWithin variables

pub ranged : (f : Formula) → InRangeᶠ f → AllRanged (references f)
ranged = ranged_within variables

-- ---- the declared references are those that occur

module _ (rs : List Reference) where
  abbrev vs : List ℕ
  vs = occurring variable variables rs

  abbrev ms : List ℕ
  ms = occurring mark row_limit rs

  declared_occurs : (r : Reference) → Memᴰ r (declared_references rs) → Memᴰ r rs
  declared_occurs r m =
      either (Memᴰ.append_cases (map variable vs) m)
      (λ l. let v = map_in variable vs r l in
      Memᴰ.cast v.2 (refers_in (variable v.0) rs (occurring_in variable rs variables v.0 v.1).1))
      (λ l. let k = map_in mark ms r l in
      Memᴰ.cast k.2 (refers_in (mark k.0) rs (occurring_in mark rs row_limit k.0 k.1).1))

  occurs_declared : (r : Reference) → Ranged r → Memᴰ r rs → Memᴰ r (declared_references rs)
  occurs_declared (variable v) h m =
      Memᴰ.append_left (map mark ms) (in_map variable vs v (in_occurring variable rs variables v h (in_refers (variable v) rs m)))
  occurs_declared (mark k) h m =
      Memᴰ.append_right (map variable vs) (in_map mark ms k (in_occurring mark rs row_limit k h (in_refers (mark k) rs m)))

  references_once : Once (declared_references rs)
  references_once =
      once_append (map variable vs) (map mark ms)
      (once_map variable (λ x y e. cc) vs (rising_once vs (occurring_rising variable rs variables)))
      (once_map mark (λ x y e. cc) ms (rising_once ms (occurring_rising mark rs row_limit)))
      (λ r l m. let v = map_in variable vs r l in let k = map_in mark ms r m in apart v.0 k.0 (sym v.2 ∙ k.2))
    where
      apart : (v k : ℕ) → ¬ (variable v ≡ mark k)
      apart v k e = let z : ◌≡◌ {A = ℕ} 0 1 = cc in omega linear

-- ---- names

other_letter : (b : Bool) (ds es : List ℕ) → ¬ (cond b 102 118 ∷ ds ≡ 109 ∷ es)
other_letter true ds es e = let z : ◌≡◌ {A = ℕ} 102 109 = cc in omega linear
other_letter false ds es e = let z : ◌≡◌ {A = ℕ} 118 109 = cc in omega linear

pub name_tells : (r q : Reference) → name r ≡ name q → r ≡ q
name_tells (variable v) (variable w) e = ap variable (decimal_tells v w (cc))
name_tells (variable v) (mark m) e = absurd (other_letter (frozen v) (decimal v) (decimal m) e)
name_tells (mark m) (variable v) e = absurd (other_letter (frozen v) (decimal v) (decimal m) (sym e))
name_tells (mark m) (mark n) e = ap mark (decimal_tells m n (cc))

-- ---- the script

declared_after : (rs : List Reference) (cs : Script) → declared (declarations rs ++ cs) ≡ map name rs ++ declared cs
declared_after [] cs = refl
declared_after (r ∷ rs) cs = ap (λ (l : List Symbol). name r ∷ l) (declared_after rs cs)

declared_are : (f : Formula) → declared (script f) ≡ map name (declared_references (references f))
unfolding script_within
declared_are f = declared_after (declared_references (references f)) (assert (assertion f) ∷ check_sat ∷ []) ∙ append-nil _

-- "for each variable, then each mark, that occurs, in rising number"
pub record InOrder (ws : List Symbol) : Type 0 where
  pub variable_numbers : List ℕ
  pub mark_numbers : List ℕ
  pub variables_rise : Rising variable_numbers
  pub marks_rise : Rising mark_numbers
  pub are : ws ≡ map name (map variable variable_numbers ++ map mark mark_numbers)

pub declared_in_order : (f : Formula) → InOrder (declared (script f))
declared_in_order f =
    let rs = references f in
    record {
      variable_numbers = occurring variable variables rs;
      mark_numbers = occurring mark row_limit rs;
      variables_rise = occurring_rising variable rs variables;
      marks_rise = occurring_rising mark rs row_limit;
      are = declared_are f;
    }

pub declared_once : (f : Formula) → Once (declared (script f))
declared_once f = rw (declared_are f) (once_map name name_tells (declared_references (references f)) (references_once (references f)))

pub declared_iff : (f : Formula) → InRangeᶠ f → (w : Symbol)
    → Memᴰ w (claim_symbols (assertion f)) ↔ Memᴰ w (declared (script f))
unfolding claim_symbols
declared_iff f h w =
    let rs = references f in
    let ds = declared_references rs in
    let named : NamedIn rs (map name ds) = record { each = λ r m. in_map name ds r (occurs_declared rs r (ranged f h r m) m) } in (
      λ m. rw (declared_are f) ((claim_within f named).each w m),
      λ m. let r = map_in name ds w (rw (declared_are f) at m) in
          Memᴰ.cast r.2 ((claim_named f).each r.0 (declared_occurs rs r.0 r.1)),
    )
