-- The line of a trailer: what the tests of a trailer say, and that the line found is told by them. Assumes nothing.
use Prim.Native.Nat.{ℕ, suc, ◌-◌, ◌≤◌}
use native.Mathlib.Omega.{arith as linear}
use mathlib.Core.Path.{◌≡◌, refl, sym, ap, ◌∙◌}
use mathlib.Core.Option.{Option, none, some}
use mathlib.Core.List.{List}
use mathlib.Core.Bool.{Bool, true, false, ◌&&◌}
use lib.IntN.{ℤ}
use lib.Seq.{slice}
use Rattle.std.specs.Prelude.{Some, None}
use Rattle.script.specs.declared.Rule.{Rule}
use Rattle.script.specs.declared.Line.{Line}
use Rattle.script.specs.Syntax.{Formula}
use Rattle.script.specs.Conditions.{condition}
use Rattle.script.specs.Words.{rule_number}
use Rattle.script.specs.Rows.{field_number}
use Rattle.script.specs.Listing.{◌>>=◌, Found, spelled, rule_of, below, row_limit, depth_limit, found_within, no_line}
use Rattle.list_reader.specs.declared.lines.Trailer.{Trailer}
use Rattle.list_reader.specs.Lines.{is_some, is_line, found_by, answer, start_found, trailer_line}
use Rattle.list_reader.proofs.Tests.{rule_is, below_is, below_most}

-- what is found of a trailer after a formula that ends at e
abbrev pub line_found : ℕ → Rule → ℕ → ℕ → ℕ → Formula → Found
line_found e rule row size depth claim = record { condition = condition rule row depth claim; start = e - size; end = e }

-- the line with the trailer t after a formula that ends at e, where its tests hold
abbrev pub told : ℕ → Trailer → Bool → Line
told e t true = trailer_line e t
told e t false = no_line 20

module _ (ws : List ℤ) (e : ℕ) (t : Trailer) where
  assembled : (o : Option Rule) (p q d : Option ℕ) (s : ℕ → Option Formula) → ((x : Rule) → o ≡ some x → rule_number x ≡ field_number t.kind)
      → ((x : ℕ) → p ≡ some x → x ≡ field_number t.row) → ((x : ℕ) → q ≡ some x → x ≡ field_number t.size)
      → ((x : ℕ) → d ≡ some x → x ≡ field_number t.depth)
      → answer (o >>= λ rule. p >>= λ row. q >>= λ size. d >>= λ depth. s size >>= λ claim. some (line_found e rule row size depth claim))
      ≡ told e t (is_some o && (is_some p && (is_some q && (is_some d && is_some (s (field_number t.size))))))
  assembled none p q d s f g h i = refl
  assembled (some x) none q d s f g h i = refl
  assembled (some x) (some y) none d s f g h i = refl
  assembled (some x) (some y) (some z) none s f g h i = refl
  assembled (some x) (some y) (some z) (some v) s f g h i = rw (h z refl) (go (s (field_number t.size)))
    where
      go : (o : Option Formula) → answer (o >>= λ claim. some (line_found e x y (field_number t.size) v claim)) ≡ told e t (is_some o)
      go none = refl
      go (some c) = rw (f x refl, g y refl, i v refl)

  pub found_answer : answer (found_by ws e t) ≡ told e t (is_line ws e t)
  unfolding found_within is_line
  found_answer =
      assembled (rule_of (field_number t.kind)) (below row_limit t.row) (below (suc e) t.size) (below depth_limit t.depth)
      (λ size. spelled (slice (e - size) e ws))
      (rule_is (field_number t.kind))
      (below_is row_limit t.row)
      (below_is (suc e) t.size)
      (below_is depth_limit t.depth)

  pub start_missing : is_line ws e t ≡ false → None ≡ start_found (found_by ws e t)
  start_missing h = go (found_by ws e t) (found_answer ∙ ap (told e t) h)
    where
      go : (o : Option Found) → answer o ≡ no_line 20 → None ≡ start_found o
      go none q = refl
      go (some f) q = absurd (omega (linear, ap (λ (l : Line). l.number) q))

third : (a b c d : Bool) → a && (b && (c && d)) ≡ true → c ≡ true
third true true true d q = refl
third true true false d q = q
third true false c d q = let z : ◌≡◌ {A = ℕ} 0 1 = cc in absurd (omega linear)
third false b c d q = let z : ◌≡◌ {A = ℕ} 0 1 = cc in absurd (omega linear)

module _ (ws : List ℤ) (e : ℕ) (t : Trailer) (h : is_line ws e t ≡ true) where
  pub start_stands : {n : ℕ} → n ≡ field_number t.size → Some (e - n) ≡ start_found (found_by ws e t)
  start_stands s = rw s (go (found_by ws e t) (found_answer ws e t ∙ ap (told e t) h))
    where
      go : (o : Option Found) → answer o ≡ trailer_line e t → Some (e - field_number t.size) ≡ start_found o
      go none q = absurd (omega (linear, ap (λ (l : Line). l.number) q))
      go (some f) q = ap (λ n. Some n) (sym (ap (λ (l : Line). l.start) q))

  pub size_fits : {n : ℕ} → n ≡ field_number t.size → n ≤ e
  unfolding is_line
  size_fits q =
      let rest = is_some (below depth_limit t.depth) && is_some (spelled (slice (e - field_number t.size) e ws)) in
      let fits = third (is_some (rule_of (field_number t.kind))) (is_some (below row_limit t.row)) (is_some (below (suc e) t.size)) rest h in
      omega (linear, below_most (suc e) t.size fits)

-- ---- the tests, in the order of the code

module _ (ws : List ℤ) (e : ℕ) (t : Trailer) where
  module _ (rule : is_some (rule_of (field_number t.kind)) ≡ true) where
    module _ (row : is_some (below row_limit t.row) ≡ true) where
      module _ (size : is_some (below (suc e) t.size) ≡ true) where
        pub formula_decides : is_some (below depth_limit t.depth) ≡ true → {b : Bool}
            → b ≡ is_some (spelled (slice (e - field_number t.size) e ws)) → b ≡ is_line ws e t
        unfolding is_line
        formula_decides h q = rw (rule, row, size, h) q

        pub depth_decides : is_some (below depth_limit t.depth) ≡ false → false ≡ is_line ws e t
        unfolding is_line
        depth_decides h = rw (rule, row, size, h)

      pub size_decides : is_some (below (suc e) t.size) ≡ false → false ≡ is_line ws e t
      unfolding is_line
      size_decides h = rw (rule, row, h)

    pub row_decides : is_some (below row_limit t.row) ≡ false → false ≡ is_line ws e t
    unfolding is_line
    row_decides h = rw (rule, h)

  pub rule_decides : is_some (rule_of (field_number t.kind)) ≡ false → false ≡ is_line ws e t
  unfolding is_line
  rule_decides h = rw h
