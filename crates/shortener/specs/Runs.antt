-- The code's shapes, changes and entries by the numbers of `Codes`, and a run of entries as three runs of numbers. Assumes nothing.
use Rattle.std.specs.Prelude.{ℕ, List, map}
use Rattle.shortener.specs.declared.rules.Shape.{Shape}
use Rattle.shortener.specs.declared.rules.Shape.TheVariants as S
use Rattle.shortener.specs.declared.rules.Change.{Change}
use Rattle.shortener.specs.declared.rules.Change.TheVariants as C
use Rattle.shortener.specs.declared.plan.Entry.{Entry}
use Rattle.shortener.specs.Codes.{Coded}

abbrev pub shape_told : Shape → ℕ
shape_told S.Zero = 0
shape_told S.One = 1
shape_told S.True = 2
shape_told S.False = 3
shape_told S.Other = 4

abbrev pub change_told : Change → ℕ
change_told C.Kept = 0
change_told C.KeptWithNumber = 1
change_told C.First = 2
change_told C.Second = 3
change_told C.NegatedSecond = 4
change_told C.True = 5
change_told C.False = 6
change_told C.Passed = 7

abbrev pub coded : Entry → Coded
coded e = record { end = e.end; shape = shape_told e.shape; change = change_told e.change }

abbrev pub ends : List Entry → List ℕ
ends es = map (λ (e : Entry). e.end) es

abbrev pub shapes : List Entry → List ℕ
shapes es = map (λ (e : Entry). shape_told e.shape) es

abbrev pub changes : List Entry → List ℕ
changes es = map (λ (e : Entry). change_told e.change) es

-- an entry of which nothing is known
abbrev pub blank : Entry
blank = record { end = 0; shape = S.Zero; change = C.Kept }
