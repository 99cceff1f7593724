-- What a function that writes into an output leaves of it (`Written`): the elements that were to be written, and the same lent list.
-- One run after another writes both (`then`). Assumes nothing.
use Rattle.std.specs.Prelude.{◌<◌, ◌≡◌, refl, List, [], ◌++◌, length}
use Rattle.std.proofs.Common.{◌∙◌}
use Rattle.theorems.specs.Writing.{Wrote, wrote_nothing, wrote_length, past_end, wrote_as}
use Rattle.theorems.specs.Writing.{then as Writing·then}
use Rattle.output.specs.declared.Output.{Output}

module _ {A : Type 0} where
  -- the elements ws were to be written into the output o, which is now o'
  pub record Written (o : Output A) (ws : List A) (o' : Output A) : Type 0 where
    pub wrote : Wrote o.list.now o.at ws o'.at o'.list.now
    pub same : o'.list.ghost_name ≡ o.list.ghost_name

  pub nothing_written : (o : Output A) → Written o [] o
  nothing_written o = record { wrote = wrote_nothing o.list.now o.at; same = refl }

  -- begun past the end
  pub no_room : (ws : List A) {o : Output A} → length o.list.now < o.at → Written o ws o
  no_room ws h = record { wrote = past_end ws h; same = refl }

  -- one run after another
  pub then : {o o' o'' : Output A} {ws vs : List A} → Written o ws o' → Written o' vs o'' → Written o (ws ++ vs) o''
  then w v = record { wrote = Writing·then w.wrote v.wrote; same = v.same ∙ w.same }

  -- the same elements, said otherwise
  pub written_as : {o o' : Output A} {ws vs : List A} → ws ≡ vs → Written o ws o' → Written o vs o'
  written_as e w = record { wrote = wrote_as e w.wrote; same = w.same }

  -- whatever writes vs into o has written ws into o₀: vs are what is left of them
  abbrev pub Left : Output A → List A → Output A → List A → Type 0
  Left o₀ ws o vs = (o' : Output A) → Written o vs o' → Written o₀ ws o'

  pub written_length : {o o' : Output A} {ws : List A} → Written o ws o' → length o'.list.now ≡ length o.list.now
  written_length w = wrote_length w.wrote
