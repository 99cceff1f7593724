-- Runs in place in a list: one after another is both at once. Assumes nothing.
use Rattle.std.specs.Prelude.{ℕ, suc, ◌+◌, ◌≡◌, List, [], ◌∷◌, ◌++◌, length, set}
use Rattle.std.proofs.Common.{add-zero, add-suc, suc-add}
use Rattle.std.proofs.lemmas.List.Edits.{sets}

pub sets_append : {A : Type 0} (l : List A) (i : ℕ) (ts us : List A) → sets (sets l i ts) (i + length ts) us ≡ sets l i (ts ++ us)
sets_append l i [] us = rw add-zero
sets_append l i (t ∷ ts) us = rw (add-suc, ← suc-add) (sets_append (set l i t) (suc i) ts us)
