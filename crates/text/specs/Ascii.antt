-- ASCII text as the bytes that spell it. Assumes nothing.
use Rattle.std.specs.Prelude.{ℕ, List, [], ◌∷◌}
use Prim.Native.Char.{code}
use Prim.Native.String.{String, [] as end, ◌∷◌ as ◌before◌}

abbrev pub bytes : String → List ℕ
bytes end = []
bytes (◌before◌ c s) = code c ∷ bytes s
