-- A list of tests that all hold: of its parts and of two together (`all_parts`, `all_join`), and as one test
-- (`all_true`, `true_all`). Assumes nothing.
use Rattle.std.specs.Prelude.{◌≡◌, refl, List, [], ◌∷◌, ◌++◌, Bool, true}
use Rattle.grammar.specs.Ranges.{All, all_of}
use Rattle.grammar.specs.Tests.{both}

pub all_parts : (us vs : List Bool) → All (us ++ vs) → All us × All vs
all_parts [] vs h = (tt, h)
all_parts (u ∷ us) vs h = let s = all_parts us vs h.1 in ((h.0, s.0), s.1)

pub all_join : (us vs : List Bool) → All us → All vs → All (us ++ vs)
all_join [] vs h k = k
all_join (u ∷ us) vs h k = (h.0, all_join us vs h.1 k)

pub all_true : (bs : List Bool) → all_of bs ≡ true → All bs
all_true [] h = tt
all_true (b ∷ bs) h = let t = both b (all_of bs) h in (t.0, all_true bs t.1)

pub true_all : (bs : List Bool) → All bs → all_of bs ≡ true
true_all [] h = refl
true_all (b ∷ bs) h = rw h.0 (true_all bs h.1)
