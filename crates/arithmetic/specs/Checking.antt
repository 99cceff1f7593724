-- A whole number where 64 bits hold it; some, computed. Assumes nothing.
use Rattle.std.specs.Prelude.{◌≡◌, refl, cond, ℤ, pos, negsuc, neg_ℤ, ◌+ℤ◌, ◌-ℤ◌, ◌*ℤ◌, ltb, Option, Some, None}
use Rattle.std.specs.Int.Signed.{mag}
use Rattle.script.specs.declared.Operator.TheVariants.{Plus, Minus, Times, Div, Mod}
use Rattle.script.specs.Meaning.{divZ, modZ, whole}

-- z where 64 bits hold it
abbrev pub held : ℤ → Option ℤ
held z = cond (ltb (mag z) 9223372036854775808) (Some z) None

-- ---- computed, at the ends of what 64 bits hold

abbrev least : ℤ
least = negsuc 9223372036854775807

abbrev greatest : ℤ
greatest = pos 9223372036854775807

sums : (held (greatest +ℤ pos 1) ≡ None) × (held (least +ℤ negsuc 0) ≡ None) × (held (least +ℤ greatest) ≡ Some (negsuc 0))
sums = (refl, refl, refl)

differences : (held (greatest -ℤ negsuc 0) ≡ None) × (held (pos 0 -ℤ least) ≡ None) × (held (negsuc 0 -ℤ least) ≡ Some greatest)
differences = (refl, refl, refl)

products : (held (pos 4294967296 *ℤ pos 2147483648) ≡ None) × (held (pos 4294967296 *ℤ negsuc 2147483647) ≡ Some least)
    × (held (least *ℤ negsuc 0) ≡ None) × (held (pos 3037000500 *ℤ pos 3037000500) ≡ None)
products = (refl, refl, refl, refl)

opposites : (held (neg_ℤ least) ≡ None) × (held (neg_ℤ greatest) ≡ Some (negsuc 9223372036854775806))
opposites = (refl, refl)

-- -7 by 2; the least number by 1, by -1 and by 0
quotients : (held (divZ (negsuc 6) (pos 2)) ≡ Some (negsuc 3)) × (held (divZ least (pos 1)) ≡ Some least)
    × (held (divZ least (negsuc 0)) ≡ None) × (held (divZ least (pos 0)) ≡ Some (pos 0))
quotients = (refl, refl, refl, refl)

remainders : (held (modZ least (negsuc 0)) ≡ Some (pos 0)) × (held (modZ least (pos 0)) ≡ Some least) × (held (modZ (negsuc 0) least) ≡ Some greatest)
remainders = (refl, refl, refl)

-- each operator is its own
operators : (held (whole.op Plus (pos 7) (pos 2)) ≡ Some (pos 9)) × (held (whole.op Minus (pos 7) (pos 2)) ≡ Some (pos 5))
    × (held (whole.op Times (pos 7) (pos 2)) ≡ Some (pos 14)) × (held (whole.op Div (pos 7) (pos 2)) ≡ Some (pos 3))
    × (held (whole.op Mod (pos 7) (pos 2)) ≡ Some (pos 1))
operators = (refl, refl, refl, refl, refl)
