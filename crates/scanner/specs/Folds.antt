-- A number made of bytes by a step for each, kept up to a top at each: so for decimal digits, and for a word's bytes. Assumes nothing.
use Rattle.std.specs.Prelude.{ℕ, ◌+◌, ◌*◌, ◌-◌, min, ◌≡◌, refl, List, [], ◌∷◌}
use Rattle.std.proofs.Common.{arith}
use Rattle.grammar.specs.Scanning.{decimal}
use Rattle.grammar.specs.Numbers.{most}
use Rattle.scanner.specs.Words.{packed, longest}

-- the number n with bytes after it, by a step for each byte; what is past the top stays there
pub record Folds (fold : ℕ → List ℕ → ℕ) (step : ℕ → ℕ → ℕ) (top : ℕ) : Type 0 where
  pub none : (n : ℕ) → fold n [] ≡ n
  pub more : (n b : ℕ) (bs : List ℕ) → fold n (b ∷ bs) ≡ fold (step n b) bs
  pub capped : (n : ℕ) (bs : List ℕ) → min (fold (min n top) bs) top ≡ min (fold n bs) top

-- what is past the top is so after each step
decimal_capped : (n m : ℕ) (ds : List ℕ) → min n most ≡ min m most
    → min (decimal n ds) most ≡ min (decimal m ds) most
decimal_capped n m [] h = h
decimal_capped n m (d ∷ ds) h = decimal_capped (10 * n + (d - 48)) (10 * m + (d - 48)) ds (omega arith)

packed_capped : (n m : ℕ) (bs : List ℕ) → min n longest ≡ min m longest
    → min (packed n bs) longest ≡ min (packed m bs) longest
packed_capped n m [] h = h
packed_capped n m (b ∷ bs) h = packed_capped (256 * n + b) (256 * m + b) bs (omega arith)

pub decimal_folds : Folds decimal (λ n d. 10 * n + (d - 48)) most
decimal_folds = record {
  none = λ n. refl;
  more = λ n b bs. refl;
  capped = λ n bs. decimal_capped (min n most) n bs (omega arith);
}

pub packed_folds : Folds packed (λ n b. 256 * n + b) longest
packed_folds = record {
  none = λ n. refl;
  more = λ n b bs. refl;
  capped = λ n bs. packed_capped (min n longest) n bs (omega arith);
}
