-- What the passes make of a row, by the letters that the code's table of kinds has for its three fields (`by_letters`): the rows
-- that it links to, a sum over its parts, its words renewed, and its parts put at their places.
-- Argument: each of the 49 numbers up to 48 computes. Assumes nothing.
use Rattle.std.specs.Prelude.{ℕ, ◌+◌, ◌-◌, ◌<◌, ◌≡◌, cond, List, [], ◌∷◌, eqb, ℤ, pos, set}
use Rattle.std.proofs.Math.Path.{refl}
use Rattle.script.specs.declared.Row.{Row}
use Rattle.script.specs.Laws.{row_is}
use Rattle.script.specs.Rows.{field_number, fields, parts, row, row_of, word}
use Rattle.rows.specs.Patterns.{linking, pattern, patterns, at_kind, ◌also◌}
use Rattle.mending.specs.Copies.{part_sum}
use Rattle.mending.specs.NewTable.{places, renewed}
use Rattle.mending.specs.Reached.{outside, targets}
use Rattle.mending.specs.Filling.{put}

-- a field: its letter, and its word
pub record Field : Type 0 where
  pub letter : ℕ
  pub word : ℤ

-- field i of a row of kind n
abbrev lettered : ℕ → ℕ → ℤ → Field
lettered n i w = record { letter = pattern n i; word = w }

abbrev pub number : Field → ℕ
number f = field_number f.word

-- the rows that fields link to
abbrev pub linked : List Field → List ℕ
linked [] = []
linked (f ∷ fs) = cond (linking f.letter) (number f ∷ linked fs) (linked fs)

-- the sum of what S gives for each of them
abbrev pub sum_by : (ℕ → ℕ) → List Field → ℕ
sum_by S [] = 0
sum_by S (f ∷ fs) = cond (linking f.letter) (S (number f) + sum_by S fs) (sum_by S fs)

-- where the next part starts, after a field; the part of a link takes as many rows as S says
unfoldable pub end_by : (ℕ → ℕ) → ℕ → Field → ℕ
end_by S lo f = cond (linking f.letter) (lo + S (number f)) lo

-- a field's word renewed: a link goes to the last row of its part, a mark is renamed by ρ
unfoldable pub word_by : (ℕ → ℕ) → (ℕ → ℕ) → ℕ → Field → ℤ
word_by ρ S lo f =
    cond (linking f.letter) (pos (lo + S (number f) - 1)) (cond (eqb f.letter 108) (pos (ρ (number f))) f.word)

-- the run of old rows after a field: the row that it links to is put at the last row of its part
unfoldable pub put_by : (ℕ → ℕ) → ℕ → Field → List ℕ → List ℕ
put_by S lo f xs = cond (linking f.letter) (set xs (lo + S (number f) - 1) (number f)) xs

unfoldable pub words_by : (ℕ → ℕ) → (ℕ → ℕ) → ℕ → List Field → List ℤ
words_by ρ S lo [] = []
words_by ρ S lo (f ∷ fs) = word_by ρ S lo f ∷ words_by ρ S (end_by S lo f) fs

unfoldable pub puts_by : (ℕ → ℕ) → ℕ → List Field → List ℕ → List ℕ
puts_by S lo [] xs = xs
puts_by S lo (f ∷ fs) xs = puts_by S (end_by S lo f) fs (put_by S lo f xs)

-- the fields of row r, whose kind is n
module _ (t : List ℤ) (r n : ℕ) where
  abbrev pub field₁ : Field
  field₁ = lettered n 1 (word t r 1)

  abbrev pub field₂ : Field
  field₂ = lettered n 2 (word t r 2)

  abbrev pub field₃ : Field
  field₃ = lettered n 3 (word t r 3)

-- ρ renames marks, S gives sizes, the first part starts at lo, and xs is the run of old rows
module _ (ρ S : ℕ → ℕ) (lo : ℕ) (xs : List ℕ) where
  pub record Shape : Type 0 where
    pub targets : List ℕ
    -- without the body of a loop
    pub outside : List ℕ
    pub sum : ℕ
    pub words : List ℤ
    pub filled : List ℕ

  abbrev of_row : Row → List ℤ → Shape
  of_row w ws = record {
    targets = targets (parts w);
    outside = targets (outside w);
    sum = part_sum S (parts w);
    words = renewed ρ (places S lo (parts w)) 0 (fields w) ws;
    filled = put (places S lo (parts w)) (targets (parts w)) xs;
  }

  -- the fields f, g and h of a row of kind n
  abbrev of_fields : ℕ → Field → Field → Field → Shape
  of_fields n f g h = record {
    targets = linked (f ∷ g ∷ h ∷ []);
    outside = linked (cond (eqb n 36) (f ∷ g ∷ []) (f ∷ g ∷ h ∷ []));
    sum = sum_by S (f ∷ g ∷ h ∷ []);
    words = words_by ρ S lo (f ∷ g ∷ h ∷ []);
    filled = puts_by S lo (f ∷ g ∷ h ∷ []) xs;
  }

  by_number : (n : ℕ) (a b c : ℤ) → n < 49
      → of_row (row_of n a b c) (a ∷ b ∷ c ∷ []) ≡ of_fields n (lettered n 1 a) (lettered n 2 b) (lettered n 3 c)
  unfolding row_of patterns targets outside part_sum renewed places put end_by word_by put_by words_by puts_by
  by_number n a b c = at_kind (λ k. of_row (row_of k a b c) (a ∷ b ∷ c ∷ []) ≡ of_fields k (lettered k 1 a) (lettered k 2 b) (lettered k 3 c))
      (refl also refl also refl also refl also refl also refl also refl also refl also refl also refl
      also refl also refl also refl also refl also refl also refl also refl also refl also refl also refl
      also refl also refl also refl also refl also refl also refl also refl also refl also refl also refl
      also refl also refl also refl also refl also refl also refl also refl also refl also refl also refl
      also refl also refl also refl also refl also refl also refl also refl also refl also refl also tt)
      n

  module _ (t : List ℤ) (r n : ℕ) (k : n ≡ field_number (word t r 0)) (known : n < 49) where
    pub by_letters : of_row (row t r) (word t r 1 ∷ word t r 2 ∷ word t r 3 ∷ []) ≡ of_fields n (field₁ t r n) (field₂ t r n) (field₃ t r n)
    by_letters =
        let is : row_of n (word t r 1) (word t r 2) (word t r 3) ≡ row t r = rw k (row_is t r) in
        rw is at (by_number n (word t r 1) (word t r 2) (word t r 3) known)
