-- The table of kinds as the code holds it, four letters to a kind, and its rule: what 2 to 6 ask of a row is what its letters
-- ask of its fields (`by_kind`). Argument: each of the 49 numbers up to 48 computes; a number above is no kind. Assumes nothing.
use Rattle.std.specs.Prelude.{ℕ, zero, suc, ◌+◌, ◌*◌, ◌<◌, ◌≤◌, ◌≡◌, Bool, true, cond, not, ◌&&◌, List, [], ◌∷◌, T, eqb, ltb, leb, ℤ, pos, negsuc, length, get_or, drop}
use Rattle.std.proofs.Math.Path.{refl}
use Rattle.std.proofs.Common.{sym, ap, subst, ◌∙◌, add-zero, zero-add, add-suc, suc-add, le_of_suc-le-suc, not-suc-le-zero, arith as linear, ne_eqb, leb→le}
use Rattle.std.proofs.Math.Decide.{dec_lt}
use Rattle.script.specs.declared.Row.{Row}
use Rattle.script.specs.declared.Sort.{Sort}
use Rattle.script.specs.declared.Sort.TheVariants.{Expression, Formula, Statement, Note, Script, Unknown}
use Rattle.script.specs.Rows.{Kind, kinds, listed, field_number, fields, parts, row, row_of, rows, sort_of, variables}
use Rattle.theorems.specs.Accepted.{both}
use Rattle.script.specs.Refusals.{adding, all_below, all_new, all_zero, in_range, member, same_sort, well_sorted}

-- ---- the letters: capitals for sorts, and for links to rows of a sort

abbrev pub letter : Sort → ℕ
letter Expression = 69
letter Formula = 70
letter Statement = 83
letter Note = 78
letter Script = 88
letter Unknown = 85

-- the letters of the kinds from 0 to 48; after each sort, what the fields hold: `o` nothing, `c` a constant's value, `v` a
-- variable that is read, `t` one that is assigned to, `l` the row of a mark's loop
unfoldable pub patterns : List ℕ
patterns =
    U ∷ o ∷ o ∷ o ∷ E ∷ c ∷ o ∷ o ∷ E ∷ v ∷ o ∷ o ∷ E ∷ E ∷ E ∷ o ∷ E ∷ E ∷ E ∷ o ∷ E ∷ E ∷ E ∷ o ∷ E ∷ E ∷ E ∷ o
    ∷ E ∷ E ∷ E ∷ o ∷ E ∷ E ∷ o ∷ o ∷ E ∷ l ∷ o ∷ o ∷ E ∷ F ∷ E ∷ E ∷ U ∷ o ∷ o ∷ o ∷ U ∷ o ∷ o ∷ o ∷ U ∷ o ∷ o ∷ o
    ∷ U ∷ o ∷ o ∷ o ∷ U ∷ o ∷ o ∷ o ∷ F ∷ o ∷ o ∷ o ∷ F ∷ o ∷ o ∷ o ∷ F ∷ E ∷ E ∷ o ∷ F ∷ E ∷ E ∷ o ∷ F ∷ E ∷ E ∷ o
    ∷ F ∷ E ∷ E ∷ o ∷ F ∷ F ∷ o ∷ o ∷ F ∷ F ∷ F ∷ o ∷ F ∷ F ∷ F ∷ o ∷ F ∷ F ∷ F ∷ o ∷ U ∷ o ∷ o ∷ o ∷ U ∷ o ∷ o ∷ o
    ∷ U ∷ o ∷ o ∷ o ∷ U ∷ o ∷ o ∷ o ∷ U ∷ o ∷ o ∷ o ∷ U ∷ o ∷ o ∷ o ∷ S ∷ o ∷ o ∷ o ∷ S ∷ t ∷ E ∷ o ∷ S ∷ S ∷ S ∷ o
    ∷ S ∷ F ∷ S ∷ S ∷ S ∷ F ∷ N ∷ S ∷ N ∷ F ∷ E ∷ o ∷ S ∷ F ∷ o ∷ o ∷ U ∷ o ∷ o ∷ o ∷ U ∷ o ∷ o ∷ o ∷ U ∷ o ∷ o ∷ o
    ∷ U ∷ o ∷ o ∷ o ∷ U ∷ o ∷ o ∷ o ∷ U ∷ o ∷ o ∷ o ∷ U ∷ o ∷ o ∷ o ∷ U ∷ o ∷ o ∷ o ∷ U ∷ o ∷ o ∷ o ∷ X ∷ F ∷ S ∷ F ∷ []
  where
    E : ℕ
    E = 69

    F : ℕ
    F = 70

    S : ℕ
    S = 83

    N : ℕ
    N = 78

    X : ℕ
    X = 88

    U : ℕ
    U = 85

    o : ℕ
    o = 95

    c : ℕ
    c = 99

    v : ℕ
    v = 118

    t : ℕ
    t = 116

    l : ℕ
    l = 108

abbrev pub pattern : ℕ → ℕ → ℕ
pattern n i = get_or patterns (4 * n + i) 0

-- ---- what the letter of a field asks of its word

abbrev pub linking : ℕ → Bool
linking x = ltb x 95

abbrev pub sort_for : ℕ → Sort
sort_for x = cond (eqb x 69) Expression (cond (eqb x 70) Formula (cond (eqb x 83) Statement (cond (eqb x 78) Note Unknown)))

-- the letter of a link is that of a sort
abbrev pub proper : ℕ → Bool
proper x = cond (linking x) (eqb (letter (sort_for x)) x) true

pub record Cell : Type 0 where
  pub letter : ℕ
  pub number : ℕ

abbrev pub cell : ℕ → ℕ → Cell
cell x n = record { letter = x; number = n }

abbrev pub cells : ℕ → ℤ → ℤ → ℤ → List Cell
cells n a b c = cell (pattern n 1) (field_number a) ∷ cell (pattern n 2) (field_number b) ∷ cell (pattern n 3) (field_number c) ∷ []

abbrev pub all : (Cell → Bool) → List Cell → Bool
all f [] = true
all f (x ∷ xs) = f x && all f xs

abbrev pub all_none : List ℕ → Bool
all_none [] = true
all_none (n ∷ ns) = eqb n 0 && all_none ns

abbrev pub blank : Cell → Bool
blank x = cond (eqb x.letter 95) (eqb x.number 0) true

-- in a table of n rows
abbrev pub limited : ℕ → Cell → Bool
limited n x =
    cond (linking x.letter) true
    (cond (eqb x.letter 95) true
    (cond (eqb x.letter 99) true
    (cond (eqb x.letter 108) (ltb x.number n) (ltb x.number variables))))

abbrev pub sorted : List ℤ → Cell → Bool
sorted ws x = cond (linking x.letter) (same_sort (sort_of (row ws x.number)) (sort_for x.letter)) true

abbrev pub below : ℕ → Cell → Bool
below r x = cond (linking x.letter) (ltb x.number r) true

abbrev pub new : List ℕ → Cell → Bool
new xs x = cond (linking x.letter) (not (member x.number xs)) true

abbrev pub add : List ℕ → Cell → List ℕ
add xs x = cond (linking x.letter) (x.number ∷ xs) xs

abbrev pub all_fresh : List ℕ → List Cell → Bool
all_fresh xs [] = true
all_fresh xs (x ∷ cs) = new xs x && all_fresh (add xs x) cs

abbrev pub adds : List ℕ → List Cell → List ℕ
adds xs [] = xs
adds xs (x ∷ cs) = adds (add xs x) cs

-- letters tell sorts apart
pub same_letter : (a b : Sort) → eqb (letter a) (letter b) ≡ same_sort a b
same_letter =
    each (λ a. (b : Sort) → eqb (letter a) (letter b) ≡ same_sort a b)
    (each _ refl refl refl refl refl refl)
    (each _ refl refl refl refl refl refl)
    (each _ refl refl refl refl refl refl)
    (each _ refl refl refl refl refl refl)
    (each _ refl refl refl refl refl refl)
    (each _ refl refl refl refl refl refl)
  where
    each : (P : Sort → Type 0) → P Expression → P Formula → P Statement → P Note → P Script → P Unknown → (s : Sort) → P s
    each P e f s n x u Expression = e
    each P e f s n x u Formula = f
    each P e f s n x u Statement = s
    each P e f s n x u Note = n
    each P e f s n x u Script = x
    each P e f s n x u Unknown = u

pub capital : (s : Sort) → (69 ≤ letter s) × (letter s ≤ 88)
capital Expression = (omega linear, omega linear)
capital Formula = (omega linear, omega linear)
capital Statement = (omega linear, omega linear)
capital Note = (omega linear, omega linear)
capital Script = (omega linear, omega linear)
capital Unknown = (omega linear, omega linear)

-- a word is 0 where its number is
pub none_zero : (u : ℕ) (a b c : ℤ)
    → all_none (drop u (field_number a ∷ field_number b ∷ field_number c ∷ [])) ≡ all_zero (drop u (a ∷ b ∷ c ∷ []))
none_zero u a b c = ap all_none (drop_map u (a ∷ b ∷ c ∷ [])) ∙ go (drop u (a ∷ b ∷ c ∷ []))
  where
    numbers : List ℤ → List ℕ
    numbers [] = []
    numbers (z ∷ zs) = field_number z ∷ numbers zs

    drop_map : (u : ℕ) (zs : List ℤ) → drop u (numbers zs) ≡ numbers (drop u zs)
    drop_map zero zs = refl
    drop_map (suc u) [] = refl
    drop_map (suc u) (z ∷ zs) = drop_map u zs

    go : (zs : List ℤ) → all_none (numbers zs) ≡ all_zero zs
    go [] = refl
    go (pos n ∷ zs) = ap (λ (b : Bool). eqb n 0 && b) (go zs)
    go (negsuc n ∷ zs) = refl

-- ---- a fact of each number below 49

abbrev Upto : (ℕ → Type 0) → ℕ → ℕ → Type 0
Upto P zero i = Unit {0}
Upto P (suc k) i = P i × Upto P k (suc i)

from : (P : ℕ → Type 0) (k i : ℕ) → Upto P k i → (j : ℕ) → j < k → P (i + j)
from P zero i h j b = absurd (not-suc-le-zero b)
from P (suc k) i h zero b = subst P (sym (add-zero i)) h.0
from P (suc k) i h (suc j) b = subst P (suc-add i j ∙ sym (add-suc i j)) (from P k (suc i) h.1 j (le_of_suc-le-suc b))

abbrev pub Each : (ℕ → Type 0) → Type 0
Each P = Upto P 49 0

pub at_kind : (P : ℕ → Type 0) → Each P → (n : ℕ) → n < 49 → P n
at_kind P h n b = subst P (zero-add n) (from P 49 0 h n b)

infixr 20 ◌also◌
abbrev pub ◌also◌ : {P Q : Type 0} → P → Q → P × Q
p also q = (p, q)

-- no kind has a number above 48
pub unlisted : (n : ℕ) (a b c : ℤ) → 48 < n → row_of n a b c ≡ Row.Unknown
unfolding row_of
unlisted n a b c h = go (kinds a b c) tt
  where
    low : List Kind → Bool
    low [] = true
    low (k ∷ ks) = leb k.number 48 && low ks

    go : (ks : List Kind) → T (low ks) → listed n ks ≡ Row.Unknown
    go [] g = refl
    go (k ∷ ks) g =
        let b = both (leb k.number 48) (low ks) g in
        let d = leb→le k.number 48 b.0 in
        rw (ne_eqb n k.number (λ e. omega (linear, e))) (go ks b.1)

-- ---- the rule of the table of kinds

module _ (ws : List ℤ) (r : ℕ) (xs : List ℕ) where
  -- what 2 to 6 ask of a row
  pub record Asked : Type 0 where
    pub sort : ℕ
    pub ranges : Bool
    pub blanks : Bool
    pub lower : Bool
    pub sorts : Bool
    pub new : Bool
    pub linked : List ℕ
    pub proper : Bool

  abbrev pub of_row : Row → ℤ → ℤ → ℤ → Asked
  of_row w a b c = record {
    sort = letter (sort_of w);
    ranges = in_range ws (fields w);
    blanks = all_none (drop (length (fields w)) (field_number a ∷ field_number b ∷ field_number c ∷ []));
    lower = all_below ws r (parts w);
    sorts = well_sorted ws (parts w);
    new = all_new ws xs (parts w);
    linked = adding ws (parts w) xs;
    proper = true;
  }

  abbrev pub of_cells : ℕ → List Cell → Asked
  of_cells n cs = record {
    sort = pattern n 0;
    ranges = all (limited (rows ws)) cs;
    blanks = all blank cs;
    lower = all (below r) cs;
    sorts = all (sorted ws) cs;
    new = all_fresh xs cs;
    linked = adds xs cs;
    proper = all (λ x. proper x.letter) cs;
  }

  pub by_kind : (n : ℕ) (a b c : ℤ) → n < 49 → of_row (row_of n a b c) a b c ≡ of_cells n (cells n a b c)
  unfolding row_of patterns
  by_kind n a b c = at_kind (λ k. of_row (row_of k a b c) a b c ≡ of_cells k (cells k a b c))
      (refl also refl also refl also refl also refl also refl also refl also refl also refl also refl
      also refl also refl also refl also refl also refl also refl also refl also refl also refl also refl
      also refl also refl also refl also refl also refl also refl also refl also refl also refl also refl
      also refl also refl also refl also refl also refl also refl also refl also refl also refl also refl
      also refl also refl also refl also refl also refl also refl also refl also refl also refl also tt)
      n

-- ---- what holds of each kind and its number, and of a row that is no kind, holds of the row of a number

pub any_kind : (P : ℕ → Row → Type 0) (a b c : ℤ) → Each (λ k. P k (row_of k a b c)) → ((n : ℕ) → 48 < n → P n Row.Unknown)
    → (n : ℕ) → P n (row_of n a b c)
any_kind P a b c h u n = go (dec_lt n 49)
  where
    go : Dec (n < 49) → P n (row_of n a b c)
    go (yes l) = at_kind (λ k. P k (row_of k a b c)) h n l
    go (no d) = let l : 48 < n = omega linear in rw (unlisted n a b c l) (u n l)
