-- One field of a new row, written (`FieldWritten`), where there is room for it (`FieldRoom`). S gives the sizes that the array has,
-- ρ the latest copies. Assumes nothing.
use Rattle.std.specs.Prelude.{ℕ, zero, suc, ◌+◌, ◌-◌, ◌≤◌, ◌<◌, ◌≡◌, refl, ◌≢◌, List, [], ◌∷◌, map, ℤ, pos, length, set}
use Rattle.std.proofs.Common.{ap, subst}
use borrow.Author.Tests.{eq-eqb, ne_eqb, le-ltb, lt-ltb}
use Rattle.std.proofs.Math.ListN.{get_or, length-set}
use Rattle.mender.specs.Letters.{Field, number, end_by, word_by, put_by}

abbrev pub at_of : List ℕ → ℕ → ℕ
at_of s j = get_or s j 0

abbrev pub field : ℕ → ℤ → Field
field x w = record { letter = x; word = w }

pub record LinkedRoom (s : List ℕ) (lo : ℕ) (n room : ℕ) : Type 0 where
  pub inside : n < 2048
  pub some : 0 < get_or s n 0
  pub held : lo + get_or s n 0 ≤ room
  pub small : lo + get_or s n 0 ≤ 2048

pub record FieldRoom (s l : List ℕ) (lo : ℕ) (f : Field) (to table_room origins_room : ℕ) : Type 0 where
  pub held : to < table_room
  pub linked : f.letter < 95 → LinkedRoom s lo (number f) origins_room
  pub marked : f.letter ≡ 108 → (number f < 2048) × (get_or l (number f) 0 < 2048)

pub record FieldWritten (s l : List ℕ) (lo : ℕ) (f : Field) (to : ℕ) (new os : List ℤ) (end : ℕ) (new' os' : List ℤ)
    : Type 0 where
  pub ends : end ≡ end_by (at_of s) lo f
  pub words : new' ≡ set new to (word_by (at_of l) (at_of s) lo f)
  pub put : (xs : List ℕ) → os ≡ map pos xs → os' ≡ map pos (put_by (at_of s) lo f xs)
  pub table_long : length new' ≡ length new
  pub origins_long : length os' ≡ length os

pub set_map : (xs : List ℕ) (i n : ℕ) → set (map pos xs) i (pos n) ≡ map pos (set xs i n)
set_map [] i n = refl
set_map (x ∷ xs) zero n = refl
set_map (x ∷ xs) (suc i) n = ap (λ (zs : List ℤ). pos x ∷ zs) (set_map xs i n)

module _ (s l : List ℕ) (lo : ℕ) (f : Field) (to : ℕ) (new os : List ℤ) where
  pub link_written : f.letter < 95
      → FieldWritten s l lo f to new os (lo + get_or s (number f) 0) (set new to (pos (lo + get_or s (number f) 0 - 1))) (set os (lo + get_or s (number f) 0 - 1) (pos (number f)))
  unfolding end_by word_by put_by
  link_written h = record {
    ends = rw (lt-ltb f.letter 95 h);
    words = rw (lt-ltb f.letter 95 h);
    put = λ xs e. rw (lt-ltb f.letter 95 h, e) (set_map xs (lo + get_or s (number f) 0 - 1) (number f));
    table_long = length-set new to (pos (lo + get_or s (number f) 0 - 1));
    origins_long = length-set os (lo + get_or s (number f) 0 - 1) (pos (number f));
  }

  pub mark_written : 95 ≤ f.letter → f.letter ≡ 108 → FieldWritten s l lo f to new os lo (set new to (pos (get_or l (number f) 0))) os
  unfolding end_by word_by put_by
  mark_written h e = record {
    ends = rw (le-ltb f.letter 95 h);
    words = rw (le-ltb f.letter 95 h, eq-eqb f.letter 108 e);
    put = λ xs d. rw (le-ltb f.letter 95 h) d;
    table_long = length-set new to (pos (get_or l (number f) 0));
    origins_long = refl;
  }

  pub word_written : 95 ≤ f.letter → f.letter ≢ 108 → FieldWritten s l lo f to new os lo (set new to f.word) os
  unfolding end_by word_by put_by
  word_written h n = record {
    ends = rw (le-ltb f.letter 95 h);
    words = rw (le-ltb f.letter 95 h, ne_eqb f.letter 108 n);
    put = λ xs d. rw (le-ltb f.letter 95 h) d;
    table_long = length-set new to f.word;
    origins_long = refl;
  }

-- ---- the same, of equal things

pub room_as : {s l : List ℕ} {lo lo' to a a' b b' : ℕ} {f f' : Field} → f ≡ f' → lo ≡ lo' → a ≡ a' → b ≡ b' → FieldRoom s l lo f to a b
    → FieldRoom s l lo' f' to a' b'
room_as {s} {l} {lo} {lo'} {to} {a} {a'} {b} {b'} {f} {f'} ef el ea eb r =
    subst (λ (g : Field). FieldRoom s l lo' g to a' b') ef
    (subst (λ (q : ℕ). FieldRoom s l q f to a' b') el
    (subst (λ (q : ℕ). FieldRoom s l lo f to q b') ea (subst (λ (q : ℕ). FieldRoom s l lo f to a q) eb r)))

pub written_as : {s l : List ℕ} {lo to end : ℕ} {f f' : Field} {new new₀ os new' os' : List ℤ} → f ≡ f' → new ≡ new₀
    → FieldWritten s l lo f to new os end new' os' → FieldWritten s l lo f' to new₀ os end new' os'
written_as {s} {l} {lo} {to} {end} {f} {f'} {new} {new₀} {os} {new'} {os'} ef en w =
    subst (λ (g : Field). FieldWritten s l lo g to new₀ os end new' os') ef
    (subst (λ (ws : List ℤ). FieldWritten s l lo f to ws os end new' os') en w)

pub field_as : {x x' : ℕ} {w w' : ℤ} → x ≡ x' → w ≡ w' → field x w ≡ field x' w'
field_as ex ew = rw (ex, ew)
