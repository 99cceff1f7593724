-- A part between two places, each of them cut to what there is, is the part between the two. Assumes nothing.
use Prim.Native.Nat.{ℕ, zero, suc, ◌-◌, min}
use native.Mathlib.Nat.{zero-min, min-zero, suc-min-suc}
use mathlib.Core.Path.{◌≡◌, sym, ap, ◌∙◌}
use mathlib.Core.List.{List, [], ◌∷◌}
use lib.IntN.{ℤ}
use lib.ListN.{length, take, drop, length-take}
use lib.Seq.{slice}
use Rattle.list_reader.proofs.Part.{part_is as taken_is}

take_least : (n : ℕ) (l : List ℤ) → take (min n (length l)) l ≡ take n l
take_least zero l = ap (λ (k : ℕ). take k l) (zero-min (length l))
take_least (suc n) [] = ap (λ (k : ℕ). take k []) (min-zero (suc n))
take_least (suc n) (x ∷ xs) = ap (λ (k : ℕ). take k (x ∷ xs)) (suc-min-suc n (length xs)) ∙ ap (λ (r : List ℤ). x ∷ r) (take_least n xs)

drop_least : (n : ℕ) (l : List ℤ) → drop (min n (length l)) l ≡ drop n l
drop_least zero l = ap (λ (k : ℕ). drop k l) (zero-min (length l))
drop_least (suc n) [] = ap (λ (k : ℕ). drop k []) (min-zero (suc n))
drop_least (suc n) (x ∷ xs) = ap (λ (k : ℕ). drop k (x ∷ xs)) (suc-min-suc n (length xs)) ∙ drop_least n xs

pub part_is : (a b s e : ℕ) (l : List ℤ) → e ≡ min b (length l) → s ≡ min a e → take (e - s) (drop s l) ≡ slice a b l
part_is a b s e l end start =
    let cut : take e l ≡ take b l = ap (λ (k : ℕ). take k l) end ∙ take_least b l in
    let front : s ≡ min a (length (take b l)) = start ∙ ap (min a) (end ∙ sym (length-take b l)) in
    taken_is s e l ∙ ap (λ (r : List ℤ). drop s r) cut ∙ ap (λ (k : ℕ). drop k (take b l)) front ∙ drop_least a (take b l)
