-- The scan of a text from a place on (`rest`), one blank or token at a time, and what a machine makes of it: the state
-- after the last token (`after_scan`), or the first byte that begins none (`bad_place`). Assumes nothing.
use Rattle.std.specs.Prelude.{ℕ, zero, suc, ◌+◌, ◌-◌, ◌≤◌, ◌<◌, ◌≡◌, refl, List, [], ◌∷◌, true, false, cond, length, get_or}
use Rattle.std.proofs.Common.{sym, ◌∙◌, arith as linear}
use Rattle.std.proofs.Math.Option.{Option, none, some}
use Rattle.std.proofs.Math.ListN.{drop, length-drop}
use Rattle.std.proofs.Math.Seq.{drop-drop}
use Rattle.grammar.specs.Scanning.{is_blank, Found, token_at, Lexeme, Scanned, no_token, lexemes, with_first, at_end, past, scan_from, scan}
use Rattle.grammar.specs.Numbers.{token_number, token_value}
use Rattle.grammar.specs.Scans.{scan_enough}
use Rattle.parser.specs.Machine.{Config, take, run}

unfoldable pub rest : List ℕ → ℕ → Scanned
rest bs p = scan_from (length bs - p) p (drop p bs)

pub rest_start : (bs : List ℕ) → rest bs 0 ≡ scan bs
unfolding rest scan
rest_start bs = scan_enough (length bs - 0) (length bs) 0 bs (omega linear) (omega linear)

no_bytes : (n p : ℕ) (bs : List ℕ) → length bs ≤ 0 → scan_from n p bs ≡ at_end p
unfolding scan_from
no_bytes zero p bs h = refl
no_bytes (suc n) p [] h = refl
no_bytes (suc n) p (b ∷ bs) h = absurd (omega linear)

pub rest_end : (bs : List ℕ) (p : ℕ) → length bs ≤ p → rest bs p ≡ at_end p
unfolding rest
rest_end bs p h = no_bytes (length bs - p) p (drop p bs) (omega (linear, length-drop p bs))

-- ---- the first byte of the rest

drop_first : (bs : List ℕ) (p : ℕ) → p < length bs → drop p bs ≡ get_or bs p 0 ∷ drop (p + 1) bs
drop_first [] p h = absurd (omega linear)
drop_first (b ∷ bs) zero h = refl
drop_first (b ∷ bs) (suc p) h =
    let e : suc p + 1 ≡ suc (p + 1) = omega linear in
    rw e (drop_first bs p (omega linear))

first_step : (n p b : ℕ) (bs : List ℕ) → n ≡ length bs + 1
    → scan_from n p (b ∷ bs)
    ≡ cond (is_blank b) (scan_from (length bs) (p + 1) bs) (past (token_at (b ∷ bs)) (λ q cs. scan_from (length bs) q cs) p (b ∷ bs))
unfolding scan_from
first_step zero p b bs h = absurd (omega linear)
first_step (suc n) p b bs h = let e : n ≡ length bs = omega linear in rw e

module _ (bs : List ℕ) (p : ℕ) (inside : p < length bs) where
  abbrev tail : List ℕ
  tail = drop (p + 1) bs

  tail_length : length tail + 1 ≡ length bs - p
  tail_length = omega (linear, length-drop (p + 1) bs)

  step : rest bs p
      ≡ cond (is_blank (get_or bs p 0)) (scan_from (length tail) (p + 1) tail)
      (past (token_at (drop p bs)) (λ q cs. scan_from (length tail) q cs) p (drop p bs))
  unfolding rest
  step = rw (drop_first bs p inside) (first_step (length bs - p) p (get_or bs p 0) tail (sym tail_length))

  pub rest_blank : is_blank (get_or bs p 0) ≡ true → rest bs p ≡ rest bs (p + 1)
  unfolding rest
  rest_blank e = step ∙ rw e same
    where
      same : scan_from (length tail) (p + 1) tail ≡ rest bs (p + 1)
      same = scan_enough (length tail) (length bs - (p + 1)) (p + 1) tail (omega linear) (omega (linear, length-drop (p + 1) bs))

  pub rest_none : is_blank (get_or bs p 0) ≡ false → token_at (drop p bs) ≡ none → rest bs p ≡ no_token p
  rest_none e n = step ∙ rw (e, n)

  pub rest_token : is_blank (get_or bs p 0) ≡ false → (f : Found) → 1 ≤ f.size → token_at (drop p bs) ≡ some f
      → rest bs p ≡ with_first (record { token = f.token; place = p }) (rest bs (p + f.size))
  unfolding rest
  rest_token e f o n = step ∙ rw (e, n, same)
    where
      after : drop f.size (drop p bs) ≡ drop (p + f.size) bs
      after = drop-drop f.size p bs

      same : scan_from (length tail) (p + f.size) (drop f.size (drop p bs)) ≡ rest bs (p + f.size)
      same =
          let q = p + f.size in
          let l = length-drop q bs in
          rw after (scan_enough (length tail) (length bs - q) q (drop q bs) (omega (linear, l, tail_length)) (omega (linear, l)))

-- ---- what a machine makes of a scan

unfoldable pub after_scan : Scanned → Config → Option Config
after_scan (no_token p) c = none
after_scan (lexemes ls) c = some (run c ls)

unfoldable pub bad_place : Scanned → Option ℕ
bad_place (no_token p) = some p
bad_place (lexemes ls) = none

pub with_first_after : (l : Lexeme) (r : Scanned) (c : Config)
    → after_scan (with_first l r) c ≡ after_scan r (take c (token_number l.token) (token_value l.token) l.place)
unfolding after_scan run
with_first_after l (no_token p) c = refl
with_first_after l (lexemes ls) c = refl

pub with_first_bad : (l : Lexeme) (r : Scanned) → bad_place (with_first l r) ≡ bad_place r
unfolding bad_place
with_first_bad l (no_token p) = refl
with_first_bad l (lexemes ls) = refl
