-- The token at a place by its first byte: a digit begins a numeral, a letter a word, and any other byte a symbol, of
-- which two bytes are looked at. Assumes nothing.
use Prim.Native.Nat.{ℕ, suc, ◌+◌, ◌≤◌, ◌<◌}
use mathlib.Core.Path.{◌≡◌, refl, ap, sym, ◌∙◌}
use mathlib.Core.List.{List, [], ◌∷◌}
use mathlib.Core.Option.{none}
use mathlib.Core.Bool.{true, false}
use native.Mathlib.Nat.{add-zero}
use native.Mathlib.Numerals.{add-one}
use lib.ListN.{length, get_or, drop, drop_of_length-le}
use lib.Seq.{drop-cons, get_or-drop}
use Rattle.grammar.specs.Scanning.{is_digit, is_letter, numeral_of, token_at}
use Rattle.grammar.specs.Fronts.{run}
use Rattle.scanner.specs.Lexed.{word_at, symbol_at}

two_bytes : (b : ℕ) (bs : List ℕ) → symbol_at (b ∷ bs) ≡ symbol_at (b ∷ get_or bs 0 0 ∷ [])
unfolding symbol_at
two_bytes b [] = refl
two_bytes b (c ∷ bs) = refl

pub past_end : (text : List ℕ) {at : ℕ} → length text ≤ at → token_at (drop at text) ≡ none
unfolding token_at
past_end text h = rw (drop_of_length-le text h)

module _ (text : List ℕ) {at byte : ℕ} (h : at < length text) (e : byte ≡ get_or text at 0) where
  pub at_digit : true ≡ is_digit byte → token_at (drop at text) ≡ numeral_of (run is_digit (drop at text))
  unfolding token_at
  at_digit d = rw (drop-cons text at 0 h, ← e, sym d)

  pub at_letter : false ≡ is_digit byte → true ≡ is_letter byte → token_at (drop at text) ≡ word_at (drop at text)
  unfolding token_at word_at
  at_letter d l = rw (drop-cons text at 0 h, ← e, sym d, sym l)

  pub at_symbol : {next : ℕ} → false ≡ is_digit byte → false ≡ is_letter byte → next ≡ get_or text (at + 1) 0
      → token_at (drop at text) ≡ symbol_at (byte ∷ next ∷ [])
  unfolding token_at symbol_at
  at_symbol d l n =
      first
      ∙ two_bytes byte (drop (suc at) text)
      ∙ ap (λ k. symbol_at (byte ∷ k ∷ [])) (after ∙ sym n)
    where
      first : token_at (drop at text) ≡ symbol_at (byte ∷ drop (suc at) text)
      first = rw (drop-cons text at 0 h, ← e, sym d, sym l)

      after : get_or (drop (suc at) text) 0 0 ≡ get_or text (at + 1) 0
      after = get_or-drop (suc at) text 0 0 ∙ ap (λ k. get_or text k 0) (add-zero (suc at) ∙ sym (add-one at))
