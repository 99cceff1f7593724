-- White space may be added to any text and the same script is read: beside a blank (`more_blanks`), before and after a
-- parenthesis (`blank_before`, `blank_after`). For a script is read from its tokens alone (`tokens_tell`). Assumes nothing.
use Rattle.std.specs.Prelude.{ℕ, ◌≡◌, refl, List, [], ◌∷◌, ◌++◌, Bool, true, false, T}
use Rattle.std.proofs.Common.{sym, ap, ◌∙◌}
use Rattle.script.specs.Refusals.{member}
use Rattle.script.specs.Listing.{◌>>=◌}
use Rattle.smt.specs.Sexp.{end, blanks, Lexed, gap, whole_tokens, byte, lex, tokens, behind, parse, closed, sexps}
use Rattle.smt.specs.Reader.{read_commands, read_script}
use Rattle.smt.specs.Spaced.{lex_append}

-- what lexes alike lexes alike behind anything
behind_any : (xs ys zs : List ℕ) → lex ys (gap []) ≡ lex zs (gap []) → tokens (xs ++ ys) ≡ tokens (xs ++ zs)
unfolding tokens
behind_any xs ys zs e = ap whole_tokens (lex_append xs ys (gap []) ∙ ap (lex xs) e ∙ sym (lex_append xs zs (gap [])))

-- a blank ends a word, and else is nothing
blank_lexed : (b : ℕ) (l : Lexed) → T (member b blanks) → byte b l ≡ gap (whole_tokens l)
blank_lexed b l h = of_test (member b blanks) h refl
  where
    of_test : (t : Bool) → T t → member b blanks ≡ t → byte b l ≡ gap (whole_tokens l)
    of_test true h e = rw e
    of_test false h e = absurd h

-- a parenthesis
abbrev pub parenthesis : Bool → ℕ
parenthesis true = 40
parenthesis false = 41

blank_first : (p : Bool) (b : ℕ) (l : Lexed) → T (member b blanks) → byte b (byte (parenthesis p) l) ≡ byte (parenthesis p) l
blank_first true b l h = blank_lexed b (byte 40 l) h
blank_first false b l h = blank_lexed b (byte 41 l) h

blank_second : (p : Bool) (b : ℕ) (l : Lexed) → T (member b blanks) → byte (parenthesis p) (byte b l) ≡ byte (parenthesis p) l
blank_second true b l h = ap (byte 40) (blank_lexed b l h)
blank_second false b l h = ap (byte 41) (blank_lexed b l h)

module _ (xs ys : List ℕ) (b : ℕ) (blank : T (member b blanks)) where
  pub more_blanks : (c : ℕ) → T (member c blanks) → tokens (xs ++ (c ∷ b ∷ ys)) ≡ tokens (xs ++ (b ∷ ys))
  more_blanks c h =
      let l = lex ys (gap []) in
      behind_any xs (c ∷ b ∷ ys) (b ∷ ys)
      (blank_lexed c (byte b l) h ∙ ap (λ k. gap (whole_tokens k)) (blank_lexed b l blank) ∙ sym (blank_lexed b l blank))

  pub blank_before : (p : Bool) → tokens (xs ++ (b ∷ parenthesis p ∷ ys)) ≡ tokens (xs ++ (parenthesis p ∷ ys))
  blank_before p = behind_any xs (b ∷ parenthesis p ∷ ys) (parenthesis p ∷ ys) (blank_first p b (lex ys (gap [])) blank)

  pub blank_after : (p : Bool) → tokens (xs ++ (parenthesis p ∷ b ∷ ys)) ≡ tokens (xs ++ (parenthesis p ∷ ys))
  blank_after p = behind_any xs (parenthesis p ∷ b ∷ ys) (parenthesis p ∷ ys) (blank_second p b (lex ys (gap [])) blank)

-- a script is read from its tokens alone
pub tokens_tell : (xs ys : List ℕ) → tokens xs ≡ tokens ys → read_script xs ≡ read_script ys
unfolding read_script sexps
tokens_tell xs ys e = ap (λ ts. (parse ts (behind end []) >>= λ b. closed b.here b.outer) >>= read_commands) e
