-- The loop over a text's tokens: at each place, what is left of the text comes to what the whole text comes to
-- (`Going`). A blank and a token keep that; a byte that begins no token and the end of the text give what is asked.
-- Assumes nothing.
use Rattle.std.specs.Prelude.{ℕ, ◌+◌, ◌≤◌, ◌<◌, ◌≡◌, refl, true, false, List, ℤ, get_or, drop, Ok, Err}
use Rattle.std.proofs.Math.Path.{sym, ap}
use Rattle.std.proofs.Common.{◌∙◌, arith as linear}
use Rattle.std.proofs.Math.Option.{Option, none, some}
use Rattle.std.proofs.Math.ListN.{length}
use Rattle.theorems.specs.Options.{none_is_not, some_inj}
use Rattle.grammar.specs.Scanning.{is_blank, token_at, Found, Lexeme, Scanned, no_token, at_end, scan}
use Rattle.grammar.specs.Numbers.{token_number, token_value}
use Rattle.scanner.specs.Lexed.{lexed}
use Rattle.scanner.specs.Progress.{not_told, told, told_end}
use Rattle.parser.specs.declared.State.{State}
use Rattle.parser.specs.Machine.{Config, config, take, run}
use Rattle.script_reader.specs.declared.refusals.Fault.TheVariants.{NoToken}
use Rattle.script_reader.specs.Takes.{Takes}
use Rattle.script_reader.specs.Rests.{rest, rest_start, rest_end, rest_blank, rest_none, rest_token, after_scan, bad_place, with_first_after, with_first_bad}

pub record Going (bs : List ℕ) (c₀ c : Config) (p : ℕ) : Type 0 where
  pub within : p ≤ length bs
  pub comes : after_scan (rest bs p) c ≡ after_scan (scan bs) c₀
  pub bad : bad_place (rest bs p) ≡ bad_place (scan bs)
  pub words_kept : length c.words ≡ length c₀.words
  pub stack_kept : length c.stack ≡ length c₀.stack

pub begins : (bs : List ℕ) (c : Config) → Going bs c c 0
begins bs c =
    record {
      within = omega linear;
      comes = ap (λ (r : Scanned). after_scan r c) (rest_start bs);
      bad = ap bad_place (rest_start bs);
      words_kept = refl;
      stack_kept = refl;
    }

pub past_blank : (bs : List ℕ) (c₀ c : Config) (p : ℕ) → Going bs c₀ c p → p < length bs → is_blank (get_or bs p 0) ≡ true → Going bs c₀ c (p + 1)
past_blank bs c₀ c p g h e =
    let s = rest_blank bs p h e in
    record {
      within = omega linear;
      comes = ap (λ (r : Scanned). after_scan r c) (sym s) ∙ g.comes;
      bad = ap bad_place (sym s) ∙ g.bad;
      words_kept = g.words_kept;
      stack_kept = g.stack_kept;
    }

-- what is told at a place
module _ (bs : List ℕ) (c₀ c : Config) (p : ℕ) (g : Going bs c₀ c p) (inside : p < length bs) (other : is_blank (get_or bs p 0) ≡ false) where
  abbrev pub kind : ℕ
  kind = (lexed p (token_at (drop p bs))).kind

  abbrev pub value : ℕ
  value = (lexed p (token_at (drop p bs))).value

  abbrev pub end : ℕ
  end = (lexed p (token_at (drop p bs))).end

  pub past_token : (kind ≡ 0 → ⊥) → (d : Config) → d ≡ take c kind value p → length d.words ≡ length c.words
      → length d.stack ≡ length c.stack → Going bs c₀ d end
  unfolding lexed
  past_token n d e l m =
      let f = told bs p n in
      let w = told_end bs p n in
      at_found f.0 f.1 w e
    where
      at_found : (f : Found) → token_at (drop p bs) ≡ some f → (p < end) × (end ≤ length bs) → d ≡ take c kind value p → Going bs c₀ d end
      at_found f e w q =
          let lx : Lexeme = record { token = f.token; place = p } in
          let at : d ≡ take c (token_number f.token) (token_value f.token) p =
          q ∙ ap (λ (o : Option Found). take c (lexed p o).kind (lexed p o).value p) e in
          let next : end ≡ p + f.size = ap (λ (o : Option Found). (lexed p o).end) e in
          let s = rest_token bs p inside other f (omega (linear, next, w.0)) e in
          record {
            within = w.1;
            comes =
                ap (λ (k : ℕ). after_scan (rest bs k) d) next ∙ ap (λ (x : Config). after_scan (rest bs (p + f.size)) x) at
                ∙ sym (with_first_after lx (rest bs (p + f.size)) c) ∙ ap (λ (r : Scanned). after_scan r c) (sym s) ∙ g.comes;
            bad = ap (λ (k : ℕ). bad_place (rest bs k)) next ∙ sym (with_first_bad lx (rest bs (p + f.size))) ∙ ap bad_place (sym s) ∙ g.bad;
            words_kept = l ∙ g.words_kept;
            stack_kept = m ∙ g.stack_kept;
          }

  pub stuck : kind ≡ 0 → Takes (scan bs) c₀ (Err (record { fault = NoToken; place = p })) c.words
  unfolding bad_place
  stuck e = at_scan (scan bs) (sym g.bad ∙ ap bad_place (rest_none bs p inside other (not_told bs p e)))
    where
      at_scan : (s : Scanned) → bad_place s ≡ bad_place (no_token p) → Takes s c₀ (Err (record { fault = NoToken; place = p })) c.words
      at_scan s b =
          record {
            stops = λ k z. ap (λ (n : ℕ). Err (record { fault = NoToken; place = n })) (some_inj (sym b ∙ ap bad_place z));
            goes = λ ls z. none_is_not (sym (ap bad_place z) ∙ b);
            size = g.words_kept;
          }

-- the end of the text
pub ended : (bs : List ℕ) (c₀ c : Config) (p : ℕ) → Going bs c₀ c p → length bs ≤ p → (d : Config) → d ≡ take c 51 0 p
    → length d.words ≡ length c.words → Takes (scan bs) c₀ (Ok d.state) d.words
unfolding after_scan bad_place run token_number token_value
ended bs c₀ c p g h d e l = at_scan (scan bs) (sym g.comes ∙ ap (λ (s : Scanned). after_scan s c) last) (sym g.bad ∙ ap bad_place last)
  where
    last : rest bs p ≡ at_end p
    last = rest_end bs p h

    at_scan : (s : Scanned) → after_scan s c₀ ≡ some (take c 51 0 p) → bad_place s ≡ none → Takes s c₀ (Ok d.state) d.words
    at_scan s a b =
        record {
          stops = λ k z. none_is_not (sym b ∙ ap bad_place z);
          goes = λ ls z.
              let m : run c₀ ls ≡ d = some_inj (ap (λ (x : Scanned). after_scan x c₀) (sym z) ∙ a) ∙ sym e in
              (ap (λ (x : Config). Ok x.state) (sym m), ap (λ (x : Config). x.words) (sym m));
          size = l ∙ g.words_kept;
        }

-- ---- the same, from what calls tell

config_is : (s : State) (st : List ℕ) (ws : List ℤ) (x : Config) → s ≡ x.state → st ≡ x.stack → ws ≡ x.words → config s st ws ≡ x
config_is s st ws x a b c = λ i. record { state = a i; stack = b i; words = c i }

module _ (bs : List ℕ) (c₀ c : Config) (p : ℕ) (g : Going bs c₀ c p) where
  pub token_taken : p < length bs → is_blank (get_or bs p 0) ≡ false → (k v e : ℕ) → k ≡ (lexed p (token_at (drop p bs))).kind
      → v ≡ (lexed p (token_at (drop p bs))).value → e ≡ (lexed p (token_at (drop p bs))).end → (k ≡ 0 → ⊥)
      → (s : State) (st : List ℕ) (ws : List ℤ) → s ≡ (take c k v p).state → st ≡ (take c k v p).stack → ws ≡ (take c k v p).words
      → length ws ≡ length c.words → length st ≡ length c.stack → Going bs c₀ (config s st ws) e
  token_taken inside other k v e i j m n s st ws a b d l o =
      let q : config s st ws ≡ take c (kind bs c₀ c p g inside other) (value bs c₀ c p g inside other) p =
      config_is s st ws (take c k v p) a b d ∙ ap (λ (x : ℕ). take c x v p) i ∙ ap (λ (x : ℕ). take c (lexed p (token_at (drop p bs))).kind x p) j in
      rw m (past_token bs c₀ c p g inside other (λ z. n (i ∙ z)) (config s st ws) q l o)

  pub end_taken : length bs ≤ p → (s : State) (st : List ℕ) (ws : List ℤ) → s ≡ (take c 51 0 p).state → st ≡ (take c 51 0 p).stack
      → ws ≡ (take c 51 0 p).words → length ws ≡ length c.words → Takes (scan bs) c₀ (Ok s) ws
  end_taken h s st ws a b d l =
      ended bs c₀ c p g h (config s st ws) (config_is s st ws (take c 51 0 p) a b d) l
