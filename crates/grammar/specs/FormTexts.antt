-- The tokens of a form with one part, three or four, in a text: o stands before the parts, and t, u, v, w after each.
-- Assumes nothing.
use Rattle.std.specs.Prelude.{◌≡◌, refl, List, [], ◌∷◌, ◌++◌}
use Rattle.std.proofs.Common.{sym, ap, ◌∙◌, append_assoc}
use Rattle.grammar.specs.Operators.{Prefix, not_prefix, minus_prefix, assert_prefix, assign_prefix}
use Rattle.grammar.specs.Tokens.{Token, Leaf, constant_leaf, number_leaf, variable_leaf, truth_leaf, skip_leaf, leaf_word, prefix_opening}
use Rattle.grammar.specs.Grammar.{opening_words}
use Rattle.grammar.specs.Text.{text}
use Rattle.grammar.specs.TextSound.{text_append}

pub one_text : (o ps t : List Token) {us : List Token} → text ps ≡ us → text (o ++ (ps ++ t)) ≡ text o ++ (us ++ text t)
one_text o ps t e = text_append o (ps ++ t) ∙ ap (λ l. text o ++ l) (text_append ps t ∙ ap (λ l. l ++ text t) e)

-- one part more, before the tokens l
next_text : (us ps t l : List Token) {vs : List Token} → text ps ≡ vs → text (us ++ (ps ++ t)) ++ l ≡ text us ++ (vs ++ (text t ++ l))
next_text us ps t l {vs} e =
    ap (λ k. k ++ l) (one_text us ps t e) ∙ append_assoc (text us) (vs ++ text t) l ∙ ap (λ k. text us ++ k) (append_assoc vs (text t) l)

three_flat : (a b c d e f g : List Token) → a ++ b ++ (c ++ d) ++ (e ++ f) ++ g ≡ a ++ (b ++ (c ++ (d ++ (e ++ (f ++ g)))))
three_flat a b c d e f g = simp append_assoc

four_flat : (a b c d e f g h i : List Token)
    → a ++ b ++ (c ++ d) ++ (e ++ f) ++ (g ++ h) ++ i ≡ a ++ (b ++ (c ++ (d ++ (e ++ (f ++ (g ++ (h ++ i)))))))
four_flat a b c d e f g h i = simp append_assoc

pub three_text : (o ps qs rs t u v : List Token) {us vs ws : List Token} → text ps ≡ us → text qs ≡ vs → text rs ≡ ws
    → text (((o ++ (ps ++ t)) ++ (qs ++ u)) ++ (rs ++ v)) ≡ text o ++ us ++ (text t ++ vs) ++ (text u ++ ws) ++ text v
three_text o ps qs rs t u v {us} {vs} {ws} e f g =
    one_text ((o ++ (ps ++ t)) ++ (qs ++ u)) rs v g
    ∙ next_text (o ++ (ps ++ t)) qs u (ws ++ text v) f
    ∙ next_text o ps t (vs ++ (text u ++ (ws ++ text v))) e
    ∙ sym (three_flat (text o) us (text t) vs (text u) ws (text v))

pub four_text : (o ps qs rs ss t u v w : List Token) {us vs ws zs : List Token} → text ps ≡ us → text qs ≡ vs → text rs ≡ ws → text ss ≡ zs
    → text ((((o ++ (ps ++ t)) ++ (qs ++ u)) ++ (rs ++ v)) ++ (ss ++ w))
    ≡ text o ++ us ++ (text t ++ vs) ++ (text u ++ ws) ++ (text v ++ zs) ++ text w
four_text o ps qs rs ss t u v w {us} {vs} {ws} {zs} e f g h =
    one_text (((o ++ (ps ++ t)) ++ (qs ++ u)) ++ (rs ++ v)) ss w h
    ∙ next_text ((o ++ (ps ++ t)) ++ (qs ++ u)) rs v (zs ++ text w) g
    ∙ next_text (o ++ (ps ++ t)) qs u (ws ++ (text v ++ (zs ++ text w))) f
    ∙ next_text o ps t (vs ++ (text u ++ (ws ++ (text v ++ (zs ++ text w))))) e
    ∙ sym (four_flat (text o) us (text t) vs (text u) ws (text v) zs (text w))

pub prefix_text : (p : Prefix) → text (opening_words (prefix_opening p)) ≡ opening_words (prefix_opening p)
unfolding text
prefix_text not_prefix = refl
prefix_text minus_prefix = refl
prefix_text assert_prefix = refl
prefix_text (assign_prefix v) = refl

pub leaf_text : (l : Leaf) → text (leaf_word l ∷ []) ≡ leaf_word l ∷ []
unfolding text
leaf_text (constant_leaf n) = refl
leaf_text (number_leaf n) = refl
leaf_text (variable_leaf v) = refl
leaf_text (truth_leaf b) = refl
leaf_text skip_leaf = refl
