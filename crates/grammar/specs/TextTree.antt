-- The table that a text is read into has the tree of the text (`text_tree_is`). Assumes nothing.
use Rattle.std.specs.Prelude.{ℕ, suc, ◌+◌, ◌*◌, ◌≡◌, refl, List, [], ◌∷◌, ◌++◌, ℤ, pos, negsuc, length, get_or}
use Rattle.std.proofs.Common.{sym, ap, ◌∙◌, subst, append_assoc, arith as linear, length-append, get_or-append-add}
use Rattle.script.specs.Rows.{row, word, at_kind}
use Rattle.script.specs.Trees.{tree}
use Rattle.grammar.specs.Sorts.{script}
use Rattle.grammar.specs.Grammar.{Phrase, sort, Good}
use Rattle.grammar.specs.Rows.{Quad, by_row}
use Rattle.grammar.specs.Meaning.{flat, text_rows, text_table, text_tree}
use Rattle.grammar.specs.Sizes.{table_length}
use Rattle.grammar.specs.SameRows.{kind_row, quad_row, Stands}
use Rattle.grammar.specs.SameTree.{same_tree}

pub flat_append : (ps qs : List Quad) → flat (ps ++ qs) ≡ flat ps ++ flat qs
unfolding flat
flat_append [] qs = refl
flat_append (p ∷ ps) qs = ap (λ l. p.kind ∷ p.first ∷ p.second ∷ p.third ∷ l) (flat_append ps qs)

pub flat_length : (qs : List Quad) → length (flat qs) ≡ 4 * length qs
unfolding flat
flat_length [] = refl
flat_length (q ∷ qs) = omega (linear, flat_length qs)

-- the word at place f of the row after ps
pub word_after : (ps : List Quad) (ws : List ℤ) (f : ℕ) → word (flat ps ++ ws) (length ps) f ≡ get_or ws f (pos 0)
word_after ps ws f =
    ap (λ (n : ℕ). get_or (flat ps ++ ws) (n + f) (pos 0)) (sym (flat_length ps)) ∙ get_or-append-add (flat ps) ws f (pos 0)

kind_after : (k : ℤ) (ps : List Quad) (q : Quad) (vs : List ℤ)
    → at_kind (flat ps ++ (q.kind ∷ q.first ∷ q.second ∷ q.third ∷ vs)) k (length ps) ≡ kind_row k q
kind_after (pos n) ps q vs =
    let ws = q.kind ∷ q.first ∷ q.second ∷ q.third ∷ vs in
    rw (word_after ps ws 1, word_after ps ws 2, word_after ps ws 3)
kind_after (negsuc n) ps q vs = refl

pub row_after : (ps qs : List Quad) (q : Quad) → row (flat ps ++ flat (q ∷ qs)) (length ps) ≡ quad_row q
unfolding row flat
row_after ps qs q =
    let ws = q.kind ∷ q.first ∷ q.second ∷ q.third ∷ flat qs in
    ap (λ (k : ℤ). at_kind (flat ps ++ ws) k (length ps)) (word_after ps ws 0) ∙ kind_after q.kind ps q (flat qs)

stands : (ps qs : List Quad) → Stands (flat (ps ++ qs)) (length ps) qs
stands ps [] = tt
stands ps (q ∷ qs) = (
  rw (flat_append ps (q ∷ qs)) (row_after ps qs q),
  subst (λ (l : List Quad). Stands (flat l) (suc (length ps)) qs) (append_assoc ps (q ∷ []) qs)
      (subst (λ (n : ℕ). Stands (flat ((ps ++ (q ∷ [])) ++ qs)) n qs) (omega (linear, length-append ps (q ∷ []))) (stands (ps ++ (q ∷ [])) qs)),
)

pub text_tree_is : (x : Phrase) → Good x → sort x ≡ script → tree (text_table x) ≡ text_tree x
unfolding text_table text_rows
text_tree_is x g s =
    let qs = text_rows x in
    same_tree (flat qs) x g s (omega (linear, flat_length qs, table_length by_row x [] 0)) (stands [] qs)
