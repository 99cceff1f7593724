-- The moves by which a part begins and is complete, each against that of the automaton: a numeral, a variable, a word
-- that is a whole part. Assumes nothing.
use Rattle.std.specs.Prelude.{ℕ, suc, ◌-◌, ◌≡◌, refl, Bool, true, false, cond, List, [], ◌∷◌, ◌++◌, leb, length}
use Rattle.std.proofs.Common.{sym, ap, ◌∙◌, append-nil, arith as linear, length-append}
use Rattle.grammar.specs.Sorts.{expression}
use Rattle.grammar.specs.Operators.{not_prefix, minus_prefix, assert_prefix, assign_prefix}
use Rattle.grammar.specs.Tokens.{Leaf, constant_leaf, number_leaf, variable_leaf, leaf_makes}
use Rattle.grammar.specs.Grammar.{Phrase, leaf, before, sort}
use Rattle.grammar.specs.Rows.{Quad}
use Rattle.grammar.specs.States.{prefix, infix_after, Frame, pending, open_at, operand, after, at}
use Rattle.grammar.specs.Automaton.{constant_on}
use Rattle.grammar.specs.Ranges.{limit, mark_fits, variable_fits, after_minus, depth}
use Rattle.grammar.specs.Written.{stack_rows, part_rows, constant_row, constant_writes, leaf_writes}
use Rattle.parser.specs.declared.State.{State}
use Rattle.parser.specs.Machine.{Config, config, beginning, rows_after, kept, begin_count, constant_word, begin_constant, begin_variable, begin_leaf}
use Rattle.parsing.specs.Encoding.{sort_letter, Control}
use Rattle.parsing.specs.Stacks.{Stands, stands_pop}
use Rattle.parsing.specs.Counted.{row_added, rows_kept, row_length, constant_length}
use Rattle.parsing.specs.Following.{from, Kept}

pub one_more : (rs : List Quad) {qs : List Quad} (q : Quad) → qs ≡ rs ++ (q ∷ []) → length qs ≡ suc (length rs)
one_more rs q e = ap length e ∙ omega (linear, length-append rs (q ∷ []))

-- ---- numerals

pub count_kept : (fs : List Frame) (c : Config) (n v p : ℕ) → Control (at operand fs) c
    → mark_fits (depth fs) v ≡ mark_fits (depth fs) n
    → Kept (at (after (leaf (number_leaf n))) fs) (from c (mark_fits (depth fs) n) p)
    (config (begin_count c.state v p) c.stack c.words)
unfolding begin_count
count_kept fs c n v p k e =
    record {
      control = record {
        mode = refl;
        numbers = k.numbers;
        sort = refl;
        bodies = k.bodies;
        rows = rows_kept (length c.words) c.state.rows _ _ k.rows
            (ap length (leaf_writes (number_leaf n) fs ∙ append-nil (stack_rows fs)));
      };
      out = rw (k.bodies, e);
      place = refl;
      stack = refl;
      words = refl;
    }

-- the constant x, on what is left of the stack
constant_kept_as : (x : Phrase) (gs fs : List Frame) (c : Config) (n v p : ℕ) (m : Bool) → Control (at operand fs) c
    → leb v (limit m) ≡ leb n (limit m) → sort x ≡ expression
    → Stands gs c.stack (cond m (c.state.top - 1) c.state.top)
    → depth gs ≡ depth fs → part_rows x gs ≡ stack_rows fs ++ (constant_row n fs ∷ [])
    → Kept (at (after x) gs) (from c (leb n (limit m)) p) (begin_constant c m v p)
unfolding begin_constant
constant_kept_as x gs fs c n v p m k e t h d w =
    let same = constant_length c.words c.state.rows (constant_word m v) in
    record {
      control = record {
        mode = refl;
        numbers = h;
        sort = ap sort_letter (sym t);
        bodies = k.bodies ∙ sym d;
        rows =
            row_added c.words _ c.state.rows (length (stack_rows fs)) _ k.rows same
            (one_more (stack_rows fs) (constant_row n fs) w);
      };
      out = rw e;
      place = refl;
      stack = refl;
      words = same;
    }

pub constant_kept : (fs : List Frame) (c : Config) (n v p : ℕ) → Control (at operand fs) c
    → leb v (limit (after_minus fs)) ≡ leb n (limit (after_minus fs))
    → Kept (constant_on n fs) (from c (leb n (limit (after_minus fs))) p) (begin_constant c (after_minus fs) v p)
unfolding depth
constant_kept [] c n v p k e =
    constant_kept_as (leaf (constant_leaf n)) [] [] c n v p false k e refl k.numbers refl (constant_writes n [])
constant_kept (pending (prefix not_prefix) ∷ fs) c n v p k e =
    let gs = pending (prefix not_prefix) ∷ fs in
    constant_kept_as (leaf (constant_leaf n)) gs gs c n v p false k e refl k.numbers refl (constant_writes n gs)
constant_kept (pending (prefix minus_prefix) ∷ fs) c n v p k e =
    let f = pending (prefix minus_prefix) in
    constant_kept_as (before minus_prefix (leaf (constant_leaf n))) fs (f ∷ fs) c n v p true k e refl
    (stands_pop f fs c.stack c.state.top k.numbers) refl (constant_writes n (f ∷ fs))
constant_kept (pending (prefix assert_prefix) ∷ fs) c n v p k e =
    let gs = pending (prefix assert_prefix) ∷ fs in
    constant_kept_as (leaf (constant_leaf n)) gs gs c n v p false k e refl k.numbers refl (constant_writes n gs)
constant_kept (pending (prefix (assign_prefix i)) ∷ fs) c n v p k e =
    let gs = pending (prefix (assign_prefix i)) ∷ fs in
    constant_kept_as (leaf (constant_leaf n)) gs gs c n v p false k e refl k.numbers refl (constant_writes n gs)
constant_kept (pending (infix_after o x) ∷ fs) c n v p k e =
    let gs = pending (infix_after o x) ∷ fs in
    constant_kept_as (leaf (constant_leaf n)) gs gs c n v p false k e refl k.numbers refl (constant_writes n gs)
constant_kept (open_at h q ∷ fs) c n v p k e =
    let gs = open_at h q ∷ fs in
    constant_kept_as (leaf (constant_leaf n)) gs gs c n v p false k e refl k.numbers refl (constant_writes n gs)

-- ---- whole parts

-- a part with one row, where none was taken off the stack
part_kept : (x : Phrase) (q : Quad) (fs : List Frame) (c : Config) (s : State) (ws : List _) (b : Bool) (p : ℕ)
    → Control (at operand fs) c
    → part_rows x fs ≡ stack_rows fs ++ (q ∷ []) → length ws ≡ length c.words → s.mode ≡ 1
    → s.sort ≡ sort_letter (sort x)
    → s.bodies ≡ c.state.bodies → s.rows ≡ rows_after c.words c.state.rows → s.top ≡ c.state.top
    → s.out ≡ (from c b p).out → s.place ≡ c.state.place
    → Kept (at (after x) fs) (from c b p) (config s c.stack ws)
part_kept x q fs c s ws b p k w l m t d r n o i =
    record {
      control = record {
        mode = m;
        numbers = rw n k.numbers;
        sort = t;
        bodies = d ∙ k.bodies;
        rows =
            r ∙ row_added c.words (length ws) c.state.rows (length (stack_rows fs)) _ k.rows l
            (one_more (stack_rows fs) q w);
      };
      out = o;
      place = i;
      stack = refl;
      words = l;
    }

pub variable_kept : (fs : List Frame) (c : Config) (n v p : ℕ) → Control (at operand fs) c
    → variable_fits v ≡ variable_fits n
    → Kept (at (after (leaf (variable_leaf n))) fs) (from c (variable_fits n) p) (begin_variable c v p)
unfolding begin_variable
variable_kept fs c n v p k e =
    part_kept (leaf (variable_leaf n)) _ fs c _ _ (variable_fits n) p k (leaf_writes (variable_leaf n) fs)
    (row_length c.words c.state.rows 2 (kept (variable_fits v) v) 0 0) refl refl refl refl refl (rw e) refl

pub leaf_kept : (l : Leaf) (q : Quad) (fs : List Frame) (c : Config) (n p : ℕ) → Control (at operand fs) c
    → part_rows (leaf l) fs ≡ stack_rows fs ++ (q ∷ []) → beginning n ≡ sort_letter (leaf_makes l)
    → Kept (at (after (leaf l)) fs) (from c true p) (begin_leaf c n)
unfolding begin_leaf
leaf_kept l q fs c n p k w e =
    part_kept (leaf l) q fs c _ _ true p k w (row_length c.words c.state.rows n 0 0 0) refl e refl refl refl
    refl refl
