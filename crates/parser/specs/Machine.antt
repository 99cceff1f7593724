-- The reader as the code runs it: the automaton of `grammar` on small numbers. A frame is one number, the stack a run of
-- them, and the rows stand in the words that are lent. Each function here is a function of the code; that they do what
-- the automaton does is shown in `parsing`. Assumes nothing.
use Rattle.std.specs.Prelude.{ℕ, zero, suc, ◌+◌, ◌*◌, ◌-◌, ◌/◌, ◌%◌, Bool, cond, ◌&&◌, ◌||◌, List, [], ◌∷◌, eqb, leb, ltb, ℤ, pos, length, get_or, set}
use Rattle.std.proofs.lemmas.List.Edits.{sets}
use Rattle.grammar.specs.Counts.{minus}
use Rattle.grammar.specs.Ranges.{limit, mark_fits, variable_fits}
use Rattle.grammar.specs.Scanning.{Lexeme}
use Rattle.grammar.specs.Numbers.{token_number, token_value}
use Rattle.parser.specs.Symbols.{holds, holes, makes, ends, binds, takes, begins as beginnings, closes}
use Rattle.parser.specs.declared.State.{State}

-- ---- frames

abbrev pub frame : ℕ → ℕ → ℕ → ℕ
frame n a b = n % 64 + 64 * (a % 4096) + 262144 * (b % 4096)

abbrev pub first_part : ℕ → ℕ
first_part f = f / 64 % 4096

abbrev pub second_part : ℕ → ℕ
second_part f = f / 262144 % 4096

-- the bottom of the stack is the frame 0
abbrev pub top_frame : List ℕ → ℕ → ℕ
top_frame st zero = 0
top_frame st (suc n) = get_or st n 0

abbrev pub put : List ℕ → ℕ → ℕ → List ℕ
put st i f = cond (ltb i (length st)) (set st i f) st

abbrev pub top_after : List ℕ → ℕ → ℕ
top_after st i = cond (ltb i (length st)) (i + 1) i

abbrev pub hold : ℕ → ℕ
hold f = get_or holds (f % 64) 0

abbrev pub hole : ℕ → ℕ
hole f = get_or holes (f % 64) 0

abbrev pub maker : ℕ → ℕ
maker f = get_or makes (f % 64) 0

abbrev pub end_of : ℕ → ℕ
end_of f = get_or ends (f % 64) 0

-- ---- tokens

abbrev pub binding : ℕ → ℕ
binding k = get_or binds (k % 64) 0

abbrev pub operand_sort : ℕ → ℕ
operand_sort k = get_or takes (k % 64) 0

abbrev pub beginning : ℕ → ℕ
beginning k = get_or beginnings (k % 64) 0

abbrev pub closing : ℕ → ℕ
closing k = get_or closes (k % 64) 0

-- ---- rows

-- "43 when the rows pass the buffer or 2,048"
abbrev pub row_fits : ℕ → ℕ → Bool
row_fits n rows = ltb rows 2048 && leb (4 * rows + 4) n

abbrev pub full : ℕ
full = 4095

abbrev pub rows_after : List ℤ → ℕ → ℕ
rows_after ws rows = cond (row_fits (length ws) rows) (rows + 1) full

abbrev pub word : ℕ → ℤ
word n = pos (n % 65536)

abbrev pub with_words : List ℤ → ℕ → List ℤ → List ℤ
with_words ws rows vs = cond (row_fits (length ws) rows) (sets ws (4 * rows) vs) ws

abbrev pub with_row : List ℤ → ℕ → ℕ → ℕ → ℕ → ℕ → List ℤ
with_row ws rows k a b c = with_words ws rows (word k ∷ word a ∷ word b ∷ word c ∷ [])

abbrev pub with_constant : List ℤ → ℕ → ℤ → List ℤ
with_constant ws rows z = with_words ws rows (pos 1 ∷ z ∷ pos 0 ∷ pos 0 ∷ [])

abbrev pub is_single : ℕ → Bool
is_single k = eqb k 8 || eqb k 22 || eqb k 38

abbrev pub operator_row : List ℤ → ℕ → ℕ → List ℤ
operator_row ws rows f =
    cond (is_single (f % 64)) (with_row ws rows (f % 64) (rows - 1) 0 0) (with_row ws rows (f % 64) (first_part f) (rows - 1) 0)

-- ---- sorts

abbrev pub N : ℕ
N = 78

abbrev pub E : ℕ
E = 69

abbrev pub F : ℕ
F = 70

abbrev pub S : ℕ
S = 83

abbrev pub B : ℕ
B = 66

abbrev pub is_value : ℕ → Bool
is_value s = eqb s E || eqb s F

-- whether a hole takes a sort
abbrev pub fits : ℕ → ℕ → Bool
fits h s = eqb h s || (eqb h B && is_value s)

-- whether a sort may begin what a hole takes
abbrev pub begins : ℕ → ℕ → Bool
begins h s = fits h s || (eqb h F && is_value s)

-- ---- states

abbrev pub nowhere : ℕ
nowhere = 65535

abbrev pub refused : State → ℕ → State
refused s p = record {
  mode = 4;
  sort = s.sort;
  number = s.number;
  bodies = s.bodies;
  rows = s.rows;
  top = s.top;
  out = s.out;
  place = p;
}

abbrev pub complete : State → ℕ → ℕ → ℕ → State
complete s t r n = record {
  mode = 1;
  sort = t;
  number = s.number;
  bodies = s.bodies;
  rows = r;
  top = n;
  out = s.out;
  place = s.place;
}

abbrev pub due : State → ℕ → ℕ → State
due s m n = record {
  mode = m;
  sort = s.sort;
  number = s.number;
  bodies = s.bodies;
  rows = s.rows;
  top = n;
  out = s.out;
  place = s.place;
}

-- the first place is kept
abbrev pub out_after : ℕ → Bool → ℕ → ℕ
out_after o b p = cond b o (cond (eqb o nowhere) p o)

abbrev pub noted : State → Bool → ℕ → State
noted s b p = record {
  mode = s.mode;
  sort = s.sort;
  number = s.number;
  bodies = s.bodies;
  rows = s.rows;
  top = s.top;
  out = out_after s.out b p;
  place = s.place;
}

abbrev pub kept : Bool → ℕ → ℕ
kept b n = cond b n 0

-- a state, and the two runs
pub record Config : Type 0 where
  pub state : State
  pub stack : List ℕ
  pub words : List ℤ

abbrev pub config : State → List ℕ → List ℤ → Config
config s st ws = record { state = s; stack = st; words = ws }

-- ---- a token where a part begins

abbrev pub counted : State → ℕ → State
counted s k = record {
  mode = 1;
  sort = N;
  number = k;
  bodies = s.bodies;
  rows = s.rows;
  top = s.top;
  out = s.out;
  place = s.place;
}

unfoldable pub begin_count : State → ℕ → ℕ → State
begin_count s v p = let b = mark_fits s.bodies v in counted (noted s b p) (kept b v)

abbrev pub constant_word : Bool → ℕ → ℤ
constant_word m v = cond (leb v (limit m)) (cond m (minus v) (pos v)) (pos 0)

unfoldable pub begin_constant : Config → Bool → ℕ → ℕ → Config
begin_constant c m v p =
    let s = c.state in
    config (complete (noted s (leb v (limit m)) p) E (rows_after c.words s.rows) (cond m (s.top - 1) s.top)) c.stack
    (with_constant c.words s.rows (constant_word m v))

unfoldable pub begin_numeral : Config → ℕ → ℕ → Config
begin_numeral c v p =
    let s = c.state in
    let f = top_frame c.stack s.top in
    cond (eqb (hole f) N) (config (begin_count s v p) c.stack c.words)
    (cond (begins (hole f) E) (begin_constant c (eqb (f % 64) 8) v p) (config (refused s p) c.stack c.words))

unfoldable pub begin_variable : Config → ℕ → ℕ → Config
begin_variable c v p =
    let s = c.state in
    let b = variable_fits v in
    config (complete (noted s b p) E (rows_after c.words s.rows) s.top) c.stack (with_row c.words s.rows 2 (kept b v) 0 0)

unfoldable pub begin_assignment : Config → ℕ → ℕ → Config
begin_assignment c v p =
    let s = c.state in
    let b = variable_fits v in
    config (due (noted s b p) 3 (top_after c.stack s.top)) (put c.stack s.top (frame 33 (kept b v) 0)) c.words

unfoldable pub begin_name : Config → ℕ → ℕ → Config
begin_name c v p =
    let s = c.state in
    let h = hole (top_frame c.stack s.top) in
    cond (eqb h S) (begin_assignment c v p)
    (cond (begins h E) (begin_variable c v p) (config (refused s p) c.stack c.words))

-- true, false and skip
abbrev pub is_leaf : ℕ → Bool
is_leaf k = eqb k 16 || eqb k 17 || eqb k 32

-- the frame that a token opens
abbrev pub opened : ℕ → ℕ → ℕ
opened k h =
    cond (eqb k 4) 8 (cond (eqb k 10) 49 (cond (eqb k 35) 52 (cond (eqb k 36) 55 (cond (eqb k 48) 59
    (cond (eqb k 40) (cond (eqb h E) 63 62) k)))))

-- what is due after it
abbrev pub due_after : ℕ → ℕ
due_after k = cond (eqb k 9) 2 (cond (eqb k 10) 2 0)

unfoldable pub begin_leaf : Config → ℕ → Config
begin_leaf c k =
    let s = c.state in
    config (complete s (beginning k) (rows_after c.words s.rows) s.top) c.stack (with_row c.words s.rows k 0 0 0)

unfoldable pub begin_form : Config → ℕ → Config
begin_form c k =
    let s = c.state in
    let h = hole (top_frame c.stack s.top) in
    config (due s (due_after k) (top_after c.stack s.top)) (put c.stack s.top (frame (opened k h) 0 0)) c.words

unfoldable pub begin_word : Config → ℕ → ℕ → Config
begin_word c k p =
    let s = c.state in
    let h = hole (top_frame c.stack s.top) in
    cond (begins h (beginning k)) (cond (is_leaf k) (begin_leaf c k) (begin_form c k)) (config (refused s p) c.stack c.words)

unfoldable pub begin : Config → ℕ → ℕ → ℕ → Config
begin c k v p = cond (eqb k 1) (begin_numeral c v p) (cond (eqb k 2) (begin_name c v p) (begin_word c k p))

-- ---- a token after a part

pub record Reduced : Type 0 where
  pub sort : ℕ
  pub rows : ℕ
  pub top : ℕ
  pub words : List ℤ

abbrev pub reduced_to : ℕ → ℕ → ℕ → List ℤ → Reduced
reduced_to t r n ws = record { sort = t; rows = r; top = n; words = ws }

-- operators that hold the part at least so tight take it; the sort 0 says that one did not fit
unfoldable pub reduce : List ℕ → ℕ → ℕ → ℕ → ℕ → List ℤ → Reduced
reduce st b zero t r ws = reduced_to t r 0 ws
reduce st b (suc n) t r ws =
    let f = get_or st n 0 in
    cond (ltb (hold f) b) (reduced_to t r (suc n) ws)
    (cond (eqb t (hole f)) (reduce st b n (maker f) (rows_after ws r) (operator_row ws r f)) (reduced_to 0 r (suc n) ws))

-- the row of a form whose last place is complete
abbrev pub form_kind : ℕ → ℕ
form_kind n = cond (eqb n 51) 10 (cond (eqb n 54) 35 (cond (eqb n 58) 36 48))

abbrev pub is_last : ℕ → Bool
is_last n = eqb n 51 || eqb n 54 || eqb n 58 || eqb n 61

-- a body is closed with its loop
abbrev pub bodies_after : ℕ → ℕ → ℕ
bodies_after n d = cond (eqb n 58) (d - 1) d

abbrev pub with_bodies : State → ℕ → State
with_bodies s d = record {
  mode = s.mode;
  sort = s.sort;
  number = s.number;
  bodies = d;
  rows = s.rows;
  top = s.top;
  out = s.out;
  place = s.place;
}

abbrev pub with_rows : State → ℕ → State
with_rows s r = record {
  mode = s.mode;
  sort = s.sort;
  number = s.number;
  bodies = s.bodies;
  rows = r;
  top = s.top;
  out = s.out;
  place = s.place;
}

unfoldable pub close_form : Config → ℕ → Config
close_form c f =
    let s = c.state in
    config (complete (with_bodies s (bodies_after (f % 64) s.bodies)) (maker f) (rows_after c.words s.rows) (s.top - 1)) c.stack
    (with_row c.words s.rows (form_kind (f % 64)) (first_part f) (second_part f) (s.rows - 1))

unfoldable pub close_mark : Config → Config
close_mark c =
    let s = c.state in
    config (complete s E (rows_after c.words s.rows) (s.top - 1)) c.stack (with_row c.words s.rows 9 s.number 0 0)

-- the note is written, and the body begins
unfoldable pub open_body : Config → ℕ → Config
open_body c f =
    let s = c.state in
    let r = rows_after c.words s.rows in
    config (due (with_rows (with_bodies s (s.bodies % 65536 + 1)) r) 0 (top_after c.stack (s.top - 1)))
    (put c.stack (s.top - 1) (frame 58 (first_part f) (r - 1)))
    (with_row c.words s.rows 37 (second_part f) (s.rows - 1) 0)

unfoldable pub next_place : Config → ℕ → Config
next_place c f =
    let s = c.state in
    config (due s 0 (top_after c.stack (s.top - 1)))
    (put c.stack (s.top - 1) (frame (f % 64 + 1) (second_part f) (s.rows - 1))) c.words

abbrev pub is_group : ℕ → Bool
is_group n = eqb n 62 || eqb n 63

unfoldable pub close : Config → ℕ → Config
close c f =
    let s = c.state in
    cond (is_group (f % 64)) (config (complete s s.sort s.rows (s.top - 1)) c.stack c.words)
    (cond (eqb (f % 64) 9) (close_mark c)
    (cond (is_last (f % 64)) (close_form c f)
    (cond (eqb (f % 64) 57) (open_body c f) (next_place c f))))

unfoldable pub push_infix : Config → ℕ → Config
push_infix c k =
    let s = c.state in
    config (due s 0 (top_after c.stack s.top)) (put c.stack s.top (frame k (s.rows - 1) 0)) c.words

unfoldable pub go_on : Config → ℕ → ℕ → Config
go_on c k p =
    let s = c.state in
    let f = top_frame c.stack s.top in
    cond (eqb (operand_sort k) s.sort) (cond (begins (hole f) (maker k)) (push_infix c k) (config (refused s p) c.stack c.words))
    (cond (eqb (end_of f) (closing k) && fits (hole f) s.sort) (close c f) (config (refused s p) c.stack c.words))

unfoldable pub after : Config → ℕ → ℕ → Config
after c k p =
    let s = c.state in
    let r = reduce c.stack (binding k) s.top s.sort s.rows c.words in
    go_on (config (complete s r.sort r.rows r.top) c.stack r.words) k p

-- ---- tokens

-- post, where the operator that waits is a semicolon, gives it up
unfoldable pub at_post : Config → ℕ → Config
at_post c p =
    let s = c.state in
    cond (eqb (top_frame c.stack s.top % 64) 34) (after (config (complete s S s.rows (s.top - 1)) c.stack c.words) 50 p)
    (config (refused s p) c.stack c.words)

unfoldable pub expect : Config → ℕ → ℕ → ℕ → Config
expect c k e p =
    let s = c.state in
    config (cond (eqb k e) (due s 0 s.top) (refused s p)) c.stack c.words

unfoldable pub take_part : Config → ℕ → ℕ → ℕ → Config
take_part c k v p = cond (eqb k 50) (at_post c p) (begin c k v p)

unfoldable pub take_after : Config → ℕ → ℕ → Config
take_after c k p = cond (eqb k 50) (config (refused c.state p) c.stack c.words) (after c k p)

-- the token k with its value v, at the place p
unfoldable pub take : Config → ℕ → ℕ → ℕ → Config
take c k v p =
    let m = c.state.mode in
    cond (eqb m 0) (take_part c k v p)
    (cond (eqb m 1) (take_after c k p)
    (cond (eqb m 2) (expect c k 40 p)
    (cond (eqb m 3) (expect c k 33 p) c)))

-- ---- a text

abbrev pub start_state : State
start_state = record { mode = 0; sort = 0; number = 0; bodies = 0; rows = 0; top = 0; out = nowhere; place = nowhere }

abbrev pub start : List ℕ → List ℤ → Config
start st ws = config start_state st ws

unfoldable pub run : Config → List Lexeme → Config
run c [] = c
run c (l ∷ ls) = run (take c (token_number l.token) (token_value l.token) l.place) ls
