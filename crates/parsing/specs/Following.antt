-- What it is that the machine follows the automaton: where that goes on to a state, the machine holds that state
-- (`Kept`), by the move that was named if the token's number is in range, and where it refuses, the machine says so
-- and where (`Refused`). Assumes nothing.
use Rattle.std.specs.Prelude.{ℕ, ◌≡◌, refl, Bool, true, false, cond, length}
use Rattle.std.proofs.Common.{sym, subst}
use Rattle.std.proofs.Math.Option.{Option, none, some}
use Rattle.script.specs.Listing.{guarded}
use Rattle.theorems.specs.Options.{none_is_not, some_inj}
use Rattle.grammar.specs.States.{State}
use Rattle.parser.specs.Machine.{Config, out_after}
use Rattle.parsing.specs.Encoding.{Control}

-- what is known of the configuration after a move, whatever the move
pub record Going : Type 0 where
  pub out : ℕ
  pub place : ℕ
  pub stack : ℕ
  pub words : ℕ
  -- the place of the token, and whether its number is in range
  pub here : ℕ
  pub sure : Bool

-- the token at p, whose numbers are in range if b
abbrev pub from : Config → Bool → ℕ → Going
from c b p =
    record {
      out = out_after c.state.out b p;
      place = c.state.place;
      stack = length c.stack;
      words = length c.words;
      here = p;
      sure = b;
    }

pub record Kept (s : State) (g : Going) (c : Config) : Type 0 where
  pub control : Control s c
  pub out : c.state.out ≡ g.out
  pub place : c.state.place ≡ g.place
  pub stack : length c.stack ≡ g.stack
  pub words : length c.words ≡ g.words

pub record Refused (p : ℕ) (c : Config) : Type 0 where
  pub mode : c.state.mode ≡ 4
  pub place : c.state.place ≡ p

-- o is what the automaton does, and m the move
pub record Follows (o : Option State) (g : Going) (m c : Config) : Type 0 where
  pub goes : (s : State) → o ≡ some s → Kept s g c
  pub stops : o ≡ none → Refused g.here c
  pub moved : (s : State) → o ≡ some s → g.sure ≡ true → c ≡ m

pub went : {s : State} {g : Going} {m c : Config} → Kept s g c → (g.sure ≡ true → c ≡ m) → Follows (some s) g m c
went {s} {g} {m} {c} k e =
    record { goes = λ r q. subst (λ u. Kept u g c) (some_inj q) k; stops = λ q. none_is_not (sym q); moved = λ r q. e }

pub stopped : {g : Going} {m c : Config} → Refused g.here c → Follows none g m c
stopped k = record { goes = λ r e. none_is_not e; stops = λ e. k; moved = λ r e. none_is_not e }

-- the same test on both sides
pub tested : {o : Option State} {g : Going} {m c d : Config} (k b : Bool) → k ≡ b → (b ≡ true → Follows o g m c)
    → Refused g.here d
    → Follows (guarded b o) g m (cond k c d)
tested k true e go stop = rw e (go refl)
tested k false e go stop = rw e (stopped stop)
