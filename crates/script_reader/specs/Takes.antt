-- What is known of the reader between its parts: after the tokens (`Takes`), after the marks (`Told`), and before a refusal clears the
-- words (`Comes`). Assumes nothing.
use Rattle.std.specs.Prelude.{ℕ, ◌*◌, ◌≤◌, ◌≡◌, List, ℤ, length, Result, Ok, Err}
use Rattle.grammar.specs.Scanning.{Scanned, no_token, lexemes, Lexeme}
use Rattle.grammar.specs.Outcome.{refused, outcome}
use Rattle.grammar.specs.Answer.{Answer, answer}
use Rattle.marks.specs.Quads.{marks_named}
use Rattle.parser.specs.declared.State.{State}
use Rattle.parser.specs.Machine.{Config, run, nowhere, full}
use Rattle.script_reader.specs.declared.refusals.Fault.TheVariants.{NoToken, NoText, OutOfRange, NoRoom}
use Rattle.script_reader.specs.declared.refusals.Refusal.{Refusal}
use Rattle.script_reader.specs.Results.{fault_number, answer_of}

-- the scan r of a text's bytes, taken from c on
pub record Takes (r : Scanned) (c : Config) (p : Result State Refusal) (ws : List ℤ) : Type 0 where
  pub stops : (q : ℕ) → r ≡ no_token q → p ≡ Err (record { fault = NoToken; place = q })
  pub goes : (ls : List Lexeme) → r ≡ lexemes ls → (p ≡ Ok (run c ls).state) × (ws ≡ (run c ls).words)
  pub size : length ws ≡ length c.words

-- the rows of a state that is read stand in the words
abbrev pub Taken : State → List ℤ → Type 0
Taken s ws = (s.mode ≡ 4 → ⊥) → s.out ≡ nowhere → (s.rows ≡ full → ⊥) → (4 * s.rows ≤ length ws) × (s.rows ≤ 2048)

pub data Told (s : State) (ws : List ℤ) (r : Result ℕ Refusal) (ws' : List ℤ) : Type 0 where
  no_text : s.mode ≡ 4 → r ≡ Err (record { fault = NoText; place = s.place }) → Told s ws r ws'
  out_of_range : (s.mode ≡ 4 → ⊥) → (s.out ≡ nowhere → ⊥) → r ≡ Err (record { fault = OutOfRange; place = s.out }) → Told s ws r ws'
  no_room : (s.mode ≡ 4 → ⊥) → s.out ≡ nowhere → s.rows ≡ full → r ≡ Err (record { fault = NoRoom; place = 0 }) → Told s ws r ws'
  read : (s.mode ≡ 4 → ⊥) → s.out ≡ nowhere → (s.rows ≡ full → ⊥) → r ≡ Ok (4 * s.rows) → ws' ≡ marks_named s.rows ws → Told s ws r ws'

-- what is answered, and the words that are left
abbrev pub Gives : Answer → Result ℕ Refusal → List ℤ → Type 0
Gives a r ws = answer_of r ws ≡ a

-- what a text of these bytes comes to with so many words; those of a refusal are still to be cleared
abbrev pub Comes : List ℕ → ℕ → Result ℕ Refusal → List ℤ → Type 0
Comes bs room (Ok n) ws = Gives (answer bs room) (Ok n) ws
Comes bs room (Err e) ws = outcome room bs ≡ refused (fault_number e.fault) e.place
