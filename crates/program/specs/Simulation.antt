-- What the code holds of the program as it goes. Assumes nothing.
use Rattle.std.specs.Prelude.{ℕ, ◌+◌, ◌*◌, ◌≤◌, ◌≡◌, List}
use Rattle.calls.specs.Program.{Ran}
use Rattle.text.specs.Reading.{Holds}
use Rattle.print.specs.declared.Printer.{Printer}
use Rattle.print.specs.Written.{Put, Prints}
use Rattle.program.specs.declared.Reading.{Reading}
use Rattle.program.specs.State.{ProgramState, at_first, unwritten}

-- The image is left as a line's running leaves it, and what that prints is printed.
pub record Does (ran : Ran) (left : List ℕ) (p q : Printer) : Type 0 where
  pub image : left ≡ ran.image
  pub printed : Prints p ran.written q
  pub few : q.at ≤ p.at + 55

-- The program is where g is: its line is coming, and all that it has written stands in the output `had` from offset `from` on.
pub record Simulates (had : List ℕ) (from : ℕ) (g : ProgramState) (r : Reading) (img out : List ℕ) : Type 0 where
  pub fed : Holds r.fed g.line
  pub number : r.number ≡ g.number
  pub image : img ≡ g.image
  pub printed : Put had from g.written out r.at

-- Wherever the program was, it has gone on by f.
abbrev pub SimulatesStep : (ProgramState → ProgramState) → Reading → List ℕ → List ℕ → Reading → List ℕ → List ℕ → Type 0
SimulatesStep f r img out r' img' out' =
    (had : List ℕ) (from : ℕ) (g : ProgramState) → Simulates had from g r img out → Simulates had from (f g) r' img' out'

-- Before the first byte, with any output to print in.
abbrev pub Begins : Reading → Type 0
Begins r = (out : List ℕ) → Simulates out 0 (at_first 12 64) r (at_first 12 64).image out

-- The same program, with another output to print in from its first offset on.
abbrev pub Flushes : Reading → Reading → Type 0
Flushes r q =
    (had : List ℕ) (from : ℕ) (g : ProgramState) (img out next : List ℕ) → Simulates had from g r img out
    → Simulates next 0 (unwritten g) q img next

-- At most k lines were begun, and at most 55 bytes printed for each.
pub record Advances (k : ℕ) (r r' : Reading) : Type 0 where
  pub number : r'.number ≤ r.number + k
  pub at : r'.at ≤ r.at + 55 * k
