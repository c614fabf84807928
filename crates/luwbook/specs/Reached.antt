-- Where the program can be, and what it may write. What comes is the input's choice: said here is what every choice has in common. That
-- what is written in turn for the pieces of a text is document 01's output for it is `program_output` `pieces_program`. Assumes nothing.
use Rattle.std.specs.Prelude.{ℕ, zero, suc, ◌<◌, ◌≤◌, ◌^◌, ◌≡◌, Bool, true, false, List, [], length, take, Result, Ok, Err, IfOk, OnOk, is_ok}
use Rattle.rule.specs.Time.{END}
use Rattle.calls.specs.Calls.{listing}
use Rattle.program.specs.declared.Reading.{Reading}
use Rattle.program.specs.State.{ProgramState, at_first, unwritten, after_bytes, ended, listed_text}
use Rattle.program.specs.Simulation.{Simulates}
use Rattle.luwbook.specs.declared.Failed.{Failed}

-- Before the first byte, and behind every piece that came, whatever it was. What is printed goes out before the next one is run.
pub data Reached : ProgramState → Type 0 where
  first : Reached (at_first 12 64)
  next : {g : ProgramState} → Reached g → (piece : List ℕ) → Reached (after_bytes 12 64 piece (unwritten g))

-- All that may be written: what a piece prints; at the end what a last line without a newline prints, and then the runs, where there is
-- room for 1,416 of them, as many as 64 pages can have.
pub data Printed : List ℕ → Type 0 where
  by_piece : {g : ProgramState} → Reached g → (piece : List ℕ) → Printed (after_bytes 12 64 piece (unwritten g)).written
  by_last : {g : ProgramState} → Reached g → Printed (ended 12 64 (unwritten g)).written
  by_runs :
      {g : ProgramState} → Reached g → (list : List ℕ) → length list ≡ 22656
      → Printed (listed_text (listing 12 0 END (ended 12 64 (unwritten g)).image list))

-- The program is where g is, whatever is in its output.
pub record Stands (g : ProgramState) (r : Reading) (img : List ℕ) : Type 0 where
  pub had : List ℕ
  pub from : ℕ
  pub out : List ℕ
  pub shows : Simulates had from g r img out

-- It is where it can be.
pub record Standing (r : Reading) (img : List ℕ) : Type 0 where
  pub going : ProgramState
  pub reached : Reached going
  pub stands : Stands going r img

-- A piece was run; or the program has ended for a failure, which it may claim only where something was to be written or the line's number
-- doesn't fit.
pub record Ran (piece : List ℕ) (r : Reading) (img : List ℕ) (well : Bool) (q : Reading) (after : List ℕ) : Type 0 where
  pub runs : well ≡ true → (g : ProgramState) → Stands g r img → Stands (after_bytes 12 64 piece (unwritten g)) q after
  pub silent : r.number < 2 ^ 63 → (g : ProgramState) → Stands g r img → (after_bytes 12 64 piece (unwritten g)).written ≡ [] → well ≡ true

-- What a read that is handed n bytes may answer: a failure, or how many bytes came, at most n.
abbrev pub Moved : {E : Type 0} → ℕ → Result ℕ E → Type 0
Moved n got = IfOk got (λ k. k ≤ n)

-- What a read's answer means: a failure, or how many bytes came, 0 at the end of the text. These are run.
unfoldable pub Takes : {E : Type 0} → Result ℕ E → List ℕ → Reading → List ℕ → Result ℕ Failed → Reading → List ℕ → Type 0
Takes (Err e) bytes r img went q after = (is_ok went ≡ false) × (q ≡ r) × (after ≡ img)
Takes (Ok zero) bytes r img went q after = (went ≡ Ok 0) × (q ≡ r) × (after ≡ img)
Takes (Ok (suc k)) bytes r img went q after = IfOk went (λ n. n ≡ suc k) × Ran (take (suc k) bytes) r img (is_ok went) q after

-- Unless something failed, the program is where it can be.
abbrev pub Well : {A : Type 0} → Result A Failed → Reading → List ℕ → Type 0
Well went q img = OnOk went (Standing q img)

-- The last line was run, if its newline is missing.
abbrev pub Ends : Reading → List ℕ → List ℕ → Type 0
Ends r img after = (g : ProgramState) → Stands g r img → after ≡ (ended 12 64 (unwritten g)).image
