-- The program byte by byte: as it stands in the middle of its text, and at the end. That this is `program` is a theorem
-- (`goes_program`). Assumes nothing.
use Rattle.std.specs.Prelude.{ℕ, suc, ◌*◌, cond, List, [], ◌∷◌, ◌++◌, length, replicate, eqb}
use Rattle.rule.specs.Time.{END}
use Rattle.page.specs.Layout.{capacity, page_size}
use Rattle.calls.specs.Calls.{Listed, format, runs_over}
use Rattle.calls.specs.Program.{cut_at, line_from, ran_line, runs_text}
use Rattle.print.specs.Written.{runs_line}
use Rattle.program.specs.Listed.{runs_at}

-- What has been written, the bytes since the last newline, the number of the line that they begin, and the image.
pub record ProgramState : Type 0 where
  pub written : List ℕ
  pub line : List ℕ
  pub number : ℕ
  pub image : List ℕ

-- "(64 pages, kind 1, w = 0)": before the first byte, where the image is all zeros
unfoldable pub at_first : ℕ → ℕ → ProgramState
at_first half pages =
    record { written = []; line = []; number = 1; image = (format half 1 0 (capacity half) (replicate (page_size half * pages) 0)).image }

-- with nothing written: what was is out
unfoldable pub unwritten : ProgramState → ProgramState
unwritten g = record { written = []; line = g.line; number = g.number; image = g.image }

-- the line that has come is run
unfoldable pub line_run : ℕ → ℕ → ProgramState → ProgramState
line_run half pages g =
    let r = ran_line half pages g.number (line_from (cut_at 32 g.line)) g.image in
    record { written = g.written ++ r.written; line = []; number = suc g.number; image = r.image }

-- a byte more: a newline ends the line, any other byte belongs to it
unfoldable pub after_byte : ℕ → ℕ → ℕ → ProgramState → ProgramState
after_byte half pages b g =
    cond (eqb b 10) (line_run half pages g)
    (record { written = g.written; line = g.line ++ (b ∷ []); number = g.number; image = g.image })

unfoldable pub after_bytes : ℕ → ℕ → List ℕ → ProgramState → ProgramState
after_bytes half pages [] g = g
after_bytes half pages (b ∷ bs) g = after_bytes half pages bs (after_byte half pages b g)

-- "the last newline may be missing": what is left is a line unless it is empty
unfoldable pub ended : ℕ → ℕ → ProgramState → ProgramState
ended half pages g = cond (eqb (length g.line) 0) g (line_run half pages g)

-- "then `runs` with their number, and each run"
unfoldable pub listing_text : ℕ → List ℕ → List ℕ
listing_text half img =
    let runs = runs_over half 0 END img in
    runs_line (length runs) ++ runs_text runs

-- the same of what a listing returned, with the runs as they stand in its output
unfoldable pub listed_text : Listed → List ℕ
listed_text l = runs_line l.runs ++ runs_text (runs_at l.output 0 l.runs)
