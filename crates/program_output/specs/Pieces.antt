-- What is written for a text that is read in pieces. Assumes nothing.
use Rattle.std.specs.Prelude.{ℕ, List, [], ◌∷◌, ◌++◌}
use Rattle.rule.specs.Time.{END}
use Rattle.calls.specs.Calls.{listing}
use Rattle.program.specs.State.{ProgramState, unwritten, after_bytes, ended, listed_text}

-- for each piece what it prints in an output that is empty again; at the end the same for a last line without a newline, and then
-- for the full listing, which is made in `list`
unfoldable pub written_for : List ℕ → List (List ℕ) → ProgramState → List ℕ
written_for list [] g =
    let last = ended 12 64 (unwritten g) in
    last.written ++ listed_text (listing 12 0 END last.image list)
written_for list (piece ∷ pieces) g =
    let h = after_bytes 12 64 piece (unwritten g) in
    h.written ++ written_for list pieces h
