-- What a function that prints promises, and the pieces of what it prints. Assumes nothing.
use Rattle.std.specs.Prelude.{ℕ, ◌+◌, ◌≤◌, ◌≡◌, List, [], ◌∷◌, ◌++◌, length, ℤ, pos, negsuc}
use Rattle.fields.specs.Bytes.{patch}
use Rattle.calls.specs.Program.{decimal}
use Rattle.print.specs.declared.Printer.{Printer}

-- bs stand in s from offset `at` on, where they had room, nothing else in it has changed, and `next` is the offset behind them
pub record Put (s : List ℕ) (at : ℕ) (bs after : List ℕ) (next : ℕ) : Type 0 where
  pub room : at + length bs ≤ length s
  pub written : after ≡ patch s at bs
  pub offset : next ≡ at + length bs

-- bs are put into the printer's buffer, which stays the same one, at its offset, which is then the one behind them
pub record Prints (p : Printer) (bs : List ℕ) (q : Printer) : Type 0 where
  pub same_buffer : q.out.ghost_name ≡ p.out.ghost_name
  pub put : Put p.out.now p.at bs q.out.now q.at

-- "a minus if below zero"
unfoldable pub sign_text : ℤ → List ℕ
sign_text (pos n) = []
sign_text (negsuc n) = 45 ∷ []

-- "then `runs` with their number"
unfoldable pub runs_line : ℕ → List ℕ
runs_line n = (114 ∷ 117 ∷ 110 ∷ 115 ∷ 32 ∷ []) ++ (decimal n ++ (10 ∷ []))
