-- Wherever a text is cut into pieces, what is written is the program's output. Assumes nothing.
use mathlib.Core.Path.{◌≡◌, refl, sym, ap, ◌∙◌}
use mathlib.Core.Bool.{Bool, true, false, cond}
use mathlib.Core.List.{List, [], ◌∷◌, ◌++◌, append_assoc, append-nil}
use Prim.Native.Nat.{ℕ}
use lib.ListN.{length}
use lib.Dec.{eqb}
use Rattle.rule.specs.Time.{END}
use Rattle.lists.specs.Lists.{concat_map}
use Rattle.calls.specs.Calls.{listing}
use Rattle.calls.specs.Program.{program}
use Rattle.program.specs.State.{ProgramState, at_first, unwritten, line_run, after_bytes, ended, listed_text}
use Rattle.program.proofs.Whole.{onto, line_onto, goes_on_append, goes_on_onto}
use Rattle.program_output.specs.Pieces.{written_for}
use Rattle.program_output.proofs.Output.{program_written}

ended_onto : (ws : List ℕ) (g : ProgramState) → ended 12 64 (onto 12 64 ws g) ≡ onto 12 64 ws (ended 12 64 g)
unfolding ended onto
ended_onto ws g = step (eqb (length g.line) 0) (line_onto 12 64 ws g)
  where
    step : (t : Bool) → line_run 12 64 (onto 12 64 ws g) ≡ onto 12 64 ws (line_run 12 64 g)
        → cond t (onto 12 64 ws g) (line_run 12 64 (onto 12 64 ws g)) ≡ onto 12 64 ws (cond t g (line_run 12 64 g))
    step true e = refl
    step false e = e

module _ (list : List ℕ) where
  -- what is written in all by a program that has come to its text's end
  in_all : ProgramState → List ℕ
  in_all g = (ended 12 64 g).written ++ listed_text (listing 12 0 END (ended 12 64 g).image list)

  in_all_onto : (ws : List ℕ) (g : ProgramState) → in_all (onto 12 64 ws g) ≡ ws ++ in_all g
  unfolding in_all onto
  in_all_onto ws g =
      ap (λ (h : ProgramState). h.written ++ listed_text (listing 12 0 END h.image list)) (ended_onto ws g)
      ∙ append_assoc ws (ended 12 64 g).written (listed_text (listing 12 0 END (ended 12 64 g).image list))

  written_before : (h : ProgramState) → onto 12 64 h.written (unwritten h) ≡ h
  unfolding onto unwritten
  written_before h = ap (λ ws. record { written = ws; line = h.line; number = h.number; image = h.image }) (append-nil h.written)

  for_pieces : (pieces : List (List ℕ)) (g : ProgramState)
      → written_for list pieces g ≡ in_all (after_bytes 12 64 (concat_map (λ piece. piece) pieces) (unwritten g))
  unfolding written_for in_all after_bytes concat_map
  for_pieces [] g = refl
  for_pieces (piece ∷ pieces) g =
      let h : ProgramState = after_bytes 12 64 piece (unwritten g) in
      let rest : List ℕ = concat_map (λ p. p) pieces in
      ap (λ l. h.written ++ l) (for_pieces pieces h)
      ∙ sym (in_all_onto h.written (after_bytes 12 64 rest (unwritten h)))
      ∙ ap in_all (sym (goes_on_onto 12 64 h.written rest (unwritten h)))
      ∙ ap (λ k. in_all (after_bytes 12 64 rest k)) (written_before h)
      ∙ ap in_all (sym (goes_on_append 12 64 piece rest (unwritten g)))

  -- what is written from the first byte on is document 01's output for the pieces put together
  pub pieces_program : length list ≡ 22656 → (pieces : List (List ℕ))
      → written_for list pieces (at_first 12 64) ≡ program 12 64 (concat_map (λ piece. piece) pieces)
  unfolding in_all at_first unwritten
  pieces_program n pieces = for_pieces pieces (at_first 12 64) ∙ sym (program_written (concat_map (λ piece. piece) pieces) list n)
