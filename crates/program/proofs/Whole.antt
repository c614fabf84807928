-- Byte by byte, the program is document 01's. Assumes nothing.
use mathlib.Core.Path.{◌≡◌, refl, sym, ap, ◌∙◌}
use mathlib.Core.Bool.{Bool, true, false, cond}
use mathlib.Core.List.{List, [], ◌∷◌, ◌++◌, append_assoc, append-nil}
use Prim.Native.Nat.{ℕ, suc}
use native.Mathlib.Decide.{ℕ_discrete}
use native.Mathlib.Omega.{arith}
use lib.ListN.{length}
use lib.Dec.{eqb}
use Rattle.rule.specs.Time.{END}
use Rattle.calls.specs.Calls.{runs_over}
use Rattle.calls.specs.Program.{cut_at, lines_of, line_from, decimal, runs_text, Ran, ran_line, ran_lines, program}
use Rattle.print.specs.Written.{runs_line}
use Rattle.text.proofs.Laws.Texts.{Without, without_none, without_more, no_line, line_grows, line_ends, line_left}
use Rattle.program.specs.State.{ProgramState, at_first, line_run, after_byte, after_bytes, ended, listing_text}
use Rattle.program.proofs.Laws.Pieces.{goes_newline, goes_other, ended_empty, ended_line}

empty : (l : List ℕ) → length l ≡ 0 → l ≡ []
empty [] e = refl
empty (x ∷ xs) e = absurd (omega arith)

-- what has been written before, and the rest
behind : List ℕ → Ran → Ran
behind ws r = record { written = ws ++ r.written; image = r.image }

left_of : ProgramState → Ran
left_of g = record { written = g.written; image = g.image }

module _ (half pages : ℕ) where
  -- the lines of what has come since the last newline and of what is still to come
  rest_of : ProgramState → List ℕ → Ran
  rest_of g text = ran_lines half pages g.number (lines_of (g.line ++ text)) g.image

  abbrev line_of_going : ProgramState → Ran
  line_of_going g = ran_line half pages g.number (line_from (cut_at 32 g.line)) g.image

  -- one line, and more of them
  ran_more : (k : ℕ) (l : List ℕ) (ls : List (List ℕ)) (img : List ℕ)
      → ran_lines half pages k (l ∷ ls) img
      ≡ behind (ran_line half pages k (line_from (cut_at 32 l)) img).written
      (ran_lines half pages (suc k) ls (ran_line half pages k (line_from (cut_at 32 l)) img).image)
  unfolding ran_lines behind
  ran_more k l ls img = refl

  behind_behind : (xs ys : List ℕ) (r : Ran) → behind (xs ++ ys) r ≡ behind xs (behind ys r)
  unfolding behind
  behind_behind xs ys r = λ j. record { written = append_assoc xs ys r.written j; image = r.image }

  -- a line ends, and the text goes on
  newline : (g : ProgramState) (more : List ℕ) → Without 10 g.line
      → behind (line_run half pages g).written (rest_of (line_run half pages g) more) ≡ behind g.written (rest_of g (10 ∷ more))
  unfolding line_run rest_of
  newline g more w =
      let r = line_of_going g in
      behind_behind g.written r.written (ran_lines half pages (suc g.number) (lines_of more) r.image)
      ∙ ap (behind g.written) (sym (ran_more g.number g.line (lines_of more) g.image))
      ∙ ap (λ ls. behind g.written (ran_lines half pages g.number ls g.image)) (sym (line_ends more w))

  -- at the end
  at_end : (g : ProgramState) → Without 10 g.line → left_of (ended half pages g) ≡ behind g.written (rest_of g [])
  unfolding left_of behind rest_of line_run ran_lines
  at_end g w = step (ℕ_discrete (length g.line) 0)
    where
      step : Dec (length g.line ≡ 0) → left_of (ended half pages g) ≡ behind g.written (rest_of g [])
      step (yes z) =
          ap left_of (sym (ended_empty half pages g z))
          ∙ ap (λ ws. record { written = ws; image = g.image }) (sym (append-nil g.written))
          ∙ ap (λ ls. behind g.written (ran_lines half pages g.number ls g.image))
          (sym (ap lines_of (append-nil g.line ∙ empty g.line z) ∙ no_line))
      step (no n) =
          let r = line_of_going g in
          ap left_of (sym (ended_line half pages g n))
          ∙ ap (λ ws. record { written = g.written ++ ws; image = r.image }) (sym (append-nil r.written))
          ∙ ap (λ ls. behind g.written (ran_lines half pages g.number ls g.image))
          (sym (ap lines_of (append-nil g.line) ∙ line_left w (omega arith)))

  runs_on : (text : List ℕ) (g : ProgramState) → Without 10 g.line
      → left_of (ended half pages (after_bytes half pages text g)) ≡ behind g.written (rest_of g text)
  unfolding after_bytes rest_of line_run
  runs_on [] g w = at_end g w
  runs_on (b ∷ bs) g w = step (ℕ_discrete b 10) (λ h v. runs_on bs h v)
    where
      step : Dec (b ≡ 10)
          → ((h : ProgramState) → Without 10 h.line
          → left_of (ended half pages (after_bytes half pages bs h)) ≡ behind h.written (rest_of h bs))
          → left_of (ended half pages (after_bytes half pages bs (after_byte half pages b g))) ≡ behind g.written (rest_of g (b ∷ bs))
      step (yes e) on =
          ap (λ h. left_of (ended half pages (after_bytes half pages bs h))) (sym (goes_newline half pages b g e))
          ∙ on (line_run half pages g) (without_none 10)
          ∙ newline g bs w
          ∙ ap (λ x. behind g.written (rest_of g (x ∷ bs))) (sym e)
      step (no n) on =
          let h : ProgramState = record { written = g.written; line = g.line ++ (b ∷ []); number = g.number; image = g.image } in
          ap (λ x. left_of (ended half pages (after_bytes half pages bs x))) (sym (goes_other half pages b g n))
          ∙ on h (without_more b w n)
          ∙ ap (λ ls. behind g.written (ran_lines half pages g.number ls g.image)) (sym (line_grows g.line b bs))

  listed_behind : (r : Ran) → r.written ++ ((114 ∷ 117 ∷ 110 ∷ 115 ∷ 32 ∷ []) ++ (decimal (length (runs_over half 0 END r.image))
      ++ (10 ∷ runs_text (runs_over half 0 END r.image)))) ≡ r.written ++ listing_text half r.image
  unfolding listing_text runs_line
  listed_behind r = ap (λ l. r.written ++ l) (simp append_assoc)

  -- what the program writes for a text: for its lines as they come, and then the runs
  pub goes_program : (text : List ℕ)
      → program half pages text
      ≡ (ended half pages (after_bytes half pages text (at_first half pages))).written
      ++ listing_text half (ended half pages (after_bytes half pages text (at_first half pages))).image
  unfolding program at_first rest_of left_of behind
  goes_program text =
      listed_behind (rest_of (at_first half pages) text)
      ∙ ap (λ (r : Ran). r.written ++ listing_text half r.image) (sym (runs_on text (at_first half pages) (without_none 10)))

  -- ---- a text in two pieces

  pub goes_on_append : (xs ys : List ℕ) (g : ProgramState)
      → after_bytes half pages (xs ++ ys) g ≡ after_bytes half pages ys (after_bytes half pages xs g)
  unfolding after_bytes
  goes_on_append [] ys g = refl
  goes_on_append (x ∷ xs) ys g = goes_on_append xs ys (after_byte half pages x g)

  -- what was written before stays, and nothing else depends on it
  unfoldable pub onto : List ℕ → ProgramState → ProgramState
  onto ws g = record { written = ws ++ g.written; line = g.line; number = g.number; image = g.image }

  pub line_onto : (ws : List ℕ) (g : ProgramState) → line_run half pages (onto ws g) ≡ onto ws (line_run half pages g)
  unfolding line_run onto
  line_onto ws g =
      let r = line_of_going g in
      λ j. record { written = append_assoc ws g.written r.written j; line = []; number = suc g.number; image = r.image }

  goes_onto : (ws : List ℕ) (b : ℕ) (g : ProgramState) → after_byte half pages b (onto ws g) ≡ onto ws (after_byte half pages b g)
  unfolding after_byte onto
  goes_onto ws b g = step (eqb b 10) (line_onto ws g)
    where
      step : (t : Bool) → line_run half pages (onto ws g) ≡ onto ws (line_run half pages g)
          → cond t (line_run half pages (onto ws g))
          (record { written = ws ++ g.written; line = g.line ++ (b ∷ []); number = g.number; image = g.image })
          ≡ onto ws (cond t (line_run half pages g)
          (record { written = g.written; line = g.line ++ (b ∷ []); number = g.number; image = g.image }))
      step true e = e
      step false e = refl

  pub goes_on_onto : (ws text : List ℕ) (g : ProgramState)
      → after_bytes half pages text (onto ws g) ≡ onto ws (after_bytes half pages text g)
  unfolding after_bytes
  goes_on_onto ws [] g = refl
  goes_on_onto ws (b ∷ bs) g = ap (after_bytes half pages bs) (goes_onto ws b g) ∙ goes_on_onto ws bs (after_byte half pages b g)
