-- The lines of a text, as they come byte by byte. Assumes nothing.
use mathlib.Core.Path.{◌≡◌, refl, sym, ap, ◌∙◌}
use mathlib.Core.Bool.{Bool, true, false, cond}
use Prim.Native.Nat.{ℕ, suc, ◌+◌, ◌<◌}
use native.Mathlib.Numerals.{add-one}
use native.Mathlib.Omega.{arith}
use mathlib.Core.List.{List, [], ◌∷◌, ◌++◌}
use lib.ListN.{length, take, drop, length-append}
use lib.Seq.{take_at, drop-append-add, append_snoc}
use lib.Dec.{eqb}
use borrow.Author.Tests.{ne_eqb}
use Rattle.calls.specs.Program.{cut_at, without_empty_last, lines_of}
use Rattle.text.proofs.Laws.Cuts.{ahead, Pieces, cut_there, cut_whole, cut_some}

-- a piece that others follow is a line; the last one is, unless it is empty
with_others : (l : List ℕ) {ms : List (List ℕ)} → Pieces ms → without_empty_last (l ∷ ms) ≡ l ∷ without_empty_last ms
unfolding without_empty_last
with_others l p = rw p.same

alone : (l : List ℕ) → 0 < length l → without_empty_last (l ∷ []) ≡ l ∷ []
unfolding without_empty_last
alone l h = ap (λ t. cond t [] (l ∷ [])) (ne_eqb (length l) 0 (λ e. omega arith))

pub no_line : lines_of [] ≡ []
unfolding lines_of without_empty_last cut_at
no_line = refl

-- ---- a text that comes byte by byte: what came since the last newline, and what is still to come

-- no byte b is among them
pub record Without (b : ℕ) (fed : List ℕ) : Type 0 where
  pub whole : ahead b fed ≡ length fed

pub without_none : (b : ℕ) → Without b []
unfolding ahead
without_none b = record { whole = refl }

ahead_append : (b : ℕ) (xs ys : List ℕ) → ahead b xs ≡ length xs → ahead b (xs ++ ys) ≡ length xs + ahead b ys
unfolding ahead
ahead_append b [] ys h = omega arith
ahead_append b (x ∷ xs) ys h = step (eqb x b) h (ahead_append b xs ys)
  where
    step : (t : Bool) → cond t 0 (suc (ahead b xs)) ≡ suc (length xs)
        → (ahead b xs ≡ length xs → ahead b (xs ++ ys) ≡ length xs + ahead b ys)
        → cond t 0 (suc (ahead b (xs ++ ys))) ≡ suc (length xs) + ahead b ys
    step true e g = absurd (omega arith)
    step false e g = omega (arith, g (omega arith))

pub without_more : {b : ℕ} {fed : List ℕ} (x : ℕ) → Without b fed → (x ≡ b → ⊥) → Without b (fed ++ (x ∷ []))
unfolding ahead
without_more {b} {fed} x w n =
    let e : ahead b (x ∷ []) ≡ 1 = ap (λ t. cond t 0 1) (ne_eqb x b n) in
    record { whole = ahead_append b fed (x ∷ []) w.whole ∙ ap (λ k. length fed + k) e ∙ sym (length-append fed (x ∷ [])) }

-- a byte that is no newline goes to what came
pub line_grows : (fed : List ℕ) (x : ℕ) (more : List ℕ) → lines_of (fed ++ x ∷ more) ≡ lines_of ((fed ++ (x ∷ [])) ++ more)
line_grows fed x more = ap lines_of (sym (append_snoc fed x more))

-- a newline ends the line
pub line_ends : {fed : List ℕ} (more : List ℕ) → Without 10 fed → lines_of (fed ++ 10 ∷ more) ≡ fed ∷ lines_of more
unfolding lines_of ahead
line_ends {fed} more w =
    let n : ahead 10 (fed ++ 10 ∷ more) ≡ length fed = ahead_append 10 fed (10 ∷ more) w.whole ∙ omega arith in
    let h : ahead 10 (fed ++ 10 ∷ more) < length (fed ++ 10 ∷ more) = omega (arith, length-append fed (10 ∷ more)) in
    ap without_empty_last
    (cut_there 10 (fed ++ 10 ∷ more) h
    ∙ ap (λ k. take k (fed ++ 10 ∷ more) ∷ cut_at 10 (drop (suc k) (fed ++ 10 ∷ more))) n
    ∙ ap (λ l. l ∷ cut_at 10 (drop (suc (length fed)) (fed ++ 10 ∷ more))) (take_at fed (10 ∷ more) (length fed) refl)
    ∙ ap (λ l. fed ∷ cut_at 10 l) (ap (λ k. drop k (fed ++ 10 ∷ more)) (sym (add-one (length fed))) ∙ drop-append-add fed (10 ∷ more) 1))
    ∙ with_others fed (cut_some 10 more)

-- at the end, what came since the last newline is a line unless it is empty
pub line_left : {fed : List ℕ} → Without 10 fed → 0 < length fed → lines_of fed ≡ fed ∷ []
unfolding lines_of
line_left {fed} w h = ap without_empty_last (cut_whole 10 fed (omega (arith, w.whole))) ∙ alone fed h
