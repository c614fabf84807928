-- The full listing, printed from what the call returned. Assumes nothing.
use mathlib.Core.Path.{◌≡◌, refl, sym, ap, ◌∙◌}
use mathlib.Core.Bool.{Bool, true, false, cond, not, ◌&&◌}
use mathlib.Core.List.{List, [], ◌∷◌, ◌++◌}
use Prim.Native.Nat.{ℕ, ◌+◌, ◌*◌, ◌≤◌}
use native.Mathlib.Omega.{arith}
use lib.ListN.{length, length-append}
use lib.Dec.{eqb, ltb}
use borrow.Author.Tests.{ltb-false}
use Rattle.std.specs.Prelude.{Result, Ok, Err}
use Rattle.std.specs.Result.{result_unwrap_or}
use Rattle.rule.specs.Time.{span_ok}
use Rattle.image.specs.Images.{length_ok}
use Rattle.image.specs.Listing.{walk_over}
use Rattle.calls.specs.Refusals.{first}
use Rattle.calls.specs.Calls.{Listed, head_ok, runs_over, too_short, listing_status, listing}
use Rattle.calls.specs.Program.{decimal, runs_text}
use Rattle.print.specs.declared.Printer.{Printer}
use Rattle.print.specs.Written.{Prints, runs_line}
use Rattle.print.proofs.Laws.Numbers.{length_decimal}
use Rattle.calls.specs.declared.refusals.Refusal.{Refusal}
use Rattle.luwhenoka.specs.Answers.{listed_of, runs_of}
use Rattle.program.specs.Listed.{runs_at}
use Rattle.program.specs.State.{listed_text}

-- how far the line of the runs' number reaches at most
pub behind_runs_line : {p q : Printer} (n : ℕ) → Prints p (runs_line n) q → q.at ≤ p.at + 26
unfolding runs_line
behind_runs_line n f = omega (arith, f.put.offset, length-append (decimal n) (10 ∷ []), length_decimal n)

-- the runs that a listing returns have room: 15 turns it back else
has_room : (w x y z : Bool) (runs size : ℕ) → z ≡ ltb size (16 * runs)
    → 16 * cond (eqb (first ((16, w) ∷ (11, x) ∷ (21, y) ∷ (15, z) ∷ [])) 0) runs 0 ≤ size
unfolding first
has_room true x y z runs size e = omega arith
has_room false true y z runs size e = omega arith
has_room false false true z runs size e = omega arith
has_room false false false true runs size e = omega arith
has_room false false false false runs size e = ltb-false size (16 * runs) (sym e)

-- no run is told at a refusal
runs_told : (r : Result ℕ Refusal) → result_unwrap_or r 0 ≡ runs_of r
runs_told (Ok n) = refl
runs_told (Err refusal) = refl

module _ (a b : ℕ) (img out : List ℕ) (r : Result ℕ Refusal) (after : List ℕ) (e : listed_of r after ≡ listing 12 a b img out) (n : ℕ)
    (told : n ≡ result_unwrap_or r 0) where
  pub listed_room : 16 * n ≤ length out
  unfolding listing listing_status too_short
  listed_room =
      let runs = length (runs_over 12 a b img) in
      omega (
        arith,
        told,
        runs_told r,
        ap (λ (l : Listed). l.runs) e,
        has_room (not (length_ok 12 img)) (not (span_ok a b)) (not (head_ok 12 img && (walk_over 12 img a b).fit))
            (ltb (length out) (16 * runs)) runs (length out) refl,
      )

  pub listed_printed : runs_line n ++ runs_text (runs_at after 0 n) ≡ listed_text (listing 12 a b img out)
  unfolding listed_text
  listed_printed = ap (λ k. runs_line k ++ runs_text (runs_at after 0 k)) (told ∙ runs_told r) ∙ ap listed_text e
