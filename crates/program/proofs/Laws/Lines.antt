-- The ways out of a line. Assumes nothing.
use mathlib.Core.Path.{◌≡◌, sym, ap, ◌∙◌}
use mathlib.Core.Bool.{cond}
use mathlib.Core.List.{List, [], ◌∷◌, ◌++◌}
use Prim.Native.Nat.{ℕ, ◌≤◌}
use native.Mathlib.Omega.{arith}
use lib.ListN.{length, replicate, length-append}
use lib.Dec.{eqb}
use lib.IntN.{ℤ}
use borrow.Author.Tests.{eq-eqb, ne_eqb}
use Rattle.calls.specs.Refusals.{borrowed}
use Rattle.calls.specs.Changes.{Side}
use Rattle.calls.specs.Calls.{Booked, book}
use Rattle.calls.specs.Program.{Line, booking, unread, decimal, refused_text, unread_text, Ran, ran_line}
use Rattle.print.specs.declared.Printer.{Printer}
use Rattle.print.specs.Written.{Prints}
use Rattle.print.proofs.Laws.Puts.{prints_as, prints_none}
use Rattle.print.proofs.Laws.Numbers.{length_decimal}
use Rattle.program.specs.Simulation.{Does}

length_refused : (k n : ℕ) → length (refused_text k n) ≤ 55
unfolding refused_text
length_refused k n =
    let last : List ℕ = decimal n ++ (10 ∷ []) in
    omega (
      arith,
      length-append (decimal k) (32 ∷ 114 ∷ 101 ∷ 102 ∷ 117 ∷ 115 ∷ 101 ∷ 100 ∷ 32 ∷ last),
      length-append (decimal n) (10 ∷ []),
      length_decimal k,
      length_decimal n,
    )

length_unread : (k : ℕ) → length (unread_text k) ≤ 55
unfolding unread_text
length_unread k = omega (arith, length-append (decimal k) (32 ∷ 117 ∷ 110 ∷ 114 ∷ 101 ∷ 97 ∷ 100 ∷ 10 ∷ []), length_decimal k)

-- the same line by another name
pub does_as : {ran ran' : Ran} {left : List ℕ} {p q : Printer} → ran ≡ ran' → Does ran left p q → Does ran' left p q
does_as e d =
    record {
      image = d.image ∙ ap (λ (r : Ran). r.image) e;
      printed = prints_as (ap (λ (r : Ran). r.written) e) d.printed;
      few = d.few;
    }

pub does_line : (k : ℕ) (img : List ℕ) {l l' : Line} {left : List ℕ} {p q : Printer} → l ≡ l'
    → Does (ran_line 12 64 k l img) left p q → Does (ran_line 12 64 k l' img) left p q
does_line k img e d = does_as (ap (λ l. ran_line 12 64 k l img) e) d

-- what a booking does, from what the call returned
ran_of : ℕ → Booked → Ran
ran_of k r = record { written = cond (eqb r.status 0) [] (refused_text k r.status); image = r.image }

module _ (k : ℕ) (side : Side) (v : ℤ) (s e : ℕ) (img : List ℕ) {n : ℕ} {left scratch : List ℕ}
    (b : record { status = n; image = left; scratch = scratch } ≡ book borrowed 12 side v s e img (replicate 8 0)) where
  ran_booking : ran_of k (record { status = n; image = left; scratch = scratch }) ≡ ran_line 12 64 k (booking side v s e) img
  unfolding ran_of ran_line borrowed
  ran_booking = ap (ran_of k) b

  silent : n ≡ 0 → record { written = []; image = left } ≡ ran_of k (record { status = n; image = left; scratch = scratch })
  unfolding ran_of
  silent z = ap (λ t. record { written = cond t [] (refused_text k n); image = left }) (sym (eq-eqb n 0 z))

  told : (n ≡ 0 → ⊥)
      → record { written = refused_text k n; image = left } ≡ ran_of k (record { status = n; image = left; scratch = scratch })
  unfolding ran_of
  told z = ap (λ t. record { written = cond t [] (refused_text k n); image = left }) (sym (ne_eqb n 0 z))

  pub does_accepted : n ≡ 0 → (p : Printer) → p.at ≤ length p.out.now → Does (ran_line 12 64 k (booking side v s e) img) left p p
  does_accepted z p h = does_as (silent z ∙ ran_booking) (record { image = λ j. left; printed = prints_none p h; few = omega arith })

  pub does_refused : (n ≡ 0 → ⊥) → {p q : Printer} → Prints p (refused_text k n) q
      → Does (ran_line 12 64 k (booking side v s e) img) left p q
  does_refused z f =
      does_as (told z ∙ ran_booking) (record { image = λ j. left; printed = f; few = omega (arith, f.put.offset, length_refused k n) })

-- "`line K unread` for any other form"
pub does_unread : (k : ℕ) {img : List ℕ} {p q : Printer} → Prints p (unread_text k) q → Does (ran_line 12 64 k unread img) img p q
unfolding ran_line
does_unread k {img} f = record { image = λ j. img; printed = f; few = omega (arith, f.put.offset, length_unread k) }
