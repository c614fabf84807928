-- Printed runs, one behind the other. Assumes nothing.
use mathlib.Core.Path.{◌≡◌, refl, sym, ap, ◌∙◌}
use mathlib.Core.List.{List, [], ◌∷◌, ◌++◌, append_assoc, append-nil}
use Prim.Native.Nat.{ℕ, zero, suc, ◌+◌, ◌*◌, ◌-◌, ◌≤◌, ◌<◌}
use native.Mathlib.Numerals.{add-one}
use native.Mathlib.Omega.{arith}
use lib.ListN.{length, length-append}
use Rattle.rule.specs.Time.{END}
use Rattle.rule.specs.Averages.{average}
use Rattle.image.specs.Listing.{Run}
use Rattle.calls.specs.Program.{decimal, integer, average_text, run_text, runs_text}
use Rattle.print.specs.declared.Printer.{Printer}
use Rattle.print.specs.Written.{Prints}
use Rattle.print.proofs.Laws.Puts.{prints_as, prints_none, prints_then, prints_length}
use Rattle.print.proofs.Laws.Numbers.{length_instant, length_amount, length_average, run_pieces}
use Rattle.runs.specs.Listed.{run_at}
use Rattle.program.specs.Listed.{runs_at, end_before}

pub length_run : (r : Run) (end : ℕ) → length (run_text r end) ≤ 111
length_run r end =
    let a : List ℕ = decimal r.start ++ (32 ∷ []) in
    let b : List ℕ = decimal end ++ (32 ∷ []) in
    let c : List ℕ = integer r.pair.sum ++ (32 ∷ []) in
    let d : List ℕ = integer r.pair.count ++ (32 ∷ []) in
    let f : List ℕ = average_text (average 1 r.pair) in
    omega (
      arith,
      ap length (run_pieces r end refl refl refl),
      length-append a (b ++ (c ++ (d ++ (f ++ (10 ∷ []))))),
      length-append b (c ++ (d ++ (f ++ (10 ∷ [])))),
      length-append c (d ++ (f ++ (10 ∷ []))),
      length-append d (f ++ (10 ∷ [])),
      length-append f (10 ∷ []),
      length_instant r.start,
      length_instant end,
      length_amount r.pair.sum,
      length_amount r.pair.count,
      length_average (average 1 r.pair),
    )

-- where a run ends
pub end_last : (s : List ℕ) (n i : ℕ) → i + 1 ≡ n → END ≡ end_before s i (n - (i + 1))
unfolding end_before
end_last s n i e =
    let z : 0 ≡ n - (i + 1) = omega arith in
    ap (end_before s i) z

pub end_next : (s : List ℕ) (n i : ℕ) → i + 1 < n → (run_at s (i + 1)).start ≡ end_before s i (n - (i + 1))
unfolding end_before
end_next s n i h =
    let z : suc (n - (i + 1) - 1) ≡ n - (i + 1) = omega arith in
    ap (λ k. (run_at s k).start) (add-one i) ∙ ap (end_before s i) z

-- the run and those behind it
runs_first : (s : List ℕ) (i m : ℕ)
    → runs_text (runs_at s i (suc m)) ≡ run_text (run_at s i) (end_before s i m) ++ runs_text (runs_at s (suc i) m)
unfolding runs_text runs_at end_before
runs_first s i zero = sym (append-nil (run_text (run_at s i) END))
runs_first s i (suc m) = refl

-- ---- the loop's invariant

pub record Printing (p : Printer) (s : List ℕ) (n i : ℕ) (q : Printer) : Type 0 where
  pub within : i ≤ n
  pub done : List ℕ
  pub printed : Prints p done q
  pub rest : done ++ runs_text (runs_at s i (n - i)) ≡ runs_text (runs_at s 0 n)
  pub room : q.at + 111 * (n - i) ≤ length q.out.now

pub printing_none : (p : Printer) (s : List ℕ) (n : ℕ) → p.at + 111 * n ≤ length p.out.now → Printing p s n 0 p
printing_none p s n h =
    let z : n - 0 ≡ n = omega arith in
    record {
      within = omega arith;
      done = [];
      printed = prints_none p (omega arith);
      rest = ap (λ k. runs_text (runs_at s 0 k)) z;
      room = omega arith;
    }

pub printing_more : {p : Printer} {s : List ℕ} {n i : ℕ} {q r : Printer} → Printing p s n i q → i < n
    → Prints q (run_text (run_at s i) (end_before s i (n - (i + 1)))) r → Printing p s n (i + 1) r
printing_more {p} {s} {n} {i} {q} {r} so h f =
    let m : ℕ = n - (i + 1) in
    let line : List ℕ = run_text (run_at s i) (end_before s i m) in
    let e : suc m ≡ n - i = omega arith in
    record {
      within = omega arith;
      done = so.done ++ line;
      printed = prints_then so.printed f;
      rest =
          append_assoc so.done line (runs_text (runs_at s (i + 1) m))
          ∙ ap (λ k. so.done ++ (line ++ runs_text (runs_at s k m))) (add-one i)
          ∙ ap (λ l. so.done ++ l) (sym (runs_first s i m))
          ∙ ap (λ k. so.done ++ runs_text (runs_at s i k)) e
          ∙ so.rest;
      room = omega (arith, so.room, f.put.offset, prints_length f, length_run (run_at s i) (end_before s i m));
    }

pub printing_all : {p : Printer} {s : List ℕ} {n i : ℕ} {q : Printer} → Printing p s n i q → n ≤ i
    → Prints p (runs_text (runs_at s 0 n)) q
unfolding runs_text runs_at
printing_all {p} {s} {n} {i} so h =
    let z : 0 ≡ n - i = omega arith in
    prints_as (sym (append-nil so.done) ∙ ap (λ k. so.done ++ runs_text (runs_at s i k)) z ∙ so.rest) so.printed
