-- Every run of a kind 1 image fits its 16 bytes: the bounds of fit pages hold for it. Assumes nothing.
use mathlib.Core.Path.{◌≡◌, ap}
use mathlib.Core.Bool.{true}
use mathlib.Core.List.{List}
use Prim.Native.Nat.{ℕ, zero, suc, ◌+◌, ◌*◌, ◌≤◌, ◌<◌, ◌^◌}
use native.Mathlib.Omega.{arith}
use lib.Dec.{eqb}
use lib.IntN.{nat_abs}
use borrow.Author.Tests.{eqb-true}
use Rattle.lists.specs.Lists.{All, all_none, all_more}
use Rattle.lists.proofs.All.{all_map}
use Rattle.rule.specs.declared.Pair.{Pair}
use Rattle.rule.specs.Pairs.{added, combine}
use Rattle.rule.proofs.Signed.{nat_abs_add}
use Rattle.rule.proofs.Laws.{combine_sum_bound}
use Rattle.fields.specs.Bytes.{Bytes}
use Rattle.fields.proofs.Laws.Digits.{bytes_part}
use Rattle.fields.proofs.Laws.Offsets.{u32}
use Rattle.page.specs.declared.Head.{Head}
use Rattle.page.specs.Layout.{start_at, pair_at, child_at}
use Rattle.page.specs.Fit.{PageContext, context_below}
use Rattle.fit.proofs.Laws.Pages.{Total, page_fit_is}
use Rattle.image.specs.Images.{page_at}
use Rattle.image.specs.Listing.{Run, walk, leaf_run, under}
use Rattle.program_output.proofs.Each.{each_page}

-- the bounds of a fit page, which its context carries down
pub record Bound (h : Head) (at : PageContext) (r : Run) : Type 0 where
  pub start : r.start < 2 ^ 32
  pub total : Total h at r.pair

count_bound : (kind : ℕ) → eqb kind 1 ≡ true → (p q : Pair) → nat_abs (combine kind p q).count ≤ nat_abs p.count + nat_abs q.count
unfolding combine added
count_bound kind one p q = omega (arith, ap (λ k. nat_abs (combine k p q).count) (eqb-true kind 1 one), nat_abs_add p.count q.count)

module _ (h : Head) (img : List ℕ) (bytes : Bytes img) (one : eqb h.kind 1 ≡ true) where
  starts : (p i : ℕ) → start_at (page_at 12 img p) i < 2 ^ 32
  unfolding start_at page_at
  starts p i = u32.at_fits (page_at 12 img p) (32 + 4 * i) (bytes_part img (512 * p) 512 bytes)

  pub walk_bounds : (a b : ℕ) → a < 2 ^ 32 → (l : ℕ) (at : PageContext) (p : ℕ) → All (Bound h at) (walk 12 h img a b l at p).runs
  unfolding walk leaf_run under context_below
  walk_bounds a b lo zero at p =
      let s : List ℕ = page_at 12 img p in
      each_page 12 h a b at s _
      (λ fit i l.
      all_more (record { start = omega (arith, starts p i); total = (((page_fit_is 12 h at s).0 fit).pairs i l).total one }) all_none)
  walk_bounds a b lo (suc l) at p =
      let s : List ℕ = page_at 12 img p in
      each_page 12 h a b at s _
      (λ fit i k.
      all_map _
      (λ (r : Run) (e : Bound h (context_below 12 s at i) r).
      record {
        start = e.start;
        total =
            record {
              sums = omega (arith, combine_sum_bound h.kind (pair_at 12 s i) r.pair, e.total.sums);
              counts = omega (arith, count_bound h.kind one (pair_at 12 s i) r.pair, e.total.counts);
            };
      })
      (walk_bounds a b lo l (context_below 12 s at i) (child_at 12 s i)))
