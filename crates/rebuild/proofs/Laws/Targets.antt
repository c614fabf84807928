-- The ways out where a target is filled: a sound source has a fit head, fit pages and a run. Assumes nothing.
use Prim.Native.Nat.{ℕ, suc, ◌-◌, ◌≤◌, ◌<◌}
use mathlib.Core.Path.{◌≡◌, refl, sym, ap, ◌∙◌}
use mathlib.Core.Bool.{true, false≢true}
use mathlib.Core.List.{List, []}
use native.Mathlib.Omega.{arith}
use lib.ListN.{length}
use borrow.Author.Tests.{lt-ltb, le-ltb}
use Rattle.rule.specs.declared.Pair.{Pair}
use Rattle.rule.specs.Time.{END}
use Rattle.page.specs.declared.Head.{Head}
use Rattle.image.specs.Images.{pages_in, length_ok, image_bytes}
use Rattle.image.specs.Sound.{sound_before}
use Rattle.image.specs.Instant.{look_up}
use Rattle.std.specs.Prelude.{None}
use Rattle.tight.specs.Tight.{pages_used, tight, too_small}
use Rattle.access.specs.Access.{OpenImage, head_check}
use Rattle.access.proofs.Laws.{shut}
use Rattle.calls.specs.Refusals.{first}
use Rattle.calls.proofs.Rows.{first_on, first_off}
use Rattle.calls.specs.Calls.{head, head_ok, full_runs, rebuilt_bytes}
use Rattle.book.specs.Book.{runs_after, runs_of}
use Rattle.answers.proofs.Sound.{sound_head, sound_walk}
use Rattle.answers.proofs.Full.{full_is}
use Rattle.rebuild.specs.Rebuild.{Rebuildable, Fills}

module _ (half : ℕ) (source : List ℕ) (fits : sound_before half source ≡ true) where
  -- the test of the head doesn't turn it back
  pub not_shut : None ≡ head_check half source → ⊥
  not_shut e = false≢true (sym (shut half source e) ∙ unfold head_ok in sound_head half source fits)

  some_run : 1 ≤ length (full_runs half source)
  unfolding runs_of
  some_run =
      let f : ℕ → Pair = λ t. (look_up half source t).pair in
      let e : length (full_runs half source) ≡ suc (length (runs_after f 0 (END - suc 0))) = ap length (full_is half source fits) in
      omega (arith, e)

  module _ (m : ℕ) (told : m ≡ length (full_runs half source)) where
    pub some_told : 1 ≤ m
    some_told = omega (arith, told, some_run)

    -- too few pages: nothing is written
    pub fills_not : (target : List ℕ) → pages_in half target ≤ pages_used half m → Fills half source target 24 target
    unfolding too_small first
    fills_not target few =
        let e : pages_used half m ≡ pages_used half (length (full_runs half source)) = ap (pages_used half) told in
        record {
          told =
              sym (first_on 24 [] (lt-ltb (pages_in half target) (suc (pages_used half (length (full_runs half source)))) (omega (arith, few, e))));
          leaves = refl;
        }

    module _ (target : List ℕ) (room : pages_used half m < pages_in half target) where
      pub rebuildable : {h : Head} → 2 ≤ half → half ≤ 12 → OpenImage half source h → length_ok half target ≡ true
          → Rebuildable half source h target m
      unfolding too_small
      rebuildable two twelve o whole =
          record {
            half_least = two;
            half_most = twelve;
            opened = o;
            fit = sound_walk half source fits 0 END;
            counted = told;
            some = some_told;
            whole = whole;
            room = le-ltb (pages_in half target) (suc (pages_used half m)) (omega arith);
          }

      pub fills : {left : List ℕ} → left ≡ rebuilt_bytes half source (pages_in half target) → Fills half source target 0 left
      unfolding too_small first
      fills e =
          let same : pages_used half m ≡ pages_used half (length (full_runs half source)) = ap (pages_used half) told in
          record {
            told =
                sym
                (first_off 24 []
                (le-ltb (pages_in half target) (suc (pages_used half (length (full_runs half source)))) (omega (arith, room, same))));
            leaves = e;
          }

-- the tight image by the numbers of the source's head
pub by_head : (half : ℕ) (source : List ℕ) (n : ℕ) {h : Head} → OpenImage half source h
    → image_bytes half (tight half n h.kind h.window h.changes (full_runs half source)) ≡ rebuilt_bytes half source n
unfolding rebuilt_bytes head
by_head half source n o =
    ap (λ (h : Head). image_bytes half (tight half n h.kind h.window h.changes (full_runs half source))) o.shown
