-- The full listing of a sound image: its runs tile all time with what instants answer, and each pair is one that the image's pages can show.
-- Assumes nothing.
use Prim.Native.Nat.{ℕ}
use mathlib.Core.Path.{◌≡◌, sym, subst⁻¹}
use mathlib.Core.Bool.{true}
use mathlib.Core.List.{List}
use native.Mathlib.Omega.{arith}
use Rattle.lists.specs.Lists.{All}
use Rattle.rule.specs.Time.{END}
use Rattle.page.specs.Fit.{root_context}
use Rattle.fit.proofs.Laws.Pages.{Paired}
use Rattle.image.specs.Sound.{sound_before}
use Rattle.image.specs.Instant.{look_up}
use Rattle.image.specs.Listing.{Run}
use Rattle.calls.specs.Calls.{head, full_runs}
use Rattle.book.specs.Book.{runs_of}
use Rattle.image.proofs.Tiles.{Tiles}
use Rattle.answers.proofs.Tiles.{tiles_of_runs, tiles_all}
use Rattle.answers.proofs.Agree.{runs_agree}
use Rattle.answers.proofs.Sound.{sound_walk, sound_answered}
use Rattle.answers.proofs.Demand.{look_up_paired}

module _ (half : ℕ) (img : List ℕ) (fits : sound_before half img ≡ true) where
  pub full_is : full_runs half img ≡ runs_of (λ t. (look_up half img t).pair) 0 END
  unfolding full_runs
  full_is = runs_agree half img 0 END (record { before = omega arith; within = omega arith }) (sound_walk half img fits 0 END)

  pub full_tiles : Tiles (λ t p. (look_up half img t).pair ≡ p) 0 END (full_runs half img)
  full_tiles =
      subst⁻¹ (Tiles (λ t p. (look_up half img t).pair ≡ p) 0 END) full_is
      (tiles_of_runs (λ t. (look_up half img t).pair) 0 END (omega arith))

  pub full_paired : All (λ (r : Run). Paired (head half img) (root_context (head half img)) r.pair) (full_runs half img)
  full_paired =
      tiles_all full_tiles
      (λ t p l g e. rw (sym e) (look_up_paired half t img (sound_answered half img fits t g)))
