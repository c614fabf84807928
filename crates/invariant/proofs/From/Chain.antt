-- The supply of a sound image: its chain leads from page to page, and from the high mark on no page was used. Assumes nothing.
use Prim.Native.Nat.{ℕ, zero, suc, ◌-◌, ◌≤◌, ◌<◌}
use mathlib.Core.Path.{◌≡◌, refl, sym}
use mathlib.Core.Bool.{true}
use mathlib.Core.List.{List}
use native.Mathlib.Omega.{arith}
use Rattle.page.specs.Layout.{page_size, next_of}
use Rattle.image.specs.Images.{page_at, pages_in, image_of}
use Rattle.image.specs.Sound.{chain_pages}
use Rattle.image.proofs.Sizes.{sized, page_length}
use Rattle.image.proofs.Cells.{cell_free, cell_never, never_level}
use Rattle.refinement.specs.Represents.{Linked, ends, leads, Supplied}
use Rattle.soundness.specs.Counting.{chain_ends}
use Rattle.soundness.proofs.Levels.{free_level_is}
use Rattle.soundness.proofs.Chain.{Link, link, ended, pages_none, pages_more}
use Rattle.soundness.proofs.Sound.{the_head, SoundFacts}
use Rattle.soundness.proofs.Counting.{CountingFacts, sound_counted}
use Rattle.invariant.proofs.From.Load.{state_in}

-- ---- the chain

chain_linked : (half : ℕ) (img : List ℕ) (most k p : ℕ) → k ≤ most → chain_ends half img k p ≡ true
    → Linked (image_of half img).page p (chain_pages half img most p)
unfolding image_of
chain_linked half img most zero p l e =
    let z : p ≡ 0 = ended half img p e in
    rw (pages_none half img most p z, z) ends
chain_linked half img zero (suc k) p l e = absurd (omega arith)
chain_linked half img (suc most) (suc k) p l e =
    let r : Link half img k p = link half img k p e in
    let s : List ℕ = page_at half img p in
    rw (pages_more half img most p r.least)
    (leads (cell_free half s (free_level_is half s r.free)) (chain_linked half img most k (next_of s) (omega arith) r.next))

-- ---- and from the high mark on

pub sound_supplied : (half : ℕ) (img : List ℕ) → SoundFacts half img → Supplied (image_of half img) (state_in half img).supply
unfolding image_of
sound_supplied half img f =
    let c : CountingFacts half img = sound_counted f in
    record {
      length_true = sym f.chain_length;
      linked = chain_linked half img (pages_in half img) (the_head half img).chain (the_head half img).free
          (omega (arith, c.count, f.fit.head.mark_most)) c.ends;
      mark = refl;
      unused =
          λ p l b.
          let k : p < pages_in half img = omega (arith, f.fit.head.pages_is) in
          cell_never half (page_at half img p)
          (never_level (page_size half) (page_at half img p) (omega arith) (page_length (sized half img f.fit.whole) p k)
          (f.fit.never p l k));
    }
