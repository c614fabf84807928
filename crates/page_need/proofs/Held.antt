-- The bytes of a sound image hold the image that is read from them. Assumes nothing.
use Prim.Native.Nat.{ℕ, ◌≤◌}
use mathlib.Core.Path.{◌≡◌, sym}
use mathlib.Core.Bool.{true}
use mathlib.Core.List.{List}
use native.Mathlib.Omega.{arith}
use Rattle.fields.specs.Bytes.{Bytes}
use Rattle.fields.proofs.Laws.Digits.{bytes_part}
use Rattle.page.proofs.Laws.Heads.{head_of_fits}
use Rattle.image.specs.Images.{page_at, image_of}
use Rattle.image.specs.Sound.{sound_before}
use Rattle.soundness.proofs.Sound.{SoundFacts, sound_facts}
use Rattle.invariant.proofs.From.Canonical.{canonical, canonical_kept}
use Rattle.invariant.proofs.From.Invariant.{pages_range}
use Rattle.store.specs.Encoding.{Encodes}

pub sound_holds : {half : ℕ} → 2 ≤ half → half ≤ 12 → (img : List ℕ) → Bytes img → sound_before half img ≡ true
    → Encodes half img (image_of half img)
unfolding image_of page_at
sound_holds {half} least most img b e =
    let f : SoundFacts half img = sound_facts half img e in
    let r = pages_range half img f.fit.whole in
    record {
      half_least = least;
      half_most = most;
      bytes = sym (canonical half img (omega arith) b e);
      sized_kept = canonical_kept half img b e;
      head_fits = head_of_fits _ (bytes_part img _ _ b);
      pages_least = omega (arith, r, f.fit.head.pages_is);
      pages_most = omega (arith, r, f.fit.head.pages_is);
    }
