-- Steps one after another: the bytes hold what the steps before made of every image that was ready, and that is ready for the next step.
-- Assumes nothing.
use Prim.Native.Nat.{ℕ}
use mathlib.Core.List.{List}
use Rattle.image.specs.Images.{Image}
use Rattle.store.specs.Encoding.{Encodes, Pre, Post}

module _ {half : ℕ} {Start : Image → Type 0} {before mid : List ℕ} {to : Image → Image}
    (reach : Post half before Start (λ X. Encodes half mid (to X)))
    {Ready : Image → Type 0} (ready : (X : Image) → Encodes half before X → Start X → Ready (to X)) where
  -- the next step can be made
  pub some_then : Pre half before Start → Pre half mid Ready
  some_then s =
      let X : Image = s.image in
      record { image = to X; holds = reach X s.holds s.ready; ready = ready X s.holds s.ready }

  -- and was
  pub then : {after : List ℕ} {step : Image → Image} → Post half mid Ready (λ X. Encodes half after (step X))
      → Post half before Start (λ X. Encodes half after (step (to X)))
  then g X h s = g (to X) (reach X h s) (ready X h s)
