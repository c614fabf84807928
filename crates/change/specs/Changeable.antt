-- Images that a change can be made to: each step finds the image ready that the one before left. Assumes nothing.
use Rattle.std.specs.Prelude.{ℕ}
use Rattle.rule.specs.declared.Pair.{Pair}
use Rattle.rule.specs.Pairs.{combine}
use Rattle.image.specs.Images.{Image}
use Rattle.steps.specs.Cut.{cut}
use Rattle.steps.specs.Combine.{combine_span}
use Rattle.steps.specs.Heal.{heal}
use Rattle.store.specs.Preconditions.{Countable}
use Rattle.cut.specs.Cuttable.{Cuttable}
use Rattle.combine_span.specs.declared.SpanEffect.{SpanEffect}
use Rattle.combine_span.specs.SpanCombinable.{SpanCombinable}
use Rattle.heal.specs.Healable.{Healable}

abbrev pub task : ℕ → ℕ → ℕ → Pair → SpanEffect
task kind s e effect = record { kind = kind; s = s; e = e; effect = effect }

module _ (half kind s e : ℕ) (effect : Pair) where
  -- the image after A, B, C, D and E
  abbrev pub after_a : Image → Image
  after_a X = cut half s X

  abbrev pub after_b : Image → Image
  after_b X = cut half e (after_a X)

  abbrev pub after_c : Image → Image
  after_c X = combine_span (combine kind) s e effect (after_b X)

  abbrev pub after_d : Image → Image
  after_d X = heal half (combine kind) s (after_c X)

  abbrev pub after_e : Image → Image
  after_e X = heal half (combine kind) e (after_d X)

  pub record Changeable (X : Image) : Type 0 where
    pub for_a : Cuttable half s X
    pub for_b : Cuttable half e (after_a X)
    pub for_c : SpanCombinable (task kind s e effect) (after_b X)
    pub for_d : Healable half kind s (after_c X)
    pub for_e : Healable half kind e (after_d X)
    pub for_count : Countable (after_e X)
