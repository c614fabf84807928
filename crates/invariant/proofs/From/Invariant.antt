-- The theorem: a sound image shows a tree and a supply with all that document 01 asks. Assumes nothing.
use Prim.Native.Nat.{ℕ, ◌-◌, ◌≤◌}
use mathlib.Core.Path.{◌≡◌, refl, sym, ap, ◌∙◌}
use mathlib.Core.Bool.{true, and-eq-true_iff}
use mathlib.Core.List.{List}
use native.Mathlib.Omega.{arith}
use borrow.Author.Tests.{leb-true}
use Rattle.rule.specs.Pairs.{none, combine}
use Rattle.page.specs.declared.Head.{Head}
use Rattle.page.specs.Entries.{entry}
use Rattle.page.specs.Fit.{root_context}
use Rattle.image.specs.Images.{pages_in, length_ok, image_of}
use Rattle.image.specs.Listing.{neighbours_differ}
use Rattle.image.specs.Neighbours.{neighbours_apart}
use Rattle.image.specs.Sound.{sound_before, sound}
use Rattle.tree.specs.Cut.{root_node}
use Rattle.refinement.specs.Represents.{Represents}
use Rattle.soundness.proofs.Sound.{the_head, SoundFacts, sound_facts, sound_parts}
use Rattle.tree.proofs.Runs.{distinct_runs}
use Rattle.invariant.specs.Invariant.{Ranges, OwnStructure, Invariant}
use Rattle.invariant.proofs.From.Load.{state_in}
use Rattle.invariant.proofs.From.Cells.{tree_represented}
use Rattle.invariant.proofs.From.Shape.{tree_formed}
use Rattle.invariant.proofs.From.Bounds.{tree_bounds}
use Rattle.invariant.proofs.From.Chain.{sound_supplied}
use Rattle.invariant.proofs.From.Once.{held_once, head_held}
use Rattle.invariant.proofs.From.Runs.{walked_runs}

pub pages_range : (half : ℕ) (img : List ℕ) → length_ok half img ≡ true → (2 ≤ pages_in half img) × (pages_in half img ≤ 1024)
unfolding length_ok
pages_range half img ok =
    let k = simp and-eq-true_iff at ok in
    (leb-true _ _ k.1.0, leb-true _ _ k.1.1)

module _ (half : ℕ) (img : List ℕ) (f : SoundFacts half img) where
  sound_represented : Represents (image_of half img) (state_in half img)
  unfolding image_of root_node root_context
  sound_represented =
      let h : Head = the_head half img in
      record {
        height = omega (arith, f.fit.head.height_least);
        root = refl;
        below =
            tree_represented half h img (h.height - 1) (root_context h) (entry 0 none h.root) refl
            (omega (arith, f.fit.head.height_most)) f.fit.tree;
        supplied = sound_supplied half img f;
      }

  sound_ranges : Ranges half (image_of half img).head
  unfolding image_of
  sound_ranges =
      let r = pages_range half img f.fit.whole in
      let g = f.fit.head in
      record {
        pages_least = omega (arith, g.pages_is);
        pages_most = omega (arith, g.pages_is);
        mark_most = omega (arith, g.pages_is, g.mark_most);
        kind_fits = g.kind_fits;
        window_fits = g.window_fits;
        field_fits = g.field_fits;
      }

  pub facts_structure : 1 ≤ half → OwnStructure half (image_of half img) (state_in half img)
  unfolding image_of
  facts_structure some =
      record {
        shown = sound_represented;
        formed = tree_formed half img some f.fit;
        once = held_once half img f;
        head_apart = head_held half img f;
        kind_is = refl;
        bounds = tree_bounds half img f.fit;
        changes_most = f.fit.head.changes_most;
        ranges = sound_ranges;
      }

-- what document 01 asks is the structure
pub sound_structure : (half : ℕ) (img : List ℕ) → 1 ≤ half → sound_before half img ≡ true
    → OwnStructure half (image_of half img) (state_in half img)
sound_structure half img some e = facts_structure half img (sound_facts half img e) some

-- and with the clause on neighbours it is the invariant
pub sound_invariant : (half : ℕ) (img : List ℕ) → 1 ≤ half → sound half img ≡ true → Invariant half (image_of half img) (state_in half img)
unfolding image_of neighbours_apart
sound_invariant half img some e =
    let s = (sound_parts half img).0 e in
    let g = sound_structure half img some s.old in
    record {
      structure = g;
      distinct =
          λ k.
          (distinct_runs half (combine (the_head half img).kind) (state_in half img).tree g.formed).1
          (ap neighbours_differ (sym (walked_runs half img (sound_facts half img s.old) (state_in half img) g.shown)) ∙ s.apart k);
    }
