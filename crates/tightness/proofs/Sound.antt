-- The theorems: the bytes of a tight image are sound, show its head, and give every instant the pair of its run. Assumes nothing.
use Prim.Native.Nat.{ℕ, ◌*◌, ◌≤◌}
use mathlib.Core.Path.{◌≡◌, refl, ap, ◌∙◌}
use mathlib.Core.Bool.{true}
use mathlib.Core.List.{List}
use native.Mathlib.Omega.{arith}
use lib.ListN.{length}
use Rattle.rule.specs.Pairs.{combine}
use Rattle.rule.proofs.Laws.{lawful}
use Rattle.fields.specs.Bytes.{Bytes}
use Rattle.page.specs.declared.Head.{Head}
use Rattle.page.specs.Layout.{page_size}
use Rattle.page.specs.Fit.{most_height}
use Rattle.image.specs.Images.{Image, image_of, image_bytes}
use Rattle.image.specs.Instant.{look_up}
use Rattle.image.specs.Listing.{Run}
use Rattle.image.specs.Sound.{sound_before}
use Rattle.image.proofs.Written.{bytes_written}
use Rattle.tight.specs.Tight.{tight}
use Rattle.tree.specs.Tree.{pair_in}
use Rattle.tree.specs.Cut.{State}
use Rattle.invariant.specs.Invariant.{Structure}
use Rattle.invariant.proofs.From.Look.{Looked}
use Rattle.invariant.proofs.To.Height.{height_most}
use Rattle.invariant.proofs.To.Sound.{length_written, head_read_back, structure_sound, look_written}
use Rattle.tightness.specs.State.{leaf_nodes, tight_state, Suited}
use Rattle.tightness.proofs.Structure.{tight_structure, tight_pair}

module _ (half pages kind window changes : ℕ) (runs : List Run) (g : Suited half pages kind window changes runs) where
  abbrev X : Image
  X = tight half pages kind window changes runs

  abbrev Y : State
  Y = tight_state half runs

  some : 1 ≤ half
  some = omega (arith, g.half_least)

  pub structure : Structure half X.head.kind X.head.changes X Y
  unfolding tight
  structure = tight_structure half pages kind window changes runs g

  pub tall : X.head.height ≤ most_height
  tall = height_most X Y structure g.half_least

  pub tight_sound_before : sound_before half (image_bytes half X) ≡ true
  tight_sound_before = structure_sound half X Y some structure tall

  pub tight_head_read_back : (image_of half (image_bytes half X)).head ≡ X.head
  tight_head_read_back = head_read_back half X Y some structure tall

  pub tight_bytes : Bytes (image_bytes half X)
  tight_bytes = bytes_written half X

  pub tight_length : length (image_bytes half X) ≡ page_size half * pages
  tight_length = length_written half X Y some structure tall ∙ unfold tight in refl

  -- an instant call meets fit pages alone, as many as the tree is high, and finds the pair of the run
  pub tight_look : (t : ℕ)
      → Looked (look_up half (image_bytes half X) t) (pair_in (combine kind) 0 t (leaf_nodes runs)) X.head.height
  unfolding image_of
  tight_look t =
      let found = (look_written half X Y some structure tall t).looked in
      let k : (image_of half (image_bytes half X)).head.kind ≡ kind = ap (λ (h : Head). h.kind) tight_head_read_back ∙ unfold tight in refl in
      record {
        fit = found.fit;
        pair =
            found.pair
            ∙ ap (λ n. pair_in (combine n) Y.tree.level t Y.tree.nodes) k
            ∙ tight_pair half pages kind window changes runs g (combine kind) (lawful kind).unit t;
        read = found.read ∙ ap (λ (h : Head). h.height) tight_head_read_back;
      }
