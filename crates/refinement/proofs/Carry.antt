-- The start that is carried up at an edge does to the tree that an image shows what it does to trees, and writes the page of its entry.
-- Assumes nothing.
use Prim.Native.Nat.{ℕ, suc, ◌+◌, ◌≤◌, ◌<◌}
use mathlib.Core.Path.{◌≡◌, refl, sym, ap, ◌∙◌}
use mathlib.Core.Bool.{Bool, false, ◌&&◌}
use mathlib.Core.List.{List, [], ◌∷◌}
use lib.Dec.{eqb}
use lib.ListN.{length}
use Rattle.lists.specs.Lists.{All, hit, splice}
use Rattle.lists.proofs.Choices.{cond_one}
use Rattle.lists.proofs.Edits.{map_splice}
use Rattle.page.specs.declared.Entry.{Entry}
use Rattle.image.specs.Images.{Image, tree}
use Rattle.steps.specs.Supply.{entries}
use Rattle.steps.specs.Heal.{carried, carry}
use Rattle.steps.proofs.Supply.{put_head}
use Rattle.tree.specs.Tree.{Node, Subtree, Nodes, flat}
use Rattle.tree.specs.Conserved.{times_below}
use Rattle.refinement.specs.Represents.{Stores}
use Rattle.refinement.proofs.Below.{node_at}
use Rattle.refinement.proofs.Moves.{Frame, put_else, put_stores}
use Rattle.refinement.proofs.Paths.{flat_same, page_entries, at_flat}

-- another entry stays as it is
carried_else : (edge : Bool) (t : ℕ) (below : List Entry) (e : Entry) → edge && eqb e.start t ≡ false → carried edge t below e ≡ e
unfolding carried
carried_else edge t below e h = rw h

-- What a start that is carried up leaves: x is shown, and only its page may be another.
pub record Carried (l : ℕ) (x : Node (Subtree (suc (suc l)))) (Z Z' : Image) : Type 0 where
  pub shows : Stores (suc (suc l)) Z'.page x
  pub frame : Frame Z.page Z'.page (λ q. hit q x.entry.child)
  pub head : Z'.head ≡ Z.head

-- the page under the i-th entry below x has these entries now
module _ (edge : Bool) (t l i : ℕ) (x : Node (Subtree (suc (suc l)))) (es : Nodes l) where
  abbrev y : Node (Subtree (suc l))
  y = node_at (suc l) x.subtree i

  abbrev y' : Node (Subtree (suc l))
  y' = record { entry = carried edge t (flat es) y.entry; subtree = es }

  abbrev pub with_below : Nodes (suc l)
  with_below = splice i (y' ∷ []) x.subtree

  pub carries : (Z : Image) → i < length x.subtree
      → Z.page x.entry.child ≡ tree (suc l) (flat x.subtree)
      → entries Z y.entry.child ≡ flat es
      → All (λ z. Stores (suc l) Z.page z) with_below
      → ((q : ℕ) → hit q x.entry.child + times_below (suc l) q with_below ≤ 1)
      → Carried l (record { entry = x.entry; subtree = with_below }) Z (carry edge t (suc l) x.entry.child i Z)
  unfolding carry Stores
  carries Z n page below shown once =
      let p = x.entry.child in
      rw (
        page_entries p Z page,
        at_flat (suc l) x.subtree i,
        below,
        ← map_splice (λ z. z.entry) i (y' ∷ []) x.subtree,
      )
      (cond_one (λ (Z' : Image). Carried l (record { entry = x.entry; subtree = with_below }) Z Z') (edge && eqb y.entry.start t)
      (λ _.
      record {
        shows = put_stores (suc l) Z x.entry with_below shown once;
        frame = put_else p (tree (suc l) (flat with_below)) Z;
        head = put_head p (tree (suc l) (flat with_below)) Z;
      })
      (λ h.
      let same : flat with_below ≡ flat x.subtree =
      flat_same (suc l) i (y' ∷ []) x.subtree n (ap (λ (z : Entry). z ∷ []) (carried_else edge t (flat es) y.entry h)) in
      record { shows = (page ∙ ap (λ (zs : List Entry). tree (suc l) zs) (sym same), shown); frame = λ q _. refl; head = refl }))
