-- All that tells whether an edge joins can be read: the pages on the way to t, and the totals on both sides where the ways part.
-- Assumes nothing.
use Prim.Native.Nat.{ℕ, zero, suc, ◌-◌, ◌≤◌, ◌<◌}
use mathlib.Core.Path.{◌≡◌, ap, ◌∙◌, subst, subst⁻¹}
use mathlib.Core.Bool.{true}
use native.Mathlib.Omega.{arith}
use lib.Dec.{eqb}
use Rattle.rule.specs.Pairs.{combine}
use Rattle.page.specs.declared.Entry.{Entry}
use Rattle.page.specs.Entries.{at}
use Rattle.page.specs.Fit.{most_changes}
use Rattle.image.specs.Images.{Image}
use Rattle.steps.specs.Supply.{entries}
use Rattle.store.specs.Preconditions.{entry_for}
use Rattle.heal.specs.Edges.{EntryTotalled, Totalled, EdgeReadable}
use Rattle.tree.specs.Tree.{Node, Subtree}
use Rattle.tree.specs.Supply.{Supply}
use Rattle.tree.specs.Cut.{State, root_node}
use Rattle.refinement.proofs.Paths.{there}
use Rattle.refinement.proofs.Edges.{entry_there}
use Rattle.refinement.proofs.Ways.{index_parted}
use Rattle.invariant.specs.Invariant.{Structure}
use Rattle.preconditions.proofs.Paths.{Known, known_searchable, known_below, structure_known}
use Rattle.preconditions.proofs.Totals.{known_totalled}

module _ (kind changes : ℕ) (totals : eqb kind 1 ≡ true) (slow : changes ≤ most_changes) (t : ℕ) where
  known_readable : {half : ℕ} {X : Image} {S : Supply} (l : ℕ) {lo hi sums counts : ℕ} {x : Node (Subtree (suc l))}
      → Known half kind changes t X S l lo hi sums counts x
      → lo ≤ t - 1
      → EdgeReadable (combine kind) t l x.entry.child X
  unfolding EdgeReadable Totalled
  known_readable zero k low = tt
  known_readable {half} {X} {S} (suc l) {lo} {hi} {sums} {counts} {x} k low =
      let p = x.entry.child in
      let b = known_below k in
      let is : entry_for t p X ≡ (there (suc l) t x.subtree).entry = entry_there t (suc l) X x k.shown in
      let before : Known half kind changes (t - 1) X S (suc l) lo hi sums counts x =
      record {
        shown = k.shown;
        stocked = k.stocked;
        once = k.once;
        inside = k.inside;
        spans = k.spans;
        begun = low;
        weighed = k.weighed;
      } in
      record {
        searchable = known_searchable k;
        sides =
            λ here some.
            record {
              right = (known_totalled kind changes t totals slow (suc l) k).entry;
              left =
                  subst
                  (λ (n : ℕ).
                  EntryTotalled (combine kind) (λ q Y. Totalled (combine kind) (t - 1) l q Y) (t - 1) l (at (entries X p) n) X)
                  (index_parted (suc l) t X x k.stocked k.shown k.spans here some)
                  (known_totalled kind changes (t - 1) totals slow (suc l) before).entry;
            };
        below =
            λ other.
            let same : (entry_for t p X).start ≡ b.lo = ap (λ (e : Entry). e.start) is ∙ b.starts in
            subst⁻¹ (λ (e : Entry). EdgeReadable (combine kind) t l e.child X) is
            (known_readable l b.known (omega (arith, other, b.known.begun)));
      }

pub structure_readable : {half kind changes : ℕ} {X : Image} {Y : State} → 2 ≤ half → (t : ℕ) → Structure half kind changes X Y
    → eqb kind 1 ≡ true
    → EdgeReadable (combine kind) t (X.head.height - 1) X.head.root X
unfolding root_node
structure_readable {kind = kind} {changes} {X} {Y} two t g totals =
    let level : X.head.height - 1 ≡ Y.tree.level = omega (arith, g.shown.height) in
    subst⁻¹ (λ (n : ℕ). EdgeReadable (combine kind) t n X.head.root X) level
    (subst⁻¹ (λ (p : ℕ). EdgeReadable (combine kind) t Y.tree.level p X) g.shown.root
    (known_readable kind changes totals g.changes_most t Y.tree.level (structure_known two t g) (omega arith)))
