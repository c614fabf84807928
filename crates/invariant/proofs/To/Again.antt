-- Pages that are those of a good image show its tree and its chain again. Assumes nothing.
use Prim.Native.Nat.{ℕ, zero, suc, ◌≤◌, ◌<◌, ◌^◌}
use mathlib.Core.Path.{◌≡◌, refl, ap, ◌∙◌}
use mathlib.Core.List.{List, ◌∷◌}
use native.Mathlib.Omega.{arith}
use lib.ListN.{length}
use Rattle.lists.specs.Lists.{All}
use Rattle.page.specs.declared.Head.{Head}
use Rattle.page.specs.Layout.{next_of}
use Rattle.page.proofs.Laws.Frees.{next_of_free}
use Rattle.image.specs.Images.{Cell, page_at, cell_bytes}
use Rattle.lists.specs.Lists.{times}
use Rattle.image.specs.Sound.{chain_pages}
use Rattle.tree.specs.Tree.{Node, Subtree, Nodes}
use Rattle.tree.proofs.Seg.{seg_all}
use Rattle.refinement.specs.Represents.{Stores, Linked, ends, leads}
use Rattle.lists.proofs.Times.{times_same, times_cons}
use Rattle.soundness.proofs.Chain.{pages_none, pages_more}
use Rattle.invariant.proofs.To.Ready.{Paged, Ready}
use Rattle.invariant.proofs.To.Known.{linked_first}

-- ---- the tree

module _ (half : ℕ) (h : Head) (pages pages' : ℕ → Cell) (same : (p : ℕ) → 1 ≤ p → p < h.pages → pages' p ≡ pages p) where
  pub shows_again : (l sums counts lo hi : ℕ) (x : Node (Subtree l)) → Ready half h pages l sums counts lo hi x → Stores l pages' x
  unfolding Stores Ready
  shows_again zero sums counts lo hi x r = tt
  shows_again (suc l) sums counts lo hi x r =
      (same x.entry.child r.2.least r.2.below ∙ r.2.page, seg_all (λ a b y q. shows_again l _ _ a b y q) r.2.spans)

  pub all_again : (l sums counts lo hi p : ℕ) (es : Nodes l) → Paged half h pages l (Ready half h pages l sums counts) lo hi p es
      → All (λ y. Stores l pages' y) es
  all_again l sums counts lo hi p es P = seg_all (λ a b y q. shows_again l sums counts a b y q) P.spans

-- ---- the chain

module _ {pages : ℕ → Cell} (n : ℕ) where
  pub linked_again : {pages' : ℕ → Cell} → ((p : ℕ) → 1 ≤ p → p < n → pages' p ≡ pages p)
      → {q : ℕ} {ps : List ℕ} → ((r : ℕ) → 1 ≤ times r ps → (1 ≤ r) × (r < n)) → Linked pages q ps → Linked pages' q ps
  linked_again same inside ends = ends
  linked_again same inside (leads {p = q} {ps = ps} e r) =
      let i : (1 ≤ q) × (q < n) = inside q (omega (arith, times_same q q ps refl)) in
      leads (same q i.0 i.1 ∙ e) (linked_again same (λ s k. inside s (omega (arith, times_cons s q ps))) r)

  pub chain_is : (half : ℕ) (img : List ℕ) → 1 ≤ n → n < 2 ^ 32 → ((p : ℕ) → 1 ≤ p → p < n → page_at half img p ≡ cell_bytes half (pages p))
      → (most : ℕ) {q : ℕ} {ps : List ℕ} → ((r : ℕ) → 1 ≤ times r ps → (1 ≤ r) × (r < n)) → Linked pages q ps → length ps ≤ most
      → chain_pages half img most q ≡ ps
  unfolding cell_bytes
  chain_is half img some narrow written most inside ends l = pages_none half img most 0 refl
  chain_is half img some narrow written zero inside (leads e r) l = absurd (omega arith)
  chain_is half img some narrow written (suc most) inside (leads {p = q} {next} {ps} e r) l =
      let i : (1 ≤ q) × (q < n) = inside q (omega (arith, times_same q q ps refl)) in
      let later : (s : ℕ) → 1 ≤ times s ps → (1 ≤ s) × (s < n) = λ s k. inside s (omega (arith, times_cons s q ps)) in
      let small : next < n = linked_first n some (λ s k. (later s k).1) r in
      let is : next_of (page_at half img q) ≡ next =
      ap next_of (written q i.0 i.1 ∙ ap (cell_bytes half) e) ∙ next_of_free half next (omega arith) in
      pages_more half img most q i.0
      ∙ ap (λ (s : List ℕ). q ∷ s) (ap (chain_pages half img most) is ∙ chain_is half img some narrow written most later r (omega arith))
