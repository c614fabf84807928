-- Runs that tile all time, as the leaf entries of a tree: they follow each other, each instant has its run's pair, and their pairs are
-- bounded as those of the image's pages. Assumes nothing.
use Prim.Native.Nat.{ℕ, ◌≤◌, ◌<◌}
use mathlib.Core.Path.{◌≡◌, refl, sym, ◌∙◌}
use mathlib.Core.List.{List}
use native.Mathlib.Omega.{arith}
use native.Mathlib.Decide.{dec_lt}
use Rattle.lists.specs.Lists.{All}
use Rattle.lists.proofs.All.{all_map}
use Rattle.rule.specs.declared.Pair.{Pair}
use Rattle.rule.specs.Time.{END}
use Rattle.rule.specs.Pairs.{none}
use Rattle.page.specs.declared.Head.{Head}
use Rattle.page.specs.Fit.{root_context}
use Rattle.fit.proofs.Laws.Pages.{Paired}
use Rattle.image.specs.Listing.{Run}
use Rattle.tight.specs.Tight.{leaf_entry}
use Rattle.tree.specs.Tree.{Node, Subtree, pair_under, pair_in}
use Rattle.tree.specs.Shape.{Seg, Leaf}
use Rattle.tree.specs.Shape as shape
use Rattle.tree.specs.Conserved.{PathBounded}
use Rattle.tree.proofs.Look.{look, look_first, look_early, pair_in_look}
use Rattle.invariant.specs.Invariant.{Bounds}
use Rattle.tightness.specs.State.{leaf_nodes}
use Rattle.image.proofs.Tiles.{Tiles, done, more}

module _ {Q : ℕ → Pair → Type 0} where
  pub tiles_seg : {a b : ℕ} {rs : List Run} → Tiles Q a b rs → Seg Leaf a b (leaf_nodes rs)
  unfolding leaf_nodes leaf_entry
  tiles_seg done = shape.done
  tiles_seg (more s l q u) = shape.more s l refl (tiles_seg u)

module _ (f : ℕ → Pair) (◌⊕◌ : Pair → Pair → Pair) (t : ℕ) where
  tiles_look : {a b : ℕ} {rs : List Run} → Tiles (λ u p. f u ≡ p) a b rs → a ≤ t → t < b → (d : Pair)
      → look (pair_under ◌⊕◌ 0 t) t d (leaf_nodes rs) ≡ f t
  unfolding leaf_nodes leaf_entry pair_under
  tiles_look done low high d = absurd (omega arith)
  tiles_look (more {a = a} {m = m} {b = b} {r = r} {rs = rs} s l q u) low high d =
      look_first (pair_under ◌⊕◌ 0 t) t d x (leaf_nodes rs) (omega (arith, s)) ∙ go (dec_lt t m) (λ late. tiles_look u late high r.pair)
    where
      x : Node (Subtree 0)
      x = record { entry = leaf_entry r; subtree = tt }

      go : Dec (t < m) → (m ≤ t → look (pair_under ◌⊕◌ 0 t) t r.pair (leaf_nodes rs) ≡ f t)
          → look (pair_under ◌⊕◌ 0 t) t r.pair (leaf_nodes rs) ≡ f t
      go (yes early) rest = look_early (pair_under ◌⊕◌ 0 t) t r.pair (tiles_seg u) early ∙ sym (q t low early)
      go (no late) rest = rest (omega arith)

  pub tiles_pair : {rs : List Run} → Tiles (λ u p. f u ≡ p) 0 END rs → t < END → pair_in ◌⊕◌ 0 t (leaf_nodes rs) ≡ f t
  tiles_pair u high = pair_in_look ◌⊕◌ 0 t none (tiles_seg u) (omega arith) (omega arith) ∙ tiles_look u (omega arith) high none

-- what the pages of an image with this head can show
pub paired_bounds : (h : Head) {rs : List Run} → All (λ (r : Run). Paired h (root_context h) r.pair) rs
    → Bounds h.kind h.changes (record { level = 0; root = 0; nodes = leaf_nodes rs })
unfolding leaf_nodes leaf_entry PathBounded root_context
paired_bounds h {rs} all =
    record {
      sums = λ one. all_map _ (λ r p. (tt, (p.total one).sums)) all;
      counts = λ one. all_map _ (λ r p. (tt, (p.total one).counts)) all;
      values = λ other. all_map _ (λ r p. (p.mark other, omega arith)) all;
    }
