-- Document 02, (iv): "From then on a kind 1 image is sound only if no two neighbouring leaf entries have equal totals, so its leaf entries
-- number exactly the runs." What that gives of every sound image of kind 1, whatever its history. Assumes nothing.
use Rattle.std.specs.Prelude.{ℕ, ◌+◌, ◌*◌, ◌-◌, ◌≤◌, ◌<◌, ◌≡◌, true, List, [], length}
use Rattle.rule.specs.Time.{END}
use Rattle.fields.specs.Bytes.{Bytes}
use Rattle.page.specs.Fit.{root_context, fewest}
use Rattle.image.specs.Images.{half_of}
use Rattle.image.specs.Sound.{tree_pages, sound}
use Rattle.image.specs.Neighbours.{leaf_entries}
use Rattle.calls.specs.Calls.{head, full_runs}
use Rattle.calls.specs.Changes.{Change}
use Rattle.calls.specs.Index.{index_instant}
use Rattle.claims.specs.Trace.{Trace}
use Rattle.claims.specs.Demands.{SameChanges}

pub record AsTheRuns (half : ℕ) (img : List ℕ) : Type 0 where
  -- "its leaf entries number exactly the runs"
  pub numbered : leaf_entries half img ≡ length (full_runs half img)
  -- So the tree is as small as its runs are few. Each of its pages but the root has K/2 entries or more, and each of them is the page of an
  -- entry: with m runs, and r entries in the root at the least (1 in a leaf, else 2), it has 1 + (m − r) / (K/2 − 1) pages at the most.
  -- Document 01's index had no such bound: leaf entries that no listing shows stayed at the edges of pages.
  pub few_pages :
      let h = head half img in
      (half - 1) * (length (tree_pages half img (h.height - 1) h.root) - 1) + fewest half (root_context h) ≤ length (full_runs half img)
  -- Document 02, (viii): "the start and end of its leaf entry" are then the run's. Right before the start, and at the end, the answer is
  -- another.
  pub run_told :
      (t : ℕ) → t < END
      → let a = index_instant t img in
      (0 < a.start → (index_instant (a.start - 1) img).pair ≡ a.pair → ⊥)
      × (a.end < END → (index_instant a.end img).pair ≡ a.pair → ⊥)
  -- with one run, one leaf with one entry is all
  pub one_run : length (full_runs half img) ≡ 1 → ((head half img).height ≡ 1) × (leaf_entries half img ≡ 1)

pub record NeighboursJoined : Type 0 where
  pub of_sound :
      (img : List ℕ) → Bytes img
      → sound (half_of img) img ≡ true
      → (head (half_of img) img).kind ≡ 1
      → AsTheRuns (half_of img) img
  -- an index that is empty again, after any list of calls on it: all that was entered was withdrawn
  pub empty_again :
      {window field : ℕ} {img : List ℕ} {cs : List Change}
      → Trace 1 window field img cs
      → SameChanges cs []
      → ((head (half_of img) img).height ≡ 1) × (leaf_entries (half_of img) img ≡ 1)
