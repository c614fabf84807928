-- The theorems: the bytes of a good image are those of its pages, are sound, and show the same state again. Assumes nothing.
use Prim.Native.Nat.{ℕ, ◌*◌, ◌-◌, ◌≤◌, ◌<◌}
use mathlib.Core.Path.{◌≡◌, refl, sym, ap, ◌∙◌}
use mathlib.Core.Bool.{true, cond, ◌&&◌, and-eq-true_iff}
use mathlib.Core.List.{List}
use native.Mathlib.Omega.{arith}
use lib.Dec.{eqb, leb}
use lib.ListN.{length}
use borrow.Author.Tests.{eq-eqb, le-leb, lt-leb, lt-ltb}
use Rattle.rule.specs.Pairs.{combine}
use Rattle.rule.specs.Time.{END}
use Rattle.page.specs.declared.Head.{Head}
use Rattle.page.specs.Layout.{page_size, free_ok, never_used_ok, head_bytes}
use Rattle.page.specs.Fit.{root_context, fewest, most_height, ranges_ok, field_ok, head_fit}
use Rattle.page.proofs.Laws.Heads.{head_of_head, head_rest}
use Rattle.page.proofs.Laws.Frees.{free_ok_free, never_used_ok_unused}
use Rattle.image.specs.Images.{Image, page_at, pages_in, length_ok, cell_bytes, image_of, image_bytes, Canonical}
use Rattle.image.specs.Sound.{tree_fit, tree_pages, chain_pages, sound_before, sound}
use Rattle.image.specs.Listing.{neighbours_differ, walk_over}
use Rattle.image.specs.Neighbours.{neighbours_apart}
use Rattle.lists.specs.Lists.{times}
use Rattle.image.proofs.Written.{length_of_written, pages_of_written, length_of_fits, head_written, page_of_written, page_of_read}
use Rattle.image.proofs.Written.{head_of_read}
use Rattle.tree.specs.Shape.{root_least}
use Rattle.tree.specs.Cut.{State, root_node}
use Rattle.refinement.specs.Represents.{Stores, Represents}
use Rattle.soundness.proofs.Sound.{the_head, the_tree, the_chain, head_test, tree_test, SoundFacts, facts_sound, sound_parts}
use Rattle.tree.specs.Runs.{runs_of}
use Rattle.tree.proofs.Runs.{distinct_runs}
use Rattle.invariant.specs.Invariant.{Structure, Invariant}
use Rattle.invariant.proofs.From.Shape.{root_fewest}
use Rattle.tree.proofs.Seg.{least_one}
use Rattle.fit.proofs.Laws.Heads.{fit_ranges}
use Rattle.invariant.proofs.From.Look.{Answered, look_invariant}
use Rattle.invariant.proofs.From.Runs.{walked_runs}
use Rattle.invariant.proofs.To.Known.{Freed, held_is, chain_inside, root_inside, free_inside, chain_short, tree_list, times_tree}
use Rattle.invariant.proofs.To.Known.{tree_ready, page_free, head_fits, page_kept}
use Rattle.invariant.proofs.To.Fit.{Stands, fit_tree, pages_are}
use Rattle.invariant.proofs.To.Again.{all_again, linked_again, chain_is}

module _ (half : ℕ) (X : Image) (Y : State) (some : 1 ≤ half)
    (g : Structure half X.head.kind X.head.changes X Y) (tall : X.head.height ≤ most_height) where
  kept : (p : ℕ) → 1 ≤ p → p < X.head.pages → Canonical half (X.page p)
  kept = page_kept g tall

  one : 1 ≤ X.head.pages
  one = omega (arith, g.ranges.pages_least)

  -- ---- the bytes

  pub length_written : length (image_bytes half X) ≡ page_size half * X.head.pages
  length_written = length_of_written half X some one kept

  pub pages_written : pages_in half (image_bytes half X) ≡ X.head.pages
  pages_written = pages_of_written half X some one kept

  length_fits : length_ok half (image_bytes half X) ≡ true
  length_fits = length_of_fits half X some one kept g.ranges.pages_least g.ranges.pages_most

  pub first_written : page_at half (image_bytes half X) 0 ≡ head_bytes half X.head
  first_written = head_written half X some one kept

  pub page_written : (p : ℕ) → 1 ≤ p → p < X.head.pages → page_at half (image_bytes half X) p ≡ cell_bytes half (X.page p)
  page_written = page_of_written half X some one kept

  -- ---- what is read from them

  pub head_read_back : (image_of half (image_bytes half X)).head ≡ X.head
  head_read_back = head_of_read half X some one kept (head_fits g tall)

  pub read_back : (p : ℕ) → 1 ≤ p → p < X.head.pages → (image_of half (image_bytes half X)).page p ≡ X.page p
  read_back = page_of_read half X some one kept

  inside : (p : ℕ) → 1 ≤ times p Y.supply.chain → (1 ≤ p) × (p < X.head.pages)
  inside p m = omega (arith, chain_inside g p m, g.ranges.mark_most)

  represented_again : Represents (image_of half (image_bytes half X)) Y
  unfolding Stores root_node
  represented_again =
      let Z : Image = image_of half (image_bytes half X) in
      let P = tree_ready g in
      record {
        height = ap (λ (h : Head). h.height) head_read_back ∙ g.shown.height;
        root = ap (λ (h : Head). h.root) head_read_back ∙ g.shown.root;
        below = (
          read_back Y.tree.root P.least P.below ∙ P.page,
          all_again half X.head X.page Z.page read_back Y.tree.level 0 0 0 END Y.tree.root Y.tree.nodes P,
        );
        supplied =
            record {
              length_true = ap (λ (h : Head). h.chain) head_read_back ∙ g.shown.supplied.length_true;
              linked =
                  rw (ap (λ (h : Head). h.free) head_read_back)
                  (linked_again X.head.pages read_back inside g.shown.supplied.linked);
              mark = ap (λ (h : Head). h.mark) head_read_back ∙ g.shown.supplied.mark;
              unused =
                  λ p l b.
                  let m : X.head.mark ≤ p = rw (ap (λ (h : Head). h.mark) head_read_back) at l in
                  let n : p < X.head.pages = rw (ap (λ (h : Head). h.pages) head_read_back) at b in
                  read_back p (omega (arith, root_inside g)) n ∙ g.shown.supplied.unused p m n;
            };
      }

  -- ---- the tests

  head_is : the_head half (image_bytes half X) ≡ X.head
  unfolding image_of
  head_is = head_read_back

  level_is : X.head.height - 1 ≡ Y.tree.level
  level_is = omega (arith, g.shown.height)

  ranges_pass : ranges_ok (pages_in half (image_bytes half X)) X.head ≡ true
  unfolding ranges_ok
  ranges_pass =
      let n : ℕ = pages_in half (image_bytes half X) in
      let h : Head = X.head in
      let e : n ≡ h.pages = pages_written in
      let least : 1 ≤ h.height = omega (arith, g.shown.height) in
      let root : (1 ≤ h.root) × (h.root < n) = omega (arith, root_inside g, g.ranges.mark_most) in
      let free : h.free < n = omega (arith, free_inside g) in
      let mark : (2 ≤ h.mark) × (h.mark ≤ n) = omega (arith, root_inside g, g.ranges.mark_most) in
      simp and-eq-true_iff (
        eq-eqb _ _ (sym e),
        (
          (le-leb _ _ least, le-leb _ _ tall),
          (
            (le-leb _ _ root.0, lt-ltb _ _ root.1),
            (
              lt-ltb _ _ free,
              (
                (le-leb _ _ mark.0, le-leb _ _ mark.1),
                (g.ranges.kind_fits, (g.ranges.window_fits, le-leb _ _ g.changes_most)),
              ),
            ),
          ),
        ),
      )

  head_passes : head_test half (image_bytes half X) ≡ true
  unfolding head_fit
  head_passes =
      let n : ℕ = pages_in half (image_bytes half X) in
      let written = head_of_head half X.head (head_fits g tall) in
      ap (head_fit half n) first_written
      ∙ (λ j. (ap (ranges_ok n) written ∙ ranges_pass) j
      && ((ap (λ (h : Head). field_ok half h.capacity) written ∙ g.ranges.field_fits) j && head_rest half X.head j))

  stands : Stands (root_context X.head) Y.tree.level 0 0 0 END
  unfolding root_context
  stands = record { level = level_is; sums = refl; counts = refl; lo = refl; hi = refl }

  tree_passes : tree_test half (image_bytes half X) ≡ true
  tree_passes =
      let img : List ℕ = image_bytes half X in
      let l : ℕ = Y.tree.level in
      let few : fewest half (root_context X.head) ≡ root_least l = root_fewest half X.head l level_is in
      ap (λ (h : Head). tree_fit half h img (h.height - 1) (root_context h) h.root) head_is
      ∙ (λ j. tree_fit half X.head img (level_is j) (root_context X.head) (g.shown.root j))
      ∙ fit_tree half X.head X.page img g.ranges g.changes_most some page_written l 0 0 0 END Y.tree.root
      (root_context X.head) Y.tree.nodes stands (omega arith)
      (omega (arith, g.shown.height)) (omega (arith, least_one l)) (omega (arith, g.formed.least)) (tree_ready g)

  -- ---- which pages the walks find

  pub tree_found : the_tree half (image_bytes half X) ≡ tree_list g
  tree_found =
      let img : List ℕ = image_bytes half X in
      let l : ℕ = Y.tree.level in
      ap (λ (h : Head). tree_pages half img (h.height - 1) h.root) head_is
      ∙ (λ j. tree_pages half img (level_is j) (g.shown.root j))
      ∙ pages_are half X.head X.page img g.ranges g.changes_most some page_written l 0 0 0 END Y.tree.root
      Y.tree.nodes (omega arith)
      (omega (arith, g.shown.height)) (tree_ready g)

  chain_found : the_chain half (image_bytes half X) ≡ Y.supply.chain
  chain_found =
      let img : List ℕ = image_bytes half X in
      ap (λ (h : Head). chain_pages half img (pages_in half img) h.free) head_is
      ∙ chain_is X.head.pages half img one (omega (arith, g.ranges.pages_most)) page_written (pages_in half img) inside
      g.shown.supplied.linked
      (omega (arith, chain_short g, pages_written, g.ranges.mark_most))

  free_passes : (p : ℕ) → 1 ≤ times p Y.supply.chain → free_ok half (page_at half (image_bytes half X) p) ≡ true
  unfolding cell_bytes
  free_passes p m =
      let f : Freed X.page X.head.pages p = page_free g p m in
      ap (free_ok half) (page_written p (inside p m).0 (inside p m).1 ∙ ap (cell_bytes half) f.is) ∙ free_ok_free half f.next

  never_passes : (p : ℕ) → X.head.mark ≤ p → p < X.head.pages → never_used_ok (page_at half (image_bytes half X) p) ≡ true
  unfolding cell_bytes
  never_passes p m b =
      ap never_used_ok (page_written p (omega (arith, root_inside g)) b ∙ ap (cell_bytes half) (g.shown.supplied.unused p m b))
      ∙ never_used_ok_unused (page_size half)

  -- ---- soundness, test by test

  facts : SoundFacts half (image_bytes half X)
  facts =
      let img : List ℕ = image_bytes half X in
      let mark : (the_head half img).mark ≡ X.head.mark = ap (λ (h : Head). h.mark) head_is in
      record {
        fit =
            record {
              whole = length_fits;
              head_fits = head_passes;
              head = fit_ranges half (pages_in half img) (page_at half img 0) head_passes;
              tree = tree_passes;
              never = λ p l b. never_passes p (omega arith) (omega (arith, pages_written));
            };
        once =
            λ p l b.
            let low : ◌≡◌ {A = ℕ} (cond (leb X.head.mark p) 1 0) 0 = ap (λ t. cond t 1 0) (lt-leb X.head.mark p (omega arith)) in
            omega (arith, ap (times p) tree_found, times_tree g p, ap (times p) chain_found, held_is g p, g.once p l);
        chain_length = ap length chain_found ∙ sym g.shown.supplied.length_true ∙ sym (ap (λ (h : Head). h.chain) head_is);
        free = λ p m. free_passes p (rw chain_found at m);
      }

  -- an instant finds the state's pair in what was written
  pub look_written : (t : ℕ) → Answered half (image_bytes half X) t Y
  look_written t = look_invariant half (image_bytes half X) some facts Y represented_again t

  -- the structure is what document 01 asks
  pub structure_sound : sound_before half (image_bytes half X) ≡ true
  structure_sound = facts_sound half (image_bytes half X) facts

  -- and a walk finds the tree's runs
  pub runs_written : (walk_over half (image_bytes half X) 0 END).runs ≡ runs_of (combine X.head.kind) Y.tree
  runs_written =
      walked_runs half (image_bytes half X) facts Y represented_again
      ∙ ap (λ (h : Head). runs_of (combine h.kind) Y.tree) head_is

-- the theorem
pub invariant_sound : (half : ℕ) (X : Image) (Y : State) → 1 ≤ half → Invariant half X Y → X.head.height ≤ most_height
    → sound half (image_bytes half X) ≡ true
unfolding neighbours_apart
invariant_sound half X Y some g tall =
    let s = g.structure in
    let k : eqb (the_head half (image_bytes half X)).kind 1 ≡ eqb X.head.kind 1 =
    ap (λ (h : Head). eqb h.kind 1) (head_is half X Y some s tall) in
    (sound_parts half (image_bytes half X)).1
    (record {
      old = structure_sound half X Y some s tall;
      apart = λ e.
          ap neighbours_differ (runs_written half X Y some s tall)
          ∙ (distinct_runs half (combine X.head.kind) Y.tree s.formed).0 (g.distinct (sym k ∙ e));
    })
