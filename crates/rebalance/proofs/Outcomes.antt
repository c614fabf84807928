-- What redistributing and merging leave of two siblings and of the page above them, and that it is what document 01 says. Assumes nothing.
use mathlib.Core.Path.{◌≡◌, sym, ap, ◌∙◌, subst₂, subst⁻¹}
use mathlib.Core.List.{List, [], ◌∷◌, ◌++◌}
use Prim.Native.Nat.{ℕ, suc, ◌+◌, ◌≤◌, ◌<◌}
use native.Mathlib.Omega.{arith}
use native.Mathlib.Numerals.{add-one}
use lib.ListN.{length, take, drop, length-drop, length-append}
use Rattle.rule.specs.declared.Pair.{Pair}
use Rattle.rule.specs.Pairs.{combine}
use Rattle.page.specs.declared.Entry.{Entry}
use Rattle.page.specs.Entries.{at}
use Rattle.lists.specs.Lists.{splice}
use Rattle.lists.proofs.Edits.{length_splice}
use Rattle.page.specs.Layout.{capacity}
use Rattle.image.specs.Images.{Image, Cell, tree}
use Rattle.steps.specs.Supply.{entries, put, given_back}
use Rattle.steps.specs.Heal.{pushed, joint, redistribute, merge}
use Rattle.store.specs.Encoding.{Encodes}
use Rattle.store.specs.Preconditions.{TreePage, HasEntry, PushReady, ChainRoom, Givable}
use Rattle.store.proofs.Encoding.{tree_read}
use Rattle.store.proofs.Supplying.{within_put}
use Rattle.rebalance.specs.Siblings.{Siblings, joint_count, Redistributable, TwoPages, Appendable, Sharable}
use Rattle.rebalance.specs.Siblings.{emptied, both_pushed, shared, siblings_shared, siblings_joined, pair_emptied}
use Rattle.rebalance.proofs.Lists.{at_splice}
use Rattle.rebalance.proofs.Pushing.{length_pushed}
use Rattle.steps.proofs.Supply.{put_again}
use Rattle.rebalance.proofs.Puts.{put_both, given_both, entries_at, entries_else, entries_given}
use Rattle.rebalance.proofs.Puts.{tree_at, tree_else, tree_given, levels_apart}

-- ---- a page that takes the pair above it

module _ (p : ℕ) (c : Cell) (X : Image) (e : Entry) (d : e.child ≡ p → ⊥) where
  pub push_else : {level : ℕ} → PushReady level e X → PushReady level e (put p c X)
  push_else s =
      let same = entries_else p c X d in
      record {
        tree_page = tree_else p c X d s.tree_page;
        each = λ i h. rw same (s.each i (omega (arith, ap length same)));
      }

  pub pushed_else : (f : Pair → Pair → Pair) → pushed f (put p c X) e ≡ pushed f X e
  unfolding pushed
  pushed_else f = rw (entries_else p c X d)

-- ---- two siblings, and the page above them

-- page p shows in Z what it shows in X
pub record SameParent (level p : ℕ) (X Z : Image) : Type 0 where
  pub tree_page : TreePage (suc level) p Z
  pub same : entries Z p ≡ entries X p

module _ {level p l : ℕ} {X : Image} (s : Siblings level p l X) where
  abbrev a : Entry
  a = at (entries X p) l

  abbrev b : Entry
  b = at (entries X p) (suc l)

  -- both entries are there
  pub entry_there : {i : ℕ} → i ≤ suc l → HasEntry (suc level) p i X
  entry_there k = record { tree_page = s.parent.tree_page; inside = omega (arith, s.parent.inside) }

  -- it has room for one more at the most
  pub next_fits : {half : ℕ} {img : List ℕ} → Encodes half img X → l + 1 < 24
  next_fits h = omega (arith, s.parent.inside, (tree_read h s.parent.tree_page).few, h.half_most)

  parent_left : p ≡ a.child → ⊥
  parent_left = levels_apart s.parent.tree_page s.left.tree_page

  parent_right : p ≡ b.child → ⊥
  parent_right = levels_apart s.parent.tree_page s.right.tree_page

  parent_put : (c d : Cell) → SameParent level p X (put b.child d (put a.child c X))
  parent_put c d =
      record {
        tree_page = tree_else b.child d _ parent_right (tree_else a.child c X parent_left s.parent.tree_page);
        same = entries_else b.child d _ parent_right ∙ entries_else a.child c X parent_left;
      }

  parent_given : (c : Cell) → SameParent level p X (given_back b.child (put a.child c X))
  parent_given c =
      record {
        tree_page = tree_given b.child _ parent_right (tree_else a.child c X parent_left s.parent.tree_page);
        same = entries_given b.child _ parent_right ∙ entries_else a.child c X parent_left;
      }

  -- ---- with the pairs above combined into their entries

  module _ (kind : ℕ) where
    abbrev down : Image
    down = both_pushed kind level p l X

    down_left : entries down a.child ≡ pushed (combine kind) X a
    down_left = entries_else b.child _ _ s.apart ∙ entries_at a.child level _ X

    down_right : entries down b.child ≡ pushed (combine kind) X b
    down_right = entries_at b.child level _ _

    down_joint : entries down a.child ++ entries down b.child ≡ joint (combine kind) p l X
    unfolding joint
    down_joint = λ j. down_left j ++ down_right j

    down_count : length (entries down a.child) + length (entries down b.child) ≡ joint_count p l X
    down_count =
        omega (
          arith,
          ap length down_left,
          ap length down_right,
          length_pushed (combine kind) X a,
          length_pushed (combine kind) X b,
        )

    down_pages : TwoPages level a.child b.child down
    down_pages =
        record {
          apart = s.apart;
          left = tree_else b.child _ _ s.apart (tree_at a.child level _ X s.left.tree_page.within);
          right = tree_at b.child level _ _ (within_put s.right.tree_page.within a.child _);
        }

    -- by their numbers, as they were read
    module _ {q r : ℕ} (left : q ≡ a.child) (right : r ≡ b.child) where
      pub down_appendable : {half : ℕ} → joint_count p l X ≤ capacity half → Appendable half level q r down
      down_appendable {half} few =
          subst₂ (λ q r. Appendable half level q r down) (sym left) (sym right)
          (record { pages = down_pages; few = omega (arith, down_count) })

      pub down_givable : (c : Cell) → ChainRoom X → Givable r (put q c down)
      unfolding put
      down_givable c room =
          let w = s.right.tree_page.within in
          record { within = record { least = omega (arith, w.least); below = omega (arith, w.below) }; room = room }

      pub down_sharable : {half k : ℕ} → Redistributable half level p l k X → Sharable half level q r k down
      down_sharable {half} {k} t =
          subst₂ (λ q r. Sharable half level q r k down) (sym left) (sym right)
          (record {
            pages = down_pages;
            first = t.left;
            all = omega (arith, down_count, t.some);
            rest = omega (arith, down_count, t.right);
          })

      pub joined_is : given_back r (put q (tree level (entries down q ++ entries down r)) down) ≡ siblings_joined kind level p l X
      joined_is =
          (λ j. given_back (right j) (put (left j) (tree level (entries down (left j) ++ entries down (right j))) down))
          ∙ ap (λ es. given_back b.child (put a.child (tree level es) down)) down_joint
          ∙ given_both a.child b.child _ _ _ X

      pub shared_is : (k : ℕ) → shared level q r k down ≡ siblings_shared kind level p l k X
      shared_is k =
          (λ j. shared level (left j) (right j) k down)
          ∙ ap (λ es. put b.child (tree level (drop k es)) (put a.child (tree level (take k es)) down)) down_joint
          ∙ put_both a.child b.child _ _ _ X _

  -- ---- the page above: other entries for the right one, then the left one's pair is set to (0, 0)

  module _ {Z : Image} (k : SameParent level p X Z) where
    pub right_there : HasEntry (suc level) p (l + 1) Z
    right_there = record { tree_page = k.tree_page; inside = omega (arith, s.parent.inside, ap length k.same) }

    module _ (right : List Entry) where
      abbrev above : Image
      above = put p (tree (suc level) (splice (l + 1) right (entries Z p))) Z

      shown : entries above p ≡ splice (suc l) right (entries X p)
      shown =
          entries_at p (suc level) _ Z ∙ ap (splice (l + 1) right) k.same ∙ ap (λ i. splice i right (entries X p)) (add-one l)

      pub left_there : HasEntry (suc level) p l above
      left_there =
          record {
            tree_page = tree_at p (suc level) _ Z k.tree_page.within;
            inside = omega (arith, ap length shown, length_splice (suc l) right (entries X p) s.parent.inside, s.parent.inside);
          }

      pub above_is : pair_emptied (suc level) p l above
          ≡ put p (tree (suc level) (splice l (emptied a.start a ∷ []) (splice (suc l) right (entries X p)))) Z
      above_is =
          let es = splice (suc l) right (entries X p) in
          put_again p _ _ Z
          ∙ ap (λ xs. put p (tree (suc level) (splice l (emptied (at xs l).start (at xs l) ∷ []) xs)) Z) shown
          ∙ ap (λ e. put p (tree (suc level) (splice l (emptied e.start e ∷ []) es)) Z)
          (at_splice l right (entries X p) (omega (arith, s.parent.inside)))

  -- ---- both together

  pub merged_parent : (kind : ℕ) → SameParent level p X (siblings_joined kind level p l X)
  merged_parent kind = parent_given _

  pub merge_is : (kind : ℕ)
      → pair_emptied (suc level) p l
      (put p (tree (suc level) (splice (l + 1) [] (entries (siblings_joined kind level p l X) p))) (siblings_joined kind level p l X))
      ≡ merge (combine kind) level p l X
  unfolding merge
  merge_is kind = above_is (merged_parent kind) []

  module _ (kind k : ℕ) where
    abbrev sharing : Image
    sharing = siblings_shared kind level p l k X

    pub shared_parent : SameParent level p X sharing
    shared_parent = parent_put _ _

    -- the right one's entry, as it was read
    module _ {e : Entry} (same : e ≡ at (entries sharing p) (l + 1)) where
      right_read : e ≡ b
      right_read = same ∙ (λ j. at (shared_parent.same j) (add-one l j))

      pub first_of_right : k < joint_count p l X → HasEntry level e.child 0 sharing
      first_of_right some =
          let all = joint (combine kind) p l X in
          let there : HasEntry level b.child 0 sharing =
          record {
            tree_page = tree_at b.child level _ _ (within_put s.right.tree_page.within a.child _);
            inside = omega (
              arith,
              ap length (entries_at b.child level (drop k all) (put a.child (tree level (take k all)) X)),
              length-drop k all,
              sym (ap length (down_joint kind)),
              length-append (entries (down kind) a.child) (entries (down kind) b.child),
              down_count kind,
            );
          } in
          subst⁻¹ (λ x. HasEntry level x.child 0 sharing) right_read there

      pub redistribute_is : {first new : Entry} → first ≡ at (entries sharing e.child) 0 → new ≡ emptied first.start e
          → pair_emptied (suc level) p l
          (put p (tree (suc level) (splice (l + 1) (new ∷ []) (entries sharing p))) sharing)
          ≡ redistribute (combine kind) level p l k X
      unfolding redistribute
      redistribute_is {first} {new} read made =
          let es = entries X p in
          let right = drop k (joint (combine kind) p l X) in
          let start : first ≡ at right 0 =
          read ∙ ap (λ x. at (entries sharing x.child) 0) right_read ∙ ap (λ xs. at xs 0) (entries_at b.child level right _) in
          let e_is : new ≡ emptied (at right 0).start b = made ∙ (λ j. emptied (start j).start (right_read j)) in
          above_is shared_parent (new ∷ [])
          ∙ ap (λ x. put p (tree (suc level) (splice l (emptied a.start a ∷ []) (splice (suc l) (x ∷ []) es))) sharing) e_is
