-- An inner root with one entry goes: the same on the image as on the tree that it shows. Assumes nothing.
use Prim.Native.Nat.{ℕ, zero, suc, ◌+◌, ◌-◌, ◌≤◌}
use mathlib.Core.Path.{◌≡◌, refl, ap, ◌∙◌}
use native.Mathlib.Omega.{arith}
use lib.Dec.{eqb}
use lib.ListN.{length, length-map}
use borrow.Author.Tests.{eqb-true, lt-ltb, le-ltb}
use Rattle.lists.specs.Lists.{hit}
use Rattle.lists.proofs.Choices.{cond_both}
use Rattle.lists.proofs.All.{all_at}
use Rattle.rule.specs.declared.Pair.{Pair}
use Rattle.rule.specs.Pairs.{none}
use Rattle.page.specs.declared.Entry.{Entry}
use Rattle.page.specs.Entries.{entry, at, push}
use Rattle.image.specs.Images.{Image, tree}
use Rattle.lists.specs.Lists.{times}
use Rattle.steps.specs.Supply.{entries, put, given_back, with_root}
use Rattle.steps.specs.Heal.{pushed as pushed_x, collapse_root, collapse_if_single as collapse_if_single_x}
use Rattle.steps.proofs.Supply.{put_head}
use Rattle.tree.specs.Tree.{Node, Subtree, Nodes, no_node, flat, pages_under}
use Rattle.tree.specs.Supply.{Supply, with_page}
use Rattle.tree.specs.Cut.{State, root_node}
use Rattle.tree.specs.Heal.{pushed, collapse_if_single}
use Rattle.tree.specs.Conserved.{times_below, times_spare, held}
use Rattle.refinement.specs.Represents.{Stores, Supplied, Represents}
use Rattle.refinement.proofs.Below.{node_at, under_suc, below_only}
use Rattle.refinement.proofs.Moves.{Frame, put_else, stores_move, put_stores, lasting, put_supplied, given_supplied, given_else}
use Rattle.refinement.proofs.Moves.{given_lasting, spare_given, rooted_supplied}
use Rattle.refinement.proofs.Paths.{entries_are, subtrees_represented, at_flat}
use Rattle.refinement.proofs.Stepped.{state, Steady, steady_of, steady_rooted, held_is}
use Rattle.refinement.proofs.Rebalance.{push_flat, push_stores, push_below}

-- What becomes of an image and the tree that it shows, W the pages that may be written.
pub record Collapsed (Z Z' : Image) (Y Y' : State) (W : ℕ → ℕ) : Type 0 where
  pub shown : Represents Z' Y'
  pub pages : (q : ℕ) → held q Y' ≡ held q Y
  pub frame : Frame Z.page Z'.page W
  pub steady : Steady Z.head Z'.head

module _ (◌⊕◌ : Pair → Pair → Pair) (l : ℕ) (x : Node (Subtree (suc (suc l)))) (Z : Image) (R : Supply) (W : ℕ → ℕ)
    (height : Z.head.height ≡ suc (suc l))
    (root : Z.head.root ≡ x.entry.child)
    (shown : Stores (suc (suc l)) Z.page x)
    (s : Supplied Z R)
    (once : (q : ℕ) → times q (pages_under (suc (suc l)) x) + times_spare q R ≤ 1)
    (one : length x.subtree ≡ 1)
    (root_may : (q : ℕ) → hit q x.entry.child ≤ W q)
    (only : (q : ℕ) → hit q (at (flat x.subtree) 0).child ≤ W q) where
  abbrev y : Node (Subtree (suc l))
  y = node_at (suc l) x.subtree 0

  abbrev new : Nodes l
  new = pushed ◌⊕◌ y

  abbrev Z₁ : Image
  Z₁ = put y.entry.child (tree l (flat new)) Z

  y_represented : Stores (suc l) Z.page y
  y_represented = all_at 0 (no_node (suc l)) (subtrees_represented (suc l) Z x shown) (omega arith)

  collapse_root_is : collapse_root ◌⊕◌ Z ≡ with_root (suc l) y.entry.child (given_back x.entry.child Z₁)
  unfolding collapse_root pushed_x pushed
  collapse_root_is =
      let a : Z.head.height - 1 ≡ suc l = omega arith in
      let b : Z.head.height - 2 ≡ l = omega arith in
      ap (λ (n : ℕ). form n (Z.head.height - 2) Z.head.root) a
      ∙ ap (λ (n : ℕ). form (suc l) n Z.head.root) b
      ∙ ap (λ (p : ℕ). form (suc l) l p) root
      ∙ there_is
    where
      form : ℕ → ℕ → ℕ → Image
      form n m p =
          with_root n (at (entries Z p) 0).child
          (given_back p (put (at (entries Z p) 0).child
          (tree m (push ◌⊕◌ (at (entries Z p) 0).pair (entries Z (at (entries Z p) 0).child))) Z))

      there_is : form (suc l) l x.entry.child ≡ with_root (suc l) y.entry.child (given_back x.entry.child Z₁)
      there_is =
          rw (
            entries_are (suc l) Z x shown,
            at_flat (suc l) x.subtree 0,
            entries_are l Z y y_represented,
            ← push_flat ◌⊕◌ l
                y.entry.pair y.subtree,
          )

  goes : Collapsed Z (collapse_root ◌⊕◌ Z) (state (suc l) x.entry.child x.subtree R)
      (state l y.entry.child new (with_page x.entry.child R)) W
  unfolding root_node with_root pushed
  goes =
      let p = x.entry.child in
      let c = y.entry.child in
      let y' : Node (Subtree (suc l)) = record { entry = entry 0 none c; subtree = new } in
      let Y : State = state (suc l) p x.subtree R in
      let Y' : State = state l c new (with_page p R) in
      let pushed_same : (q : ℕ)
      → times_below l q new ≡ times_below l q y.subtree = λ q. push_below ◌⊕◌ l y.entry.pair q y.subtree in
      let room : (q : ℕ) → hit q p + (hit q c + times_below l q new) + times_spare q R ≤ 1 =
      λ q. omega (arith, once q, under_suc (suc l) q x, below_only (suc l) q x.subtree one, under_suc l q y, pushed_same q) in
      let c_may : (q : ℕ) → hit q c ≤ W q = λ q. let e : hit q (at (flat x.subtree) 0).child ≡ hit q c =
      ap (λ (z : Entry). hit q z.child) (at_flat (suc l) x.subtree 0) in omega (arith, only q) in
      let below : Stores (suc l) (given_back p Z₁).page y' =
      stores_move (suc l) (λ q. hit q p) (given_else p Z₁) y'
      (put_stores l Z (entry 0 none c) new (push_stores ◌⊕◌ l y.entry.pair Z.page (subtrees_represented l Z y y_represented))
      (λ q. omega (arith, room q)))
      (λ q. omega (arith, room q, under_suc l q y')) in
      let d : Steady Z.head (given_back p Z₁).head = steady_of (given_lasting p Z₁ ∙ ap lasting (put_head c (tree l (flat new)) Z)) in
      rw collapse_root_is
      (record {
        shown =
            record {
              height = refl;
              root = refl;
              below = below;
              supplied =
                  rooted_supplied (suc l) c
                  (given_supplied p (put_supplied c (tree l (flat new)) s (λ q. omega (arith, room q))) (λ q. omega (arith, room q)));
            };
        pages =
            λ q. omega (
              arith,
              held_is q Y,
              held_is q Y',
              under_suc (suc l) q (root_node Y.tree),
              under_suc l q
                  (root_node Y'.tree),
              below_only (suc l) q x.subtree one,
              under_suc l q y,
              pushed_same q,
              spare_given q p R,
            );
        frame =
            λ q h. given_else p Z₁ q (omega (arith, root_may q)) ∙ put_else c (tree l (flat new)) Z q (omega (arith, c_may q));
        steady = steady_rooted (suc l) c (given_back p Z₁) d;
      })

-- the root stays
stays : (l : ℕ) (x : Node (Subtree (suc l))) (Z : Image) (R : Supply) (W : ℕ → ℕ)
    → Z.head.height ≡ suc l
    → Z.head.root ≡ x.entry.child
    → Stores (suc l) Z.page x
    → Supplied Z R
    → Collapsed Z Z (state l x.entry.child x.subtree R) (state l x.entry.child x.subtree R) W
unfolding Stores root_node
stays l x Z R W height root shown s =
    record {
      shown = record { height = height; root = root; below = (shown.0, shown.1); supplied = s };
      pages = λ q. refl;
      frame = λ q h. refl;
      steady = steady_of refl;
    }

module _ (half : ℕ) (◌⊕◌ : Pair → Pair → Pair) where
  -- the root of every level
  abbrev Collapses : (l : ℕ) → Type 0
  Collapses l =
      (x : Node (Subtree (suc l))) (Z : Image) (R : Supply) (W : ℕ → ℕ)
      → Z.head.height ≡ suc l
      → Z.head.root ≡ x.entry.child
      → Stores (suc l) Z.page x
      → Supplied Z R
      → ((q : ℕ) → times q (pages_under (suc l) x) + times_spare q R ≤ 1)
      → ((q : ℕ) → hit q x.entry.child ≤ W q)
      → (1 ≤ l → length x.subtree ≡ 1 → (q : ℕ) → hit q (at (flat x.subtree) 0).child ≤ W q)
      → Collapsed Z (collapse_if_single_x ◌⊕◌ Z) (state l x.entry.child x.subtree R)
      (collapse_if_single half ◌⊕◌ l x.entry.child x.subtree R) W

  collapses_leaf : Collapses 0
  unfolding collapse_if_single_x collapse_if_single
  collapses_leaf x Z R W height root shown s once root_may only =
      rw (le-ltb 1 Z.head.height (omega arith)) (stays 0 x Z R W height root shown s)

  collapses_inner : (l : ℕ) → Collapses (suc l)
  unfolding collapse_if_single_x collapse_if_single
  collapses_inner l x Z R W height root shown s once root_may only =
      let n : length (entries Z Z.head.root) ≡ length x.subtree =
      ap (λ (p : ℕ). length (entries Z p)) root ∙ ap length (entries_are (suc l) Z x shown) ∙ length-map x.subtree (λ y. y.entry) in
      let Y : State = state (suc l) x.entry.child x.subtree R in
      rw (lt-ltb 1 Z.head.height (omega arith), n)
      (cond_both (λ Z' Y'. Collapsed Z Z' Y Y' W) (eqb (length x.subtree) 1) (eqb (length x.subtree) 1) refl
      (λ e.
      let one : length x.subtree ≡ 1 = eqb-true (length x.subtree) 1 e in
      goes ◌⊕◌ l x Z R W height root shown s once one root_may (only (omega arith) one))
      (λ e. stays (suc l) x Z R W height root shown s))

  pub collapses : (l : ℕ) → Collapses l
  collapses zero = collapses_leaf
  collapses (suc l) = collapses_inner l
