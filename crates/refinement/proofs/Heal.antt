-- A heal does to the tree and the supply that an image shows what it does to trees, and writes the path and the siblings used.
-- Assumes nothing.
use Prim.Native.Nat.{ℕ, zero, suc, ◌+◌, ◌-◌, ◌≤◌}
use mathlib.Core.Path.{◌≡◌, refl, sym, ap, ◌∙◌}
use mathlib.Core.Bool.{Bool, true, false, cond, ◌||◌}
use mathlib.Core.List.{List, [], ◌∷◌, ◌++◌}
use native.Mathlib.Omega.{arith}
use lib.Dec.{eqb, leb, ltb}
use lib.ListN.{length, take, drop, length-map}
use borrow.Author.Tests.{leb-true}
use Rattle.lists.specs.Lists.{All, all_none, all_more, hit}
use Rattle.lists.proofs.Choices.{cond_both, cond_one}
use Rattle.lists.proofs.Edits.{map_splice, length_splice_one}
use Rattle.lists.proofs.Totals.{hit_self}
use Rattle.lists.proofs.Times.{times_cons, times_none, times_append}
use Rattle.rule.specs.declared.Pair.{Pair}
use Rattle.rule.specs.Time.{END}
use Rattle.page.specs.declared.Head.{Head}
use Rattle.page.specs.Entries.{index_of}
use Rattle.lists.specs.Lists.{splice}
use Rattle.image.specs.Images.{Image, Cell, tree, entries_in}
use Rattle.lists.specs.Lists.{times}
use Rattle.steps.specs.Supply.{entries, put, with_supply}
use Rattle.steps.specs.Heal.{heals, short, sibling, left_of, collapse_if_single as collapse_if_single_x, rebalance as rebalance_x}
use Rattle.steps.specs.Heal.{joins_edge as joins_edge_x, carried, carry, heal_page, heal as heal_x}
use Rattle.steps.specs.Change.{path_from, path, siblings_used, heal_names}
use Rattle.steps.proofs.Supply.{put_head}
use Rattle.tree.specs.Tree.{Node, Subtree, Nodes, flat, pages_under}
use Rattle.tree.specs.Supply.{Supply}
use Rattle.tree.specs.Cut.{State, root_node}
use Rattle.tree.specs.Shape.{Asked, root_least, Formed}
use Rattle.tree.specs.Heal.{Healing, rebalance, heal_nodes, collapse_if_single, heal}
use Rattle.tree.specs.Conserved.{times_below, times_spare, held}
use Rattle.refinement.specs.Represents.{Stores, Supplied, Represents, Once, Stocked, Full}
use Rattle.refinement.proofs.Below.{below_leaf, node_at, under_suc, below_one, below_at, below_two, below_splice}
use Rattle.refinement.proofs.Moves.{leaves_represented, put_else, put_stores, splice_represented, same_stores, lasting}
use Rattle.refinement.proofs.Moves.{supplied_move, put_supplied}
use Rattle.refinement.proofs.Carry.{Carried, with_below, carries}
use Rattle.refinement.proofs.Paths.{entries_are, subtrees_represented, at_flat, same_at, there, has_index, stocked_on, stores_on}
use Rattle.refinement.proofs.Paths.{path_in, from_root, path_down}
use Rattle.refinement.proofs.Stepped.{state, Stepped, steady_of, steady_then, held_is, once_is}
use Rattle.refinement.proofs.Collapse.{Collapsed, collapses}
use Rattle.refinement.proofs.Edges.{joins_edge_is}
use Rattle.refinement.proofs.Past.{heal_past}
use Rattle.refinement.proofs.Rebalance.{Healed, weighed, siblings, left_in, turns}

-- every inner page has two entries
pub stocked_two : (l : ℕ) (x : Node (Subtree (suc (suc l)))) → Stocked (suc (suc l)) x → 2 ≤ length x.subtree
unfolding Stocked root_least
stocked_two l x k = k.0

-- What there is between the heal of the page under the i-th entry below x and its rebalancing: in Z the page of x is as it was, and in Z'
-- the start was carried up, so that x' is shown, with the same children.
pub record Risen (l i : ℕ) (x x' : Node (Subtree (suc (suc l)))) (Z Z' : Image) : Type 0 where
  pub still : Z.page x.entry.child ≡ tree (suc l) (flat x.subtree)
  pub up : Carried l x' Z Z'
  pub as_long : length x'.subtree ≡ length x.subtree
  pub same_child : (m : ℕ) → (node_at (suc l) x'.subtree m).entry.child ≡ (node_at (suc l) x.subtree m).entry.child
  pub below_still : Z'.page (node_at (suc l) x.subtree i).entry.child ≡ Z.page (node_at (suc l) x.subtree i).entry.child

module _ (half : ℕ) (◌⊕◌ : Pair → Pair → Pair) (edge : Bool) (t : ℕ) where
  -- ---- the pages that may be written

  -- the sibling of the entry that has t
  abbrev other : (l : ℕ) → Nodes l → Node (Subtree l)
  other l es = node_at l es (sibling (index_of t (flat es)))

  -- the page that the one on the path below x is rebalanced with, if it is
  abbrev rebalanced : (l : ℕ) → Node (Subtree (suc (suc l))) → Image → List ℕ
  rebalanced l x X =
      let p = (there (suc l) t x.subtree).entry.child in
      cond (short half p (heal_page half ◌⊕◌ edge t l p X)) ((other (suc l) x.subtree).entry.child ∷ []) []

  rebalanced_up : (l : ℕ) (x : Node (Subtree (suc (suc l)))) (X : Image) → Stores (suc (suc l)) X.page x
      → siblings_used half ◌⊕◌ edge t (suc l) x.entry.child X ≡
      siblings_used half ◌⊕◌ edge t l (there (suc l) t x.subtree).entry.child X ++ rebalanced l x X
  unfolding siblings_used
  rebalanced_up l x X s =
      rw (
        entries_are (suc l) X x s,
        at_flat (suc l) x.subtree (index_of t (flat x.subtree)),
        at_flat (suc l) x.subtree
            (sibling (index_of t (flat x.subtree))),
      )

  -- how often the path and the siblings used have a page
  abbrev pub may : (l : ℕ) → Node (Subtree (suc l)) → Image → ℕ → ℕ
  may l x X q = times q (path_in t (suc l) x) + times q (siblings_used half ◌⊕◌ edge t l x.entry.child X)

  -- the page on the path and its sibling, and what is below them, are all below one page
  beside : (q l : ℕ) (x : Node (Subtree (suc (suc l)))) → Stocked (suc (suc l)) x
      → times q (pages_under (suc l) (there (suc l) t x.subtree)) + times q (pages_under (suc l) (other (suc l) x.subtree))
      ≤ times_below (suc l) q x.subtree
  beside q l x k =
      let es = x.subtree in
      let i = index_of t (flat es) in
      let f : ℕ → ℕ = λ m. times q (pages_under (suc l) (node_at (suc l) es m)) in
      let e : f (left_of i) + f (suc (left_of i)) ≡ f i + f (sibling i) = siblings f i in
      omega (arith, below_two (suc l) q (left_of i) es (left_in i (length es) (stocked_two l x k) (has_index (suc l) t x k)))

  may_none : (q : ℕ) (x : Node (Subtree 1)) (X : Image) → may 0 x X q ≡ hit q x.entry.child
  unfolding siblings_used path_in
  may_none q x X = omega (arith, times_cons q x.entry.child [], times_none q)

  may_up : (q l : ℕ) (x : Node (Subtree (suc (suc l)))) (X : Image) → Stores (suc (suc l)) X.page x
      → may (suc l) x X q ≡ hit q x.entry.child + (may l (there (suc l) t x.subtree) X q + times q (rebalanced l x X))
  unfolding path_in
  may_up q l x X s =
      let y = there (suc l) t x.subtree in
      let e : times q (siblings_used half ◌⊕◌ edge t (suc l) x.entry.child X) ≡
      times q (siblings_used half ◌⊕◌ edge t l y.entry.child X) + times q (rebalanced l x X) =
      ap (λ (ps : List ℕ). times q ps) (rebalanced_up l x X s)
      ∙ times_append q (siblings_used half ◌⊕◌ edge t l y.entry.child X) (rebalanced l x X) in
      omega (arith, times_cons q x.entry.child (path_in t (suc l) y))

  may_here : (q l : ℕ) (x : Node (Subtree (suc l))) (X : Image) → hit q x.entry.child ≤ may l x X q
  unfolding path_in
  may_here q l x X = omega (arith, times_cons q x.entry.child (path_in t l (there l t x.subtree)))

  pub may_within : (q l : ℕ) (x : Node (Subtree (suc l))) (X : Image) → Stores (suc l) X.page x → Stocked (suc l) x
      → may l x X q ≤ times q (pages_under (suc l) x)
  may_within q zero x X s k = omega (arith, may_none q x X, under_suc 0 q x)
  may_within q (suc l) x X s k =
      let y = there (suc l) t x.subtree in
      let n = other (suc l) x.subtree in
      let r : may l y X q ≤ times q (pages_under (suc l) y) = may_within q l y X (stores_on (suc l) t x k X s) (stocked_on (suc l) t x k) in
      let c : times q (rebalanced l x X) ≤ hit q n.entry.child =
      cond_one (λ (ps : List ℕ). times q ps ≤ hit q n.entry.child)
      (short half y.entry.child (heal_page half ◌⊕◌ edge t l y.entry.child X))
      (λ e. omega (arith, times_cons q n.entry.child [], times_none q)) (λ e. omega (arith, times_none q)) in
      omega (arith, may_up q l x X s, under_suc (suc l) q x, under_suc l q n, beside q l x k)

  -- ---- a leaf

  abbrev HealIs : (l : ℕ) → Node (Subtree (suc l)) → Image → Supply → Type 0
  HealIs l x X S =
      Healed l x X (heal_page half ◌⊕◌ edge t l x.entry.child X) S (heal_nodes half ◌⊕◌ edge t l x.subtree S) (may l x X)

  heal_leaf : (x : Node (Subtree 1)) (X : Image) (S : Supply) → Stores 1 X.page x → Supplied X S
      → ((q : ℕ) → times q (pages_under 1 x) + times_spare q S ≤ 1)
      → HealIs 0 x X S
  unfolding heal_page heal_nodes
  heal_leaf x X S shown s once =
      rw (entries_are 0 X x shown, ← map_splice (λ y. y.entry) (index_of t (flat x.subtree)) [] x.subtree)
      (cond_both (λ X' es. Healed 0 x X X' S (record { nodes = es; supply = S }) (may 0 x X)) b b refl (λ e. gone) (λ e. stays))
    where
      b : Bool
      b = edge || heals t (flat x.subtree) (index_of t (flat x.subtree))

      es : Nodes 0
      es = splice (index_of t (flat x.subtree)) [] x.subtree

      stays : Healed 0 x X X S (record { nodes = x.subtree; supply = S }) (may 0 x X)
      stays =
          record {
            shows = shown;
            supplied = s;
            pages = λ q. refl;
            frame = λ q h. refl;
            head = refl;
            only = λ h n q. absurd (omega arith);
          }

      gone : Healed 0 x X (put x.entry.child (tree 0 (flat es)) X) S (record { nodes = es; supply = S }) (may 0 x X)
      gone =
          let p = x.entry.child in
          let room : (q : ℕ) → hit q p + times_spare q S ≤ 1 = λ q. omega (arith, once q, under_suc 0 q x) in
          record {
            shows =
                put_stores 0 X x.entry es (leaves_represented X.page es)
                (λ q. omega (arith, room q, below_leaf q es));
            supplied = put_supplied p (tree 0 (flat es)) s room;
            pages = λ q. omega (arith, below_leaf q es, below_leaf q x.subtree);
            frame = λ q h. put_else p (tree 0 (flat es)) X q (omega (arith, may_none q x X));
            head = ap lasting (put_head p (tree 0 (flat es)) X);
            only = λ h n q. absurd (omega arith);
          }

  -- ---- one level up

  module _ (l : ℕ) (x : Node (Subtree (suc (suc l)))) (X : Image) (S : Supply)
      (shown : Stores (suc (suc l)) X.page x) (stock : Stocked (suc (suc l)) x)
      (once : (q : ℕ) → times q (pages_under (suc (suc l)) x) + times_spare q S ≤ 1)
      (Z : Image) (r : Healing (Subtree l))
      (g : Healed l (there (suc l) t x.subtree) X Z S r (may l (there (suc l) t x.subtree) X)) where
    abbrev i : ℕ
    i = index_of t (flat x.subtree)

    abbrev y : Node (Subtree (suc l))
    y = there (suc l) t x.subtree

    abbrev z : Node (Subtree (suc l))
    z = other (suc l) x.subtree

    abbrev y' : Node (Subtree (suc l))
    y' = record { entry = carried edge t (flat r.nodes) y.entry; subtree = r.nodes }

    abbrev healed : Nodes (suc l)
    healed = with_below edge t l i x r.nodes

    abbrev x' : Node (Subtree (suc (suc l)))
    x' = record { entry = x.entry; subtree = healed }

    -- what is carried up is written to the page of x
    abbrev Z' : Image
    Z' = carry edge t (suc l) x.entry.child i Z

    -- what each page is counted by
    record Room (q : ℕ) : Type 0 where
      subtrees : times_below (suc l) q x.subtree ≡ times_below (suc l) q (take i x.subtree)
          + ((hit q y.entry.child + times_below l q y.subtree) + times_below (suc l) q (drop (suc i) x.subtree))
      kids' : times_below (suc l) q healed ≡ times_below (suc l) q (take i x.subtree)
          + ((hit q y.entry.child + times_below l q r.nodes) + times_below (suc l) q (drop (suc i) x.subtree))
      same : times_below l q r.nodes + times_spare q r.supply ≡ times_below l q y.subtree + times_spare q S
      written : may l y X q ≤ hit q y.entry.child + times_below l q y.subtree
      most : hit q x.entry.child + times_below (suc l) q x.subtree + times_spare q S ≤ 1

    room : (q : ℕ) → Room q
    unfolding carried
    room q =
        let u = under_suc l q y in
        record {
          subtrees = omega (arith, below_at (suc l) q i x.subtree (has_index (suc l) t x stock));
          kids' = omega (arith, below_splice (suc l) q i (y' ∷ []) x.subtree, below_one (suc l) q y', under_suc l q y');
          same = g.pages q;
          written = omega (arith, may_within q l y X (stores_on (suc l) t x stock X shown) (stocked_on (suc l) t x stock));
          most = omega (arith, once q, under_suc (suc l) q x);
        }

    -- the page of x is none of those written below
    still : Z.page x.entry.child ≡ tree (suc l) (flat x.subtree)
    unfolding Stores
    still = let p = x.entry.child in g.frame p (let m = room p in omega (arith, hit_self p)) ∙ shown.0

    subtrees_shown : All (λ z. Stores (suc l) Z.page z) healed
    unfolding carried
    subtrees_shown =
        splice_represented (suc l) (may l y X) g.frame i (subtrees_represented (suc l) X x shown)
        (all_more (same_stores (suc l) (record { entry = y.entry; subtree = r.nodes }) y'.entry refl Z.page g.shows) all_none)
        (λ q. let m = room q in omega arith)

    up : Carried l x' Z Z'
    up =
        carries edge t l i x r.nodes Z (has_index (suc l) t x stock) still
        (entries_are l Z (record { entry = y.entry; subtree = r.nodes }) g.shows) subtrees_shown
        (λ q. let m = room q in omega arith)

    once' : (q : ℕ) → times q (pages_under (suc (suc l)) x') + times_spare q r.supply ≤ 1
    once' q = let m = room q in omega (arith, under_suc (suc l) q x')

    supplied' : Supplied Z' r.supply
    supplied' =
        supplied_move (λ q. hit q x.entry.child) up.head up.frame g.supplied (λ q. let m = room q in omega arith)

    as_long : length healed ≡ length x.subtree
    as_long = length_splice_one i y' x.subtree (has_index (suc l) t x stock)

    same_child : (m : ℕ) → (node_at (suc l) healed m).entry.child ≡ (node_at (suc l) x.subtree m).entry.child
    unfolding carried
    same_child m = same_at (suc l) (λ z. z.entry.child) i y' x.subtree (has_index (suc l) t x stock) refl m

    abbrev now_may : Bool → ℕ → ℕ
    now_may c q = hit q x.entry.child + (may l y X q + times q (cond c (z.entry.child ∷ []) []))

    by_test : (c : Bool)
        → Healed (suc l) x X (cond c (rebalance_x half ◌⊕◌ l x.entry.child i Z') Z') S
        (cond c (rebalance half ◌⊕◌ l i healed r.supply) (record { nodes = healed; supply = r.supply })) (now_may c)
    by_test false =
        record {
          shows = up.shows;
          supplied = supplied';
          pages = λ q. let m = room q in omega arith;
          frame = λ q h. up.frame q (omega arith) ∙ g.frame q (omega arith);
          head = ap lasting up.head ∙ g.head;
          only = λ h n q. absurd (omega (arith, as_long, stocked_two l x stock));
        }
    by_test true =
        let p = x.entry.child in
        let d : Healed (suc l) x' Z' (rebalance_x half ◌⊕◌ l p i Z') r.supply (rebalance half ◌⊕◌ l i healed r.supply)
        (λ q. hit q p + (hit q (node_at (suc l) healed i).entry.child + hit q (node_at (suc l) healed (sibling i)).entry.child)) =
        turns half ◌⊕◌ l x' i Z' r.supply (omega (arith, as_long, stocked_two l x stock))
        (omega (arith, as_long, has_index (suc l) t x stock)) up.shows supplied' once' in
        let w : (q : ℕ) → hit q p
        + (hit q (node_at (suc l) healed i).entry.child + hit q (node_at (suc l) healed (sibling i)).entry.child) ≤ now_may true q =
        λ q.
        let a : hit q (node_at (suc l) healed i).entry.child ≡ hit q y.entry.child = ap (hit q) (same_child i) in
        let b : hit q (node_at (suc l) healed (sibling i)).entry.child ≡ hit q z.entry.child = ap (hit q) (same_child (sibling i)) in
        omega (arith, may_here q l y X, times_cons q z.entry.child [], times_none q) in
        record {
          shows = d.shows;
          supplied = d.supplied;
          pages = λ q. let m = room q in omega (arith, d.pages q);
          frame = λ q h. d.frame q (omega (arith, w q)) ∙ up.frame q (omega (arith, w q)) ∙ g.frame q (omega arith);
          head = d.head ∙ ap lasting up.head ∙ g.head;
          only = λ h n q. omega (arith, d.only h n q, w q);
        }

    -- the page below is not written again
    below_still : Z'.page y.entry.child ≡ Z.page y.entry.child
    below_still = let q = y.entry.child in up.frame q (let m = room q in omega (arith, hit_self q))

    pub risen : Risen l i x x' Z Z'
    risen = record { still = still; up = up; as_long = as_long; same_child = same_child; below_still = below_still }

    test_before : short half y.entry.child Z ≡ ltb (length r.nodes) half
    unfolding short
    test_before =
        ap (λ (n : ℕ). ltb n half)
        (ap length (entries_are l Z (record { entry = y.entry; subtree = r.nodes }) g.shows) ∙ length-map r.nodes (λ y. y.entry))

    test_after : short half y.entry.child Z' ≡ ltb (length r.nodes) half
    unfolding short entries
    test_after = ap (λ (c : Cell). ltb (length (entries_in c)) half) below_still ∙ test_before

    one_up : Healed (suc l) x X (cond (short half y.entry.child Z') (rebalance_x half ◌⊕◌ l x.entry.child i Z') Z') S
        (cond (ltb (length r.nodes) half) (rebalance half ◌⊕◌ l i healed r.supply) (record { nodes = healed; supply = r.supply }))
        (now_may (short half y.entry.child Z))
    one_up = rw (test_before, test_after) (by_test (ltb (length r.nodes) half))

  heal_up : (l : ℕ) (x : Node (Subtree (suc (suc l)))) (X : Image) (S : Supply)
      → Stores (suc (suc l)) X.page x
      → Stocked (suc (suc l)) x
      → ((q : ℕ) → times q (pages_under (suc (suc l)) x) + times_spare q S ≤ 1)
      → HealIs l (there (suc l) t x.subtree) X S
      → HealIs (suc l) x X S
  unfolding heal_page heal_nodes
  heal_up l x X S shown stock once g =
      let y = there (suc l) t x.subtree in
      rw (entries_are (suc l) X x shown, at_flat (suc l) x.subtree (index_of t (flat x.subtree)))
      (weighed (λ q. sym (may_up q l x X shown))
      (one_up l x X S shown stock once (heal_page half ◌⊕◌ edge t l y.entry.child X) (heal_nodes half ◌⊕◌ edge t l y.subtree S) g))

  pub heal_node_is : (l : ℕ) (x : Node (Subtree (suc l))) (X : Image) (S : Supply)
      → Stores (suc l) X.page x
      → Stocked (suc l) x
      → Supplied X S
      → ((q : ℕ) → times q (pages_under (suc l) x) + times_spare q S ≤ 1)
      → HealIs l x X S
  heal_node_is zero x X S shown stock s once = heal_leaf x X S shown s once
  heal_node_is (suc l) x X S shown stock s once =
      heal_up l x X S shown stock once
      (heal_node_is l (there (suc l) t x.subtree) X S (stores_on (suc l) t x stock X shown) (stocked_on (suc l) t x stock) s
      (λ q.
      omega (
        arith,
        once q,
        under_suc (suc l) q x,
        below_at (suc l) q (index_of t (flat x.subtree)) x.subtree
            (has_index (suc l) t x stock),
      )))

-- ---- from the root

module _ (half : ℕ) (◌⊕◌ : Pair → Pair → Pair) (edge : Bool) (t : ℕ) (X : Image) where
  -- on the way down, for END too
  abbrev down : List ℕ
  down =
      path_from t (X.head.height - 1) X.head.root X
      ++ siblings_used half ◌⊕◌ edge t (X.head.height - 1) X.head.root X

  abbrev healed_x : Image
  healed_x = collapse_if_single_x ◌⊕◌ (heal_page half ◌⊕◌ edge t (X.head.height - 1) X.head.root X)

  abbrev healed_tree : State → State
  healed_tree Y =
      let T = Y.tree in
      let r = heal_nodes half ◌⊕◌ edge t T.level T.nodes Y.supply in
      collapse_if_single half ◌⊕◌ T.level T.root r.nodes r.supply

  heal_down : (Y : State) → Represents X Y → Once Y → Full Y → Stepped X healed_x Y (healed_tree Y) down
  unfolding root_node lasting with_supply Full
  heal_down Y sh once stock =
      let l = Y.tree.level in
      let x = root_node Y.tree in
      let Z = heal_page half ◌⊕◌ edge t l Y.tree.root X in
      let r = heal_nodes half ◌⊕◌ edge t l Y.tree.nodes Y.supply in
      let x' : Node (Subtree (suc l)) = record { entry = x.entry; subtree = r.nodes } in
      let Y' : State = state l Y.tree.root r.nodes r.supply in
      let g : Healed l x X Z Y.supply r (may half ◌⊕◌ edge t l x X) =
      heal_node_is half ◌⊕◌ edge t l x X Y.supply sh.below stock sh.supplied (λ q. omega (arith, held_is q Y, once_is Y once q)) in
      let same : (q : ℕ) → held q Y' ≡ held q Y =
      λ q. omega (arith, held_is q Y, held_is q Y', under_suc l q x, under_suc l q x', g.pages q) in
      let m : Collapsed Z (collapse_if_single_x ◌⊕◌ Z) Y' (collapse_if_single half ◌⊕◌ l Y.tree.root r.nodes r.supply)
      (may half ◌⊕◌ edge t l x X) =
      collapses half ◌⊕◌ l x' Z r.supply (may half ◌⊕◌ edge t l x X)
      (ap (λ (f : Head). f.height) g.head ∙ sh.height)
      (ap (λ (f : Head). f.root) g.head ∙ sh.root)
      g.shows g.supplied
      (λ q. omega (arith, held_is q Y', same q, once_is Y once q))
      (λ q. may_here half ◌⊕◌ edge t q l x X)
      g.only in
      let W = path_from t (X.head.height - 1) X.head.root X in
      let N = siblings_used half ◌⊕◌ edge t (X.head.height - 1) X.head.root X in
      let names : (q : ℕ) → times q (W ++ N) ≡ may half ◌⊕◌ edge t l x X q =
      λ q. times_append q W N
      ∙ ap (λ (ps : List ℕ). times q ps + times q N) (path_down t X Y sh stock)
      ∙ from_root sh (λ n p. times q (path_in t (suc l) x) + times q (siblings_used half ◌⊕◌ edge t n p X)) in
      rw (from_root sh (λ n p. heal_page half ◌⊕◌ edge t n p X))
      (record {
        shown = m.shown;
        same_held = λ q. m.pages q ∙ same q;
        frame = λ q z. m.frame q (omega (arith, names q)) ∙ g.frame q (omega (arith, names q));
        inside = λ q z. omega (arith, names q, may_within half ◌⊕◌ edge t q l x X sh.below stock, held_is q Y);
        steady = steady_then (steady_of g.head) m.steady;
      })

-- END is on no path: the image stays as it is.
pub heal_is : {B : Asked (Subtree 0)} (half : ℕ) (◌⊕◌ : Pair → Pair → Pair) (t : ℕ) (X : Image) (Y : State) → Represents X Y
    → Once Y → Full Y
    → Formed half B Y.tree
    → Stepped X (heal_x half ◌⊕◌ t X) Y (heal half ◌⊕◌ (eqb X.head.kind 1) t Y) (heal_names half ◌⊕◌ t X)
unfolding path heal_names heal_x heal
heal_is half ◌⊕◌ t X Y sh once stock formed = rw (← joins_edge_is ◌⊕◌ t X Y sh stock) (go (leb END t) refl)
  where
    edge : Bool
    edge = joins_edge_x ◌⊕◌ t X

    d : Stepped X (healed_x half ◌⊕◌ edge t X) Y (healed_tree half ◌⊕◌ edge t X Y) (down half ◌⊕◌ edge t X)
    d = heal_down half ◌⊕◌ edge t X Y sh once stock

    W : List ℕ
    W = path_from t (X.head.height - 1) X.head.root X

    N : List ℕ
    N = siblings_used half ◌⊕◌ edge t (X.head.height - 1) X.head.root X

    go : (b : Bool) → leb END t ≡ b
        → Stepped X (healed_x half ◌⊕◌ edge t X) Y (healed_tree half ◌⊕◌ edge t X Y) (cond b [] W ++ cond b [] N)
    go false e = d
    go true e =
        record {
          shown = d.shown;
          same_held = d.same_held;
          frame = λ q h. ap (λ (Z : Image). Z.page q) (heal_past half ◌⊕◌ t X Y sh stock formed (leb-true END t e));
          inside = λ q h. times_none q;
          steady = d.steady;
        }
