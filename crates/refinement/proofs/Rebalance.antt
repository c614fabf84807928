-- A page that is rebalanced with its sibling does to the tree and the supply that an image shows what it does to trees. Assumes nothing.
use Prim.Native.Nat.{ℕ, zero, suc, ◌+◌, ◌-◌, ◌≤◌, ◌<◌}
use mathlib.Core.Path.{◌≡◌, refl, sym, ap, ◌∙◌}
use mathlib.Core.Bool.{cond}
use mathlib.Core.List.{List, [], ◌∷◌, ◌++◌}
use native.Mathlib.Omega.{arith}
use lib.Dec.{eqb, ltb}
use lib.ListN.{length, take, drop, length-map}
use Rattle.lists.specs.Lists.{All, all_none, all_more, hit}
use Rattle.lists.proofs.Choices.{cond_both}
use Rattle.lists.proofs.Edits.{map_append, map_take, map_drop, map_splice, splice_two, only_first}
use Rattle.lists.proofs.All.{all_append, all_take, all_drop, all_at}
use Rattle.rule.specs.declared.Pair.{Pair}
use Rattle.rule.specs.Pairs.{none}
use Rattle.page.specs.declared.Entry.{Entry}
use Rattle.page.specs.Entries.{entry, at, push}
use Rattle.lists.specs.Lists.{splice}
use Rattle.image.specs.Images.{Image, Cell, tree}
use Rattle.lists.specs.Lists.{times}
use Rattle.steps.specs.Supply.{entries, put, given_back}
use Rattle.steps.specs.Heal.{sibling, left_of, pushed as pushed_x, joint as joint_x, redistribute as redistribute_x, merge as merge_x}
use Rattle.steps.specs.Heal.{rebalance as rebalance_x}
use Rattle.steps.proofs.Supply.{put_head}
use Rattle.tree.specs.Tree.{Node, Subtree, Nodes, no_node, flat, pages_under}
use Rattle.tree.specs.Supply.{Supply, with_page}
use Rattle.tree.specs.Heal.{Healing, push_nodes, pushed, joint, emptied, redistribute, merge, rebalance}
use Rattle.tree.proofs.Rebalance.{sibling_next}
use Rattle.tree.specs.Conserved.{times_below, times_spare}
use Rattle.refinement.specs.Represents.{Stores, Supplied}
use Rattle.refinement.proofs.Below.{node_at, under_suc, below_none, below_cons, below_one, below_append, below_halves, below_two}
use Rattle.refinement.proofs.Below.{below_spliced}
use Rattle.refinement.proofs.Moves.{Frame, put_else, stores_move, all_stores, put_stores, same_stores, same_under, lasting}
use Rattle.refinement.proofs.Moves.{put_supplied, given_supplied, given_else, given_lasting, spare_given}
use Rattle.refinement.proofs.Paths.{entries_are, subtrees_represented, at_flat}

-- What a heal does to a page and the pages below it, W those that may be written. If one entry is left, its page is one of them.
pub record Healed (l : ℕ) (x : Node (Subtree (suc l))) (X X' : Image) (S : Supply) (r : Healing (Subtree l)) (W : ℕ → ℕ) : Type 0 where
  pub shows : Stores (suc l) X'.page (record { entry = x.entry; subtree = r.nodes })
  pub supplied : Supplied X' r.supply
  pub pages : (q : ℕ) → times_below l q r.nodes + times_spare q r.supply ≡ times_below l q x.subtree + times_spare q S
  pub frame : Frame X.page X'.page W
  pub head : lasting X'.head ≡ lasting X.head
  pub only : 1 ≤ l → length r.nodes ≡ 1 → (q : ℕ) → hit q (at (flat r.nodes) 0).child ≤ W q

pub weighed : {l : ℕ} {x : Node (Subtree (suc l))} {X X' : Image} {S : Supply} {r : Healing (Subtree l)} {W W' : ℕ → ℕ}
    → ((q : ℕ) → W q ≡ W' q)
    → Healed l x X X' S r W
    → Healed l x X X' S r W'
weighed e h =
    record {
      shows = h.shows;
      supplied = h.supplied;
      pages = h.pages;
      frame = λ q z. h.frame q (e q ∙ z);
      head = h.head;
      only = λ k n q. omega (arith, h.only k n q, e q);
    }

-- ---- a pair combined into all entries

module _ (◌⊕◌ : Pair → Pair → Pair) (l : ℕ) (p : Pair) where
  pub push_flat : (es : Nodes l) → flat (push_nodes ◌⊕◌ p es) ≡ push ◌⊕◌ p (flat es)
  unfolding push_nodes push
  push_flat [] = refl
  push_flat (x ∷ es) = ap (λ (r : List Entry). entry x.entry.start (◌⊕◌ p x.entry.pair) x.entry.child ∷ r) (push_flat es)

  pub push_stores : (pages : ℕ → Cell) {es : Nodes l} → All (λ y. Stores l pages y) es → All (λ y. Stores l pages y) (push_nodes ◌⊕◌ p es)
  unfolding push_nodes
  push_stores pages all_none = all_none
  push_stores pages (all_more {x} {xs} s a) =
      all_more (same_stores l x (entry x.entry.start (◌⊕◌ p x.entry.pair) x.entry.child) refl pages s) (push_stores pages a)

  pub push_below : (q : ℕ) (es : Nodes l) → times_below l q (push_nodes ◌⊕◌ p es) ≡ times_below l q es
  unfolding push_nodes
  push_below q [] = refl
  push_below q (x ∷ es) =
      let e : Entry = entry x.entry.start (◌⊕◌ p x.entry.pair) x.entry.child in
      let r : times_below l q (push_nodes ◌⊕◌ p es) ≡ times_below l q es = push_below q es in
      omega (
        arith,
        below_cons l q x es,
        below_cons l q (record { entry = e; subtree = x.subtree }) (push_nodes ◌⊕◌ p es),
        same_under l x e refl q,
      )

-- ---- two siblings become one or two pages

flat_two : (l j : ℕ) (zs bs es : Nodes l)
    → flat (splice j zs (splice (suc j) bs es)) ≡ splice j (flat zs) (splice (suc j) (flat bs) (flat es))
flat_two l j zs bs es =
    map_splice (λ y. y.entry) j zs (splice (suc j) bs es)
    ∙ ap (λ (r : List Entry). splice j (flat zs) r) (map_splice (λ y. y.entry) (suc j) bs es)

-- under x, the entries at j and behind it; the first keeps these entries, and bs stands for the second
module _ (l : ℕ) (x : Node (Subtree (suc (suc l)))) (j : ℕ) (Z : Image) (R : Supply)
    (two : suc j < length x.subtree)
    (shown : Stores (suc (suc l)) Z.page x)
    (once : (q : ℕ) → times q (pages_under (suc (suc l)) x) + times_spare q R ≤ 1) where
  abbrev a : Node (Subtree (suc l))
  a = node_at (suc l) x.subtree j

  abbrev b : Node (Subtree (suc l))
  b = node_at (suc l) x.subtree (suc j)

  abbrev written : ℕ → ℕ
  written q = hit q x.entry.child + (hit q a.entry.child + hit q b.entry.child)

  -- what each page is counted by
  record Room (q : ℕ) : Type 0 where
    subtrees : times_below (suc l) q x.subtree ≡ times_below (suc l) q (take j x.subtree)
        + ((hit q a.entry.child + times_below l q a.subtree)
        + ((hit q b.entry.child + times_below l q b.subtree) + times_below (suc l) q (drop (suc (suc j)) x.subtree)))
    most : hit q x.entry.child + times_below (suc l) q x.subtree + times_spare q R ≤ 1

  room : (q : ℕ) → Room q
  room q =
      let u = under_suc l q a in
      let v = under_suc l q b in
      record {
        subtrees = omega (arith, below_two (suc l) q j x.subtree two);
        most = omega (arith, once q, under_suc (suc l) q x);
      }

  module _ (start : ℕ) (left : Nodes l) (bs : Nodes (suc l)) (Z₂ : Image) (R₂ : Supply)
      (left_shown : All (λ y. Stores l Z.page y) left)
      (second : Frame (put a.entry.child (tree l (flat left)) Z).page Z₂.page (λ q. hit q b.entry.child))
      (bs_shown : All (λ y. Stores (suc l) Z₂.page y) bs)
      (supplied : Supplied Z₂ R₂)
      (head : lasting Z₂.head ≡ lasting Z.head)
      (few : (q : ℕ) → times_below l q left ≤ times_below l q a.subtree + times_below l q b.subtree)
      (same : (q : ℕ) → times_below l q left + times_below (suc l) q bs + times_spare q R₂ ≡
      times_below l q a.subtree + (hit q b.entry.child + times_below l q b.subtree) + times_spare q R) where
    abbrev a' : Node (Subtree (suc l))
    a' = record { entry = entry start none a.entry.child; subtree = left }

    abbrev new : Nodes (suc l)
    new = splice j (a' ∷ []) (splice (suc j) bs x.subtree)

    -- what each page is counted by afterwards
    record Room' (q : ℕ) : Type 0 where
      before : Room q
      after : times_below (suc l) q new ≡ times_below (suc l) q (take j x.subtree)
          + ((hit q a.entry.child + times_below l q left)
          + (times_below (suc l) q bs + times_below (suc l) q (drop (suc (suc j)) x.subtree)))
      at_most : times_below l q left ≤ times_below l q a.subtree + times_below l q b.subtree
      kept : times_below l q left + times_below (suc l) q bs + times_spare q R₂ ≡
          times_below l q a.subtree + (hit q b.entry.child + times_below l q b.subtree) + times_spare q R

    room' : (q : ℕ) → Room' q
    room' q =
        record {
          before = room q;
          after = omega (arith, below_spliced (suc l) q j (a' ∷ []) bs x.subtree two, below_one (suc l) q a', under_suc l q a');
          at_most = few q;
          kept = same q;
        }

    both_written : Frame Z.page Z₂.page (λ q. hit q a.entry.child + hit q b.entry.child)
    both_written q h = second q (omega arith) ∙ put_else a.entry.child (tree l (flat left)) Z q (omega arith)

    new_represented : All (λ y. Stores (suc l) Z₂.page y) new
    new_represented =
        let subtrees = subtrees_represented (suc l) Z x shown in
        rw (splice_two j (a' ∷ []) bs x.subtree two)
        (all_append
        (all_stores (suc l) (λ q. hit q a.entry.child + hit q b.entry.child) both_written (all_take j subtrees)
        (λ q. let m = room' q in omega arith))
        (all_more
        (stores_move (suc l) (λ q. hit q b.entry.child) second a'
        (put_stores l Z a'.entry left left_shown (λ q. let m = room' q in omega arith))
        (λ q. let m = room' q in omega (arith, under_suc l q a')))
        (all_append bs_shown
        (all_stores (suc l) (λ q. hit q a.entry.child + hit q b.entry.child) both_written (all_drop (suc (suc j)) subtrees)
        (λ q. let m = room' q in omega arith)))))

    first_is : length new ≡ 1 → (at (flat new) 0).child ≡ a.entry.child
    first_is n =
        let e : new ≡ take j x.subtree ++ (a' ∷ (bs ++ drop (suc (suc j)) x.subtree)) = splice_two j (a' ∷ []) bs x.subtree two in
        ap (λ (z : Entry). z.child) (at_flat (suc l) new 0)
        ∙ ap (λ zs. (node_at (suc l) zs 0).entry.child) e
        ∙ ap (λ (z : Node (Subtree (suc l))). z.entry.child)
        (only_first j a' (bs ++ drop (suc (suc j)) x.subtree) x.subtree (no_node (suc l)) (omega arith) (sym (ap length e) ∙ n))

    joined : Healed (suc l) x Z (put x.entry.child (tree (suc l) (flat new)) Z₂) R (record { nodes = new; supply = R₂ }) written
    joined =
        let p = x.entry.child in
        let c = tree (suc l) (flat new) in
        record {
          shows = put_stores (suc l) Z₂ x.entry new new_represented (λ q. let m = room' q in omega arith);
          supplied = put_supplied p c supplied (λ q. let m = room' q in omega arith);
          pages = λ q. let m = room' q in omega arith;
          frame = λ q h. put_else p c Z₂ q (omega arith) ∙ both_written q (omega arith);
          head = ap lasting (put_head p c Z₂) ∙ head;
          only = λ h n q. let e : hit q (at (flat new) 0).child ≡ hit q a.entry.child = ap (λ (z : ℕ). hit q z) (first_is n) in
              omega arith;
        }

  -- ---- give and join

  module _ (◌⊕◌ : Pair → Pair → Pair) (s : Supplied Z R) where
    abbrev all_of : Nodes l
    all_of = joint ◌⊕◌ a b

    a_represented : Stores (suc l) Z.page a
    a_represented = all_at j (no_node (suc l)) (subtrees_represented (suc l) Z x shown) (omega arith)

    b_represented : Stores (suc l) Z.page b
    b_represented = all_at (suc j) (no_node (suc l)) (subtrees_represented (suc l) Z x shown) two

    all_represented : All (λ y. Stores l Z.page y) all_of
    unfolding joint pushed
    all_represented =
        all_append (push_stores ◌⊕◌ l a.entry.pair Z.page (subtrees_represented l Z a a_represented))
        (push_stores ◌⊕◌ l b.entry.pair Z.page (subtrees_represented l Z b b_represented))

    all_below : (q : ℕ) → times_below l q all_of ≡ times_below l q a.subtree + times_below l q b.subtree
    unfolding joint pushed
    all_below q =
        omega (
          arith,
          below_append l q (pushed ◌⊕◌ a) (pushed ◌⊕◌ b),
          push_below ◌⊕◌ l a.entry.pair q a.subtree,
          push_below
              ◌⊕◌ l b.entry.pair q b.subtree,
        )

    both_is : joint_x ◌⊕◌ x.entry.child j Z ≡ flat all_of
    unfolding joint_x pushed_x joint pushed
    both_is =
        rw (
          entries_are (suc l) Z x shown,
          at_flat (suc l) x.subtree j,
          at_flat (suc l) x.subtree (suc j),
          entries_are l Z a
              a_represented,
          entries_are l Z b b_represented,
        )
        (sym (map_append (λ y. y.entry) (push_nodes ◌⊕◌ a.entry.pair a.subtree) (push_nodes ◌⊕◌ b.entry.pair b.subtree)
        ∙ ap (λ (r : List Entry). r ++ flat (push_nodes ◌⊕◌ b.entry.pair b.subtree)) (push_flat ◌⊕◌ l a.entry.pair a.subtree)
        ∙ ap (λ (r : List Entry). push ◌⊕◌ a.entry.pair (flat a.subtree) ++ r) (push_flat ◌⊕◌ l b.entry.pair b.subtree)))

    module _ (k : ℕ) where
      abbrev left : Nodes l
      left = take k all_of

      abbrev right : Nodes l
      right = drop k all_of

      abbrev b' : Node (Subtree (suc l))
      b' = record { entry = entry (at (flat right) 0).start none b.entry.child; subtree = right }

      abbrev Z₁ : Image
      Z₁ = put a.entry.child (tree l (flat left)) Z

      abbrev Z₂ : Image
      Z₂ = put b.entry.child (tree l (flat right)) Z₁

      redistribute_is : redistribute_x ◌⊕◌ l x.entry.child j k Z ≡
          put x.entry.child (tree (suc l) (flat (redistribute ◌⊕◌ l j k x.subtree))) Z₂
      unfolding redistribute_x redistribute emptied
      redistribute_is =
          rw (
            both_is,
            entries_are (suc l) Z x shown,
            at_flat (suc l) x.subtree j,
            at_flat (suc l) x.subtree (suc j),
            ←
                map_take (λ y. y.entry) k all_of,
            ← map_drop (λ y. y.entry) k all_of,
          )
          (ap (λ (r : List Entry). put x.entry.child (tree (suc l) r) Z₂)
          (sym (flat_two (suc l) j (record { entry = entry a.entry.start none a.entry.child; subtree = left } ∷ []) (b' ∷ [])
          x.subtree)))

      gives : Healed (suc l) x Z (redistribute_x ◌⊕◌ l x.entry.child j k Z) R
          (record { nodes = redistribute ◌⊕◌ l j k x.subtree; supply = R }) written
      unfolding redistribute emptied
      gives =
          let ac = a.entry.child in
          let bc = b.entry.child in
          let room'' : (q : ℕ) → hit q ac + (hit q bc + (times_below l q left + times_below l q right)) + times_spare q R ≤ 1 =
          λ q. let m = room q in omega (arith, all_below q, below_halves l q k all_of) in
          rw redistribute_is
          (joined a.entry.start left (b' ∷ []) Z₂ R (all_take k all_represented) (put_else bc (tree l (flat right)) Z₁)
          (all_more
          (put_stores l Z₁ b'.entry right
          (all_stores l (λ q. hit q ac) (put_else ac (tree l (flat left)) Z) (all_drop k all_represented) (λ q. omega (arith, room'' q)))
          (λ q. omega (arith, room'' q)))
          all_none)
          (put_supplied bc (tree l (flat right)) (put_supplied ac (tree l (flat left)) s (λ q. omega (arith, room'' q)))
          (λ q. omega (arith, room'' q)))
          (ap lasting (put_head bc (tree l (flat right)) Z₁ ∙ put_head ac (tree l (flat left)) Z))
          (λ q. omega (arith, all_below q, below_halves l q k all_of))
          (λ q. omega (arith, all_below q, below_halves l q k all_of, below_one (suc l) q b', under_suc l q b')))

    abbrev Z₁' : Image
    Z₁' = put a.entry.child (tree l (flat all_of)) Z

    merge_is : merge_x ◌⊕◌ l x.entry.child j Z ≡
        put x.entry.child (tree (suc l) (flat (merge ◌⊕◌ l j x.subtree))) (given_back b.entry.child Z₁')
    unfolding merge_x merge emptied
    merge_is =
        rw (both_is, entries_are (suc l) Z x shown, at_flat (suc l) x.subtree j, at_flat (suc l) x.subtree (suc j))
        (ap (λ (r : List Entry). put x.entry.child (tree (suc l) r) (given_back b.entry.child Z₁'))
        (sym (flat_two (suc l) j (record { entry = entry a.entry.start none a.entry.child; subtree = all_of } ∷ []) []
        x.subtree)))

    merges : Healed (suc l) x Z (merge_x ◌⊕◌ l x.entry.child j Z) R
        (record { nodes = merge ◌⊕◌ l j x.subtree; supply = with_page b.entry.child R }) written
    unfolding merge emptied
    merges =
        let ac = a.entry.child in
        let bc = b.entry.child in
        let room'' : (q : ℕ) → hit q ac + (hit q bc + times_below l q all_of) + times_spare q R ≤ 1 = λ q. let m = room q in
        omega (arith, all_below q) in
        rw merge_is
        (joined a.entry.start all_of [] (given_back bc Z₁') (with_page bc R) all_represented (given_else bc Z₁') all_none
        (given_supplied bc (put_supplied ac (tree l (flat all_of)) s (λ q. omega (arith, room'' q))) (λ q. omega (arith, room'' q)))
        (given_lasting bc Z₁' ∙ ap lasting (put_head ac (tree l (flat all_of)) Z))
        (λ q. omega (arith, all_below q))
        (λ q. omega (arith, all_below q, below_none (suc l) q, spare_given q bc R)))

-- ---- the page under the i-th entry turns

left_zero : left_of 0 ≡ 0
unfolding left_of
left_zero = refl

left_suc : (i : ℕ) → left_of (suc i) ≡ i
unfolding left_of
left_suc i = omega arith

sibling_zero : sibling 0 ≡ 1
unfolding sibling
sibling_zero = refl

-- the two at the left index and behind it are the i-th and its sibling
pub siblings : (f : ℕ → ℕ) (i : ℕ) → f (left_of i) + f (suc (left_of i)) ≡ f i + f (sibling i)
siblings f zero = rw (left_zero, sibling_zero)
siblings f (suc i) = rw (left_suc i, sibling_next i) (omega arith)

pub left_in : (i n : ℕ) → 2 ≤ n → i < n → suc (left_of i) < n
left_in zero n h k = rw left_zero (omega arith)
left_in (suc i) n h k = rw (left_suc i) k

pub sibling_in : (i n : ℕ) → 2 ≤ n → i < n → sibling i < n
sibling_in zero n h k = rw sibling_zero (omega arith)
sibling_in (suc i) n h k = rw (sibling_next i) (omega arith)

pub turns : (half : ℕ) (◌⊕◌ : Pair → Pair → Pair) (l : ℕ) (x : Node (Subtree (suc (suc l)))) (i : ℕ) (Z : Image) (R : Supply)
    → 2 ≤ length x.subtree
    → i < length x.subtree
    → Stores (suc (suc l)) Z.page x
    → Supplied Z R
    → ((q : ℕ) → times q (pages_under (suc (suc l)) x) + times_spare q R ≤ 1)
    → Healed (suc l) x Z (rebalance_x half ◌⊕◌ l x.entry.child i Z) R (rebalance half ◌⊕◌ l i x.subtree R)
    (λ q.
    hit q x.entry.child +
    (hit q (node_at (suc l) x.subtree i).entry.child + hit q (node_at (suc l) x.subtree (sibling i)).entry.child))
unfolding rebalance_x rebalance
turns half ◌⊕◌ l x i Z R h k shown s once =
    let es = x.subtree in
    let j = left_of i in
    let y = node_at (suc l) es (sibling i) in
    let two : suc j < length es = left_in i (length es) h k in
    let y_shown : Stores (suc l) Z.page y =
    all_at (sibling i) (no_node (suc l)) (subtrees_represented (suc l) Z x shown) (sibling_in i (length es) h k) in
    let n : length (entries Z (at (entries Z x.entry.child) (sibling i)).child) ≡ length y.subtree =
    rw (entries_are (suc l) Z x shown, at_flat (suc l) es (sibling i), entries_are l Z y y_shown)
    (length-map y.subtree (λ z. z.entry)) in
    let w : (q : ℕ) → hit q x.entry.child
    + (hit q (node_at (suc l) es j).entry.child + hit q (node_at (suc l) es (suc j)).entry.child) ≡
    hit q x.entry.child + (hit q (node_at (suc l) es i).entry.child + hit q y.entry.child) =
    λ q. ap (λ (m : ℕ). hit q x.entry.child + m) (siblings (λ m. hit q (node_at (suc l) es m).entry.child) i) in
    rw n
    (cond_both (λ Z' r. Healed (suc l) x Z Z' R r
    (λ q. hit q x.entry.child + (hit q (node_at (suc l) es i).entry.child + hit q y.entry.child)))
    (ltb half (length y.subtree)) (ltb half (length y.subtree)) refl
    (λ e. weighed w (gives l x j Z R two shown once ◌⊕◌ s (cond (eqb i 0) half (length y.subtree - 1))))
    (λ e. weighed w (merges l x j Z R two shown once ◌⊕◌ s)))
