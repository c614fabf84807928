-- What bounds the pairs on every path: cut and heal keep it, combining adds the effect's measure. Over any measure that is bounded by
-- sums. Assumes nothing.
use Prim.Native.Nat.{ℕ, zero, suc, ◌+◌, ◌-◌, ◌≤◌}
use mathlib.Core.Bool.{Bool, true, false, cond, ◌||◌}
use mathlib.Core.List.{List, [], ◌∷◌}
use native.Mathlib.Omega.{arith}
use lib.Dec.{eqb, leb, ltb}
use lib.ListN.{length, drop, get_or}
use Rattle.lists.specs.Lists.{All, all_none, all_more}
use Rattle.lists.proofs.Choices.{either}
use Rattle.lists.proofs.All.{all_get_d, all_append, all_take, all_drop, all_splice, all_map, all_weaken}
use Rattle.rule.specs.declared.Pair.{Pair}
use Rattle.rule.specs.Pairs.{none}
use Rattle.rule.specs.Time.{END, overlaps}
use Rattle.page.specs.declared.Entry.{Entry}
use Rattle.page.specs.Entries.{entry, at, index_of}
use Rattle.steps.specs.Combine.{inside, next_start, took}
use Rattle.steps.specs.Heal.{heals, carried, sibling, left_of}
use Rattle.tree.specs.Tree.{Node, Subtree, Nodes, no_node, flat, Tree}
use Rattle.tree.specs.Supply.{Supply}
use Rattle.tree.specs.Cut.{cut_leaf, not_split, split, cut_node, State, root_node, grow_if_split, cut}
use Rattle.tree.specs.Combine.{with_ends, combine_node, combine_nodes, combine_span}
use Rattle.tree.specs.Heal.{Healing, push_nodes, pushed, joint, emptied, redistribute, merge, rebalance, heal_nodes}
use Rattle.tree.specs.Heal.{joins_edge, collapse_if_single, heal}
use Rattle.tree.specs.Conserved.{NormLaws, PathBounded}
use Rattle.tree.proofs.Conservation.Cut.{inner_nodes, cut_case}

module _ (norm : Pair → ℕ) (Each : Pair → Type 0) where
  -- each way from the entries of a page down is bounded, and each of a tree
  abbrev pub Ways : ℕ → (l : ℕ) → ℕ → Nodes l → Type 0
  Ways most l above es = All (λ x. PathBounded norm Each most l above x) es

  abbrev pub WithinTree : ℕ → Tree → Type 0
  WithinTree most T = Ways most T.level 0 T.nodes

  -- what is above may grow as the bound does
  slack : (l most more above over : ℕ) (x : Node (Subtree l)) → over + most ≤ above + more → PathBounded norm Each most l above x
      → PathBounded norm Each more l over x
  unfolding PathBounded
  slack zero most more above over x h q = (q.0, omega arith)
  slack (suc l) most more above over x h q =
      let n = norm x.entry.pair in
      (q.0, omega arith, all_weaken (λ y. slack l most more (above + n) (over + n) y (omega arith)) q.2)

  slacks : (l most more above over : ℕ) {es : Nodes l} → over + most ≤ above + more
      → Ways most l above es → Ways more l over es
  slacks l most more above over h = all_weaken (λ x. slack l most more above over x h)

  pub within_more : (most more : ℕ) (T : Tree) → most ≤ more → WithinTree most T → WithinTree more T
  within_more most more T h = slacks T.level most more 0 0 (omega arith)

module _ {◌⊕◌ : Pair → Pair → Pair} {norm : Pair → ℕ} {Each : Pair → Type 0} (bounded : NormLaws ◌⊕◌ norm Each) (most : ℕ) where
  none_within : (l above : ℕ) → above ≤ most → PathBounded norm Each most l above (no_node l)
  unfolding PathBounded
  none_within zero above h = (bounded.each_none, omega (arith, bounded.norm_none))
  none_within (suc l) above h = (bounded.each_none, omega (arith, bounded.norm_none), all_none)

  -- ---- the cut
  module _ (half t : ℕ) where
    node_within : (l above : ℕ) (x : Node (Subtree l)) (S : Supply) → PathBounded norm Each most l above x
        → Ways norm Each most l above (cut_node half t l x S).became
    unfolding cut_node cut_leaf not_split split PathBounded
    node_within zero above x S q =
        either (Ways norm Each most 0 above) (all_more q all_none) (all_more q (all_more q all_none)) (eqb x.entry.start t)
    node_within (suc l) above x S q =
        let i = index_of t (flat x.subtree) in
        let y = get_or x.subtree i (no_node l) in
        let here = above + norm x.entry.pair in
        let a : Ways norm Each most l here (inner_nodes half t l x S) =
        all_splice i (node_within l here y S (all_get_d i q.2 (none_within l here q.1))) q.2 in
        cut_case half t l x S (λ C. Ways norm Each most (suc l) above C.became)
        (all_more (q.0, q.1, a) all_none)
        (all_more (q.0, q.1, all_take half a) (all_more (q.0, q.1, all_drop half a) all_none))

    grown_within : (l : ℕ) (zs : Nodes (suc l)) (S : Supply) → Ways norm Each most (suc l) 0 zs
        → WithinTree norm Each most (grow_if_split l zs S).tree
    unfolding grow_if_split PathBounded
    grown_within l [] S a = all_none
    grown_within l (x ∷ []) S (all_more q r) = slacks norm Each l most most (0 + norm x.entry.pair) 0 (omega arith) q.2
    grown_within l (x ∷ y ∷ zs) S a = a

    pub cut_within : (Y : State) → WithinTree norm Each most Y.tree → WithinTree norm Each most (cut half t Y).tree
    unfolding cut root_node PathBounded
    cut_within Y a =
        let l = Y.tree.level in
        either (λ (Z : State). WithinTree norm Each most Z.tree) a
        (grown_within l _ _
        (node_within (suc l) 0 (root_node Y.tree) Y.supply (
          bounded.each_none,
          omega (arith, bounded.norm_none),
          slacks norm Each l most most 0 (0 + norm none)
              (omega (arith, bounded.norm_none)) a,
        )))
        (leb END t)

  -- ---- combining
  module _ (s e : ℕ) (effect : Pair) (fits : Each effect) where
    -- the bound then
    abbrev grow_root : ℕ
    grow_root = most + norm effect

    ends_all : {A : Type 0} {Q R : Node A → Type 0} {es : List (Node A)} (f : ℕ → Node A → Node A) (hi : ℕ)
        → ((h : ℕ) (x : Node A) → Q x → R (f h x)) → All Q es → All R (with_ends f hi es)
    unfolding with_ends
    ends_all f hi h all_none = all_none
    ends_all f hi h (all_more {x} {xs} q r) = all_more (h (next_start hi (flat xs)) x q) (ends_all f hi h r)

    -- the entry x took it, or what is below became this, or neither
    took_within : (l above : ℕ) (x : Node (Subtree (suc l))) (below : Nodes l) → PathBounded norm Each most (suc l) above x
        → Ways norm Each grow_root l (above + norm x.entry.pair) below → (a b : Bool)
        → PathBounded norm Each grow_root (suc l) above
        (record {
          entry = cond a (entry x.entry.start (◌⊕◌ x.entry.pair effect) x.entry.child) x.entry;
          subtree =
              cond a x.subtree (cond b below x.subtree);
        })
    unfolding PathBounded
    took_within l above x below q r true b =
        let p = x.entry.pair in
        let h = bounded.norm_sum p effect in (
          bounded.each_sum p effect q.0 fits,
          omega arith,
          slacks norm Each l most grow_root (above + norm p)
              (above + norm (◌⊕◌ p effect)) (omega arith) q.2,
        )
    took_within l above x below q r false true = (q.0, omega arith, r)
    took_within l above x below q r false false =
        let n = norm x.entry.pair in
        (q.0, omega arith, slacks norm Each l most grow_root (above + n) (above + n) (omega arith) q.2)

    combine_within_node : (l above hi : ℕ) (x : Node (Subtree l)) → PathBounded norm Each most l above x
        → PathBounded norm Each grow_root l above (combine_node ◌⊕◌ s e effect l hi x)
    unfolding combine_node took PathBounded
    combine_within_node zero above hi x q =
        either (λ (y : Entry). Each y.pair × (above + norm y.pair ≤ grow_root))
        (bounded.each_sum x.entry.pair effect q.0 fits, omega (arith, bounded.norm_sum x.entry.pair effect))
        (q.0, omega arith)
        (inside s e x.entry.start hi)
    combine_within_node (suc l) above hi x q =
        took_within l above x _ q
        (ends_all (λ h y. combine_node ◌⊕◌ s e effect l h y) hi (λ h y. combine_within_node l (above + norm x.entry.pair) h y) q.2)
        (inside s e x.entry.start hi)
        (overlaps s e x.entry.start hi)

    pub combine_within : (Y : State) → WithinTree norm Each most Y.tree
        → WithinTree norm Each grow_root (combine_span ◌⊕◌ s e effect Y).tree
    unfolding combine_span combine_nodes
    combine_within Y a = ends_all _ END (λ h x. combine_within_node Y.tree.level 0 h x) a

  -- ---- the heal
  module _ (half : ℕ) where
    push_within : (l above : ℕ) (p : Pair) (x : Node (Subtree l)) → Each p → PathBounded norm Each most l (above + norm p) x
        → PathBounded norm Each most l above
        (record { entry = entry x.entry.start (◌⊕◌ p x.entry.pair) x.entry.child; subtree = x.subtree })
    unfolding PathBounded
    push_within zero above p x f q = (bounded.each_sum p x.entry.pair f q.0, omega (arith, bounded.norm_sum p x.entry.pair))
    push_within (suc l) above p x f q =
        let r = x.entry.pair in
        let h = bounded.norm_sum p r in (
          bounded.each_sum p r f q.0,
          omega arith,
          slacks norm Each l most most (above + norm p + norm r) (above + norm (◌⊕◌ p r))
              (omega arith) q.2,
        )

    pushed_within : (l above : ℕ) (x : Node (Subtree (suc l))) → PathBounded norm Each most (suc l) above x
        → Ways norm Each most l above (pushed ◌⊕◌ x)
    unfolding pushed push_nodes PathBounded
    pushed_within l above x q = all_map _ (λ y. push_within l above x.entry.pair y q.0) q.2

    emptied_within : (l above start : ℕ) (x : Node (Subtree (suc l))) {es : Nodes l} → above ≤ most → Ways norm Each most l above es
        → PathBounded norm Each most (suc l) above (emptied ◌⊕◌ start x es)
    unfolding emptied PathBounded
    emptied_within l above start x h a =
        let z = bounded.norm_none in
        (bounded.each_none, omega arith, slacks norm Each l most most above (above + norm none) (omega arith) a)

    rebalance_within : (l above i : ℕ) (es : Nodes (suc l)) (S : Supply) → above ≤ most → Ways norm Each most (suc l) above es
        → Ways norm Each most (suc l) above (rebalance half ◌⊕◌ l i es S).nodes
    unfolding rebalance redistribute merge joint
    rebalance_within l above i es S h a =
        let d = no_node (suc l) in
        let j = left_of i in
        let x = get_or es j d in
        let y = get_or es (suc j) d in
        let z = none_within (suc l) above h in
        let all : Ways norm Each most l above (joint ◌⊕◌ x y) =
        all_append (pushed_within l above x (all_get_d j a z)) (pushed_within l above y (all_get_d (suc j) a z)) in
        let n = length (get_or es (sibling i) d).subtree in
        let k = cond (eqb i 0) half (n - 1) in
        either (λ (H : Healing (Subtree (suc l))). Ways norm Each most (suc l) above H.nodes)
        (all_splice j (all_more (emptied_within l above x.entry.start x h (all_take k all)) all_none)
        (all_splice (suc j) (all_more (emptied_within l above (at (flat (drop k (joint ◌⊕◌ x y))) 0).start y h (all_drop k all))
        all_none) a))
        (all_splice j (all_more (emptied_within l above x.entry.start x h all) all_none) (all_splice (suc j) all_none a))
        (ltb half n)

    pub nodes_within : (edge : Bool) (t l above : ℕ) (es : Nodes l) (S : Supply) → above ≤ most → Ways norm Each most l above es
        → Ways norm Each most l above (heal_nodes half ◌⊕◌ edge t l es S).nodes
    unfolding heal_nodes carried PathBounded
    nodes_within edge t zero above es S h a =
        let i = index_of t (flat es) in
        either (Ways norm Each most 0 above) (all_splice i all_none a) a (edge || heals t (flat es) i)
    nodes_within edge t (suc l) above es S h a =
        let i = index_of t (flat es) in
        let x = get_or es i (no_node (suc l)) in
        let q = all_get_d i a (none_within (suc l) above h) in
        let r = heal_nodes half ◌⊕◌ edge t l x.subtree S in
        let b = all_splice i
        (all_more (q.0, q.1, nodes_within edge t l (above + norm x.entry.pair) x.subtree S q.1 q.2) all_none) a in
        either (λ (H : Healing (Subtree (suc l))). Ways norm Each most (suc l) above H.nodes)
        (rebalance_within l above i _ r.supply h b)
        b
        (ltb (length r.nodes) half)

    collapsed_within : (l root : ℕ) (es : Nodes l) (S : Supply) → Ways norm Each most l 0 es
        → WithinTree norm Each most (collapse_if_single half ◌⊕◌ l root es S).tree
    unfolding collapse_if_single
    collapsed_within zero root es S a = a
    collapsed_within (suc l) root es S a =
        either (λ (Z : State). WithinTree norm Each most Z.tree)
        (pushed_within l 0 _ (all_get_d 0 a (none_within (suc l) 0 (omega arith))))
        a
        (eqb (length es) 1)

    pub heal_within : (totals : Bool) (t : ℕ) (Y : State) → WithinTree norm Each most Y.tree
        → WithinTree norm Each most (heal half ◌⊕◌ totals t Y).tree
    unfolding heal
    heal_within totals t Y a =
        collapsed_within Y.tree.level Y.tree.root _ _
        (nodes_within (joins_edge ◌⊕◌ totals t Y.tree) t Y.tree.level 0 Y.tree.nodes Y.supply (omega arith) a)
