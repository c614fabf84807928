-- The heal at t: no instant's pair is altered, and the shape is kept; for kind 1 no leaf entry starts at t then, unless the totals on both
-- sides differ. Assumes nothing.
use Prim.Native.Nat.{ℕ, zero, suc, ◌-◌, ◌≤◌, ◌<◌}
use mathlib.Core.Path.{◌≡◌, refl, sym, ap, ◌∙◌, subst, subst⁻¹}
use mathlib.Core.Logic.{◌⊎◌, inl, inr, ⊎_elim}
use mathlib.Core.Bool.{Bool, true, false, ◌&&◌, and-true, true≢false}
use mathlib.Core.List.{[], ◌∷◌}
use native.Mathlib.Omega.{arith}
use lib.Dec.{eqb, ltb, eqb-suc-zero, eqb-suc-suc}
use lib.ListN.{length}
use borrow.Author.Tests.{ltb-true, lt-ltb}
use Rattle.rule.specs.declared.Pair.{Pair}
use Rattle.rule.specs.Pairs.{same_pair, Lawful, Invertible}
use Rattle.rule.specs.Time.{END}
use Rattle.rule.proofs.Tests.{both}
use Rattle.rule.proofs.Laws.{same_pair_is, cancel}
use Rattle.page.specs.Layout.{capacity}
use Rattle.tree.specs.Tree.{Node, Subtree, Nodes, Tree, pair_in, pair_at}
use Rattle.tree.specs.Supply.{Supply}
use Rattle.tree.specs.Cut.{State}
use Rattle.tree.specs.Heal.{starts_leaf, joins_edge, heal_nodes, collapse_if_single, heal}
use Rattle.tree.specs.Shape.{Asked, Seg, done, more, Shaped, Formed, root_least}
use Rattle.tree.proofs.Seg.{le_or_lt, seg_some, least_two}
use Rattle.tree.proofs.Same.{same_pair_in, pair_in_one}
use Rattle.tree.proofs.Shapes.{Pairless, Stretchable, formed_map, formed_spans}
use Rattle.tree.proofs.Push.{pushed_length, pushed_spans, pushed_pair}
use Rattle.tree.proofs.Rebalance.{Heals}
use Rattle.tree.proofs.Within.{nodes_heal}
use Rattle.tree.proofs.Edge.{starts_inside, mends}

-- ---- the root

not_one : (n : ℕ) → eqb (suc (suc n)) 1 ≡ false
not_one n = eqb-suc-suc (suc n) 0 ∙ eqb-suc-zero n

module _ {half : ℕ} (two : 2 ≤ half) {B : Asked (Subtree 0)} (any : Pairless B) {◌⊕◌ : Pair → Pair → Pair} (lawful : Lawful ◌⊕◌) where
  -- a root of level l with the entries es became U
  record Shrunk (l lo hi : ℕ) (es : Nodes l) (U : Tree) : Type 0 where
    least : root_least U.level ≤ length U.nodes
    most : length U.nodes ≤ capacity half
    spans : Seg (Shaped half B U.level) lo hi U.nodes
    pairs : (u : ℕ) → lo ≤ u → pair_at ◌⊕◌ U u ≡ pair_in ◌⊕◌ l u es
    level : (U.level ≡ l) ⊎ (suc U.level ≡ l)

  root_collapses : (l root : ℕ) {lo hi : ℕ} {es : Nodes l} (S : Supply) → length es ≤ capacity half → lo < hi
      → Seg (Shaped half B l) lo hi es
      → Shrunk l lo hi es (collapse_if_single half ◌⊕◌ l root es S).tree
  unfolding collapse_if_single root_least Shaped
  root_collapses zero root S most lt s = record { least = seg_some s lt; most = most; spans = s; pairs = λ u low. refl; level = inl refl }
  root_collapses (suc l) root S most lt done = absurd (omega arith)
  root_collapses (suc l) root S most lt (more {x} e lt' q done) =
      let n = pushed_length ◌⊕◌ l x in
      record {
        least = omega (arith, least_two l, q.0);
        most = omega (arith, q.0);
        spans = pushed_spans ◌⊕◌ l x half any q.1;
        pairs = λ u low. pushed_pair ◌⊕◌ l x u lawful q.1 lt low ∙ sym (pair_in_one ◌⊕◌ l x u);
        level = inr refl;
      }
  root_collapses (suc l) root S most lt (more {x} e lt' q (more {x = y} {es = es} f lt'' p r)) =
      rw (not_one (length es))
      (record { least = omega arith; most = most; spans = more e lt' q (more f lt'' p r); pairs = λ u low. refl; level = inl refl })

  -- the entries es of the root were healed to fs
  healed_root : {C : Asked (Subtree 0)} (T : Tree) (fs : Nodes T.level) (S : Supply) → Formed half C T
      → Heals half B ◌⊕◌ T.level 0 END T.nodes fs
      → Shrunk T.level 0 END T.nodes (collapse_if_single half ◌⊕◌ T.level T.root fs S).tree
  healed_root T fs S F h =
      let w = root_collapses T.level T.root S (omega (arith, h, F)) (omega arith) h.spans in
      record {
        least = w.least;
        most = w.most;
        spans = w.spans;
        pairs = λ u low. w.pairs u low ∙ sym (same_pair_in F.spans h.spans (omega arith) h.same u low);
        level = w.level;
      }

-- ---- the whole step

module _ {half : ℕ} (two : 2 ≤ half) {B : Asked (Subtree 0)} (any : Pairless B) (longer : Stretchable B) {◌⊕◌ : Pair → Pair → Pair}
    (lawful : Lawful ◌⊕◌) {totals : Bool} (inverse : totals ≡ true → Invertible ◌⊕◌) (t : ℕ) (Y : State) (F : Formed half B Y.tree) where
  abbrev T : Tree
  T = Y.tree

  abbrev healed : Bool → Nodes T.level
  healed edge = (heal_nodes half ◌⊕◌ edge t T.level T.nodes Y.supply).nodes

  -- where the totals at t − 1 and at t are equal, and the edge that t may start is joined, the entry goes
  root_mends : {C : Asked (Subtree 0)} → Pairless C → Stretchable C
      → ((a b : ℕ) (x : Node (Subtree 0)) → (a ≡ t → ⊥) → B a b x → C a b x)
      → totals ≡ true → 0 < t → t < END → pair_at ◌⊕◌ T t ≡ pair_at ◌⊕◌ T (t - 1) → (edge : Bool)
      → starts_leaf t T.level T.nodes ≡ edge → Heals half C ◌⊕◌ T.level 0 END T.nodes (healed edge)
  root_mends any_c longerC keep kind some high equal edge starts =
      mends two any_c longerC lawful (cancel lawful (inverse kind)) t keep T.level T.nodes Y.supply edge F.least some high
      F.spans starts equal

  -- what tells that an edge joins
  record Joins : Type 0 where
    kind : totals ≡ true
    some : 0 < t
    starts : starts_leaf t T.level T.nodes ≡ true
    equal : pair_at ◌⊕◌ T t ≡ pair_at ◌⊕◌ T (t - 1)

  joins : joins_edge ◌⊕◌ totals t T ≡ true → Joins
  unfolding joins_edge
  joins h =
      let p = pair_at ◌⊕◌ T t in
      let q = pair_at ◌⊕◌ T (t - 1) in
      let s = starts_leaf t T.level T.nodes in
      let w = (both totals (ltb 0 t && (s && same_pair p q)) (λ z. z, λ z. z)
      (both (ltb 0 t) (s && same_pair p q) (λ z. z, λ z. z) (both s (same_pair p q) (λ z. z, λ z. z) (same_pair_is p q)))).0 h in
      record { kind = w.0; some = ltb-true 0 t w.1.0; starts = w.1.1.0; equal = w.1.1.1 }

  root_heals : Heals half B ◌⊕◌ T.level 0 END T.nodes (healed (joins_edge ◌⊕◌ totals t T))
  root_heals = go (joins_edge ◌⊕◌ totals t T) refl
    where
      go : (edge : Bool) → joins_edge ◌⊕◌ totals t T ≡ edge → Heals half B ◌⊕◌ T.level 0 END T.nodes (healed edge)
      go true h =
          let j = joins h in
          root_mends any longer (λ a b x k q. q) j.kind j.some
          (starts_inside half B t T.level (omega arith) (omega arith) F.spans j.starts) j.equal true j.starts
      go false h = nodes_heal two any longer lawful t T.level T.nodes Y.supply F.least (omega arith) (omega arith) F.spans

  heal_tree : Shrunk two any lawful T.level 0 END T.nodes (heal half ◌⊕◌ totals t Y).tree
  unfolding heal
  heal_tree = healed_root two any lawful T _ _ F root_heals

  pub heal_formed : Formed half B (heal half ◌⊕◌ totals t Y).tree
  heal_formed = record { least = heal_tree.least; most = heal_tree.most; spans = heal_tree.spans }

  pub heal_pairs : (u : ℕ) → pair_at ◌⊕◌ (heal half ◌⊕◌ totals t Y).tree u ≡ pair_at ◌⊕◌ T u
  heal_pairs u = heal_tree.pairs u (omega arith)

  pub heal_level : ((heal half ◌⊕◌ totals t Y).tree.level ≡ T.level) ⊎ (suc (heal half ◌⊕◌ totals t Y).tree.level ≡ T.level)
  heal_level = heal_tree.level

  -- ---- for kind 1: what starts at t then

  module _ (kind : totals ≡ true) where
    -- what is asked of a leaf entry besides, once it is healed at t: if it starts there, the totals on both sides differ
    abbrev pub Mended : Asked (Subtree 0)
    Mended lo hi x = B lo hi x × (lo ≡ t → 0 < t → pair_at ◌⊕◌ T t ≡ pair_at ◌⊕◌ T (t - 1) → ⊥)

    abbrev Elsewhere : Asked (Subtree 0)
    Elsewhere lo hi x = B lo hi x × (lo ≡ t → ⊥)

    elsewhere : 0 < t → t < END → pair_at ◌⊕◌ T t ≡ pair_at ◌⊕◌ T (t - 1) → Formed half Elsewhere (heal half ◌⊕◌ totals t Y).tree
    unfolding heal joins_edge
    elsewhere some high equal =
        let p = pair_at ◌⊕◌ T t in
        let q = pair_at ◌⊕◌ T (t - 1) in
        let s = starts_leaf t T.level T.nodes in
        let edge : s ≡ joins_edge ◌⊕◌ totals t T =
        sym (ap (λ k. k && (ltb 0 t && (s && same_pair p q))) kind
        ∙ (ap (λ k. k && (s && same_pair p q)) (lt-ltb 0 t some) ∙ (ap (λ k. s && k) ((same_pair_is p q).1 equal) ∙ and-true s))) in
        let anyE : Pairless Elsewhere = record { any_pair = λ lo hi x r k. (any.any_pair lo hi x r k.0, k.1) } in
        let longerE : Stretchable Elsewhere = record { stretched = λ lo mid hi x l h k. (longer.stretched lo mid hi x l h k.0, k.1) } in
        let w = healed_root two anyE lawful T _ _ F
        (root_mends anyE longerE (λ a b x k r. (r, k)) kind some high equal (joins_edge ◌⊕◌ totals t T) edge) in
        record { least = w.least; most = w.most; spans = w.spans }

    pub heal_mends : Formed half Mended (heal half ◌⊕◌ totals t Y).tree
    heal_mends = ⊎_elim late (λ high. early high (same_pair (pair_at ◌⊕◌ T t) (pair_at ◌⊕◌ T (t - 1))) refl) (le_or_lt END t)
      where
        late : END ≤ t → Formed half Mended (heal half ◌⊕◌ totals t Y).tree
        late h = formed_spans (λ a b y lt le q. (q, λ e. absurd (omega arith))) heal_formed

        early : t < END → (b : Bool) → same_pair (pair_at ◌⊕◌ T t) (pair_at ◌⊕◌ T (t - 1)) ≡ b
            → Formed half Mended (heal half ◌⊕◌ totals t Y).tree
        early high true e =
            let equal = (same_pair_is (pair_at ◌⊕◌ T t) (pair_at ◌⊕◌ T (t - 1))).0 e in
            ⊎_elim (λ (some : 1 ≤ t). formed_map (λ a b y q. (q.0, λ k. absurd (q.1 k))) (elsewhere some high equal))
            (λ (none : t < 1). formed_map (λ a b y q. (q, λ k some. absurd (omega arith))) heal_formed) (le_or_lt 1 t)
        early high false e =
            formed_map (λ a b y q. (
              q,
              λ k some equal. true≢false
                  (sym ((same_pair_is (pair_at ◌⊕◌ T t) (pair_at ◌⊕◌ T (t - 1))).1 equal) ∙ e),
            )) heal_formed
