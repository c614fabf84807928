-- A cut does to the tree and the supply that an image shows what it does to trees, and writes the path and the pages it takes.
-- Assumes nothing.
use Prim.Native.Nat.{ℕ, zero, suc, ◌+◌, ◌≤◌, ◌<◌}
use mathlib.Core.Path.{◌≡◌, refl, sym, ap, ◌∙◌, subst}
use mathlib.Core.Bool.{true, cond}
use mathlib.Core.List.{List, [], ◌∷◌, ◌++◌}
use native.Mathlib.Omega.{arith}
use lib.Dec.{eqb, leb}
use lib.ListN.{length, take, drop, length-map}
use borrow.Author.Tests.{eqb-true, eq-eqb, ne_eqb, leb-true, leb-false}
use Rattle.lists.specs.Lists.{All, all_none, all_more, hit}
use Rattle.lists.proofs.Choices.{cond_both}
use Rattle.lists.proofs.Edits.{map_splice}
use Rattle.lists.proofs.All.{all_at}
use Rattle.lists.proofs.Totals.{hit_self}
use Rattle.lists.proofs.Times.{times_cons, times_append}
use Rattle.rule.specs.declared.Pair.{Pair}
use Rattle.rule.specs.Pairs.{none}
use Rattle.rule.specs.Time.{END}
use Rattle.page.specs.declared.Entry.{Entry}
use Rattle.page.specs.declared.Head.{Head}
use Rattle.page.specs.Entries.{entry, at, index_of}
use Rattle.lists.specs.Lists.{splice}
use Rattle.image.specs.Images.{Image, tree}
use Rattle.lists.specs.Lists.{times}
use Rattle.steps.specs.Supply.{put, taken, spares, pages_taken, with_supply, with_root}
use Rattle.steps.specs.Cut.{Cutting as CuttingX, cut_leaf_entry, split_if_full as split_if_full_x, cut_entry, root_entry, grow_root}
use Rattle.steps.specs.Cut.{grow_if_split as grow_if_split_x, cut as cut_x}
use Rattle.steps.specs.Change.{path, cut_names}
use Rattle.steps.proofs.Supply.{put_head, rooted_page, rooted_height, rooted_root, taken_page}
use Rattle.tree.specs.Tree.{Node, Subtree, Nodes, flat, pages_under}
use Rattle.tree.specs.Supply.{Supply, next_page, without_next}
use Rattle.tree.specs.Cut.{Cutting, cut_leaf, not_split, split_if_full, cut_node, State, root_node, grow_if_split, cut}
use Rattle.tree.specs.Conserved.{times_below, times_spare, held}
use Rattle.refinement.specs.Represents.{Stores, Supplied, Represents, Once, Stocked, Full}
use Rattle.refinement.proofs.Below.{below_leaf, under_zero, under_suc, below_one, below_at, below_splice}
use Rattle.refinement.proofs.Moves.{leaves_represented, Frame, put_else, rooted_supplied, put_stores, splice_represented, lasting}
use Rattle.refinement.proofs.Moves.{put_supplied, spare_next, spare_is, taken_supplied, taken_lasting}
use Rattle.tree.specs.Counts.{later}
use Rattle.tree.proofs.Conservation.Supply.{later_more, later_add}
use Rattle.refinement.proofs.Taking.{firsts, firsts_none, firsts_more, later_held, firsts_add, spares_are, taken_is}
use Rattle.refinement.proofs.Split.{EntryCut, splits_if_full}
use Rattle.refinement.proofs.Stepped.{state, Steady, Stepped, steady_of, steady_then, steady_rooted, held_is, once_is}
use Rattle.refinement.proofs.Paths.{path_held, subtrees_represented, flat_same, there, path_top, path_past, entries_are, at_flat}
use Rattle.refinement.proofs.Paths.{has_index, stocked_on, stores_on, path_in, path_below}

-- ---- one level up

module _ (half t l : ℕ) (x : Node (Subtree (suc l))) (X : Image) (S : Supply)
    (shown : Stores (suc l) X.page x) (stock : Stocked (suc l) x)
    (once : (q : ℕ) → times q (pages_under (suc l) x) + times_spare q S ≤ 1) where
  abbrev i : ℕ
  i = index_of t (flat x.subtree)

  abbrev y : Node (Subtree l)
  y = there l t x.subtree

  abbrev Result : CuttingX → Cutting (Subtree (suc l)) → Type 0
  Result u u' = EntryCut (suc l) x.entry X S (λ q. times q (pages_under (suc l) x)) (λ q. times q (path_in t (suc l) x)) u u'

  module _ (r : CuttingX) (r' : Cutting (Subtree l))
      (g : EntryCut l y.entry X S (λ q. times q (pages_under l y)) (λ q. times q (path_in t l y)) r r') where
    abbrev new : Nodes l
    new = splice i r'.became x.subtree

    flat_new : flat new ≡ splice i r.became (flat x.subtree)
    flat_new = map_splice (λ z. z.entry) i r'.became x.subtree ∙ ap (λ zs. splice i zs (flat x.subtree)) (sym g.same)

    -- what each page is counted by
    record Room (q : ℕ) : Type 0 where
      before : times q (pages_under (suc l) x) ≡
          hit q x.entry.child
          + (times_below l q (take i x.subtree) + (times q (pages_under l y) + times_below l q (drop (suc i) x.subtree)))
      after : times_below l q new ≡ times_below l q (take i x.subtree)
          + ((times q (pages_under l y) + times q (firsts g.took S)) + times_below l q (drop (suc i) x.subtree))
      written : times q (path_in t l y) ≤ times q (pages_under l y)
      on_way : times q (path_in t (suc l) x) ≡ hit q x.entry.child + times q (path_in t l y)
      supply : times q (firsts g.took S) + times_spare q r'.supply ≡ times_spare q S
      most : times q (pages_under (suc l) x) + times_spare q S ≤ 1

    room : (q : ℕ) → Room q
    unfolding path_in
    room q =
        record {
          before = omega (arith, under_suc l q x, below_at l q i x.subtree (has_index l t x stock));
          after = omega (arith, below_splice l q i r'.became x.subtree, g.pages q);
          written = path_below q t l y (stocked_on l t x stock);
          on_way = times_cons q x.entry.child (path_in t l y);
          supply = rw g.rest (later_held q g.took S);
          most = once q;
        }

    new_represented : All (λ z. Stores l r.image.page z) new
    new_represented =
        splice_represented l (λ q. times q (path_in t l y) + times q (firsts g.took S)) g.frame i
        (subtrees_represented l X x shown) g.shows
        (λ q. let m = room q in omega arith)

    unsplit : eqb (length r.became) 1 ≡ true
        → Result (record { became = x.entry ∷ []; image = r.image }) (not_split x new r'.supply)
    unfolding not_split Stores
    unsplit e =
        let p = x.entry.child in
        let x' : Node (Subtree (suc l)) = record { entry = x.entry; subtree = new } in
        let b : flat new ≡ flat x.subtree =
        flat_same l i r'.became x.subtree (has_index l t x stock) (sym g.same ∙ g.one (eqb-true (length r.became) 1 e)) in
        record {
          took = g.took;
          same = refl;
          some = omega arith;
          one = λ h. refl;
          shows =
              all_more
              (g.frame p (let m = room p in omega (arith, hit_self p)) ∙ shown.0 ∙ ap (λ es. tree l es) (sym b), new_represented)
              all_none;
          rest = g.rest;
          supplied = g.supplied;
          pages = λ q. let m = room q in omega (arith, below_one (suc l) q x', under_suc l q x');
          frame = λ q h. g.frame q (let m = room q in omega arith);
          head = g.head;
        }

    -- what was done to the pages below, and then to this one
    further : (u : CuttingX) (u' : Cutting (Subtree (suc l)))
        → EntryCut (suc l) x.entry r.image r'.supply (λ q. hit q x.entry.child + times_below l q new)
        (λ q. hit q x.entry.child) u u'
        → Result u u'
    further u u' h =
        let more : (q : ℕ) → times q (firsts (h.took + g.took) S) ≡
        times q (firsts g.took S) + times q (firsts h.took r'.supply) =
        λ q. firsts_add q h.took g.took S
        ∙ ap (λ (R : Supply). times q (firsts g.took S) + times q (firsts h.took R)) (sym g.rest) in
        record {
          took = h.took + g.took;
          same = h.same;
          some = h.some;
          one = h.one;
          shows = h.shows;
          rest = h.rest ∙ ap (λ (R : Supply). later h.took R) g.rest ∙ sym (later_add h.took g.took S);
          supplied = h.supplied;
          pages = λ q. let m = room q in omega (arith, h.pages q, more q);
          frame =
              λ q z. h.frame q (let m = room q in omega (arith, more q)) ∙ g.frame q (let m = room q in omega (arith, more q));
          head = h.head ∙ g.head;
        }

    one_up : Result
        (cond (eqb (length r.became) 1) (record { became = x.entry ∷ []; image = r.image })
        (split_if_full_x half l x.entry (splice i r.became (flat x.subtree)) r.image))
        (cond (eqb (length r'.became) 1) (not_split x new r'.supply) (split_if_full half x new r'.supply))
    one_up =
        cond_both Result (eqb (length r.became) 1) (eqb (length r'.became) 1)
        (ap (λ (n : ℕ). eqb n 1) (ap length g.same ∙ length-map r'.became (λ z. z.entry)))
        unsplit
        (λ e.
        rw (← flat_new)
        (further (split_if_full_x half l x.entry (flat new) r.image) (split_if_full half x new r'.supply)
        (splits_if_full half l x new r.image r'.supply new_represented g.supplied (λ q. let m = room q in omega arith))))

abbrev pub CutIs : (half t l : ℕ) → Node (Subtree l) → Image → Supply → Type 0
CutIs half t l x X S =
    EntryCut l x.entry X S (λ q. times q (pages_under l x)) (λ q. times q (path_in t l x)) (cut_entry half t l x.entry X)
    (cut_node half t l x S)

-- a leaf entry
cut_none : (half t : ℕ) (x : Node (Subtree 0)) (X : Image) (S : Supply) → Supplied X S → CutIs half t 0 x X S
unfolding cut_entry cut_node cut_leaf_entry cut_leaf later
cut_none half t x X S s =
    cond_both Result (eqb x.entry.start t) (eqb x.entry.start t) refl
    (λ e. result (x ∷ []) (omega arith) (λ h. refl))
    (λ e. result (x ∷ y ∷ []) (omega arith) (λ h. absurd (omega arith)))
  where
    y : Node (Subtree 0)
    y = record { entry = entry t x.entry.pair x.entry.child; subtree = tt }

    Result : List Entry → Nodes 0 → Type 0
    Result u v =
        EntryCut 0 x.entry X S (λ q. times q (pages_under 0 x)) (λ q. times q (path_in t 0 x)) (record { became = u; image = X })
        (record { became = v; supply = S })

    result : (v : Nodes 0) → 1 ≤ length v → (length (flat v) ≡ 1 → flat v ≡ x.entry ∷ []) → Result (flat v) v
    result v some one =
        record {
          took = 0;
          same = refl;
          some = some;
          one = one;
          shows = leaves_represented X.page v;
          rest = refl;
          supplied = s;
          pages = λ q. omega (arith, below_leaf q v, under_zero q x, firsts_none q S);
          frame = λ q h. refl;
          head = refl;
        }

cut_up : (half t l : ℕ) (x : Node (Subtree (suc l))) (X : Image) (S : Supply)
    → Stores (suc l) X.page x
    → Stocked (suc l) x
    → ((q : ℕ) → times q (pages_under (suc l) x) + times_spare q S ≤ 1)
    → CutIs half t l (there l t x.subtree) X S
    → CutIs half t (suc l) x X S
unfolding cut_entry cut_node
cut_up half t l x X S shown stock once g =
    rw (entries_are l X x shown, at_flat l x.subtree (index_of t (flat x.subtree)))
    (one_up half t l x X S shown stock once (cut_entry half t l (there l t x.subtree).entry X)
    (cut_node half t l (there l t x.subtree) S) g)

pub once_there : (t l : ℕ) (x : Node (Subtree (suc l))) (S : Supply)
    → Stocked (suc l) x
    → ((q : ℕ) → times q (pages_under (suc l) x) + times_spare q S ≤ 1)
    → (q : ℕ)
    → times q (pages_under l (there l t x.subtree)) + times_spare q S ≤ 1
once_there t l x S stock once q =
    omega (arith, once q, under_suc l q x, below_at l q (index_of t (flat x.subtree)) x.subtree (has_index l t x stock))

pub cut_node_is : (half t l : ℕ) (x : Node (Subtree l)) (X : Image) (S : Supply)
    → Stores l X.page x
    → Stocked l x
    → Supplied X S
    → ((q : ℕ) → times q (pages_under l x) + times_spare q S ≤ 1)
    → CutIs half t l x X S
cut_node_is half t zero x X S shown stock s once = cut_none half t x X S s
cut_node_is half t (suc l) x X S shown stock s once =
    cut_up half t l x X S shown stock once
    (cut_node_is half t l (there l t x.subtree) X S (stores_on l t x stock X shown) (stocked_on l t x stock) s
    (once_there t l x S stock once))

-- ---- from the root

grow_root_is : (es : List Entry) {Z : Image} {R : Supply} (h : ℕ) → Supplied Z R → Z.head.height ≡ h
    → grow_root es Z ≡ put (next_page R) (tree h es) (with_root (suc h) (next_page R) (taken Z))
unfolding grow_root
grow_root_is es {Z} {R} h s e =
    ap (λ (n : ℕ). put n (tree Z.head.height es) (with_root (suc Z.head.height) n (taken Z))) (spare_is s)
    ∙ ap (λ (h : ℕ). put (next_page R) (tree h es) (with_root (suc h) (next_page R) (taken Z))) e

grow_root_represented : (l : ℕ) (es : Nodes (suc l)) (Z : Image) (R : Supply) → Z.head.height ≡ suc l
    → All (λ y. Stores (suc l) Z.page y) es
    → Supplied Z R
    → ((q : ℕ) → times_below (suc l) q es + times_spare q R ≤ 1)
    → Represents (grow_root (flat es) Z) (state (suc l) (next_page R) es (without_next R))
unfolding root_node
grow_root_represented l es Z R h a s once =
    let n = next_page R in
    let Z₁ = with_root (suc (suc l)) n (taken Z) in
    let a₁ : All (λ y. Stores (suc l) Z₁.page y) es = rw (rooted_page (suc (suc l)) n (taken Z), taken_page Z) a in
    let room : (q : ℕ) → hit q n + times_below (suc l) q es + times_spare q (without_next R) ≤ 1 =
    λ q. omega (arith, once q, spare_next q R) in
    rw (grow_root_is (flat es) (suc l) s h)
    (record {
      height = ap (λ (g : Head). g.height) (put_head n (tree (suc l) (flat es)) Z₁) ∙ rooted_height (suc (suc l)) n (taken Z);
      root = ap (λ (g : Head). g.root) (put_head n (tree (suc l) (flat es)) Z₁) ∙ rooted_root (suc (suc l)) n (taken Z);
      below = put_stores (suc l) Z₁ (entry 0 none n) es a₁ (λ q. omega (arith, room q));
      supplied = put_supplied n (tree (suc l) (flat es)) (rooted_supplied (suc (suc l)) n (taken_supplied s)) (λ q. omega (arith, room q));
    })

grow_root_else : (es : List Entry) {Z : Image} {R : Supply} → Supplied Z R
    → Frame Z.page (grow_root es Z).page (λ q. hit q (next_page R))
unfolding with_root taken
grow_root_else es {Z} {R} s =
    rw (grow_root_is es Z.head.height s refl)
    (put_else (next_page R) (tree Z.head.height es) (with_root (suc Z.head.height) (next_page R) (taken Z)))

grow_root_steady : (es : List Entry) (Z : Image) → Steady Z.head (grow_root es Z).head
unfolding grow_root put
grow_root_steady es Z = steady_rooted _ _ (taken Z) (steady_of (taken_lasting Z))

module _ (half t : ℕ) (X : Image) (Y : State) (sh : Represents X Y) (once : Once Y) (stock : Full Y) (instant : t < END) where
  abbrev l : ℕ
  l = Y.tree.level

  abbrev x₀ : Node (Subtree (suc l))
  x₀ = root_node Y.tree

  -- a cut that took k pages
  finish : (X' : Image) (Y' : State) (k : ℕ) → Represents X' Y' → Y'.supply ≡ later k Y.supply → ((q : ℕ) → held q Y' ≡ held q Y)
      → Frame X.page X'.page (λ q. times q (path_in t (suc l) x₀) + times q (firsts k Y.supply))
      → Steady X.head X'.head
      → Stepped X X' Y Y' (path t X ++ spares (pages_taken X X') X)
  finish X' Y' k a b c f d =
      let n : pages_taken X X' ≡ k = taken_is k sh.supplied (subst (λ R. Supplied X' R) b a.supplied) in
      let w : (q : ℕ) → times q (path t X ++ spares (pages_taken X X') X) ≡
      times q (path_in t (suc l) x₀) + times q (firsts k Y.supply) =
      λ q. rw (n, spares_are k sh.supplied, path_top t X Y sh stock instant)
      (times_append q (path_in t (suc l) x₀) (firsts k Y.supply)) in
      record {
        shown = a;
        same_held = c;
        frame = λ q h. f q (omega (arith, w q));
        inside = λ q h. omega (arith, w q, path_held q t Y stock, later_held q k Y.supply, held_is q Y);
        steady = d;
      }

  abbrev Cuts : CuttingX → Cutting (Subtree (suc l)) → Type 0
  Cuts = EntryCut (suc l) x₀.entry X Y.supply (λ q. times q (pages_under (suc l) x₀)) (λ q. times q (path_in t (suc l) x₀))

  pages_kept : {r : CuttingX} {r' : Cutting (Subtree (suc l))}
      → Cuts r r'
      → (q : ℕ)
      → times_below (suc l) q r'.became + times_spare q r'.supply ≡ held q Y
  pages_kept {r} {r'} g q =
      let e : times q (firsts g.took Y.supply) + times_spare q r'.supply ≡ times_spare q Y.supply =
      rw g.rest (later_held q g.took Y.supply) in
      omega (arith, g.pages q, held_is q Y)

  same_root : (x : Node (Subtree (suc l))) (R : Supply) (r : CuttingX) → Cuts r (record { became = x ∷ []; supply = R })
      → Stepped X r.image Y (state l x.entry.child x.subtree R) (path t X ++ spares (pages_taken X r.image) X)
  unfolding root_node Stores lasting with_supply
  same_root x R r g =
      let Y' = state l x.entry.child x.subtree R in
      let c : x.entry.child ≡ Y.tree.root = ap (λ (es : List Entry). (at es 0).child) (sym g.same ∙ g.one (ap length g.same)) in
      finish r.image Y' g.took
      (record {
        height = ap (λ (h : Head). h.height) g.head ∙ sh.height;
        root = ap (λ (h : Head). h.root) g.head ∙ sh.root ∙ sym c;
        below = all_at 0 x g.shows (omega arith);
        supplied = g.supplied;
      })
      g.rest
      (λ q.
      omega (
        arith,
        pages_kept g q,
        below_one (suc l) q x,
        held_is q Y',
        under_suc l q x,
        under_suc l q
            (root_node (record { level = Y.tree.level; root = x.entry.child; nodes = x.subtree })),
      ))
      g.frame
      (steady_of g.head)

  new_root : (es : Nodes (suc l)) (R : Supply) (r : CuttingX) → Cuts r (record { became = es; supply = R })
      → Stepped X (grow_root r.became r.image) Y (state (suc l) (next_page R) es (without_next R))
      (path t X ++ spares (pages_taken X (grow_root r.became r.image)) X)
  unfolding lasting with_supply root_node
  new_root es R r g =
      let Y' = state (suc l) (next_page R) es (without_next R) in
      let h : r.image.head.height ≡ suc l = ap (λ (h : Head). h.height) g.head ∙ sh.height in
      let s = steady_of g.head in
      let d = grow_root_steady r.became r.image in
      let n : next_page R ≡ next_page (later g.took Y.supply) = ap next_page g.rest in
      finish (grow_root r.became r.image) Y' (suc g.took)
      (rw g.same (grow_root_represented l es r.image R h g.shows g.supplied
      (λ q. omega (arith, pages_kept g q, once_is Y once q))))
      (ap without_next g.rest ∙ sym (later_more g.took Y.supply))
      (λ q. omega (arith, pages_kept g q, held_is q Y', under_suc (suc l) q (root_node Y'.tree), spare_next q R))
      (λ q z.
      let m : hit q (next_page R) ≡ hit q (next_page (later g.took Y.supply)) = ap (λ (p : ℕ). hit q p) n in
      grow_root_else r.became g.supplied q (omega (arith, firsts_more q g.took Y.supply))
      ∙ g.frame q (omega (arith, firsts_more q g.took Y.supply)))
      (steady_then s d)

  grows : (b : List (Node (Subtree (suc l)))) (R : Supply) (r : CuttingX)
      → Cuts r (record { became = b; supply = R })
      → Stepped X (grow_if_split_x r) Y (grow_if_split l b R) (path t X ++ spares (pages_taken X (grow_if_split_x r)) X)
  unfolding grow_if_split_x grow_if_split
  grows [] R r g = absurd (omega (arith, g.some))
  grows (x ∷ []) R r g = rw (eq-eqb (length r.became) 1 (ap length g.same)) (same_root x R r g)
  grows (x ∷ y ∷ zs) R r g =
      rw (ne_eqb (length r.became) 1 (λ e. omega (arith, ap length g.same))) (new_root (x ∷ y ∷ zs) R r g)

pub cut_is : (half : ℕ) (◌⊕◌ : Pair → Pair → Pair) (t : ℕ) (X : Image) (Y : State) → Represents X Y → Once Y → Full Y
    → Stepped X (cut_x half t X) Y (cut half t Y) (cut_names half ◌⊕◌ t X)
unfolding cut_x cut cut_names root_entry root_node later Full
cut_is half ◌⊕◌ t X Y sh once stock =
    cond_both (λ X' Y'. Stepped X X' Y Y' (path t X ++ spares (pages_taken X X') X)) (leb END t) (leb END t) refl
    (λ e. still (leb-true END t e))
    (λ e.
    rw same
    (grows half t X Y sh once stock (leb-false END t e) r'.became r'.supply (cut_entry half t (suc l) (root_node Y.tree).entry X)
    (cut_node_is half t (suc l) (root_node Y.tree) X Y.supply sh.below stock sh.supplied
    (λ q. omega (arith, held_is q Y, once_is Y once q)))))
  where
    l : ℕ
    l = Y.tree.level

    r' : Cutting (Subtree (suc l))
    r' = cut_node half t (suc l) (root_node Y.tree) Y.supply

    -- END: no page is taken, none is on a path
    still : END ≤ t → Stepped X X Y Y (path t X ++ spares (pages_taken X X) X)
    still h =
        record {
          shown = sh;
          same_held = λ q. refl;
          frame = λ q h. refl;
          inside = λ q z. rw (path_past t X h, taken_is 0 sh.supplied sh.supplied, spares_are 0 sh.supplied)
              (firsts_none q Y.supply);
          steady = steady_of refl;
        }

    same : cut_entry half t X.head.height (entry 0 none X.head.root) X ≡ cut_entry half t (suc l) (entry 0 none Y.tree.root) X
    same =
        ap (λ (h : ℕ). cut_entry half t h (entry 0 none X.head.root) X) sh.height
        ∙ ap (λ (p : ℕ). cut_entry half t (suc l) (entry 0 none p) X) sh.root
