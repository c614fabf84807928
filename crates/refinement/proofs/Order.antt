-- Where entries follow each other with no gap, an effect is sent only to pages on the paths to the two ends of its span.
-- Assumes nothing.
use Prim.Native.Nat.{ℕ, zero, suc, ◌+◌, ◌≤◌, ◌<◌}
use mathlib.Core.Path.{◌≡◌, refl, sym, ap, ◌∙◌}
use mathlib.Core.Logic.{◌⊎◌, inl, inr, ⊎_elim}
use mathlib.Core.Bool.{Bool, true, false, cond, ◌&&◌, true≢false, false≢true}
use mathlib.Core.List.{List, [], ◌∷◌, ◌++◌}
use native.Mathlib.Omega.{arith}
use lib.Dec.{leb, ltb}
use borrow.Author.Tests.{leb-false, ltb-true, le-leb, lt-leb}
use Rattle.lists.specs.Lists.{hit}
use Rattle.lists.proofs.Choices.{cond_one, cond_ap}
use Rattle.lists.proofs.Totals.{hit_is}
use Rattle.lists.proofs.Times.{times_cons, times_none, times_append}
use Rattle.rule.specs.declared.Pair.{Pair}
use Rattle.rule.specs.Time.{END, overlaps}
use Rattle.page.specs.declared.Entry.{Entry}
use Rattle.page.specs.Entries.{last_from, index_of}
use Rattle.image.specs.Images.{Image, tree}
use Rattle.lists.specs.Lists.{times}
use Rattle.steps.specs.Combine.{inside, next_start, took, combine_span as combine_span_x}
use Rattle.steps.specs.Change.{path, combine_names}
use Rattle.tree.specs.Tree.{Node, Subtree, Nodes, flat}
use Rattle.tree.specs.Shape.{Seg, done, more}
use Rattle.tree.proofs.Seg.{seg_start, seg_le}
use Rattle.tree.specs.Cut.{State, root_node}
use Rattle.tree.specs.Combine.{with_ends, combine_node, combine_span}
use Rattle.tree.proofs.Seg.{le_or_lt}
use Rattle.refinement.specs.Represents.{Stores, Represents, Once, Ordered, Full, Gapless}
use Rattle.refinement.proofs.Below.{node_at}
use Rattle.refinement.proofs.Paths.{there, path_in, path_top, path_within}
use Rattle.refinement.proofs.Stepped.{held_is, Stepped, steady_of_same}
use Rattle.refinement.proofs.Combine.{over_ends, sent_in, sent_below, entry_same, new, combine_root, combine_represented}
use Rattle.refinement.proofs.Combine.{combine_held}

-- ---- the entry that has t

last_shift : (t i f : ℕ) (es : List Entry) → last_from t (suc i) (suc f) es ≡ suc (last_from t i f es)
unfolding last_from
last_shift t i f [] = refl
last_shift t i f (e ∷ es) =
    ap (λ (n : ℕ). last_from t (suc (suc i)) n es) (sym (cond_ap suc (leb e.start t) i f))
    ∙ last_shift t (suc i) (cond (leb e.start t) i f) es

module _ {A : Type 0} {Q : ℕ → ℕ → Node A → Type 0} where
  -- none of them starts at t or before
  last_none : (t i f : ℕ) {lo hi : ℕ} {es : List (Node A)} → Seg Q lo hi es → t < lo → last_from t i f (flat es) ≡ f
  unfolding last_from
  last_none t i f done h = refl
  last_none t i f (more {lo} {mid} {hi} {x} {es} e k q r) h =
      ap (λ (b : Bool). last_from t (suc i) (cond b i f) (flat es)) (lt-leb x.entry.start t (omega arith))
      ∙ last_none t (suc i) f r (omega arith)

  -- the first of them does
  last_some : (t i f g : ℕ) {lo hi : ℕ} {es : List (Node A)} → Seg Q lo hi es → lo ≤ t → t < hi
      → last_from t i f (flat es) ≡ last_from t i g (flat es)
  unfolding last_from
  last_some t i f g done h k = absurd (omega arith)
  last_some t i f g (more {lo} {mid} {hi} {x} {es} e m q r) h k =
      let b : leb x.entry.start t ≡ true = le-leb x.entry.start t (omega arith) in
      ap (λ (c : Bool). last_from t (suc i) (cond c i f) (flat es)) b
      ∙ sym (ap (λ (c : Bool). last_from t (suc i) (cond c i g) (flat es)) b)

module _ (l t : ℕ) {Q : ℕ → ℕ → Node (Subtree l) → Type 0} {lo hi : ℕ} (x : Node (Subtree l)) {es : Nodes l} (r : Seg Q lo hi es) where
  there_first : t < lo → there l t (x ∷ es) ≡ x
  unfolding index_of last_from
  there_first h =
      ap (λ (n : ℕ). node_at l (x ∷ es) n)
      (last_none t 1 (cond (leb x.entry.start t) 0 0) r h
      ∙ cond_one (λ (n : ℕ). n ≡ 0) (leb x.entry.start t) (λ e. refl) (λ e. refl))

  there_later : lo ≤ t → t < hi → there l t (x ∷ es) ≡ there l t es
  unfolding index_of last_from
  there_later h k =
      ap (λ (n : ℕ). node_at l (x ∷ es) n)
      (last_some t 1 (cond (leb x.entry.start t) 0 0) 1 r h k ∙ last_shift t 0 0 (flat es))

-- ---- pages that are not on the paths

-- No page counts q if none of an entry does, told of the entry that it is the one that has the instants of its span.
ends_zero : (l q : ℕ) (f : ℕ → Node (Subtree l) → List ℕ) {Q : ℕ → ℕ → Node (Subtree l) → Type 0} {lo hi : ℕ} {es : Nodes l}
    → Seg Q lo hi es
    → ((a b : ℕ) (y : Node (Subtree l)) → Q a b y → y.entry.start ≡ a → lo ≤ a → a < b → b ≤ hi
    → ((t : ℕ) → a ≤ t → t < b → there l t es ≡ y) → times q (f b y) ≡ 0)
    → times q (over_ends f hi es) ≡ 0
unfolding over_ends
ends_zero l q f done each = times_none q
ends_zero l q f (more {lo} {mid} {hi} {x} {es} e k p r) each =
    let n : mid ≤ hi = seg_le r in
    let a : times q (f (next_start hi (flat es)) x) ≡ 0 =
    rw (seg_start r) (each lo mid x p e (omega arith) k n (λ t _ h. there_first l t x r h)) in
    let b : times q (over_ends f hi es) ≡ 0 =
    ends_zero l q f r (λ a b y p e h i m th. each a b y p e (omega arith) i m
    (λ t i j. there_later l t x r (omega arith) (omega arith) ∙ th t i j)) in
    omega (arith, times_append q (f (next_start hi (flat es)) x) (over_ends f hi es))

-- an entry that an effect is sent through has an end of the span inside
partly : (s e lo hi : ℕ) → inside s e lo hi ≡ false → overlaps s e lo hi ≡ true → ((lo < s) × (s < hi)) ⊎ ((lo < e) × (e < hi))
unfolding inside overlaps
partly s e lo hi = go (leb s lo) (leb hi e) (ltb lo e) (ltb s hi) refl refl refl refl
  where
    go : (a b c d : Bool) → leb s lo ≡ a → leb hi e ≡ b → ltb lo e ≡ c → ltb s hi ≡ d → a && b ≡ false → c && d ≡ true
        → ((lo < s) × (s < hi)) ⊎ ((lo < e) × (e < hi))
    go a b true true i j k m x y = ends a b i j x
      where
        ends : (a b : Bool) → leb s lo ≡ a → leb hi e ≡ b → a && b ≡ false → ((lo < s) × (s < hi)) ⊎ ((lo < e) × (e < hi))
        ends false b i j x = inl (leb-false s lo i, ltb-true s hi m)
        ends true false i j x = inr (ltb-true lo e k, leb-false hi e j)
        ends true true i j x = absurd (true≢false x)
    go a b true false i j k m x y = absurd (false≢true y)
    go a b false d i j k m x y = absurd (false≢true y)

module _ (s e q : ℕ) where
  -- q is not on the path to t below an entry from lo to hi
  abbrev Off : (t l lo hi : ℕ) → Node (Subtree l) → Type 0
  Off t l lo hi x = lo < t → t < hi → times q (path_in t l x) ≡ 0

  abbrev Clear : (l : ℕ) → Type 0
  Clear l =
      (lo hi : ℕ) (x : Node (Subtree l)) → Ordered l lo hi x → x.entry.start ≡ lo → lo < hi → Off s l lo hi x → Off e l lo hi x
      → times q (sent_in s e l hi x) ≡ 0

  below_clear : (l lo hi : ℕ) (es : Nodes l) → Seg (λ a b y. Ordered l a b y) lo hi es → Clear l
      → Off s l lo hi (there l s es)
      → Off e l lo hi (there l e es)
      → times q (sent_below s e l hi es) ≡ 0
  below_clear l lo hi es r clear off_s off_e =
      ends_zero l q (λ h y. sent_in s e l h y) r
      (λ a b y o st h k m th.
      clear a b y o st k
      (λ i j. ap (λ z. times q (path_in s l z)) (sym (th s (omega arith) j)) ∙ off_s (omega arith) (omega arith))
      (λ i j. ap (λ z. times q (path_in e l z)) (sym (th e (omega arith) j)) ∙ off_e (omega arith) (omega arith)))

  off_below : (t l lo hi : ℕ) (x : Node (Subtree (suc l))) → Off t (suc l) lo hi x → Off t l lo hi (there l t x.subtree)
  unfolding path_in
  off_below t l lo hi x off i j = omega (arith, off i j, times_cons q x.entry.child (path_in t l (there l t x.subtree)))

  off_here : (t l lo hi : ℕ) (x : Node (Subtree (suc l))) → Off t (suc l) lo hi x → lo < t → t < hi → hit q x.entry.child ≡ 0
  unfolding path_in
  off_here t l lo hi x off i j = omega (arith, off i j, times_cons q x.entry.child (path_in t l (there l t x.subtree)))

  sent_clear : (l : ℕ) → Clear l
  unfolding sent_in Ordered
  sent_clear zero lo hi x o st k off_s off_e = times_none q
  sent_clear (suc l) lo hi x o st k off_s off_e =
      let below = sent_below s e l hi x.subtree in
      let b : times q below ≡ 0 =
      below_clear l lo hi x.subtree o (λ lo hi x. sent_clear l lo hi x) (off_below s l lo hi x off_s)
      (off_below e l lo hi x off_e) in
      let none : (ps : List ℕ) → Type 0 = λ ps. times q ps ≡ 0 in
      rw st
      (cond_one none (inside s e lo hi) (λ h. times_none q)
      (λ h. cond_one none (overlaps s e lo hi)
      (λ m.
      let c : hit q x.entry.child ≡ 0 =
      ⊎_elim (λ p. off_here s l lo hi x off_s p.0 p.1) (λ p. off_here e l lo hi x off_e p.0 p.1) (partly s e lo hi h m) in
      omega (arith, times_cons q x.entry.child below))
      (λ m. times_none q)))

-- ---- from the root

module _ (◌⊕◌ : Pair → Pair → Pair) (s e : ℕ) (effect : Pair) where
  -- an effect from hi on, or later, alters no entry
  new_same : (l : ℕ) {Q : ℕ → ℕ → Node (Subtree l) → Type 0} {lo hi : ℕ} {es : Nodes l} → Seg Q lo hi es → hi ≤ s
      → flat (new ◌⊕◌ s e effect l hi es) ≡ flat es
  unfolding with_ends took inside
  new_same l done h = refl
  new_same l (more {lo} {mid} {hi} {x} {es} st k q r) h =
      let n : mid ≤ hi = seg_le r in
      let end = next_start hi (flat es) in
      let same : (combine_node ◌⊕◌ s e effect l end x).entry ≡ x.entry =
      entry_same ◌⊕◌ s e effect l end x ∙ rw (lt-leb s x.entry.start (omega arith)) in
      ap (λ (y : Entry). y ∷ flat (new ◌⊕◌ s e effect l hi es)) same
      ∙ ap (λ (ys : List Entry). x.entry ∷ ys) (new_same l r h)

  module _ (X : Image) (Y : State) (sh : Represents X Y) (once : Once Y) (stock : Full Y) (order : Gapless Y) where
    abbrev l : ℕ
    l = Y.tree.level

    abbrev es : Nodes l
    es = Y.tree.nodes

    abbrev U : List ℕ
    U = sent_below s e l END es

    -- a page that is not on the path to t
    missed : (q t : ℕ) → times q (path t X) ≡ 0 → t < END → hit q Y.tree.root + times q (path_in t l (there l t es)) ≡ 0
    unfolding path_in root_node
    missed q t z h =
        sym (times_cons q Y.tree.root (path_in t l (there l t es)))
        ∙ ap (λ (ps : List ℕ). times q ps) (sym (path_top t X Y sh stock h)) ∙ z

    -- the root keeps its entries under an effect from END on
    root_same : END ≤ s → (combine_span_x ◌⊕◌ s e effect X).page Y.tree.root ≡ X.page Y.tree.root
    unfolding Stores Ordered root_node Gapless
    root_same h =
        (combine_root ◌⊕◌ s e effect X Y sh once).shows.0
        ∙ ap (λ (ys : List Entry). tree l ys) (new_same l order h)
        ∙ sym sh.below.0

    combine_frame : (q : ℕ) → times q (path s X) ≡ 0 → times q (path e X) ≡ 0 → (combine_span_x ◌⊕◌ s e effect X).page q ≡ X.page q
    unfolding Ordered root_node Gapless
    combine_frame q a b = go (hit q Y.tree.root) refl (le_or_lt END s)
      where
        u : times q U ≡ 0
        u =
            below_clear s e q l 0 END es order (sent_clear s e q l) (λ i j. omega (arith, missed q s a j))
            (λ i j. omega (arith, missed q e b j))

        elsewhere : hit q Y.tree.root ≡ 0 → (combine_span_x ◌⊕◌ s e effect X).page q ≡ X.page q
        elsewhere z = (combine_root ◌⊕◌ s e effect X Y sh once).frame q (omega (arith, u, times_cons q Y.tree.root U))

        go : (n : ℕ) → hit q Y.tree.root ≡ n → (END ≤ s) ⊎ (s < END) → (combine_span_x ◌⊕◌ s e effect X).page q ≡ X.page q
        go zero z c = elsewhere z
        go (suc n) z (inl past) = rw (hit_is q Y.tree.root (omega arith)) (root_same past)
        go (suc n) z (inr h) = elsewhere (omega (arith, missed q s a h))

pub combine_is : (half : ℕ) (◌⊕◌ : Pair → Pair → Pair) (s e : ℕ) (effect : Pair) (X : Image) (Y : State) → Represents X Y → Once Y
    → Full Y
    → Gapless Y
    → Stepped X (combine_span_x ◌⊕◌ s e effect X) Y (combine_span ◌⊕◌ s e effect Y) (combine_names half ◌⊕◌ s e X)
unfolding combine_names
combine_is half ◌⊕◌ s e effect X Y sh once stock order =
    let both : (q : ℕ) → times q (path s X ++ path e X) ≡ times q (path s X) + times q (path e X) =
    λ q. times_append q (path s X) (path e X) in
    record {
      shown = combine_represented ◌⊕◌ s e effect X Y sh once;
      same_held = combine_held ◌⊕◌ s e effect X Y sh once;
      frame = λ q h. combine_frame ◌⊕◌ s e effect X Y sh once stock order q (omega (arith, both q)) (omega (arith, both q));
      inside = λ q h. omega (arith, both q, path_within q s X Y sh stock, path_within q e X Y sh stock, held_is q Y);
      steady = steady_of_same (combine_root ◌⊕◌ s e effect X Y sh once).head;
    }
