-- Step C: the effect is combined into exactly the pairs of [s, e), and the shape is kept. Assumes nothing.
use Prim.Native.Nat.{ℕ, zero, suc, ◌≤◌, ◌<◌}
use mathlib.Core.Path.{◌≡◌, refl, sym, ap, ◌∙◌, subst⁻¹, subst₂}
use mathlib.Core.Logic.{◌↔◌, ⊎_elim}
use mathlib.Core.Bool.{Bool, true, false, cond}
use mathlib.Core.List.{List, [], ◌∷◌}
use native.Mathlib.Omega.{arith}
use lib.Dec.{leb, ltb}
use lib.ListN.{length}
use borrow.Author.Tests.{leb-true, le-leb, ltb-true, lt-ltb}
use Rattle.lists.proofs.Choices.{either}
use Rattle.rule.specs.declared.Pair.{Pair}
use Rattle.rule.specs.Pairs.{none, Lawful}
use Rattle.rule.specs.Time.{END, covers, overlaps}
use Rattle.rule.proofs.Tests.{both, fails}
use Rattle.rule.proofs.Window.{covers_is}
use Rattle.page.specs.declared.Entry.{Entry}
use Rattle.page.specs.Entries.{entry}
use Rattle.steps.specs.Combine.{inside, next_start, took}
use Rattle.tree.specs.Tree.{Node, Subtree, Nodes, flat, pair_under, pair_in, pair_at}
use Rattle.tree.specs.Cut.{State}
use Rattle.tree.specs.Combine.{with_ends, combine_node, combine_nodes, combine_span}
use Rattle.tree.specs.Shape.{Asked, Seg, done, more, Filled, Shaped, Apart, Formed}
use Rattle.tree.proofs.Seg.{le_or_lt, seg_start}
use Rattle.tree.proofs.Look.{look, look_first, look_early, pair_in_look}
use Rattle.tree.proofs.Shapes.{Pairless}

-- ---- each entry of a list with its end

module _ {A : Type 0} (f : ℕ → Node A → Node A) where
  pub ends_length : (hi : ℕ) (es : List (Node A)) → length (with_ends f hi es) ≡ length es
  unfolding with_ends
  ends_length hi [] = refl
  ends_length hi (x ∷ xs) = ap suc (ends_length hi xs)

  module _ (starts : (h : ℕ) (x : Node A) → (f h x).entry.start ≡ x.entry.start) {Q : Asked A} where
    pub ends_seg : {R : Asked A} {lo hi : ℕ} {es : List (Node A)}
        → ((a b : ℕ) (x : Node A) → x.entry.start ≡ a → a < b → Q a b x → R a b (f b x)) → Seg Q lo hi es
        → Seg R lo hi (with_ends f hi es)
    unfolding with_ends
    ends_seg each done = done
    ends_seg {R} {lo} each (more {mid} {x} e lt q r) =
        more (starts _ x ∙ e) lt (subst⁻¹ (λ z. R lo mid (f z x)) (seg_start r) (each lo mid x e lt q)) (ends_seg each r)

    -- what an instant's entry had and has
    pub ends_look : {B : Type 0} {lo hi : ℕ} {es : List (Node A)} (g : Node A → B) (Rel : B → B → Type 0) (u : ℕ) (d d' : B)
        → ((a b : ℕ) (x : Node A) → x.entry.start ≡ a → a < b → a ≤ u → u < b → Q a b x → Rel (g x) (g (f b x)))
        → Seg Q lo hi es → lo ≤ u → u < hi → Rel (look g u d es) (look g u d' (with_ends f hi es))
    unfolding with_ends
    ends_look g Rel u d d' each done low high = absurd (omega arith)
    ends_look {lo = lo} {hi = hi} g Rel u d d' each (more {mid} {x} {es} e lt q r) low high =
        let b : x.entry.start ≤ u = omega arith in
        let c : (f (next_start hi (flat es)) x).entry.start ≤ u = subst⁻¹ (λ z. z ≤ u) (starts (next_start hi (flat es)) x) b in
        subst₂ Rel (sym (look_first g u d x es b)) (sym (look_first g u d' (f (next_start hi (flat es)) x) (with_ends f hi es) c))
        (⊎_elim
        (λ past. ends_look g Rel u (g x) (g (f (next_start hi (flat es)) x)) each r past high)
        (λ now.
        subst₂ Rel (sym (look_early g u (g x) r now))
        (sym (look_early g u (g (f (next_start hi (flat es)) x)) (ends_seg {R = λ a b y. Unit {0}} (λ a b y p l k. tt) r) now))
        (subst⁻¹ (λ z. Rel (g x) (g (f z x))) (seg_start r) (each lo mid x e lt low now q)))
        (le_or_lt mid u))

-- ---- an entry's span and [s, e)

module _ (s e a b : ℕ) where
  inside_is : (inside s e a b ≡ true) ↔ ((s ≤ a) × (b ≤ e))
  unfolding inside
  inside_is = both (leb s a) (leb b e) (leb-true s a, le-leb s a) (leb-true b e, le-leb b e)

  meets_is : (overlaps s e a b ≡ true) ↔ ((a < e) × (s < b))
  unfolding overlaps
  meets_is = both (ltb a e) (ltb s b) (ltb-true a e, lt-ltb a e) (ltb-true s b, lt-ltb s b)

  module _ (u : ℕ) (low : a ≤ u) (high : u < b) where
    inside_covers : inside s e a b ≡ true → covers s e u ≡ true
    inside_covers h = let k = inside_is.0 h in (covers_is s e u).1 (omega arith)

    away_covers : overlaps s e a b ≡ false → covers s e u ≡ false
    away_covers h =
        (fails (covers s e u) (covers_is s e u)).1 (λ k. (fails (overlaps s e a b) meets_is).0 h (omega arith))

    -- one that no end of [s, e) lies in
    apart_covers : Apart s a b → Apart e a b → inside s e a b ≡ false → covers s e u ≡ false
    apart_covers p q h =
        (fails (covers s e u) (covers_is s e u)).1
        (λ k.
        (fails (inside s e a b) inside_is).0 h
        (⊎_elim (λ (x : b ≤ s). absurd (omega arith)) (λ x. x) p, ⊎_elim (λ x. x) (λ (x : e ≤ a). absurd (omega arith)) q))

module _ (◌⊕◌ : Pair → Pair → Pair) (s e : ℕ) (effect : Pair) where
  infixl 60 ◌⊕◌
  combine_start : (l h : ℕ) (x : Node (Subtree l)) → (combine_node ◌⊕◌ s e effect l h x).entry.start ≡ x.entry.start
  unfolding combine_node took
  combine_start l h x = by_level l x (either (λ (y : Entry). y.start ≡ x.entry.start) refl refl (inside s e x.entry.start h))
    where
      by_level : (l : ℕ) (x : Node (Subtree l)) → (took ◌⊕◌ s e effect h x.entry).start ≡ x.entry.start
          → (combine_node ◌⊕◌ s e effect l h x).entry.start ≡ x.entry.start
      by_level zero x p = p
      by_level (suc l) x p = p

  -- ---- the shape

  module _ (half : ℕ) {B : Asked (Subtree 0)} (any : Pairless B) where
    combine_shaped : (l a b : ℕ) (x : Node (Subtree l)) → Shaped half B l a b x → Shaped half B l a b (combine_node ◌⊕◌ s e effect l b x)
    unfolding combine_node took Shaped
    combine_shaped zero a b x q =
        either (λ (y : Entry). B a b (record { entry = y; subtree = tt })) (any.any_pair a b x (x.entry.pair ⊕ effect) q) q
        (inside s e x.entry.start b)
    combine_shaped (suc l) a b x q =
        go (inside s e x.entry.start b) (overlaps s e x.entry.start b)
        (ends_seg (λ h y. combine_node ◌⊕◌ s e effect l h y) (combine_start l) (λ c d y f lt p. combine_shaped l c d y p) q.1)
      where
        Page : Nodes l → Type 0
        Page es = Filled half es × Seg (Shaped half B l) a b es

        below : Nodes l
        below = with_ends (λ h y. combine_node ◌⊕◌ s e effect l h y) b x.subtree

        go : (z w : Bool) → Seg (Shaped half B l) a b below → Page (cond z x.subtree (cond w below x.subtree))
        go true w r = q
        go false true r =
            let n = ends_length (λ h y. combine_node ◌⊕◌ s e effect l h y) b x.subtree in
            (record { least = omega (arith, q.0); most = omega (arith, q.0) }, r)
        go false false r = q

  -- ---- the pairs

  -- what is to become of the pair of u
  abbrev Effected : ℕ → Pair → Pair → Type 0
  Effected u p q = q ≡ cond (covers s e u) (p ⊕ effect) p

  took_effect : (u : ℕ) (p : Pair) → covers s e u ≡ true → Effected u p (p ⊕ effect)
  took_effect u p h = rw h

  took_nothing : (u : ℕ) (p : Pair) → covers s e u ≡ false → Effected u p p
  took_nothing u p h = rw h

  -- the list below, if each of its entries is effected
  combine_list : (l : ℕ) {Q : Asked (Subtree l)} {lo hi : ℕ} {es : Nodes l} (u : ℕ)
      → ((a b : ℕ) (x : Node (Subtree l)) → x.entry.start ≡ a → a < b → a ≤ u → u < b → Q a b x
      → Effected u (pair_under ◌⊕◌ l u x) (pair_under ◌⊕◌ l u (combine_node ◌⊕◌ s e effect l b x)))
      → Seg Q lo hi es → lo ≤ u → u < hi
      → Effected u (pair_in ◌⊕◌ l u es) (pair_in ◌⊕◌ l u (with_ends (λ h y. combine_node ◌⊕◌ s e effect l h y) hi es))
  combine_list l u each r low high =
      subst₂ (Effected u) (sym (pair_in_look ◌⊕◌ l u none r (omega arith) low))
      (sym (pair_in_look ◌⊕◌ l u none
      (ends_seg (λ h y. combine_node ◌⊕◌ s e effect l h y) (combine_start l) {R = λ a b y. Unit {0}} (λ a b y p lt k. tt) r)
      (omega arith) low))
      (ends_look (λ h y. combine_node ◌⊕◌ s e effect l h y) (combine_start l) (pair_under ◌⊕◌ l u) (Effected u) u none none each r low high)

  module _ (lawful : Lawful ◌⊕◌) where
    effect_last : (p q : Pair) → (p ⊕ effect) ⊕ q ≡ (p ⊕ q) ⊕ effect
    effect_last p q = lawful.assoc p effect q ∙ (ap (λ z. p ⊕ z) (lawful.comm effect q) ∙ sym (lawful.assoc p q effect))

    effect_below : (u : ℕ) (p q r : Pair) → Effected u q r → Effected u (p ⊕ q) (p ⊕ r)
    effect_below u p q r h = ap (λ z. p ⊕ z) h ∙ go (covers s e u)
      where
        go : (c : Bool) → p ⊕ cond c (q ⊕ effect) q ≡ cond c ((p ⊕ q) ⊕ effect) (p ⊕ q)
        go true = sym (lawful.assoc p q effect)
        go false = refl

    module _ (half : ℕ) {B : Asked (Subtree 0)} (apart : (lo hi : ℕ) (x : Node (Subtree 0)) → B lo hi x → Apart s lo hi
        × Apart e lo hi) where
      combine_under : (l b : ℕ) (x : Node (Subtree l)) (u : ℕ) → x.entry.start ≤ u → u < b → Shaped half B l x.entry.start b x
          → Effected u (pair_under ◌⊕◌ l u x) (pair_under ◌⊕◌ l u (combine_node ◌⊕◌ s e effect l b x))
      unfolding combine_node took Shaped pair_under pair_in
      combine_under zero b x u low high q = go (inside s e a b) refl
        where
          a : ℕ
          a = x.entry.start

          go : (z : Bool) → inside s e a b ≡ z
              → Effected u x.entry.pair (cond z (entry a (x.entry.pair ⊕ effect) x.entry.child) x.entry).pair
          go true h = took_effect u x.entry.pair (inside_covers s e a b u low high h)
          go false h =
              let k = apart a b x q in
              took_nothing u x.entry.pair (apart_covers s e a b u low high k.0 k.1 h)
      combine_under (suc l) b x u low high q =
          go (inside s e a b) (overlaps s e a b) refl refl
          (combine_list l u
          (λ c d y f lt p r k. combine_under l d y u (omega arith) r (subst⁻¹ (λ z. Shaped half B l z d y) f k))
          q.1 low high)
        where
          a : ℕ
          a = x.entry.start

          p : Pair
          p = x.entry.pair

          below : Nodes l
          below = with_ends (λ h y. combine_node ◌⊕◌ s e effect l h y) b x.subtree

          go : (z w : Bool) → inside s e a b ≡ z → overlaps s e a b ≡ w → Effected u (pair_in ◌⊕◌ l u x.subtree) (pair_in ◌⊕◌ l u below)
              → Effected u (p ⊕ pair_in ◌⊕◌ l u x.subtree)
              ((cond z (entry a (p ⊕ effect) x.entry.child) x.entry).pair ⊕ pair_in ◌⊕◌ l u
              (cond z x.subtree (cond w below x.subtree)))
          go true w h k r =
              effect_last p (pair_in ◌⊕◌ l u x.subtree)
              ∙ took_effect u (p ⊕ pair_in ◌⊕◌ l u x.subtree) (inside_covers s e a b u low high h)
          go false true h k r = effect_below u p (pair_in ◌⊕◌ l u x.subtree) (pair_in ◌⊕◌ l u below) r
          go false false h k r = took_nothing u (p ⊕ pair_in ◌⊕◌ l u x.subtree) (away_covers s e a b u low high k)

module _ {half : ℕ} {B : Asked (Subtree 0)} (◌⊕◌ : Pair → Pair → Pair) (s e : ℕ) (effect : Pair) (Y : State)
    (F : Formed half B Y.tree) where
  infixl 60 ◌⊕◌
  pub combine_formed : Pairless B → Formed half B (combine_span ◌⊕◌ s e effect Y).tree
  unfolding combine_span combine_nodes
  combine_formed any =
      let n = ends_length (λ h y. combine_node ◌⊕◌ s e effect Y.tree.level h y) END Y.tree.nodes in
      record {
        least = omega arith;
        most = omega arith;
        spans =
            ends_seg (λ h y. combine_node ◌⊕◌ s e effect Y.tree.level h y) (combine_start ◌⊕◌ s e effect Y.tree.level)
            (λ a b y f lt q. combine_shaped ◌⊕◌ s e effect half any Y.tree.level a b y q) F.spans;
      }

  pub combine_pairs : Lawful ◌⊕◌ → ((lo hi : ℕ) (x : Node (Subtree 0)) → B lo hi x → Apart s lo hi × Apart e lo hi) → (u : ℕ) → u < END
      → pair_at ◌⊕◌ (combine_span ◌⊕◌ s e effect Y).tree u ≡
      cond (covers s e u) (pair_at ◌⊕◌ Y.tree u ⊕ effect) (pair_at ◌⊕◌ Y.tree u)
  unfolding combine_span combine_nodes
  combine_pairs lawful apart u high =
      combine_list ◌⊕◌ s e effect Y.tree.level u
      (λ a b y f lt low r k.
      combine_under ◌⊕◌ s e effect lawful half apart Y.tree.level b y u (omega arith) r
      (subst⁻¹ (λ z. Shaped half B Y.tree.level z b y) f k))
      F.spans (omega arith) high
