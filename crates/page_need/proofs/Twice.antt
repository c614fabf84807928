-- A cut at s and then one at e, later than s: what the second asks for in the tree that the first leaves is what the count for both
-- says. A page that the first splits has halves with room for the second. Assumes nothing.
use Prim.Native.Nat.{ℕ, zero, suc, ◌+◌, ◌≤◌, ◌<◌}
use mathlib.Core.Path.{◌≡◌, refl, sym, ap, ◌∙◌, subst⁻¹}
use mathlib.Core.Logic.{◌⊎◌, inl, inr, ⊎_elim}
use mathlib.Core.Bool.{Bool, true, false, cond}
use mathlib.Core.List.{[], ◌∷◌, ◌++◌}
use native.Mathlib.Omega.{arith}
use lib.Dec.{eqb, leb}
use lib.ListN.{length, get_or, take, drop, length-take, length-drop}
use lib.Seq.{get_or-append_seam}
use borrow.Author.Tests.{eqb-false, eq-eqb, ne_eqb, leb-true, leb-false}
use Rattle.page.specs.Layout.{capacity}
use Rattle.page.specs.Entries.{entry, at, index_of}
use Rattle.lists.specs.Lists.{splice}
use Rattle.tree.specs.Tree.{Node, Subtree, Nodes, no_node, flat, node_of}
use Rattle.tree.specs.Supply.{Supply, next_page}
use Rattle.tree.specs.Cut.{not_split, split, cut_leaf, cut_node}
use Rattle.tree.specs.Shape.{Asked, Seg, more, Shaped}
use Rattle.tree.proofs.Seg.{le_or_lt, seg_one, seg_append, seg_part, seg_le, seg_lt, seg_head, seg_map}
use Rattle.tree.proofs.Find.{Found, found, find, find_node}
use Rattle.tree.proofs.Splice.{splice_at}
use Rattle.refinement.proofs.Paths.{there}
use Rattle.page_need.specs.declared.Need.{Need}
use Rattle.page_need.specs.Needs.{need, add_needs, leaf_need, page_need}
use Rattle.page_need.proofs.Rows.{Row, Owned, before, behind, there_is, owned, index_at}
use Rattle.page_need.proofs.Counts.{one_cut_in, both_cuts_in, leaf_divides, page_need_few, page_need_over, one_adds, nodes_after}
use Rattle.page_need.proofs.Counts.{gained, one_cut}

-- ---- a page that the first cut leaves whole

whole : (p q : ℕ) (b : Bool) → add_needs (need 0 p) (cond b (need 0 q) (need 1 (suc q))) ≡ cond b (need 0 (p + q)) (need 1 (suc (p + q)))
unfolding add_needs
whole p q true = refl
whole p q false = ap (λ n. need 1 n) (omega arith)

page_need_later : (half n : ℕ) (a m : Need)
    → add_needs (need 0 a.pages) (page_need half (n + a.adds) m) ≡ page_need half n (add_needs a m)
unfolding page_need add_needs
page_need_later half n a m =
    let d : n + a.adds + m.adds ≡ n + (a.adds + m.adds) = omega arith in
    whole a.pages m.pages (leb (n + a.adds + m.adds) (capacity half))
    ∙ ap (λ k. cond (leb k (capacity half)) (need 0 (a.pages + m.pages)) (need 1 (suc (a.pages + m.pages)))) d

-- one that it splits
page_need_split : (half n : ℕ) (a m : Need) → capacity half < n + a.adds
    → add_needs (page_need half n a) (need 0 m.pages) ≡ page_need half n (add_needs a m)
unfolding add_needs
page_need_split half n a m over =
    let d : suc a.pages + m.pages ≡ suc (a.pages + m.pages) = omega arith in
    ap (λ y. add_needs y (need 0 m.pages)) (page_need_over half n a over)
    ∙ (ap (λ k. need 1 k) d ∙ sym (page_need_over half n (add_needs a m) (omega arith)))

-- ---- where the second cut goes in what a page became

module _ (half l e : ℕ) where
  -- the same entries below an entry, the same count
  abbrev under : Nodes l → Need
  under es = page_need half (length es) (one_cut_in half e l (there l e es))

  under_is : (x : Node (Subtree (suc l))) → one_cut_in half e (suc l) x ≡ under x.subtree
  unfolding one_cut_in
  under_is x = refl

  module _ (two : 2 ≤ half) {lo hi : ℕ} (x : Node (Subtree (suc l))) (es : Nodes l) (at_lo : x.entry.start ≡ lo) (low : lo ≤ e)
      (high : e < hi)
      (s : Row lo hi es) (R : Supply) (a : Need) (most : length x.subtree ≤ capacity half) (few : a.adds ≤ 1)
      (n : length es ≡ length x.subtree + a.adds) where
    -- what the second cut asks for below
    abbrev then : Need
    then = one_cut_in half e l (there l e es)

    -- a half has room
    roomy : (hs : Nodes l) {from to : ℕ} → Owned l e (there l e es) from to hs → from ≤ e → e < to → length hs ≤ suc half
        → under hs ≡ need 0 then.pages
    roomy hs o le lt k =
        let same : there l e hs ≡ there l e es = there_is l e o le lt in
        let adds : then.adds ≤ 1 = one_adds half e l (there l e es) in
        ap (λ y. page_need half (length hs) (one_cut_in half e l y)) same ∙ page_need_few half (length hs) then (omega arith)

    halves : capacity half < length x.subtree + a.adds
        → one_cut_in half e (suc l) (there (suc l) e (split half x es R).became) ≡ need 0 then.pages
    unfolding split
    halves over =
        let p = seg_part half (owned l e s low high) in
        let j : length (take half es) ≡ half = length-take half es ∙ omega arith in
        let k : length (drop half es) ≡ suc half = length-drop half es ∙ omega arith in
        let lt : lo < p.mid = seg_lt p.front (omega arith) in
        let lt' : p.mid < hi = seg_lt p.back (omega arith) in
        let x₁ : Node (Subtree (suc l)) = record { entry = x.entry; subtree = take half es } in
        let x₂ : Node (Subtree (suc l)) =
        record { entry = entry (at (flat (drop half es)) 0).start x.entry.pair (next_page R); subtree = drop half es } in
        let start : x₂.entry.start ≡ p.mid = seg_head p.back lt' in
        ⊎_elim
        (λ (late : p.mid ≤ e).
        ap (one_cut_in half e (suc l))
        (there_is (suc l) e {v = x₂} (more at_lo lt (λ m n. absurd (omega arith)) (seg_one start lt' (λ m n. refl))) low high)
        ∙ (under_is x₂ ∙ roomy (drop half es) p.back late high (omega arith)))
        (λ (early : e < p.mid).
        ap (one_cut_in half e (suc l))
        (there_is (suc l) e {v = x₁} (more at_lo lt (λ m n. refl) (seg_one start lt' (λ m n. absurd (omega arith)))) low high)
        ∙ (under_is x₁ ∙ roomy (take half es) p.front low early (omega arith)))
        (le_or_lt p.mid e)

    pub page_twice : add_needs (page_need half (length x.subtree) a)
        (one_cut_in half e (suc l) (there (suc l) e
        (cond (leb (length x.subtree + a.adds) (capacity half)) (not_split x es R) (split half x es R)).became))
        ≡ page_need half (length x.subtree) (add_needs a then)
    unfolding not_split split
    page_twice = go (leb (length x.subtree + a.adds) (capacity half)) refl
      where
        go : (b : Bool) → leb (length x.subtree + a.adds) (capacity half) ≡ b
            → add_needs (page_need half (length x.subtree) a)
            (one_cut_in half e (suc l) (there (suc l) e (cond b (not_split x es R) (split half x es R)).became))
            ≡ page_need half (length x.subtree) (add_needs a then)
        go true f =
            let x' : Node (Subtree (suc l)) = record { entry = x.entry; subtree = es } in
            let same : there (suc l) e (x' ∷ []) ≡ x' = there_is (suc l) e (seg_one at_lo (omega arith) (λ p q. refl)) low high in
            ap (λ y. add_needs (page_need half (length x.subtree) a) (one_cut_in half e (suc l) y)) same
            ∙ (ap (λ y. add_needs y (one_cut_in half e (suc l) x'))
            (page_need_few half (length x.subtree) a (leb-true (length x.subtree + a.adds) (capacity half) f))
            ∙ (ap (λ y. add_needs (need 0 a.pages) y) (under_is x')
            ∙ (ap (λ k. add_needs (need 0 a.pages) (page_need half k then)) n
            ∙ page_need_later half (length x.subtree) a then)))
        go false f =
            let over : capacity half < length x.subtree + a.adds = leb-false (length x.subtree + a.adds) (capacity half) f in
            ap (λ y. add_needs (page_need half (length x.subtree) a) y) (halves over)
            ∙ page_need_split half (length x.subtree) a then over

-- ---- below a page

-- the entry y that has s, at the index i among es, became zs y
abbrev Below : (half s e l : ℕ) → (Node (Subtree l) → Nodes l) → Nodes l → ℕ → Node (Subtree l) → Type 0
Below half s e l zs es i y =
    add_needs (one_cut_in half s l y) (one_cut_in half e l (there l e (splice i (zs y) es)))
    ≡ cond (eqb i (index_of e (flat es))) (both_cuts_in half s e l y)
    (add_needs (one_cut_in half s l y) (one_cut_in half e l (there l e es)))

module _ (half s e l : ℕ) (lt : s < e) {Q : Asked (Subtree l)} (zs : Node (Subtree l) → Nodes l) where
  module _ {lo a b hi : ℕ} {xs ys : Nodes l} {x : Node (Subtree l)} (f : Seg Q lo a xs) (start : x.entry.start ≡ a) (some : a < b)
      (r : Seg Q b hi ys) (le : a ≤ s) (high : e < hi) (mid : Row a b (zs x)) where
    -- e lies in x too
    same_entry : e < b → add_needs (one_cut_in half s l x) (one_cut_in half e l (there l e (zs x))) ≡ both_cuts_in half s e l x
        → Below half s e l zs (xs ++ x ∷ ys) (length xs) x
    same_entry h twice =
        let v = there l e (zs x) in
        let o : Owned l e v lo hi (xs ++ (zs x ++ ys)) =
        seg_append (before l e v (omega arith) f) (seg_append (owned l e mid (omega arith) h) (behind l e v h r)) in
        let p : index_of e (flat (xs ++ x ∷ ys)) ≡ length xs = index_at e x f (omega arith) r h in
        let z : there l e (splice (length xs) (zs x) (xs ++ x ∷ ys)) ≡ v =
        ap (there l e) (splice_at xs x ys (zs x)) ∙ there_is l e o (omega (arith, seg_le f)) high in
        ap (λ y. add_needs (one_cut_in half s l x) (one_cut_in half e l y)) z
        ∙ (twice
        ∙ ap (λ c. cond c (both_cuts_in half s e l x) (add_needs (one_cut_in half s l x) (one_cut_in half e l (there l e (xs ++ x ∷ ys)))))
        (sym (eq-eqb (length xs) (index_of e (flat (xs ++ x ∷ ys))) (sym p))))

    -- e lies behind x, and so does its index
    other_index : b ≤ e → ¬ (length xs ≡ index_of e (flat (xs ++ x ∷ ys)))
    unfolding node_of
    other_index h p =
        let o : Seg (λ c d y. (d ≤ b) ⊎ (b ≤ c)) lo hi (xs ++ x ∷ ys) =
        seg_append (seg_map (λ c d y low up q. inl (omega arith)) f)
        (more start some (inl (omega arith)) (seg_map (λ c d y low up q. inr low) r)) in
        let z = find_node l e o (omega (arith, seg_le f)) (omega (arith, seg_le f)) in
        let y : node_of l e (xs ++ x ∷ ys) ≡ x = ap (λ i. get_or (xs ++ x ∷ ys) i (no_node l)) (sym p)
        ∙ get_or-append_seam xs x ys (no_node l) in
        let t : (node_of l e (xs ++ x ∷ ys)).entry.start ≡ a = ap (λ (w : Node (Subtree l)). w.entry.start) y ∙ start in
        ⊎_elim (λ k. omega (arith, z.ends high)) (λ k. omega arith) z.holds

    other_entry : b ≤ e → Below half s e l zs (xs ++ x ∷ ys) (length xs) x
    other_entry h =
        let v = there l e ys in
        let o : Owned l e v b hi ys = owned l e r h high in
        let w : there l e (xs ++ x ∷ ys) ≡ v =
        there_is l e (seg_append (before l e v (omega arith) f) (more start some (λ m n. absurd (omega arith)) o))
        (omega (arith, seg_le f)) high in
        let z : there l e (splice (length xs) (zs x) (xs ++ x ∷ ys)) ≡ v =
        ap (there l e) (splice_at xs x ys (zs x))
        ∙ there_is l e (seg_append (before l e v (omega arith) f) (seg_append (before l e v h mid) o)) (omega (arith, seg_le f)) high in
        ap (λ y. add_needs (one_cut_in half s l x) (one_cut_in half e l y)) (z ∙ sym w)
        ∙ ap (λ c. cond c (both_cuts_in half s e l x) (add_needs (one_cut_in half s l x) (one_cut_in half e l (there l e (xs ++ x ∷ ys)))))
        (sym (ne_eqb (length xs) (index_of e (flat (xs ++ x ∷ ys))) (other_index h)))

  pub below_twice : {lo hi : ℕ} {es : Nodes l} → Seg Q lo hi es → lo ≤ s → e < hi
      → ((a b : ℕ) (y : Node (Subtree l)) → y.entry.start ≡ a → a < b → a ≤ s → s < b → Q a b y → Row a b (zs y))
      → ((a b : ℕ) (y : Node (Subtree l)) → y.entry.start ≡ a → a ≤ s → e < b → Q a b y
      → add_needs (one_cut_in half s l y) (one_cut_in half e l (there l e (zs y))) ≡ both_cuts_in half s e l y)
      → Below half s e l zs es (index_of s (flat es)) (there l s es)
  below_twice {lo} {hi} g low high each twice = go (find s g (omega arith) low)
    where
      go : {es : Nodes l} {i : ℕ} → Found Q s lo hi es i → Below half s e l zs es i (get_or es i (no_node l))
      go (found {a = a} {b = b} {xs = xs} {x = x} {ys = ys} f start some q r le after) =
          let mid = each a b x start some le (after (omega arith)) q in
          subst⁻¹ (Below half s e l zs (xs ++ x ∷ ys) (length xs)) (get_or-append_seam xs x ys (no_node l))
          (⊎_elim (λ h. other_entry f start some r le high mid h) (λ h. same_entry f start some r le high mid h (twice a b x start le h q))
          (le_or_lt b e))

-- ---- the two cuts

module _ (half : ℕ) (two : 2 ≤ half) (s e : ℕ) (lt : s < e) (B : Asked (Subtree 0)) where
  abbrev Twice : (l : ℕ) → Node (Subtree l) → Supply → Type 0
  Twice l x S =
      add_needs (one_cut_in half s l x) (one_cut_in half e l (there l e (cut_node half s l x S).became)) ≡ both_cuts_in half s e l x

  leaf_twice : (x : Node (Subtree 0)) (S : Supply) → x.entry.start ≤ s → Twice 0 x S
  unfolding one_cut_in both_cuts_in cut_node cut_leaf
  leaf_twice x S low = go (eqb x.entry.start s) refl
    where
      y : Node (Subtree 0)
      y = record { entry = entry s x.entry.pair x.entry.child; subtree = tt }

      go : (b : Bool) → eqb x.entry.start s ≡ b
          → add_needs (leaf_need s x.entry) (leaf_need e (there 0 e (cond b (x ∷ []) (x ∷ y ∷ []))).entry)
          ≡ add_needs (leaf_need s x.entry) (leaf_need e x.entry)
      go true f =
          ap (λ (v : Node (Subtree 0)). add_needs (leaf_need s x.entry) (leaf_need e v.entry))
          (there_is 0 e {hi = suc e} (seg_one {lo = x.entry.start} refl (omega arith) (λ m n. refl)) (omega arith) (omega arith))
      go false f =
          let l : x.entry.start < s = omega (arith, eqb-false x.entry.start s f) in
          ap (λ (v : Node (Subtree 0)). add_needs (leaf_need s x.entry) (leaf_need e v.entry))
          (there_is 0 e {v = y} (more refl l (λ m n. absurd (omega arith)) (seg_one {lo = s} {hi = suc e} refl (omega arith) (λ m n. refl)))
          (omega arith) (omega arith))
          ∙ ap (add_needs (leaf_need s x.entry))
          (leaf_divides e y.entry (λ h. omega arith) ∙ sym (leaf_divides e x.entry (λ h. omega arith)))

  pub page_both : (l : ℕ) {lo hi : ℕ} (S : Supply) → lo ≤ s → e < hi
      → ((a b : ℕ) (y : Node (Subtree l)) → y.entry.start ≡ a → a ≤ s → e < b → Shaped half B l a b y → Twice l y S)
      → (x : Node (Subtree (suc l))) → x.entry.start ≡ lo → length x.subtree ≤ capacity half → Seg (Shaped half B l) lo hi x.subtree
      → Twice (suc l) x S
  unfolding both_cuts_in one_cut_in page_need
  page_both l {lo} {hi} S low high twice x start most g =
      let pos : 0 < half = omega arith in
      let y = there l s x.subtree in
      let es = nodes_after half s l x S in
      let R = (cut_node half s l y S).supply in
      let a = one_cut_in half s l y in
      let k = gained half pos s B l S low (omega arith) (λ a b y e lt low high q. one_cut half pos s B l y S e lt low high q) x most g in
      ap (λ r. add_needs (one_cut_in half s (suc l) x) (one_cut_in half e (suc l) (there (suc l) e r.became))) k.cut
      ∙ (page_twice half l e two x es start (omega arith) high k.spans R a most (one_adds half s l y) k.len
      ∙ ap (page_need half (length x.subtree))
      (below_twice half s e l lt (λ z. (cut_node half s l z S).became) g low high
      (λ a b z e lt l h q. (one_cut half pos s B _ z S e lt l h q).spans) twice))

  pub both_cut : (l : ℕ) {lo hi : ℕ} (x : Node (Subtree l)) (S : Supply) → x.entry.start ≡ lo → lo ≤ s → e < hi → Shaped half B l lo hi x
      → Twice l x S
  unfolding Shaped
  both_cut zero x S start low high q = leaf_twice x S (omega arith)
  both_cut (suc l) x S start low high q =
      page_both l S low high (λ a b y start low high q. both_cut l y S start low high q) x start q.0.most q.1
