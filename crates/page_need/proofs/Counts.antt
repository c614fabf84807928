-- What cuts ask for, counted on the tree along their paths, and what a cut then takes. Assumes nothing.
use Prim.Native.Nat.{ℕ, zero, suc, ◌+◌, ◌≤◌, ◌<◌}
use mathlib.Core.Path.{◌≡◌, refl, sym, ap, ◌∙◌, subst⁻¹}
use mathlib.Core.Bool.{Bool, true, false, cond}
use mathlib.Core.List.{[], ◌∷◌, ◌++◌}
use native.Mathlib.Omega.{arith}
use lib.Dec.{eqb, leb}
use lib.ListN.{length, get_or, length-append, length-take, length-drop}
use lib.Seq.{get_or-append_seam}
use borrow.Author.Tests.{eqb-true, eqb-false, eq-eqb, ne_eqb, leb-false, le-leb, lt-leb}
use Rattle.lists.proofs.Choices.{either}
use Rattle.page.specs.declared.Entry.{Entry}
use Rattle.page.specs.Layout.{capacity}
use Rattle.page.specs.Entries.{entry, index_of}
use Rattle.lists.specs.Lists.{splice}
use Rattle.tree.specs.Tree.{Node, Subtree, Nodes, no_node, flat}
use Rattle.tree.specs.Supply.{Supply, without_next}
use Rattle.tree.specs.Cut.{Cutting, cut_leaf, not_split, split, split_if_full, cut_node}
use Rattle.tree.specs.Shape.{Asked, Seg, more, Shaped}
use Rattle.tree.proofs.Seg.{seg_one, seg_append, seg_part, seg_lt, seg_head}
use Rattle.tree.proofs.Find.{Found, found, find}
use Rattle.tree.proofs.Splice.{splice_at}
use Rattle.refinement.proofs.Paths.{there}
use Rattle.tree.specs.Counts.{later}
use Rattle.tree.proofs.Conservation.Supply.{later_more}
use Rattle.page_need.specs.declared.Need.{Need}
use Rattle.page_need.specs.Needs.{need, add_needs, leaf_need, page_need}
use Rattle.page_need.proofs.Rows.{Row, row}

-- ---- the counts, on the tree

-- an entry that only the cut at t meets
unfoldable pub one_cut_in : ℕ → ℕ → (l : ℕ) → Node (Subtree l) → Need
one_cut_in half t zero x = leaf_need t x.entry
one_cut_in half t (suc l) x = page_need half (length x.subtree) (one_cut_in half t l (there l t x.subtree))

-- an entry that both meet
unfoldable pub both_cuts_in : ℕ → ℕ → ℕ → (l : ℕ) → Node (Subtree l) → Need
both_cuts_in half s t zero x = add_needs (leaf_need s x.entry) (leaf_need t x.entry)
both_cuts_in half s t (suc l) x =
    page_need half (length x.subtree)
    (cond (eqb (index_of s (flat x.subtree)) (index_of t (flat x.subtree))) (both_cuts_in half s t l (there l s x.subtree))
    (add_needs (one_cut_in half s l (there l s x.subtree)) (one_cut_in half t l (there l t x.subtree))))

-- ---- a leaf entry's part of the count, and a page's

module _ (t : ℕ) (e : Entry) where
  pub leaf_starts : e.start ≡ t → leaf_need t e ≡ need 0 0
  unfolding leaf_need
  leaf_starts h = rw (eq-eqb e.start t h)

  pub leaf_divides : ¬ (e.start ≡ t) → leaf_need t e ≡ need 1 0
  unfolding leaf_need
  leaf_divides h = rw (ne_eqb e.start t h)

module _ (half n : ℕ) (m : Need) where
  pub page_need_few : n + m.adds ≤ capacity half → page_need half n m ≡ need 0 m.pages
  unfolding page_need
  page_need_few h = rw (le-leb (n + m.adds) (capacity half) h)

  pub page_need_over : capacity half < n + m.adds → page_need half n m ≡ need 1 (suc m.pages)
  unfolding page_need
  page_need_over h = rw (lt-leb (n + m.adds) (capacity half) h)

  pub page_need_adds : (page_need half n m).adds ≤ 1
  unfolding page_need
  page_need_adds = either (λ (r : Need). r.adds ≤ 1) (omega arith) (omega arith) (leb (n + m.adds) (capacity half))

  pub page_need_pages : (page_need half n m).pages ≤ suc m.pages
  unfolding page_need
  page_need_pages = either (λ (r : Need). r.pages ≤ suc m.pages) (omega arith) (omega arith) (leb (n + m.adds) (capacity half))

pub leaf_adds : (t : ℕ) (e : Entry) → (leaf_need t e).adds ≤ 1
unfolding leaf_need
leaf_adds t e = either (λ n. n ≤ 1) (omega arith) (omega arith) (eqb e.start t)

pub one_adds : (half t l : ℕ) (x : Node (Subtree l)) → (one_cut_in half t l x).adds ≤ 1
unfolding one_cut_in leaf_need
one_adds half t zero x = leaf_adds t x.entry
one_adds half t (suc l) x = page_need_adds half (length x.subtree) (one_cut_in half t l (there l t x.subtree))

pub both_adds : (half s t l : ℕ) (x : Node (Subtree (suc l))) → (both_cuts_in half s t (suc l) x).adds ≤ 1
unfolding both_cuts_in
both_adds half s t l x = page_need_adds half (length x.subtree) _

-- ---- one cut

-- what an entry became, and the supply then, for what was counted
pub record CutAsCounted (l lo hi : ℕ) (S : Supply) (n : Need) (r : Cutting (Subtree l)) : Type 0 where
  pub len : length r.became ≡ suc n.adds
  pub supply : r.supply ≡ later n.pages S
  pub spans : Row lo hi r.became

-- the entries of a page in which one became zs
pub record Spliced (l lo hi : ℕ) (es new zs : Nodes l) : Type 0 where
  pub spans : Row lo hi new
  pub len : length new + 1 ≡ length es + length zs

module _ (l t : ℕ) {Q : Asked (Subtree l)} (zs : Node (Subtree l) → Nodes l)
    (each : (a b : ℕ) (y : Node (Subtree l)) → y.entry.start ≡ a → a < b → a ≤ t → t < b → Q a b y → Row a b (zs y)) where
  pub spliced : {lo hi : ℕ} {es : Nodes l} → Seg Q lo hi es → lo ≤ t → t < hi
      → Spliced l lo hi es (splice (index_of t (flat es)) (zs (there l t es)) es) (zs (there l t es))
  spliced {lo} {hi} s low high = go (find t s (omega arith) low)
    where
      go : {es : Nodes l} {i : ℕ} → Found Q t lo hi es i
          → Spliced l lo hi es (splice i (zs (get_or es i (no_node l))) es) (zs (get_or es i (no_node l)))
      go (found {a = a} {b = b} {xs = xs} {x = x} {ys = ys} f e lt q r le after) =
          subst⁻¹ (λ y. Spliced l lo hi (xs ++ x ∷ ys) (splice (length xs) (zs y) (xs ++ x ∷ ys)) (zs y))
          (get_or-append_seam xs x ys (no_node l))
          (subst⁻¹ (λ y. Spliced l lo hi (xs ++ x ∷ ys) y (zs x)) (splice_at xs x ys (zs x))
          (record {
            spans = seg_append (row f) (seg_append (each a b x e lt le (after high) q) (row r));
            len = simp length-append (omega arith);
          }))

module _ (half l : ℕ) (x : Node (Subtree (suc l))) (es : Nodes l) where
  -- a page that gained what was counted is kept or split
  pub kept_or_split : (k a : ℕ) (R : Supply) → k ≡ suc a → length x.subtree ≤ capacity half → length es ≡ length x.subtree + a
      → cond (eqb k 1) (not_split x es R) (split_if_full half x es R)
      ≡ cond (leb (length x.subtree + a) (capacity half)) (not_split x es R) (split half x es R)
  unfolding split_if_full
  kept_or_split k a R e most n = go (eqb k 1) refl
    where
      go : (b : Bool) → eqb k 1 ≡ b
          → cond b (not_split x es R) (cond (leb (length es) (capacity half)) (not_split x es R) (split half x es R))
          ≡ cond (leb (length x.subtree + a) (capacity half)) (not_split x es R) (split half x es R)
      go true f =
          let h : length x.subtree + a ≤ capacity half = omega (arith, eqb-true k 1 f) in
          rw (le-leb (length x.subtree + a) (capacity half) h)
      go false f = ap (λ m. cond (leb m (capacity half)) (not_split x es R) (split half x es R)) n

  module _ {lo hi : ℕ} (at_lo : x.entry.start ≡ lo) (lt : lo < hi) (pos : 0 < half) (S R : Supply) (m : Need) where
    pub page_counted : Row lo hi es → length es ≡ length x.subtree + m.adds → R ≡ later m.pages S
        → CutAsCounted (suc l) lo hi S (page_need half (length x.subtree) m)
        (cond (leb (length x.subtree + m.adds) (capacity half)) (not_split x es R) (split half x es R))
    unfolding page_need not_split split
    page_counted s n taken = go (leb (length x.subtree + m.adds) (capacity half)) refl
      where
        go : (b : Bool) → leb (length x.subtree + m.adds) (capacity half) ≡ b
            → CutAsCounted (suc l) lo hi S (cond b (need 0 m.pages) (need 1 (suc m.pages)))
            (cond b (not_split x es R) (split half x es R))
        go true f = record { len = refl; supply = taken; spans = seg_one at_lo lt tt }
        go false f =
            let over : capacity half < length x.subtree + m.adds = leb-false (length x.subtree + m.adds) (capacity half) f in
            let p = seg_part half s in
            let low : lo < p.mid = seg_lt p.front (omega (arith, length-take half es)) in
            let high : p.mid < hi = seg_lt p.back (omega (arith, length-drop half es)) in
            record {
              len = refl;
              supply = ap without_next taken ∙ sym (later_more m.pages S);
              spans = more at_lo low tt (seg_one (seg_head p.back high) high tt);
            }

abbrev pub One : (half t l lo hi : ℕ) → Node (Subtree l) → Supply → Type 0
One half t l lo hi x S = CutAsCounted l lo hi S (one_cut_in half t l x) (cut_node half t l x S)

record Taken (half t l : ℕ) (x : Node (Subtree l)) (S : Supply) : Type 0 where
  len : length (cut_node half t l x S).became ≡ suc (one_cut_in half t l x).adds
  supply : (cut_node half t l x S).supply ≡ later (one_cut_in half t l x).pages S

-- the entries below x once the one that has t is cut
abbrev pub nodes_after : (half t l : ℕ) → Node (Subtree (suc l)) → Supply → Nodes l
nodes_after half t l x S = splice (index_of t (flat x.subtree)) (cut_node half t l (there l t x.subtree) S).became x.subtree

-- their page is kept or split, by what was counted
pub record Gained (half t l lo hi : ℕ) (x : Node (Subtree (suc l))) (S : Supply) : Type 0 where
  pub spans : Row lo hi (nodes_after half t l x S)
  pub len : length (nodes_after half t l x S) ≡ length x.subtree + (one_cut_in half t l (there l t x.subtree)).adds
  pub supply : (cut_node half t l (there l t x.subtree) S).supply ≡ later (one_cut_in half t l (there l t x.subtree)).pages S
  pub cut : cut_node half t (suc l) x S
      ≡ cond (leb (length x.subtree + (one_cut_in half t l (there l t x.subtree)).adds) (capacity half))
      (not_split x (nodes_after half t l x S) (cut_node half t l (there l t x.subtree) S).supply)
      (split half x (nodes_after half t l x S) (cut_node half t l (there l t x.subtree) S).supply)

module _ (half : ℕ) (pos : 0 < half) (t : ℕ) (B : Asked (Subtree 0)) where
  module _ (l : ℕ) {lo hi : ℕ} (S : Supply) (low : lo ≤ t) (high : t < hi)
      (each : (a b : ℕ) (y : Node (Subtree l)) → y.entry.start ≡ a → a < b → a ≤ t → t < b → Shaped half B l a b y
      → One half t l a b y S) where
    one_there : {es : Nodes l} → Seg (Shaped half B l) lo hi es → Taken half t l (there l t es) S
    one_there s = go (find t s (omega arith) low)
      where
        go : {es : Nodes l} {i : ℕ} → Found (Shaped half B l) t lo hi es i → Taken half t l (get_or es i (no_node l)) S
        go (found {a = a} {b = b} {xs = xs} {x = z} {ys = ys} f e lt q r le after) =
            let c = each a b z e lt le (after high) q in
            subst⁻¹ (λ v. Taken half t l v S) (get_or-append_seam xs z ys (no_node l)) (record { len = c.len; supply = c.supply })

    pub gained : (x : Node (Subtree (suc l))) → length x.subtree ≤ capacity half → Seg (Shaped half B l) lo hi x.subtree
        → Gained half t l lo hi x S
    unfolding cut_node
    gained x most s =
        let y = there l t x.subtree in
        let c = one_there s in
        let g = spliced l t (λ z. (cut_node half t l z S).became) (λ a b z e lt l h q. (each a b z e lt l h q).spans) s low high in
        let n : length (nodes_after half t l x S) ≡ length x.subtree + (one_cut_in half t l y).adds = omega (arith, g.len, c.len) in
        record {
          spans = g.spans;
          len = n;
          supply = c.supply;
          cut =
              kept_or_split half l x (nodes_after half t l x S) (length (cut_node half t l y S).became) (one_cut_in half t l y).adds
              (cut_node half t l y S).supply
              c.len most n;
        }

    -- a page, by the entries in it
    pub one_page : (x : Node (Subtree (suc l))) → x.entry.start ≡ lo → length x.subtree ≤ capacity half
        → Seg (Shaped half B l) lo hi x.subtree
        → One half t (suc l) lo hi x S
    unfolding one_cut_in
    one_page x e most s =
        let y = there l t x.subtree in
        let g = gained x most s in
        subst⁻¹ (λ r. CutAsCounted (suc l) lo hi S (page_need half (length x.subtree) (one_cut_in half t l y)) r) g.cut
        (page_counted half l x (nodes_after half t l x S) e (omega arith) pos S (cut_node half t l y S).supply
        (one_cut_in half t l y) g.spans
        g.len g.supply)

  one_leaf : {lo hi : ℕ} (x : Node (Subtree 0)) (S : Supply) → x.entry.start ≡ lo → lo < hi → lo ≤ t → t < hi → One half t 0 lo hi x S
  unfolding one_cut_in cut_node cut_leaf leaf_need later
  one_leaf {lo} {hi} x S e lt low high = go (eqb x.entry.start t) refl
    where
      y : Node (Subtree 0)
      y = record { entry = entry t x.entry.pair x.entry.child; subtree = tt }

      go : (b : Bool) → eqb x.entry.start t ≡ b
          → CutAsCounted 0 lo hi S (need (cond b 0 1) 0) (record { became = cond b (x ∷ []) (x ∷ y ∷ []); supply = S })
      go true f = record { len = refl; supply = refl; spans = seg_one e lt tt }
      go false f =
          let l : lo < t = omega (arith, eqb-false x.entry.start t f) in
          record { len = refl; supply = refl; spans = more e l tt (seg_one refl high tt) }

  pub one_cut : (l : ℕ) {lo hi : ℕ} (x : Node (Subtree l)) (S : Supply) → x.entry.start ≡ lo → lo < hi → lo ≤ t → t < hi
      → Shaped half B l lo hi x → One half t l lo hi x S
  unfolding Shaped
  one_cut zero x S e lt low high q = one_leaf x S e lt low high
  one_cut (suc l) x S e lt low high q =
      one_page l S low high (λ a b y e lt low high q. one_cut l y S e lt low high q) x e q.0.most q.1
