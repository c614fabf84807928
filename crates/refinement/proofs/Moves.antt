-- What a write of a page leaves of what an image shows: what is below an entry, and the supply. Assumes nothing.
use Prim.Native.Nat.{ℕ, zero, suc, ◌+◌, ◌≤◌}
use mathlib.Core.Path.{◌≡◌, refl, sym, ap, ◌∙◌, subst}
use mathlib.Core.List.{List, [], ◌∷◌}
use native.Mathlib.Omega.{arith}
use lib.Dec.{eqb}
use lib.ListN.{take, drop}
use borrow.Author.Tests.{eq-eqb, ne_eqb, le-leb}
use Rattle.lists.specs.Lists.{concat_map, All, all_none, all_more, hit}
use Rattle.lists.proofs.Choices.{cond_one}
use Rattle.lists.proofs.All.{all_append, all_take, all_drop}
use Rattle.lists.proofs.Totals.{hit_self, hit_not, hit_from}
use Rattle.lists.proofs.Times.{times_cons, times_none}
use Rattle.page.specs.declared.Entry.{Entry}
use Rattle.page.specs.declared.Head.{Head}
use Rattle.lists.specs.Lists.{splice}
use Rattle.image.specs.Images.{Image, Cell, tree, free, next_in}
use Rattle.lists.specs.Lists.{times}
use Rattle.steps.specs.Supply.{put, with_supply, spare, taken, given_back, with_root}
use Rattle.steps.proofs.Supply.{put_at, put_head}
use Rattle.tree.specs.Tree.{Node, Subtree, Nodes, flat, pages_under}
use Rattle.tree.specs.Supply.{Supply, next_page, without_next, with_page}
use Rattle.tree.specs.Conserved.{times_below, times_spare}
use Rattle.refinement.specs.Represents.{Stores, Linked, ends, leads, Supplied}
use Rattle.refinement.proofs.Below.{under_suc, below_cons}

-- ---- frames

-- only pages that W counts differ
abbrev pub Frame : (ℕ → Cell) → (ℕ → Cell) → (ℕ → ℕ) → Type 0
Frame pages pages' W = (q : ℕ) → W q ≡ 0 → pages' q ≡ pages q

pub put_else : (p : ℕ) (c : Cell) (X : Image) → Frame X.page (put p c X).page (λ q. hit q p)
unfolding put
put_else p c X q h = rw (hit_not q p h)

-- ---- what is below an entry

-- What holds of each entry goes on holding where no page below it is written.
all_move : (l : ℕ) (W : ℕ → ℕ) (Q R : Node (Subtree l) → Type 0)
    → ((x : Node (Subtree l)) → Q x → ((q : ℕ) → W q + times q (pages_under l x) ≤ 1) → R x)
    → {es : Nodes l}
    → All Q es
    → ((q : ℕ) → W q + times_below l q es ≤ 1)
    → All R es
all_move l W Q R f all_none h = all_none
all_move l W Q R f (all_more {x} {xs} s a) h =
    all_more (f x s (λ q. omega (arith, h q, below_cons l q x xs)))
    (all_move l W Q R f a (λ q. omega (arith, h q, below_cons l q x xs)))

pub stores_move : (l : ℕ) {pages pages' : ℕ → Cell} (W : ℕ → ℕ) → Frame pages pages' W
    → (x : Node (Subtree l))
    → Stores l pages x
    → ((q : ℕ) → W q + times q (pages_under l x) ≤ 1)
    → Stores l pages' x
unfolding Stores
stores_move zero W frame x s h = tt
stores_move (suc l) {pages} {pages'} W frame x s h =
    let p = x.entry.child in (
      frame p (omega (arith, h p, under_suc l p x, hit_self p)) ∙ s.0,
      all_move l W (λ y. Stores l pages y) (λ y. Stores l pages' y) (λ y s' h'. stores_move l W frame y s' h') s.1
          (λ q. omega (arith, h q, under_suc l q x)),
    )

pub all_stores : (l : ℕ) {pages pages' : ℕ → Cell} (W : ℕ → ℕ) → Frame pages pages' W
    → {es : Nodes l}
    → All (λ y. Stores l pages y) es
    → ((q : ℕ) → W q + times_below l q es ≤ 1)
    → All (λ y. Stores l pages' y) es
all_stores l {pages} {pages'} W frame a h =
    all_move l W (λ y. Stores l pages y) (λ y. Stores l pages' y) (λ y s h'. stores_move l W frame y s h') a h

pub leaves_represented : (pages : ℕ → Cell) (es : Nodes 0) → All (λ y. Stores 0 pages y) es
unfolding Stores
leaves_represented pages [] = all_none
leaves_represented pages (x ∷ es) = all_more tt (leaves_represented pages es)

-- page p holds the entries of a list that is shown
pub put_stores : (l : ℕ) (Z : Image) (e : Entry) (es : Nodes l) → All (λ y. Stores l Z.page y) es
    → ((q : ℕ) → hit q e.child + times_below l q es ≤ 1)
    → Stores (suc l) (put e.child (tree l (flat es)) Z).page (record { entry = e; subtree = es })
unfolding Stores
put_stores l Z e es a h =
    (put_at e.child (tree l (flat es)) Z, all_stores l (λ q. hit q e.child) (put_else e.child (tree l (flat es)) Z) a h)

-- other entries in the place of one
pub splice_represented : (l : ℕ) {pages pages' : ℕ → Cell} (W : ℕ → ℕ) → Frame pages pages' W
    → (i : ℕ) {zs es : Nodes l}
    → All (λ y. Stores l pages y) es
    → All (λ y. Stores l pages' y) zs
    → ((q : ℕ) → W q + (times_below l q (take i es) + times_below l q (drop (suc i) es)) ≤ 1)
    → All (λ y. Stores l pages' y) (splice i zs es)
unfolding splice
splice_represented l W frame i a b h =
    all_append (all_stores l W frame (all_take i a) (λ q. omega (arith, h q)))
    (all_append b (all_stores l W frame (all_drop (suc i) a) (λ q. omega (arith, h q))))

-- another entry that leads to the same page
module _ (l : ℕ) (x : Node (Subtree l)) (e : Entry) (c : e.child ≡ x.entry.child) where
  pub same_stores : (pages : ℕ → Cell) → Stores l pages x → Stores l pages (record { entry = e; subtree = x.subtree })
  same_stores = go l x c
    where
      go : (l : ℕ) (x : Node (Subtree l)) → e.child ≡ x.entry.child → (pages : ℕ → Cell) → Stores l pages x
          → Stores l pages (record { entry = e; subtree = x.subtree })
      go zero x c pages s = unfold Stores in tt
      go (suc l) x c pages s = unfold Stores in (ap pages c ∙ s.0, s.1)

  pub same_under : (q : ℕ) → times q (pages_under l (record { entry = e; subtree = x.subtree })) ≡ times q (pages_under l x)
  same_under = go l x c
    where
      go : (l : ℕ) (x : Node (Subtree l)) → e.child ≡ x.entry.child → (q : ℕ)
          → times q (pages_under l (record { entry = e; subtree = x.subtree })) ≡ times q (pages_under l x)
      go zero x c q = unfold pages_under in refl
      go (suc l) x c q = unfold pages_under in ap (λ (p : ℕ). times q (p ∷ concat_map (λ y. pages_under l y) x.subtree)) c

-- ---- the head's numbers but those on free pages

unfoldable pub lasting : Head → Head
lasting h = with_supply 0 0 0 h

-- ---- the supply

pub linked_move : {pages pages' : ℕ → Cell} (W : ℕ → ℕ) → Frame pages pages' W
    → {p : ℕ} {ps : List ℕ}
    → Linked pages p ps
    → ((q : ℕ) → W q + times q ps ≤ 1)
    → Linked pages' p ps
linked_move W frame ends h = ends
linked_move W frame (leads {p} {next} {ps} e r) h =
    leads (frame p (omega (arith, h p, times_cons p p ps, hit_self p)) ∙ e)
    (linked_move W frame r (λ q. omega (arith, h q, times_cons q p ps)))

pub spare_from : (S : Supply) (q : ℕ) → S.mark ≤ q → times_spare q S ≡ times q S.chain + 1
unfolding times_spare
spare_from S q h = rw (le-leb S.mark q h)

pub spare_chain : (S : Supply) (q : ℕ) → times q S.chain ≤ times_spare q S
unfolding times_spare
spare_chain S q = omega arith

pub supplied_move : {X X' : Image} {S : Supply} (W : ℕ → ℕ) → X'.head ≡ X.head → Frame X.page X'.page W
    → Supplied X S
    → ((q : ℕ) → W q + times_spare q S ≤ 1)
    → Supplied X' S
supplied_move {X} {X'} {S} W e frame s h =
    record {
      length_true = ap (λ (g : Head). g.chain) e ∙ s.length_true;
      linked =
          subst (λ (p : ℕ). Linked X'.page p S.chain) (sym (ap (λ (g : Head). g.free) e))
          (linked_move W frame s.linked (λ q. omega (arith, h q, spare_chain S q)));
      mark = ap (λ (g : Head). g.mark) e ∙ s.mark;
      unused =
          λ q m n.
          let a : X'.head.mark ≡ X.head.mark = ap (λ (g : Head). g.mark) e in
          let b : X'.head.pages ≡ X.head.pages = ap (λ (g : Head). g.pages) e in
          frame q (omega (arith, h q, spare_from S q (omega (arith, s.mark)))) ∙ s.unused q (omega arith) (omega arith);
    }

pub put_supplied : {X : Image} {S : Supply} (p : ℕ) (c : Cell) → Supplied X S → ((q : ℕ) → hit q p + times_spare q S ≤ 1)
    → Supplied (put p c X) S
put_supplied {X} p c s h = supplied_move (λ q. hit q p) (put_head p c X) (put_else p c X) s h

pub spare_next : (q : ℕ) (S : Supply) → hit q (next_page S) + times_spare q (without_next S) ≡ times_spare q S
unfolding next_page without_next times_spare
spare_next q S = go S.chain S.mark
  where
    go : (c : List ℕ) (m : ℕ)
        → hit q (next_page (record { chain = c; mark = m })) + times_spare q (without_next (record { chain = c; mark = m })) ≡
        times_spare q (record { chain = c; mark = m })
    go [] m = omega (arith, hit_from q m, times_none q)
    go (p ∷ ps) m = omega (arith, times_cons q p ps)

linked_front : {pages : ℕ → Cell} {f p : ℕ} {ps : List ℕ} → Linked pages f (p ∷ ps) → f ≡ p
linked_front (leads e r) = refl

linked_next : {pages : ℕ → Cell} {f p : ℕ} {ps : List ℕ} → Linked pages f (p ∷ ps) → Linked pages (next_in (pages f)) ps
unfolding next_in
linked_next (leads e r) = rw e r

-- the page taken, and the supply then
pub spare_is : {X : Image} {S : Supply} → Supplied X S → spare X ≡ next_page S
unfolding spare next_page
spare_is {X} {S} s = go S.chain S.mark s
  where
    go : (c : List ℕ) (m : ℕ) → Supplied X (record { chain = c; mark = m }) → spare X ≡ next_page (record { chain = c; mark = m })
    go [] m s = rw (eq-eqb X.head.chain 0 s.length_true) s.mark
    go (p ∷ ps) m s = rw (ne_eqb X.head.chain 0 (λ e. omega (arith, s.length_true))) (linked_front s.linked)

pub taken_supplied : {X : Image} {S : Supply} → Supplied X S → Supplied (taken X) (without_next S)
unfolding taken without_next with_supply
taken_supplied {X} {S} s = go S.chain S.mark s
  where
    go : (c : List ℕ) (m : ℕ) → Supplied X (record { chain = c; mark = m })
        → Supplied (taken X) (without_next (record { chain = c; mark = m }))
    go [] m s =
        rw (eq-eqb X.head.chain 0 s.length_true)
        (record {
          length_true = s.length_true;
          linked = s.linked;
          mark = ap suc s.mark;
          unused =
              λ q a b. s.unused q (omega arith) b;
        })
    go (p ∷ ps) m s =
        rw (ne_eqb X.head.chain 0 (λ e. omega (arith, s.length_true)))
        (record { length_true = omega (arith, s.length_true); linked = linked_next s.linked; mark = s.mark; unused = s.unused })

pub taken_lasting : (X : Image) → lasting (taken X).head ≡ lasting X.head
unfolding taken lasting with_supply
taken_lasting X = cond_one (λ (h : Head). lasting h ≡ lasting X.head) (eqb X.head.chain 0) (λ e. refl) (λ e. refl)

pub given_supplied : {X : Image} {S : Supply} (p : ℕ) → Supplied X S → ((q : ℕ) → hit q p + times_spare q S ≤ 1)
    → Supplied (given_back p X) (with_page p S)
unfolding given_back with_page with_supply put
given_supplied {X} {S} p s h =
    record {
      length_true = ap suc s.length_true;
      linked =
          leads (put_at p (free X.head.free) X)
          (linked_move (λ q. hit q p) (put_else p (free X.head.free) X) s.linked (λ q. omega (arith, h q, spare_chain S q)));
      mark = s.mark;
      unused = λ q m n. put_else p (free X.head.free) X q (omega (arith, h q, spare_from S q (omega (arith, s.mark))))
          ∙ s.unused q m n;
    }

pub spare_given : (q p : ℕ) (S : Supply) → times_spare q (with_page p S) ≡ hit q p + times_spare q S
unfolding times_spare with_page
spare_given q p S = omega (arith, times_cons q p S.chain)

pub given_lasting : (p : ℕ) (X : Image) → lasting (given_back p X).head ≡ lasting X.head
unfolding given_back put with_supply lasting
given_lasting p X = refl

pub given_else : (p : ℕ) (X : Image) → Frame X.page (given_back p X).page (λ q. hit q p)
unfolding given_back
given_else p X q h =
    put_else p (free X.head.free) (record { head = with_supply p (suc X.head.chain) X.head.mark X.head; page = X.page }) q h

pub rooted_supplied : {X : Image} {S : Supply} (h p : ℕ) → Supplied X S → Supplied (with_root h p X) S
unfolding with_root
rooted_supplied h p s = record { length_true = s.length_true; linked = s.linked; mark = s.mark; unused = s.unused }
