-- The theorem: of an image with the invariant, the pages that are counted before anything is written are those that A and B take.
-- Assumes nothing.
use Prim.Native.Nat.{ℕ, zero, suc, ◌+◌, ◌-◌, ◌≤◌, ◌<◌}
use mathlib.Core.Path.{◌≡◌, refl, sym, ap, ◌∙◌, subst}
use mathlib.Core.Logic.{⊎_elim}
use mathlib.Core.Bool.{true, cond}
use mathlib.Core.List.{List}
use native.Mathlib.Omega.{arith}
use lib.Dec.{eqb, ltb}
use lib.ListN.{length, length-map}
use borrow.Author.Tests.{le-leb, lt-leb}
use Rattle.rule.specs.Time.{END}
use Rattle.rule.specs.Pairs.{none, combine}
use Rattle.rule.proofs.Laws.{lawful}
use Rattle.page.specs.declared.Entry.{Entry}
use Rattle.page.specs.Entries.{entry, at, index_of}
use Rattle.image.specs.Images.{Image, image_of}
use Rattle.image.specs.Sound.{sound_before}
use Rattle.steps.specs.Supply.{entries, pages_taken}
use Rattle.steps.specs.Cut.{root_entry, cut as cut_x}
use Rattle.steps.specs.Change.{cuts, lacks_pages}
use Rattle.tree.specs.Tree.{Node, Subtree, flat}
use Rattle.tree.specs.Cut.{State, root_node, cut}
use Rattle.tree.specs.Change.{cuts as tree_cuts}
use Rattle.tree.specs.Shape.{Asked, Formed}
use Rattle.tree.proofs.Seg.{le_or_lt}
use Rattle.tree.proofs.Shapes.{Cuttable, Parts, leaf_cuttable}
use Rattle.tree.proofs.Cut.{cut_formed}
use Rattle.refinement.specs.Represents.{Stores, Supplied, Represents, Once, Stocked, Full}
use Rattle.tree.specs.Counts.{later}
use Rattle.refinement.proofs.Taking.{taken_is}
use Rattle.refinement.proofs.Paths.{there, entries_are, at_flat, stores_on, stocked_on}
use Rattle.refinement.proofs.Stepped.{once_after}
use Rattle.refinement.proofs.Cut.{cut_is}
use Rattle.refinement.proofs.Formed.{formed_full}
use Rattle.invariant.specs.Invariant.{Structure}
use Rattle.invariant.proofs.From.Invariant.{sound_structure}
use Rattle.invariant.proofs.To.Known.{structure_once}
use Rattle.page_need.specs.declared.Need.{Need}
use Rattle.page_need.specs.Needs.{add_needs, page_need, one_cut, parted_cuts, both_cuts, cuts_need, with_new_root, pages_needed}
use Rattle.page_need.proofs.Counts.{one_cut_in, both_cuts_in}
use Rattle.page_need.proofs.Roots.{one_from, both_from, cuts_take, cuts_take_first}

-- ---- the counts on the image are those on the tree that it shows

module _ (half : ℕ) (X : Image) where
  -- the entries of the page below x
  page_same : (l : ℕ) (x : Node (Subtree (suc l))) (F : List Entry → Need) → Stores (suc l) X.page x
      → page_need half (length (entries X x.entry.child)) (F (entries X x.entry.child))
      ≡ page_need half (length x.subtree) (F (flat x.subtree))
  page_same l x F sh =
      ap (λ es. page_need half (length es) (F es)) (entries_are l X x sh)
      ∙ ap (λ n. page_need half n (F (flat x.subtree))) (length-map x.subtree (λ y. y.entry))

  one_shown : (t l : ℕ) (x : Node (Subtree l)) → Stores l X.page x → Stocked l x → one_cut half t l x.entry X ≡ one_cut_in half t l x
  unfolding one_cut one_cut_in
  one_shown t zero x sh st = refl
  one_shown t (suc l) x sh st =
      page_same l x (λ es. one_cut half t l (at es (index_of t es)) X) sh
      ∙ ap (page_need half (length x.subtree))
      (ap (λ e. one_cut half t l e X) (at_flat l x.subtree (index_of t (flat x.subtree)))
      ∙ one_shown t l (there l t x.subtree) (stores_on l t x st X sh) (stocked_on l t x st))

  both_shown : (s t l : ℕ) (x : Node (Subtree l)) → Stores l X.page x → Stocked l x
      → both_cuts half s t l x.entry X ≡ both_cuts_in half s t l x
  unfolding both_cuts both_cuts_in
  both_shown s t zero x sh st = refl
  both_shown s t (suc l) x sh st =
      let i = index_of s (flat x.subtree) in
      let j = index_of t (flat x.subtree) in
      let y = there l s x.subtree in
      let z = there l t x.subtree in
      let a : both_cuts half s t l (at (flat x.subtree) i) X ≡ both_cuts_in half s t l y =
      ap (λ e. both_cuts half s t l e X) (at_flat l x.subtree i) ∙ both_shown s t l y (stores_on l s x st X sh) (stocked_on l s x st) in
      let b : one_cut half s l (at (flat x.subtree) i) X ≡ one_cut_in half s l y =
      ap (λ e. one_cut half s l e X) (at_flat l x.subtree i) ∙ one_shown s l y (stores_on l s x st X sh) (stocked_on l s x st) in
      let c : one_cut half t l (at (flat x.subtree) j) X ≡ one_cut_in half t l z =
      ap (λ e. one_cut half t l e X) (at_flat l x.subtree j) ∙ one_shown t l z (stores_on l t x st X sh) (stocked_on l t x st) in
      page_same l x
      (λ es.
      cond (eqb (index_of s es) (index_of t es)) (both_cuts half s t l (at es (index_of s es)) X)
      (parted_cuts half s t l (at es (index_of s es)) (at es (index_of t es)) X))
      sh
      ∙ (λ k. page_need half (length x.subtree) (cond (eqb i j) (a k) (add_needs (b k) (c k))))

-- what starts at an image's root starts at that of the tree
at_root : {A : Type 0} {X : Image} {Y : State} → Represents X Y → (f : ℕ → Entry → A)
    → f X.head.height (root_entry X) ≡ f (suc Y.tree.level) (root_node Y.tree).entry
unfolding root_entry root_node
at_root {X = X} {Y = Y} sh f =
    ap (λ (h : ℕ). f h (entry 0 none X.head.root)) sh.height ∙ ap (λ (p : ℕ). f (suc Y.tree.level) (entry 0 none p)) sh.root

-- ---- the theorem

module _ {half : ℕ} (two : 2 ≤ half) {B : Asked (Subtree 0)} (s : ℕ) (cutting : Cuttable s B) (e : ℕ) (lt : s < e) (end : e ≤ END)
    {X : Image} {Y : State} (sh : Represents X Y) (once : Once Y) (F : Formed half B Y.tree) where
  full : Full Y
  full = formed_full half B two Y F

  cuts_shown : Represents (cuts half s e X) (tree_cuts half s e Y)
  unfolding cuts tree_cuts
  cuts_shown =
      let a = cut_is half (combine 1) s X Y sh once full in
      (cut_is half (combine 1) e (cut_x half s X) (cut half s Y) a.shown (once_after a once)
      (formed_full half (Parts s B) two (cut half s Y) (cut_formed two cutting (lawful 1) Y F))).shown

  takes : (k : ℕ) → (tree_cuts half s e Y).supply ≡ later k Y.supply → pages_taken X (cuts half s e X) ≡ k
  takes k same = taken_is k sh.supplied (subst (λ R. Supplied (cuts half s e X) R) same cuts_shown.supplied)

  needed_both : e < END → pages_needed half s e X ≡ pages_taken X (cuts half s e X)
  unfolding pages_needed cuts_need Full
  needed_both low =
      rw (lt-leb END e low)
      (ap with_new_root
      (at_root sh (λ l r. both_cuts half s e l r X) ∙ both_shown half X s e (suc Y.tree.level) (root_node Y.tree) sh.below full)
      ∙ sym (takes (with_new_root (both_from half s e Y.tree)) (cuts_take two s cutting e lt Y F low)))

  needed_first : END ≤ e → pages_needed half s e X ≡ pages_taken X (cuts half s e X)
  unfolding pages_needed cuts_need Full
  needed_first high =
      rw (le-leb END e high)
      (ap with_new_root
      (at_root sh (λ l r. one_cut half s l r X) ∙ one_shown half X s (suc Y.tree.level) (root_node Y.tree) sh.below full)
      ∙ sym (takes (with_new_root (one_from half s Y.tree)) (cuts_take_first two s cutting e lt Y F (omega arith) high)))

  pub needed : pages_needed half s e X ≡ pages_taken X (cuts half s e X)
  needed = ⊎_elim needed_first needed_both (le_or_lt END e)

-- of the structure that a sound image has
pub needed_invariant : {half kind changes : ℕ} → 2 ≤ half → (s e : ℕ) → s < e → e ≤ END → {X : Image} {Y : State}
    → Structure half kind changes X Y
    → pages_needed half s e X ≡ pages_taken X (cuts half s e X)
needed_invariant two s e lt end g = needed two s (leaf_cuttable s) e lt end g.shown (structure_once g) g.formed

-- of a sound image: 24's condition before anything is written
pub lacks_is : {half : ℕ} → 2 ≤ half → (s e : ℕ) → s < e → e ≤ END → (img : List ℕ) → sound_before half img ≡ true
    → (let X = image_of half img in
    ltb (X.head.chain + (X.head.pages - X.head.mark)) (pages_needed half s e X) ≡ lacks_pages half s e X)
unfolding lacks_pages
lacks_is {half} two s e lt end img ok =
    let X = image_of half img in
    ap (ltb (X.head.chain + (X.head.pages - X.head.mark)))
    (needed_invariant two s e lt end (sound_structure half img (omega arith) ok))
