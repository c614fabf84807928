-- The path to an instant, on the tree: it is that of the image, and its pages are pages of the tree. Assumes nothing.
use Prim.Native.Nat.{ℕ, zero, suc, ◌-◌, ◌≤◌, ◌<◌}
use mathlib.Core.Path.{◌≡◌, refl, sym, ap, ◌∙◌}
use mathlib.Core.List.{List, [], ◌∷◌, map}
use native.Mathlib.Omega.{arith}
use lib.Dec.{leb}
use lib.ListN.{length, get_or, length-map, get_or-map}
use borrow.Author.Tests.{le-leb, lt-leb}
use Rattle.lists.specs.Lists.{All}
use Rattle.lists.proofs.Choices.{cond_one}
use Rattle.lists.proofs.Edits.{map_splice, splice_same}
use Rattle.lists.proofs.All.{all_at}
use Rattle.lists.proofs.Times.{times_cons, times_none}
use Rattle.rule.specs.Time.{END}
use Rattle.page.specs.declared.Entry.{Entry}
use Rattle.page.specs.Entries.{at, index_of}
use Rattle.lists.specs.Lists.{splice}
use Rattle.image.specs.Images.{Image, tree, entries_in}
use Rattle.lists.specs.Lists.{times}
use Rattle.steps.specs.Supply.{entries}
use Rattle.steps.specs.Change.{path_from, path}
use Rattle.tree.specs.Cut.{State, root_node}
use Rattle.tree.specs.Tree.{Node, Subtree, Nodes, no_node, flat, pages_under}
use Rattle.tree.proofs.Seg.{least_one}
use Rattle.tree.proofs.Find.{index_inside}
use Rattle.refinement.specs.Represents.{Stores, Represents, Stocked, Full}
use Rattle.refinement.proofs.Below.{node_at, under_zero, under_suc, below_at}

pub page_entries : {l : ℕ} {es : List Entry} (p : ℕ) (X : Image) → X.page p ≡ tree l es → entries X p ≡ es
unfolding entries entries_in
page_entries p X e = ap entries_in e

pub entries_are : (l : ℕ) (X : Image) (x : Node (Subtree (suc l))) → Stores (suc l) X.page x
    → entries X x.entry.child ≡ flat x.subtree
unfolding Stores
entries_are l X x s = page_entries x.entry.child X s.0

pub subtrees_represented : (l : ℕ) (X : Image) (x : Node (Subtree (suc l))) → Stores (suc l) X.page x
    → All (λ y. Stores l X.page y) x.subtree
unfolding Stores
subtrees_represented l X x s = s.1

pub at_flat : (l : ℕ) (es : Nodes l) (i : ℕ) → at (flat es) i ≡ (node_at l es i).entry
at_flat l es i = get_or-map (λ x. x.entry) es i (no_node l)

-- what is the same of the one in its place is the same of all
pub map_same : {B : Type 0} (l : ℕ) (f : Node (Subtree l) → B) (i : ℕ) (zs es : Nodes l) → i < length es
    → map f zs ≡ f (node_at l es i) ∷ []
    → map f (splice i zs es) ≡ map f es
map_same {B} l f i zs es h e =
    let n : i < length (map f es) = rw (length-map es f) h in
    map_splice f i zs es
    ∙ ap (λ (r : List B). splice i r (map f es)) (e ∙ ap (λ (z : B). z ∷ []) (sym (get_or-map f es i (no_node l))))
    ∙ splice_same i (map f es) (f (no_node l)) n

pub same_at : {B : Type 0} (l : ℕ) (f : Node (Subtree l) → B) (i : ℕ) (z : Node (Subtree l)) (es : Nodes l) → i < length es
    → f z ≡ f (node_at l es i)
    → (m : ℕ)
    → f (node_at l (splice i (z ∷ []) es) m) ≡ f (node_at l es m)
same_at {B} l f i z es h e m =
    sym (get_or-map f (splice i (z ∷ []) es) m (no_node l))
    ∙ ap (λ (r : List B). get_or r m (f (no_node l))) (map_same l f i (z ∷ []) es h (ap (λ (b : B). b ∷ []) e))
    ∙ get_or-map f es m (no_node l)

-- the same entry in its place, whatever is below it
pub flat_same : (l i : ℕ) (zs es : Nodes l) → i < length es → flat zs ≡ (node_at l es i).entry ∷ [] → flat (splice i zs es) ≡ flat es
flat_same l i zs es h e = map_same l (λ y. y.entry) i zs es h e

-- the entry that has t
abbrev pub there : (l t : ℕ) → Nodes l → Node (Subtree l)
there l t es = node_at l es (index_of t (flat es))

module _ (l t : ℕ) (x : Node (Subtree (suc l))) (k : Stocked (suc l) x) where
  pub has_index : index_of t (flat x.subtree) < length x.subtree
  unfolding Stocked
  has_index = index_inside t x.subtree (omega (arith, least_one l, k.0))

  pub stocked_on : Stocked l (there l t x.subtree)
  unfolding Stocked
  stocked_on = all_at (index_of t (flat x.subtree)) (no_node l) k.1 has_index

  pub stores_on : (X : Image) → Stores (suc l) X.page x → Stores l X.page (there l t x.subtree)
  unfolding Stores
  stores_on X s = all_at (index_of t (flat x.subtree)) (no_node l) s.1 has_index

-- the pages on the path to t below an entry
unfoldable pub path_in : ℕ → (l : ℕ) → Node (Subtree l) → List ℕ
path_in t zero x = []
path_in t (suc l) x = x.entry.child ∷ path_in t l (there l t x.subtree)

pub path_is : (t l : ℕ) (X : Image) (x : Node (Subtree (suc l))) → Stocked (suc l) x → Stores (suc l) X.page x
    → path_from t l x.entry.child X ≡ path_in t (suc l) x
unfolding path_from path_in
path_is t zero X x k s = refl
path_is t (suc l) X x k s =
    let y = there (suc l) t x.subtree in
    let e : at (entries X x.entry.child) (index_of t (entries X x.entry.child)) ≡ y.entry =
    rw (entries_are (suc l) X x s) (at_flat (suc l) x.subtree (index_of t (flat x.subtree))) in
    ap (λ (b : Entry). x.entry.child ∷ path_from t l b.child X) e
    ∙ ap (λ (r : List ℕ). x.entry.child ∷ r) (path_is t l X y (stocked_on (suc l) t x k) (stores_on (suc l) t x k X s))

-- what starts at the root of an image starts at the root of the tree that it shows
pub from_root : {A : Type 0} {X : Image} {Y : State} → Represents X Y → (f : ℕ → ℕ → A)
    → f (X.head.height - 1) X.head.root ≡ f Y.tree.level Y.tree.root
from_root {A} {X} {Y} sh f =
    let e : X.head.height - 1 ≡ Y.tree.level = omega (arith, sh.height) in
    ap (λ (n : ℕ). f n X.head.root) e ∙ ap (λ (p : ℕ). f Y.tree.level p) sh.root

-- the path from the root
pub path_down : (t : ℕ) (X : Image) (Y : State) → Represents X Y → Full Y
    → path_from t (X.head.height - 1) X.head.root X ≡ path_in t (suc Y.tree.level) (root_node Y.tree)
unfolding root_node Full
path_down t X Y sh k = from_root sh (λ n p. path_from t n p X) ∙ path_is t Y.tree.level X (root_node Y.tree) k sh.below

-- it is the one to t, unless t is END
pub path_top : (t : ℕ) (X : Image) (Y : State) → Represents X Y → Full Y → t < END
    → path t X ≡ path_in t (suc Y.tree.level) (root_node Y.tree)
unfolding path
path_top t X Y sh k h = rw (lt-leb END t h) (path_down t X Y sh k)

pub path_past : (t : ℕ) (X : Image) → END ≤ t → path t X ≡ []
unfolding path
path_past t X h = rw (le-leb END t h)

pub path_below : (q t l : ℕ) (x : Node (Subtree l)) → Stocked l x → times q (path_in t l x) ≤ times q (pages_under l x)
unfolding path_in
path_below q t zero x k = omega (arith, times_none q, under_zero q x)
path_below q t (suc l) x k =
    let y = there l t x.subtree in
    let r : times q (path_in t l y) ≤ times q (pages_under l y) = path_below q t l y (stocked_on l t x k) in
    omega (
      arith,
      times_cons q x.entry.child (path_in t l y),
      under_suc l q x,
      below_at l q (index_of t (flat x.subtree))
          x.subtree (has_index l t x k),
    )

pub path_held : (q t : ℕ) (Y : State) → Full Y
    → times q (path_in t (suc Y.tree.level) (root_node Y.tree)) ≤ times q (pages_under (suc Y.tree.level) (root_node Y.tree))
unfolding Full
path_held q t Y k = path_below q t (suc Y.tree.level) (root_node Y.tree) k

pub path_within : (q t : ℕ) (X : Image) (Y : State) → Represents X Y → Full Y
    → times q (path t X) ≤ times q (pages_under (suc Y.tree.level) (root_node Y.tree))
unfolding path
path_within q t X Y sh k =
    cond_one (λ (ps : List ℕ). times q ps ≤ times q (pages_under (suc Y.tree.level) (root_node Y.tree))) (leb END t)
    (λ e. omega (arith, times_none q)) (λ e. rw (path_down t X Y sh k) (path_held q t Y k))
