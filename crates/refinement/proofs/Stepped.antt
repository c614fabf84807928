-- What every step does to an image and to the tree and supply that it shows. Assumes nothing.
use Prim.Native.Nat.{ℕ, zero, suc, ◌+◌, ◌≤◌}
use mathlib.Core.Path.{◌≡◌, refl, ap, ◌∙◌}
use mathlib.Core.List.{List, [], ◌∷◌, ◌++◌, Memᴰ}
use native.Mathlib.Omega.{arith}
use Rattle.lists.specs.Lists.{hit}
use Rattle.lists.proofs.Totals.{hit_is}
use Rattle.lists.proofs.Times.{times_cons, times_none}
use Rattle.page.specs.declared.Head.{Head}
use Rattle.image.specs.Images.{Image}
use Rattle.lists.specs.Lists.{times}
use Rattle.steps.specs.Supply.{with_supply, count_change, with_root}
use Rattle.tree.specs.Tree.{Nodes, pages_under}
use Rattle.tree.specs.Supply.{Supply}
use Rattle.tree.specs.Cut.{State, root_node}
use Rattle.tree.specs.Conserved.{times_spare, held}
use Rattle.refinement.specs.Represents.{Represents, Once}
use Rattle.lists.proofs.Times.{times_append}
use Rattle.refinement.proofs.Below.{under_suc}
use Rattle.refinement.proofs.Moves.{Frame, lasting}

abbrev pub state : (l root : ℕ) → Nodes l → Supply → State
state l root es S = record { tree = record { level = l; root = root; nodes = es }; supply = S }

-- the head's numbers that no step sets
pub record Steady (h g : Head) : Type 0 where
  pub pages : g.pages ≡ h.pages
  pub kind : g.kind ≡ h.kind
  pub window : g.window ≡ h.window
  pub changes : g.changes ≡ h.changes
  pub capacity : g.capacity ≡ h.capacity

pub steady_of : {h g : Head} → lasting g ≡ lasting h → Steady h g
unfolding lasting with_supply
steady_of e =
    record {
      pages = ap (λ (h : Head). h.pages) e;
      kind = ap (λ (h : Head). h.kind) e;
      window = ap (λ (h : Head). h.window) e;
      changes = ap (λ (h : Head). h.changes) e;
      capacity = ap (λ (h : Head). h.capacity) e;
    }

pub steady_of_same : {h g : Head} → g ≡ h → Steady h g
steady_of_same e = steady_of (ap lasting e)

pub steady_then : {h g f : Head} → Steady h g → Steady g f → Steady h f
steady_then a b =
    record {
      pages = b.pages ∙ a.pages;
      kind = b.kind ∙ a.kind;
      window = b.window ∙ a.window;
      changes = b.changes ∙ a.changes;
      capacity = b.capacity ∙ a.capacity;
    }

-- the root is none of them
pub steady_rooted : {h : Head} (height p : ℕ) (X : Image) → Steady h X.head → Steady h (with_root height p X).head
unfolding with_root
steady_rooted height p X s =
    record { pages = s.pages; kind = s.kind; window = s.window; changes = s.changes; capacity = s.capacity }

-- From X to X', on trees from Y to Y': what is shown, the pages held, and the pages that may differ, all of which are held.
pub record Stepped (X X' : Image) (Y Y' : State) (names : List ℕ) : Type 0 where
  pub shown : Represents X' Y'
  pub same_held : (q : ℕ) → held q Y' ≡ held q Y
  pub frame : Frame X.page X'.page (λ q. times q names)
  pub inside : (q : ℕ) → held q Y ≡ 0 → times q names ≡ 0
  pub steady : Steady X.head X'.head

pub once_after : {X X' : Image} {Y Y' : State} {names : List ℕ} → Stepped X X' Y Y' names → Once Y → Once Y'
unfolding Once
once_after d once q = omega (arith, d.same_held q, once q)

-- a step after another
pub then : {X Z X' : Image} {Y U Y' : State} {ps qs : List ℕ} → Stepped X Z Y U ps → Stepped Z X' U Y' qs → Stepped X X' Y Y' (ps ++ qs)
then {ps = ps} {qs = qs} a b =
    record {
      shown = b.shown;
      same_held = λ q. b.same_held q ∙ a.same_held q;
      frame = λ q h. b.frame q (omega (arith, times_append q ps qs)) ∙ a.frame q (omega (arith, times_append q ps qs));
      inside = λ q h. omega (arith, times_append q ps qs, a.inside q h, b.inside q (a.same_held q ∙ h));
      steady = steady_then a.steady b.steady;
    }

pub counted_represented : {X : Image} {Y : State} → Represents X Y → Represents (count_change X) Y
unfolding count_change
counted_represented s =
    record {
      height = s.height;
      root = s.root;
      below = s.below;
      supplied =
          record {
            length_true = s.supplied.length_true;
            linked = s.supplied.linked;
            mark = s.supplied.mark;
            unused = s.supplied.unused;
          };
    }

-- a page that no list names is counted nowhere
pub absent : (q : ℕ) (names : List ℕ) → ¬ Memᴰ q names → times q names ≡ 0
absent q [] h = times_none q
absent q (p ∷ ps) h =
    let r : times q ps ≡ 0 = absent q ps (λ m. h (Memᴰ.tail m)) in
    let z : hit q p ≡ 0 = none (hit q p) refl in
    omega (arith, times_cons q p ps)
  where
    none : (n : ℕ) → hit q p ≡ n → hit q p ≡ 0
    none zero e = e
    none (suc n) e = absurd (h (Memᴰ.head (hit_is q p (omega arith))))

pub unnamed : {X X' : Image} {Y Y' : State} {names : List ℕ} → Stepped X X' Y Y' names → (q : ℕ) → ¬ Memᴰ q names
    → X'.page q ≡ X.page q
unnamed {names = names} d q h = d.frame q (absent q names h)

-- the pages held are the root, those below it, and those of the supply
pub held_is : (q : ℕ) (Y : State)
    → held q Y ≡ times q (pages_under (suc Y.tree.level) (root_node Y.tree)) + times_spare q Y.supply
unfolding held root_node
held_is q Y =
    let T = Y.tree in
    omega (arith, times_cons q T.root [], times_none q, under_suc T.level q (root_node T))

pub once_is : (Y : State) → Once Y → (q : ℕ) → held q Y ≤ 1
unfolding Once
once_is Y once q = once q
