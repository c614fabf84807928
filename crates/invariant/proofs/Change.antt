-- A change that is not turned back keeps the invariant: each step finds the structure that the one before left, and the five together
-- restore what holds only before and after a change, that for kind 1 no two neighbouring leaf entries have equal totals. Assumes nothing.
use Prim.Native.Nat.{ℕ, suc, ◌≤◌, ◌<◌}
use mathlib.Core.Path.{◌≡◌, sym, ap, ◌∙◌, subst⁻¹}
use mathlib.Core.Bool.{true, false, cond}
use mathlib.Core.List.{List, ◌∷◌, ◌++◌, Memᴰ}
use native.Mathlib.Omega.{arith}
use lib.Dec.{eqb}
use Rattle.rule.specs.declared.Pair.{Pair}
use Rattle.rule.specs.Time.{END, covers}
use Rattle.rule.specs.Pairs.{combine}
use Rattle.rule.specs.Bounds.{Effective}
use Rattle.rule.proofs.Laws.{lawful, kind_inverse}
use Rattle.page.specs.Fit.{most_changes}
use Rattle.image.specs.Images.{Image}
use Rattle.steps.specs.Supply.{count_change}
use Rattle.steps.specs.Cut.{cut as cut_x}
use Rattle.steps.specs.Combine.{combine_span as combine_span_x}
use Rattle.steps.specs.Heal.{heal as heal_x}
use Rattle.steps.specs.Change.{cuts as cuts_x, lacks_pages, change as change_x, cut_names, combine_names, heal_names, change_names}
use Rattle.tree.specs.Tree.{pair_at}
use Rattle.tree.specs.Cut.{State, cut}
use Rattle.tree.specs.Combine.{combine_span}
use Rattle.tree.specs.Heal.{heal}
use Rattle.tree.specs.Change.{cuts, change}
use Rattle.tree.specs.Conserved.{held}
use Rattle.tree.proofs.Shapes.{leaf_cuttable, leaf_pairless, leaf_stretchable}
use Rattle.tree.specs.Shape.{Distinct}
use Rattle.tree.proofs.Change.{change_pairs, change_distinct}
use Rattle.lists.proofs.Times.{times_cons}
use Rattle.refinement.proofs.Stepped.{Steady, Stepped, then, absent}
use Rattle.invariant.specs.Invariant.{Structure, Invariant}
use Rattle.invariant.proofs.Steps.{counted_keeps, cut_step, cut_keeps, combine_step, combine_keeps, heal_step, heal_keeps, marks_fit}

-- What a change leaves, beside the invariant: each page held as often, and the pages and numbers that it keeps.
pub record Changed (half s e : ℕ) (p : Pair) (X : Image) (Y : State) : Type 0 where
  pub same_held : (q : ℕ) → held q (change half (combine X.head.kind) (eqb X.head.kind 1) s e p Y) ≡ held q Y
  pub frame : (q : ℕ) → ¬ Memᴰ q (change_names half (combine X.head.kind) s e p X)
      → (change_x half (combine X.head.kind) s e p X).page q ≡ X.page q
  pub pages : (change_x half (combine X.head.kind) s e p X).head.pages ≡ X.head.pages
  pub kind : (change_x half (combine X.head.kind) s e p X).head.kind ≡ X.head.kind
  pub window : (change_x half (combine X.head.kind) s e p X).head.window ≡ X.head.window
  pub changes : (change_x half (combine X.head.kind) s e p X).head.changes ≡ suc X.head.changes
  pub capacity : (change_x half (combine X.head.kind) s e p X).head.capacity ≡ X.head.capacity

module _ {half : ℕ} (two : 2 ≤ half) (s e : ℕ) (p : Pair) {X : Image} {Y : State} (g : Invariant half X Y) where
  abbrev kind : ℕ
  kind = X.head.kind

  abbrev n : ℕ
  n = X.head.changes

  abbrev rule : Pair → Pair → Pair
  rule = combine kind

  -- the images and the trees that B, C, D and E find, and what E leaves
  abbrev A : Image
  A = cut_x half s X

  abbrev B : Image
  B = cut_x half e A

  abbrev C : Image
  C = combine_span_x rule s e p B

  abbrev D : Image
  D = heal_x half rule s C

  abbrev E : Image
  E = heal_x half rule e D

  abbrev tree_a : State
  tree_a = cut half s Y

  abbrev tree_b : State
  tree_b = cut half e tree_a

  abbrev tree_c : State
  tree_c = combine_span rule s e p tree_b

  abbrev tree_d : State
  tree_d = heal half rule (eqb kind 1) s tree_c

  -- the tree afterwards, and every instant's pair in it
  abbrev pub next : State
  next = change half rule (eqb kind 1) s e p Y

  pub next_pairs : (u : ℕ) → u < END
      → pair_at rule next.tree u ≡ cond (covers s e u) (rule (pair_at rule Y.tree u) p) (pair_at rule Y.tree u)
  next_pairs u below =
      change_pairs two (lawful kind) (leaf_cuttable s) (leaf_cuttable e) leaf_pairless leaf_stretchable (kind_inverse kind) Y
      g.structure.formed p u below

  -- rows 13, 22, 23 and 24 don't turn it back
  module _ (f : Effective kind p) (few : n < most_changes) (enough : lacks_pages half s e X ≡ false) where
    marks : (tree_a.supply.mark ≤ X.head.pages) × (tree_b.supply.mark ≤ X.head.pages)
    marks = marks_fit two g.structure s e enough

    pub before_b : Structure half kind n A tree_a
    before_b = cut_keeps two g.structure s marks.0

    pub before_c : Structure half kind n B tree_b
    before_c = cut_keeps two before_b e (omega (arith, marks.1, (cut_step two g.structure s).steady.pages))

    pub before_d : Structure half kind (suc n) C tree_c
    before_d = combine_keeps two before_c s e p f few

    pub before_e : Structure half kind (suc n) D tree_d
    before_e = heal_keeps two before_d s

    after_e : Structure half kind (suc n) E next
    unfolding cuts change
    after_e = heal_keeps two before_e e

    abbrev names : List ℕ
    names =
        cut_names half rule s X
        ++ (cut_names half rule e A ++ (combine_names half rule s e B ++ (heal_names half rule s C ++ heal_names half rule e D)))

    five : Stepped X E Y next names
    unfolding cuts change
    five =
        let a = cut_step two g.structure s in
        let b = cut_step two before_b e in
        let c = combine_step two before_c s e p in
        let d = heal_step two before_d s in
        then a (then b (then c (then d (heal_step two before_e e))))

    -- no step sets the head's changes
    pub steady_five : Steady X.head E.head
    steady_five = five.steady

    pub change_is : Changed half s e p X Y
    unfolding change_x cuts_x change_names count_change
    change_is =
        let h = five.steady in
        record {
          same_held = five.same_held;
          frame = λ q m. five.frame q (omega (arith, times_cons q 0 names, absent q (0 ∷ names) m));
          pages = h.pages;
          kind = h.kind;
          window = h.window;
          changes = ap suc h.changes;
          capacity = h.capacity;
        }

    pub invariant_change : Invariant half (change_x half rule s e p X) next
    unfolding change_x cuts_x
    invariant_change =
        let Z : Image = count_change E in
        let told : Structure half kind (suc n) Z next = counted_keeps after_e in
        record {
          structure =
              subst⁻¹ (λ k. Structure half k Z.head.changes Z next) change_is.kind
              (subst⁻¹ (λ m. Structure half kind m Z next) change_is.changes told);
          distinct = λ k.
              let one : eqb kind 1 ≡ true = ap (λ m. eqb m 1) (sym change_is.kind) ∙ k in
              subst⁻¹ (λ m. Distinct half (combine m) next.tree) change_is.kind
              (subst⁻¹ (λ b. Distinct half rule (change half rule b s e p Y).tree) one
              (change_distinct two (lawful kind) (kind_inverse kind one) s e p Y (g.distinct one)));
        }
