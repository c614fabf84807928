-- Before step C each page that it meets is ready, in the image as it is then: the pages written by then are others. Assumes nothing.
use Prim.Native.Nat.{ℕ, zero, suc, ◌+◌, ◌-◌, ◌≤◌, ◌<◌}
use mathlib.Core.Path.{◌≡◌, refl, sym, ap, ◌∙◌, subst, subst⁻¹}
use mathlib.Core.Bool.{cond}
use mathlib.Core.List.{List, [], ◌∷◌}
use native.Mathlib.Omega.{arith}
use lib.IntN.{nat_abs}
use Rattle.lists.specs.Lists.{All}
use Rattle.lists.proofs.All.{all_head, all_tail}
use Rattle.lists.proofs.Totals.{hit_self}
use Rattle.rule.specs.declared.Pair.{Pair}
use Rattle.rule.specs.Pairs.{combine}
use Rattle.rule.specs.Bounds.{Effective, Combinable}
use Rattle.rule.specs.Time.{END}
use Rattle.page.specs.declared.Entry.{Entry}
use Rattle.page.specs.declared.Head.{Head}
use Rattle.page.specs.Fit.{most_changes}
use Rattle.image.specs.Images.{Image, tree}
use Rattle.lists.specs.Lists.{times}
use Rattle.steps.specs.Supply.{entries}
use Rattle.steps.specs.Combine.{next_start, sent}
use Rattle.combine_span.specs.declared.SpanEffect.{SpanEffect}
use Rattle.combine_span.specs.SpanCombinable.{inside_by, meets_by, below_by, sent_by, EntriesCombinable, BelowCombinable, PageCombinable}
use Rattle.combine_span.specs.SpanCombinable.{SpanCombinable}
use Rattle.tree.specs.Tree.{Node, Subtree, Nodes, flat, pages_under}
use Rattle.tree.specs.Cut.{State, root_node}
use Rattle.tree.specs.Combine.{combine_node}
use Rattle.tree.specs.Conserved.{times_below}
use Rattle.refinement.specs.Represents.{Stores}
use Rattle.refinement.proofs.Below.{under_suc, below_cons}
use Rattle.refinement.proofs.Moves.{all_stores}
use Rattle.refinement.proofs.Stepped.{once_is}
use Rattle.refinement.proofs.Paths.{entries_are, subtrees_represented}
use Rattle.refinement.proofs.Combine.{Sent, sent_in, sent_within, below_of, sent_is}
use Rattle.invariant.proofs.To.Weights.{Weighed, bounds_weighed, weighed_below}
use Rattle.invariant.proofs.To.Known.{structure_once, held_is, tree_inside}
use Rattle.invariant.specs.Invariant.{Structure}
use Rattle.preconditions.proofs.Pairs.{effect_combinable}

-- A count of pages by which none is there twice, and each that is there is one of n but the head.
record Apart (n : ℕ) (count : ℕ → ℕ) : Type 0 where
  once : (p : ℕ) → count p ≤ 1
  inside : (p : ℕ) → 1 ≤ count p → (1 ≤ p) × (p < n)

fewer : {n : ℕ} {count least : ℕ → ℕ} → Apart n count → ((p : ℕ) → least p ≤ count p) → Apart n least
fewer a h = record { once = λ p. omega (arith, a.once p, h p); inside = λ p m. a.inside p (omega (arith, h p)) }

-- those of the tree
tree_apart : {half kind changes : ℕ} (X : Image) {Y : State} → Structure half kind changes X Y
    → Apart X.head.pages (λ p. times p (pages_under (suc Y.tree.level) (root_node Y.tree)))
unfolding root_node
tree_apart X {Y} g =
    let l = Y.tree.level in
    let x = root_node Y.tree in
    record {
      once = λ p. omega (arith, under_suc l p x, held_is g p, once_is Y (structure_once g) p);
      inside = λ p m. omega (arith, tree_inside g p (omega (arith, under_suc l p x)), g.ranges.mark_most);
    }

module _ (q : SpanEffect) where
  abbrev rule : Pair → Pair → Pair
  rule = combine q.kind

  -- ---- what an entry sends below, in the words of images and trees

  below_same : (l hi p : ℕ) (X : Image) → below_of rule q.s q.e q.effect l hi p X ≡ below_by q l hi p X
  unfolding below_of below_by
  below_same zero hi p X = refl
  below_same (suc l) hi p X = refl

  sent_same : (l hi : ℕ) (x : Entry) (X : Image)
      → sent rule q.s q.e q.effect (below_of rule q.s q.e q.effect l) hi x X ≡ sent_by q l hi x X
  unfolding sent
  sent_same l hi x X = ap (λ (Z : Image). cond (inside_by q hi x) X (cond (meets_by q hi x) Z X)) (below_same l hi x.child X)

  -- the image Z is what x leaves of X
  abbrev SentTo : (l hi : ℕ) → Node (Subtree l) → Image → Image → Type 0
  SentTo l hi x X Z = Sent l X Z x (combine_node rule q.s q.e q.effect l hi x) (sent_in q.s q.e l hi x)

  sent_on : (l hi : ℕ) (x : Node (Subtree l)) (X : Image) → Stores l X.page x → ((p : ℕ) → times p (pages_under l x) ≤ 1)
      → SentTo l hi x X (sent_by q l hi x.entry X)
  sent_on l hi x X a once =
      subst (λ (Z : Image). SentTo l hi x X Z) (sent_same l hi x.entry X) (sent_is rule q.s q.e q.effect l hi x X a once)

  -- ---- a page, by the pages below its entries, each of which is W: the page itself, c, is none of them

  module _ (n l : ℕ) (W : Node (Subtree l) → Type 0) (combines : (y : Node (Subtree l)) → W y → Combinable y.entry.pair q.effect)
      (below : (hi : ℕ) (y : Node (Subtree l)) (Z : Image) → W y → Stores l Z.page y → Apart n (λ p. times p (pages_under l y))
      → Z.head.pages ≡ n → BelowCombinable q l hi y.entry.child Z) where
    entries_ready : (hi c : ℕ) (es : Nodes l) (Z : Image) → All W es → All (λ y. Stores l Z.page y) es
        → Apart n (λ p. times_below l p es) → times_below l c es ≡ 0 → Z.head.pages ≡ n
        → EntriesCombinable q (BelowCombinable q l) l hi c (flat es) Z
    unfolding EntriesCombinable
    entries_ready hi c [] Z w a o none m = tt
    entries_ready hi c (x ∷ xs) Z w a o none m =
        let end = next_start hi (flat xs) in
        let here : Apart n (λ p. times p (pages_under l x)) = fewer o (λ p. omega (arith, below_cons l p x xs)) in
        let later : Apart n (λ p. times_below l p xs) = fewer o (λ p. omega (arith, below_cons l p x xs)) in
        let u = sent_on l end x Z (all_head a) here.once in
        let still : All (λ y. Stores l (sent_by q l end x.entry Z).page y) xs =
        all_stores l (λ p. times p (sent_in q.s q.e l end x)) u.frame (all_tail a)
        (λ p. omega (arith, o.once p, below_cons l p x xs, sent_within q.s q.e l p end x)) in (
          record { combines = λ h. combines x (all_head w) },
          record { ready = λ h k. below end x Z (all_head w) (all_head a) here m },
          u.frame c (omega (arith, below_cons l c x xs, sent_within q.s q.e l c end x)),
          entries_ready hi c xs (sent_by q l end x.entry Z) (all_tail w) still later (omega (arith, below_cons l c x xs))
              (ap (λ (h : Head). h.pages) u.head ∙ m),
        )

    page_ready : (hi : ℕ) (x : Node (Subtree (suc l))) (Z : Image) → All W x.subtree → Stores (suc l) Z.page x
        → Apart n (λ p. times p (pages_under (suc l) x)) → Z.head.pages ≡ n → PageCombinable q l hi x.entry.child Z
    unfolding Stores
    page_ready hi x Z w a o m =
        let c = x.entry.child in
        let e : entries Z c ≡ flat x.subtree = entries_are l Z x a in
        let i : (1 ≤ c) × (c < n) = o.inside c (omega (arith, under_suc l c x, hit_self c)) in
        record {
          tree_page =
              record {
                within = record { least = i.0; below = omega (arith, i.1, m) };
                page = a.0 ∙ ap (λ (es : List Entry). tree l es) (sym e);
              };
          each =
              subst⁻¹ (λ (es : List Entry). EntriesCombinable q (BelowCombinable q l) l hi c es Z) e
              (entries_ready hi c x.subtree Z w (subtrees_represented l Z x a) (fewer o (λ p. omega (arith, under_suc l p x)))
              (omega (arith, o.once c, under_suc l c x, hit_self c)) m);
        }

  -- ---- down the levels

  module _ (kind changes n : ℕ) (few : changes ≤ most_changes) (f : Effective kind q.effect) where
    under_ready : (l sums counts hi : ℕ) (x : Node (Subtree l)) (Z : Image) → Weighed kind changes l sums counts x → Stores l Z.page x
        → Apart n (λ p. times p (pages_under l x)) → Z.head.pages ≡ n → BelowCombinable q l hi x.entry.child Z
    unfolding BelowCombinable
    under_ready zero sums counts hi x Z w a o m = tt
    under_ready (suc l) sums counts hi x Z w a o m =
        let s : ℕ = sums + nat_abs x.entry.pair.sum in
        let c : ℕ = counts + nat_abs x.entry.pair.count in
        page_ready n l (λ y. Weighed kind changes l s c y) (λ y v. effect_combinable kind changes few l s c y q.effect v f)
        (λ end y U v b r k. under_ready l s c end y U v b r k)
        hi x Z (weighed_below kind changes l sums counts x w) a o m

  -- ---- from the root, over any capacity of a page

  pub root_ready : {half kind changes : ℕ} (X : Image) {Y : State} → Effective kind q.effect → Structure half kind changes X Y
      → PageCombinable q (X.head.height - 1) END X.head.root X
  unfolding root_node
  root_ready {kind = kind} {changes} X {Y} f g =
      let l : ℕ = Y.tree.level in
      let n : ℕ = X.head.pages in
      let few = g.changes_most in
      let e : X.head.height - 1 ≡ l = omega (arith, g.shown.height) in
      let all : All (λ y. Weighed kind changes l 0 0 y) Y.tree.nodes = bounds_weighed kind changes Y.tree g.bounds in
      subst⁻¹ (λ (k : ℕ). PageCombinable q k END X.head.root X) e
      (subst⁻¹ (λ (p : ℕ). PageCombinable q l END p X) g.shown.root
      (page_ready n l (λ y. Weighed kind changes l 0 0 y) (λ y w. effect_combinable kind changes few l 0 0 y q.effect w f)
      (λ hi y Z w a o m. under_ready kind changes n few f l 0 0 hi y Z w a o m)
      END (root_node Y.tree) X all g.shown.below (tree_apart X g) refl))

-- The image that step C finds is ready for it, whatever the span, if its effect is one of the image's kind.
pub span_combinable : {half kind changes : ℕ} {X : Image} {Y : State} (q : SpanEffect) → Effective kind q.effect
    → Structure half kind changes X Y
    → SpanCombinable q X
span_combinable {X = X} q f g = record { least = omega (arith, g.shown.height); root = root_ready q X f g }
