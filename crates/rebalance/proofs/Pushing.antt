-- A pair combined into the entries of a page, one at a time. Assumes nothing.
use mathlib.Core.Path.{◌≡◌, sym, ap, ◌∙◌, subst, subst⁻¹}
use mathlib.Core.List.{List, [], ◌∷◌}
use Prim.Native.Nat.{ℕ, ◌+◌, ◌≤◌, ◌<◌}
use native.Mathlib.Omega.{arith}
use native.Mathlib.Numerals.{add-one}
use lib.ListN.{length, length-map}
use Rattle.rule.specs.declared.Pair.{Pair}
use Rattle.rule.specs.Bounds.{Combinable}
use Rattle.rule.specs.Pairs.{combine}
use Rattle.page.specs.declared.Entry.{Entry}
use Rattle.page.specs.Entries.{at, push}
use Rattle.lists.specs.Lists.{splice}
use Rattle.image.specs.Images.{Image, tree}
use Rattle.steps.specs.Supply.{entries, put}
use Rattle.steps.specs.Heal.{pushed}
use Rattle.store.specs.Encoding.{Encodes, PostLevel, PreLevel}
use Rattle.store.specs.Preconditions.{PushReady}
use Rattle.store.proofs.Encoding.{from}
use Rattle.rebalance.specs.Siblings.{EntryPushable, with_pair}
use Rattle.rebalance.proofs.Lists.{changed, length_changed, at_changed, changed_more, changed_all}
use Rattle.steps.proofs.Supply.{put_again, put_same}
use Rattle.rebalance.proofs.Puts.{entries_at, tree_at}

pub length_pushed : (f : Pair → Pair → Pair) (X : Image) (e : Entry) → length (pushed f X e) ≡ length (entries X e.child)
unfolding pushed push
length_pushed f X e = length-map (entries X e.child) _

module _ (kind : ℕ) (e : Entry) where
  -- the image once i entries of the page under e have the pair
  abbrev pub pushed_to : ℕ → ℕ → Image → Image
  pushed_to i level X = put e.child (tree level (changed (with_pair kind e.pair) i (entries X e.child))) X

  module _ {level : ℕ} {X : Image} (s : PushReady level e X) where
    abbrev es : List Entry
    es = entries X e.child

    pushed_none : X ≡ pushed_to 0 level X
    unfolding changed
    pushed_none = sym (put_same X s.tree_page.page)

    pushed_next : (i : ℕ) → i < length es → EntryPushable e.pair level e.child i (pushed_to i level X)
    pushed_next i h =
        let f = with_pair kind e.pair in
        let shown : entries (pushed_to i level X) e.child ≡ changed f i es = entries_at e.child level _ X in
        record {
          has =
              record {
                tree_page = tree_at e.child level _ X s.tree_page.within;
                inside = omega (arith, ap length shown, length_changed f i es);
              };
          combines =
              subst⁻¹ (λ x. Combinable e.pair x.pair) (ap (λ xs. at xs i) shown ∙ at_changed f i es) (s.each i h);
        }

    pushed_more : (i : ℕ) → i < length es
        → put e.child
        (tree level (splice i (with_pair kind e.pair (at (entries (pushed_to i level X) e.child) i) ∷ [])
        (entries (pushed_to i level X) e.child)))
        (pushed_to i level X)
        ≡ pushed_to (i + 1) level X
    pushed_more i h =
        let f = with_pair kind e.pair in
        let next : splice i (f (at (changed f i es) i) ∷ []) (changed f i es) ≡ changed f (i + 1) es =
        ap (λ x. splice i (f x ∷ []) (changed f i es)) (at_changed f i es) ∙ changed_more f i es h
        ∙ ap (λ n. changed f n es) (sym (add-one i)) in
        put_again e.child _ _ X
        ∙ ap (λ xs. put e.child (tree level (splice i (f (at xs i) ∷ []) xs)) X) (entries_at e.child level _ X)
        ∙ ap (λ xs. put e.child (tree level xs) X) next

    pushed_all : (i : ℕ) → length es ≤ i → pushed_to i level X ≡ put e.child (tree level (pushed (combine kind) X e)) X
    unfolding pushed push
    pushed_all i h = ap (λ xs. put e.child (tree level xs) X) (changed_all (with_pair kind e.pair) i es h)

  -- ---- the loop: the page under e has n entries, and i have the pair

  pub record Pushing (half : ℕ) (img₀ : List ℕ) (n : ℕ) (img : List ℕ) (i : ℕ) : Type 0 where
    pub same : length img ≡ length img₀
    pub holds : PostLevel half img₀ (λ v. PushReady v e) (λ v X. (n ≡ length (entries X e.child)) × Encodes half img (pushed_to i v X))

  pub none : {half : ℕ} {img : List ℕ} {n : ℕ} → PostLevel half img (λ v. PushReady v e) (λ v X. n ≡ length (entries X e.child))
      → Pushing half img n img 0
  none {half} {img} count =
      record { same = omega arith; holds = λ X h v s. (count X h v s, subst (Encodes half img) (pushed_none s) h) }

  module _ {half : ℕ} {img₀ img : List ℕ} {n i : ℕ} (k : Pushing half img₀ n img i) where
    pub next : i < n → PreLevel half img₀ (λ v. PushReady v e) → PreLevel half img (λ v. EntryPushable e.pair v e.child i)
    next less pre =
        from pre
        (λ X h s.
        let (count, holds) = k.holds X h s.0 s.1 in
        record { image = _; holds = holds; ready = (s.0, pushed_next s.1 i (omega arith)) })

    pub more : {after : List ℕ} → i < n → length after ≡ length img
        → PostLevel half img (λ v. EntryPushable e.pair v e.child i)
        (λ v X.
        Encodes half after
        (put e.child
        (tree v (splice i (with_pair kind e.pair (at (entries X e.child) i) ∷ []) (entries X e.child))) X))
        → Pushing half img₀ n after (i + 1)
    more {after} less kept g =
        record {
          same = kept ∙ k.same;
          holds =
              λ X h v s.
              let (count, holds) = k.holds X h v s in
              let inside : i < length (entries X e.child) = omega arith in
              (count, subst (Encodes half after) (pushed_more s i inside) (g _ holds v (pushed_next s i inside)));
        }

    pub all : n ≤ i → PostLevel half img₀ (λ v. PushReady v e)
        (λ v X. Encodes half img (put e.child (tree v (pushed (combine kind) X e)) X))
    all most X h v s =
        let (count, holds) = k.holds X h v s in
        subst (Encodes half img) (pushed_all s i (omega arith)) holds
