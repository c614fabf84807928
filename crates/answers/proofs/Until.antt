-- An answer holds from the start of its leaf entry until its end: every instant between them goes the same way. Assumes nothing.
use Prim.Native.Nat.{ℕ, zero, suc, ◌-◌, ◌≤◌, ◌<◌}
use mathlib.Core.Path.{◌≡◌, refl, sym, ap, ◌∙◌}
use mathlib.Core.Bool.{true}
use mathlib.Core.List.{List}
use native.Mathlib.Omega.{arith}
use Rattle.rule.specs.Time.{END}
use Rattle.rule.specs.Pairs.{combine}
use Rattle.page.specs.declared.Head.{Head}
use Rattle.page.specs.Entries.{index_of}
use Rattle.page.specs.Layout.{pair_at, child_at, entries_of}
use Rattle.page.specs.Fit.{PageContext, root_context, context_below}
use Rattle.page.proofs.Laws.Indices.{index_started}
use Rattle.fit.proofs.Laws.Pages.{page_fit_is}
use Rattle.fit.proofs.Laws.Spans.{start_within, end_within, found_ends, found_only}
use Rattle.image.specs.Images.{half_of, page_at}
use Rattle.image.specs.Instant.{Lookup, leaf_answer, above, look, look_up}
use Rattle.image.specs.Descent.{descent_of}
use Rattle.image.proofs.Descent.{from_root_is}
use Rattle.image.specs.Trail.{instant_trail, LeafEntry}
use Rattle.image.proofs.Leaf.{instant_leaf}
use Rattle.calls.specs.Calls.{Instant, head, instant, instant_status}
use Rattle.calls.specs.Index.{index_instant}
use Rattle.claims.specs.Until.{InstantBefore, before_by, instant_before, index_instant_before, HoldsUntil, UntilWhen}
use Rattle.calls.proofs.Judged.{by_judge, judged_own, judged_refused}
use Rattle.answers.proofs.Look.{half_some, leaf_is, inner_is, look_top, look_below, inside}
use Rattle.answers.proofs.Calls.{Answered, answered, instant_is}

-- ---- from a page down

-- what was found for t from page p down, in its context: it lies in the page's span, has t, and is found for each of its instants
record Stays (half : ℕ) (h : Head) (img : List ℕ) (l : ℕ) (at : PageContext) (p t : ℕ) (w : Lookup) : Type 0 where
  low : at.lo ≤ w.start
  begun : w.start ≤ t
  ends : t < w.end
  high : w.end ≤ at.hi
  same : (u : ℕ) → w.start ≤ u → u < w.end → look half h img u l at p ≡ w

module _ (half : ℕ) (h : Head) (img : List ℕ) (some : 1 ≤ half) where
  stays : (t l : ℕ) (at : PageContext) (p : ℕ) → at.lo ≤ t → t < at.hi → (look half h img t l at p).fit ≡ true
      → Stays half h img l at p t (look half h img t l at p)
  unfolding leaf_answer above context_below
  stays t zero at p lo hi e =
      let s : List ℕ = page_at half img p in
      let i : ℕ = index_of t (entries_of half s) in
      let top = look_top half h img t zero at p e in
      let f = (page_fit_is half h at s).0 top in
      let m = inside half h img t some at s top in
      rw (leaf_is half h img t at p i top refl)
      (record {
        low = start_within f i m;
        begun = index_started half s t f.most (omega (arith, f.first));
        ends = found_ends f t hi;
        high = end_within f i m;
        same = λ u a b. leaf_is half h img u at p i top (found_only f u i m a b);
      })
  stays t (suc l) at p lo hi e =
      let s : List ℕ = page_at half img p in
      let i : ℕ = index_of t (entries_of half s) in
      let d : PageContext = context_below half s at i in
      let top = look_top half h img t (suc l) at p e in
      let f = (page_fit_is half h at s).0 top in
      let m = inside half h img t some at s top in
      let begun = index_started half s t f.most (omega (arith, f.first)) in
      let b = stays t l d (child_at half s i) begun (found_ends f t hi) (look_below half h img t l at p e) in
      rw (inner_is half h img t at p i top refl l)
      (record {
        low = omega (arith, start_within f i m, b.low);
        begun = b.begun;
        ends = b.ends;
        high = omega (arith, end_within f i m, b.high);
        same = λ u x y.
            inner_is half h img u at p i top (found_only f u i m (omega (arith, b.low)) (omega (arith, b.high))) l
            ∙ ap (above (combine h.kind) (pair_at half s i)) (b.same u x y);
      })

-- ---- from the root

module _ (half t : ℕ) (img : List ℕ) (f : Answered half t img) where
  abbrev h : Head
  h = head half img

  looked : Stays half h img (h.height - 1) (root_context h) h.root t (look_up half img t)
  unfolding look_up head root_context
  looked =
      let top = look_top half h img t (h.height - 1) (root_context h) h.root f.look_fits in
      stays half h img (half_some half h (page_at half img h.root) top) t (h.height - 1) (root_context h) h.root (omega arith)
      f.before_end f.look_fits

  instant_holds : let a = instant half t img in
      (a.start ≤ t) × (t < a.end) × (a.end ≤ END) × ((u : ℕ) → a.start ≤ u → u < a.end → instant half u img ≡ a)
  unfolding look_up head root_context
  instant_holds =
      let w = looked in
      rw (instant_is half t img f) (
        w.begun,
        w.ends,
        w.high,
        λ u x y.
            let same : look_up half img u ≡ look_up half img t = w.same u x y in
            instant_is half u img (record {
              length_fits = f.length_fits;
              before_end = omega (arith, w.high);
              head_fits = f.head_fits;
              look_fits = ap (λ (k : Lookup). k.fit) same ∙ f.look_fits;
            })
            ∙ ap (λ (k : Lookup). record { status = 0; pair = k.pair; start = k.start; end = k.end; pages = k.pages }) same,
      )

-- ---- by the capacity that the image names

answer_holds : (t : ℕ) (img : List ℕ) → (index_instant t img).status ≡ 0 → HoldsUntil t img (index_instant t img)
unfolding index_instant
answer_holds t img =
    by_judge _ (λ half. instant half t img) img (λ (a : Instant). a.status ≡ 0 → HoldsUntil t img a)
    (λ g e.
    let k = instant_holds (half_of img) t img (answered (half_of img) t img e) in
    record {
      begun = k.0;
      before_end = k.1;
      most = k.2;
      same = λ u x y. judged_own _ (λ half. instant half u img) img g ∙ k.3 u x y;
    })
    (λ n e. absurd (n e))

answer_leaf : (t : ℕ) (img : List ℕ) → (index_instant t img).status ≡ 0
    → LeafEntry (half_of img) img (instant_trail (half_of img) t img) (index_instant t img).start (index_instant t img).end
unfolding index_instant
answer_leaf t img =
    by_judge _ (λ half. instant half t img) img
    (λ (a : Instant). a.status ≡ 0 → LeafEntry (half_of img) img (instant_trail (half_of img) t img) a.start a.end)
    (λ g e.
    let f = answered (half_of img) t img e in
    rw (instant_is (half_of img) t img f) (instant_leaf (half_of img) img t f.look_fits))
    (λ n e. absurd (n e))

-- ---- and as before

abbrev told_before : Instant → InstantBefore
told_before a = record { status = a.status; pair = a.pair; pages = a.pages }

instant_as_before : (half t : ℕ) (img : List ℕ) → told_before (instant half t img) ≡ instant_before half t img
unfolding instant instant_status before_by descent_of
instant_as_before half t img = ap (before_by half t img) (from_root_is half img t)

answer_as_before : (t : ℕ) (img : List ℕ) → told_before (index_instant t img) ≡ index_instant_before t img
unfolding index_instant index_instant_before
answer_as_before t img =
    by_judge _ (λ half. instant half t img) img (λ (a : Instant). told_before a ≡ index_instant_before t img)
    (λ g. instant_as_before (half_of img) t img ∙ sym (judged_own _ (λ half. instant_before half t img) img g))
    (λ n. sym (judged_refused _ (λ half. instant_before half t img) img n))

pub until_when : UntilWhen
until_when = record { holds = answer_holds; leaf_entry = answer_leaf; as_before = answer_as_before }
