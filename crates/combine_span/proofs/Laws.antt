-- What step C's definitions come to in each case. Assumes nothing.
use mathlib.Core.Path.{◌≡◌, refl, sym, ap, ◌∙◌, subst⁻¹}
use mathlib.Core.Bool.{true, false, cond}
use mathlib.Core.List.{List, [], ◌∷◌}
use Prim.Native.Nat.{ℕ, zero, suc, ◌-◌, ◌≤◌}
use native.Mathlib.Omega.{arith}
use Rattle.lists.proofs.Choices.{either}
use Rattle.rule.specs.Pairs.{combine}
use Rattle.page.specs.declared.Entry.{Entry}
use Rattle.page.specs.Entries.{entry}
use Rattle.image.specs.Images.{Image, tree}
use Rattle.steps.specs.Supply.{entries, put}
use Rattle.steps.specs.Combine.{Combining, next_start, took, sent, combine_entries, combine_over, combine_page}
use Rattle.combine_span.specs.declared.SpanEffect.{SpanEffect}
use Rattle.combine_span.specs.SpanCombinable.{inside_by, meets_by, took_by, all_took, page_by, below_by, sent_by}
use Rattle.combine_span.specs.SpanCombinable.{BelowCombinable, PageCombinable, EntryCombinable}

-- ---- an entry

module _ (q : SpanEffect) (hi : ℕ) (x : Entry) where
  pub took_inside : inside_by q hi x ≡ true
      → entry x.start (combine q.kind x.pair q.effect) x.child ≡ took_by q hi x
  unfolding took
  took_inside h = ap (λ b. cond b (entry x.start (combine q.kind x.pair q.effect) x.child) x) (sym h)

  pub took_outside : inside_by q hi x ≡ false → x ≡ took_by q hi x
  unfolding took
  took_outside h = ap (λ b. cond b (entry x.start (combine q.kind x.pair q.effect) x.child) x) (sym h)

  -- nothing is sent below a leaf
  sent_leaf : (X : Image) → sent_by q 0 hi x X ≡ X
  unfolding sent below_by
  sent_leaf X = either (λ Y. Y ≡ X) refl (either (λ Y. Y ≡ X) refl refl (meets_by q hi x)) (inside_by q hi x)

  module _ (level : ℕ) (X : Image) where
    pub sent_inside : inside_by q hi x ≡ true → X ≡ sent_by q level hi x X
    unfolding sent
    sent_inside h = ap (λ b. cond b X (cond (meets_by q hi x) (below_by q level hi x.child X) X)) (sym h)

    module _ (h : inside_by q hi x ≡ false) where
      pub sent_apart : meets_by q hi x ≡ false → X ≡ sent_by q level hi x X
      unfolding sent
      sent_apart m = λ j. cond (sym h j) X (cond (sym m j) (below_by q level hi x.child X) X)

      sent_down : meets_by q hi x ≡ true → below_by q level hi x.child X ≡ sent_by q level hi x X
      unfolding sent
      sent_down m = λ j. cond (sym h j) X (cond (sym m j) (below_by q level hi x.child X) X)

-- ---- the page below, where the level falls

module _ (q : SpanEffect) (hi p : ℕ) (X : Image) where
  below_page : (level : ℕ) → 1 ≤ level → page_by q (level - 1) hi p X ≡ below_by q level hi p X
  unfolding below_by
  below_page zero some = absurd (omega arith)
  below_page (suc l) some = let d : suc l - 1 ≡ l = omega arith in ap (λ k. page_by q k hi p X) d

  below_combinable : (level : ℕ) → 1 ≤ level → BelowCombinable q level hi p X → PageCombinable q (level - 1) hi p X
  unfolding BelowCombinable
  below_combinable zero some r = absurd (omega arith)
  below_combinable (suc l) some r = let d : suc l - 1 ≡ l = omega arith in subst⁻¹ (λ k. PageCombinable q k hi p X) d r

-- an inner entry partly inside the span
module _ (q : SpanEffect) (level hi : ℕ) (x : Entry) (X : Image)
    (some : 1 ≤ level) (h : inside_by q hi x ≡ false) (m : meets_by q hi x ≡ true) where
  pub combinable_below : EntryCombinable q level hi x X → PageCombinable q (level - 1) hi x.child X
  combinable_below r = below_combinable q hi x.child X level some (r.ready h m)

  pub sent_below : page_by q (level - 1) hi x.child X ≡ sent_by q level hi x X
  sent_below = below_page q hi x.child X level some ∙ sent_down q hi x level X h m

-- ---- a page

module _ (q : SpanEffect) (hi : ℕ) where
  -- the entries of a page of that level, in turn
  abbrev spread : ℕ → List Entry → Image → Combining
  spread level = combine_entries (combine q.kind) q.s q.e q.effect (below_by q level) hi

  -- the image once all of them have sent below
  abbrev pub all_sent : ℕ → List Entry → Image → Image
  all_sent level es X = (spread level es X).image

  pub none_sent : (es : List Entry) (X : Image) → all_sent 0 es X ≡ X
  unfolding combine_entries
  none_sent [] X = refl
  none_sent (x ∷ xs) X = none_sent xs _ ∙ sent_leaf q (next_start hi xs) x X

  -- what becomes of an entry doesn't depend on the image
  became_took : (level : ℕ) (es : List Entry) (X : Image) → (spread level es X).became ≡ all_took q hi es
  unfolding combine_entries all_took
  became_took level [] X = refl
  became_took level (x ∷ xs) X = ap (λ ys. took_by q (next_start hi xs) x ∷ ys) (became_took level xs _)

  -- the page is written last, over what its entries sent
  pub page_whole : (level p : ℕ) (X : Image)
      → put p (tree level (all_took q hi (entries X p))) (all_sent level (entries X p) X) ≡ page_by q level hi p X
  unfolding combine_page combine_over below_by
  page_whole level p X =
      ap (λ es. put p (tree level es) (all_sent level (entries X p) X)) (sym (became_took level (entries X p) X)) ∙ over level
    where
      over : (l : ℕ) → put p (tree l (spread l (entries X p) X).became) (all_sent l (entries X p) X) ≡ page_by q l hi p X
      over zero = refl
      over (suc l) = refl
