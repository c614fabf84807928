-- The loop in which the entries of a page take the effect: those passed have, the rest stand as they were. Assumes nothing.
use Prim.Native.Nat.{ℕ, zero, suc, ◌+◌, ◌≤◌, ◌<◌}
use mathlib.Core.Path.{◌≡◌, refl, sym, ap, ◌∙◌, subst, subst⁻¹}
use mathlib.Core.List.{List, [], ◌∷◌}
use native.Mathlib.Numerals.{add-one}
use native.Mathlib.Omega.{arith}
use lib.ListN.{length}
use Rattle.lists.specs.Lists.{splice}
use Rattle.lists.proofs.Edits.{splice_same}
use Rattle.page.specs.declared.Entry.{Entry}
use Rattle.page.specs.Entries.{at, no_entry}
use Rattle.page.specs.Layout.{capacity}
use Rattle.image.specs.Images.{Image, tree, entries_in}
use Rattle.steps.specs.Supply.{entries, put}
use Rattle.steps.specs.Combine.{next_start, end_in}
use Rattle.steps.proofs.Supply.{put_at, put_again, put_same}
use Rattle.store.specs.Encoding.{Encodes, PreLevel, PostLevel}
use Rattle.store.specs.Preconditions.{TreePage}
use Rattle.store.proofs.Supplying.{within_put}
use Rattle.combine_span.specs.declared.SpanEffect.{SpanEffect}
use Rattle.combine_span.specs.SpanCombinable.{took_by, all_took, Takes, EntryTakes, PageTakes}

entries_put : (p level : ℕ) (es : List Entry) (X : Image) → entries (put p (tree level es) X) p ≡ es
unfolding entries entries_in
entries_put p level es X = ap entries_in (put_at p (tree level es) X)

module _ (q : SpanEffect) (hi : ℕ) where
  -- ---- the entries of a page after i of them

  pub part_took : ℕ → List Entry → List Entry
  part_took zero es = es
  part_took (suc i) [] = []
  part_took (suc i) (x ∷ xs) = took_by q (next_start hi xs) x ∷ part_took i xs

  part_length : (i : ℕ) (es : List Entry) → length (part_took i es) ≡ length es
  unfolding part_took
  part_length zero es = refl
  part_length (suc i) [] = refl
  part_length (suc i) (x ∷ xs) = ap suc (part_length i xs)

  -- the i-th and those behind it, and so where it ends, are as they were
  part_takes : (i : ℕ) (es : List Entry) → Takes q (end_in hi es i) (at es i)
      → Takes q (end_in hi (part_took i es) i) (at (part_took i es) i)
  unfolding part_took
  part_takes zero es k = k
  part_takes (suc i) [] k = k
  part_takes (suc i) (x ∷ xs) k = part_takes i xs k

  -- the i-th of these entries takes the effect
  abbrev pub with_took : ℕ → List Entry → List Entry
  with_took i es = splice i (took_by q (end_in hi es i) (at es i) ∷ []) es

  part_more : (i : ℕ) (es : List Entry) → i < length es → with_took i (part_took i es) ≡ part_took (suc i) es
  unfolding splice part_took
  part_more i [] h = absurd (omega arith)
  part_more zero (x ∷ xs) h = refl
  part_more (suc i) (x ∷ xs) h = ap (λ ys. took_by q (next_start hi xs) x ∷ ys) (part_more i xs (omega arith))

  part_all : (i : ℕ) (es : List Entry) → length es ≤ i → part_took i es ≡ all_took q hi es
  unfolding all_took part_took
  part_all zero [] h = refl
  part_all zero (x ∷ xs) h = absurd (omega arith)
  part_all (suc i) [] h = refl
  part_all (suc i) (x ∷ xs) h = ap (λ ys. took_by q (next_start hi xs) x ∷ ys) (part_all i xs (omega arith))

  -- ---- the image then

  module _ (p : ℕ) where
    abbrev part_put : ℕ → ℕ → Image → Image
    part_put i l X = put p (tree l (part_took i (entries X p))) X

    part_ready : (i l : ℕ) (X : Image) → PageTakes q hi p l X → i < length (entries X p) → EntryTakes q hi p i l (part_put i l X)
    part_ready i l X k h =
        let es : List Entry = part_took i (entries X p) in
        let same : entries (part_put i l X) p ≡ es = entries_put p l es X in
        record {
          has =
              record {
                tree_page =
                    record {
                      within = within_put k.tree_page.within p (tree l es);
                      page = put_at p (tree l es) X ∙ ap (λ fs. tree l fs) (sym same);
                    };
                inside = omega (arith, ap length same, part_length i (entries X p));
              };
          takes = subst⁻¹ (λ fs. Takes q (end_in hi fs i) (at fs i)) same (part_takes i (entries X p) (k.each i h));
        }

    part_next : (i l : ℕ) (X : Image) → i < length (entries X p)
        → put p (tree l (with_took i (entries (part_put i l X) p))) (part_put i l X) ≡ part_put (suc i) l X
    part_next i l X h =
        ap (λ fs. put p (tree l (with_took i fs)) (part_put i l X)) (entries_put p l (part_took i (entries X p)) X)
        ∙ put_again p _ _ X
        ∙ ap (λ fs. put p (tree l fs) X) (part_more i (entries X p) h)

    -- ---- the loop

    -- After i entries of the page: so it goes for every image that the bytes held.
    pub record Taking (half : ℕ) (img₀ : List ℕ) (n i : ℕ) (img : List ℕ) : Type 0 where
      pub same : length img ≡ length img₀
      pub each : PostLevel half img₀ (PageTakes q hi p) (λ l X. (n ≡ length (entries X p)) × Encodes half img (part_put i l X))

    pub none : {half : ℕ} {img : List ℕ} {n : ℕ}
        → PostLevel half img (λ l. TreePage l p) (λ l X. (n ≡ length (entries X p)) × (n ≤ capacity half))
        → Taking half img n 0 img
    unfolding part_took
    none {half} {img} count =
        record {
          same = refl;
          each = λ X h l k. ((count X h l k.tree_page).0, subst⁻¹ (Encodes half img) (put_same X k.tree_page.page) h);
        }

    module _ {half : ℕ} {img₀ : List ℕ} {n i : ℕ} {img : List ℕ} (t : Taking half img₀ n i img) where
      pub ready : i < n → PreLevel half img₀ (PageTakes q hi p) → PreLevel half img (EntryTakes q hi p i)
      ready h s =
          let k = s.ready.1 in
          let u = t.each s.image s.holds _ k in
          record { image = _; holds = u.1; ready = (_, part_ready i _ s.image k (omega (arith, u.0))) }

      pub more : i < n → {img' : List ℕ}
          → PostLevel half img (EntryTakes q hi p i) (λ l X. Encodes half img' (put p (tree l (with_took i (entries X p))) X))
          → length img' ≡ length img → Taking half img₀ n (i + 1) img'
      more h {img'} took e =
          record {
            same = e ∙ t.same;
            each =
                λ X held l k.
                let u = t.each X held l k in
                let here : i < length (entries X p) = omega (arith, u.0) in (
                  u.0,
                  subst (Encodes half img') (part_next i l X here ∙ ap (λ m. part_put m l X) (sym (add-one i)))
                      (took _ u.1 l (part_ready i l X k here)),
                );
          }

      pub all : n ≤ i → PostLevel half img₀ (PageTakes q hi p) (λ l X. Encodes half img (put p (tree l (all_took q hi (entries X p))) X))
      all h X held l k =
          let u = t.each X held l k in
          subst (λ fs. Encodes half img (put p (tree l fs) X)) (part_all i (entries X p) (omega (arith, u.0))) u.1

    -- ---- one entry

    -- it stays where it isn't inside the span
    pub untaken : (i l : ℕ) (X : Image) → EntryTakes q hi p i l X
        → at (entries X p) i ≡ took_by q (end_in hi (entries X p) i) (at (entries X p) i)
        → X ≡ put p (tree l (with_took i (entries X p))) X
    untaken i l X k same =
        let es : List Entry = entries X p in
        let whole : es ≡ with_took i es = sym (splice_same i es no_entry k.has.inside) ∙ ap (λ y. splice i (y ∷ []) es) same in
        sym (put_same X (k.has.tree_page.page ∙ ap (λ fs. tree l fs) whole))
