-- The loop in which the entries of a page send the effect below: those passed have, and the page itself is as it was. Assumes nothing.
use Prim.Native.Nat.{ℕ, zero, suc, ◌+◌, ◌≤◌, ◌<◌}
use mathlib.Core.Path.{◌≡◌, refl, sym, ap, ◌∙◌, subst, subst⁻¹, subst₂}
use mathlib.Core.List.{List, [], ◌∷◌}
use native.Mathlib.Numerals.{add-one}
use native.Mathlib.Omega.{arith}
use lib.ListN.{length}
use Rattle.page.specs.declared.Entry.{Entry}
use Rattle.page.specs.Entries.{at}
use Rattle.page.specs.Layout.{capacity}
use Rattle.image.specs.Images.{Image, tree, entries_in}
use Rattle.steps.specs.Supply.{entries, put}
use Rattle.steps.specs.Combine.{next_start, combine_entries, end_in}
use Rattle.store.specs.Encoding.{Encodes, Pre, Post, PreLevel, PostLevel}
use Rattle.store.specs.Preconditions.{TreePage, HasEntry}
use Rattle.store.proofs.Encoding.{same_pages}
use Rattle.store.proofs.Chains.{some_then}
use Rattle.combine_span.specs.declared.SpanEffect.{SpanEffect}
use Rattle.combine_span.specs.SpanCombinable.{all_took, page_by, sent_by, Takes, EntriesCombinable, BelowCombinable}
use Rattle.combine_span.specs.SpanCombinable.{PageTakes, PageCombinable, EntryCombinable}
use Rattle.combine_span.proofs.Laws.{all_sent, none_sent, page_whole}

-- ---- a page that stays as it was

entries_still : (p : ℕ) (X Y : Image) → Y.page p ≡ X.page p → entries Y p ≡ entries X p
unfolding entries
entries_still p X Y same = ap entries_in same

-- in bytes of the same length it is one of the image's as before
tree_still : {half level p : ℕ} {img img' : List ℕ} {X Y : Image} → Encodes half img X → Encodes half img' Y
    → length img' ≡ length img
    → Y.page p ≡ X.page p
    → TreePage level p X
    → TreePage level p Y
tree_still {level = level} {p} {X = X} {Y} h k size same t =
    record {
      within = record { least = t.within.least; below = omega (arith, same_pages h k size, t.within.below) };
      page = same ∙ t.page ∙ ap (λ es. tree level es) (sym (entries_still p X Y same));
    }

module _ (q : SpanEffect) (level hi p : ℕ) where
  abbrev Start : Image → Type 0
  Start = PageCombinable q level hi p

  abbrev Ready : List Entry → Image → Type 0
  Ready = EntriesCombinable q (BelowCombinable q level) level hi p

  -- ---- the image after i of these entries

  pub part_sent : ℕ → List Entry → Image → Image
  part_sent zero es X = X
  part_sent (suc i) [] X = X
  part_sent (suc i) (x ∷ xs) X = part_sent i xs (sent_by q level (next_start hi xs) x X)

  part_kept : (i : ℕ) (es : List Entry) (X : Image) → Ready es X → (part_sent i es X).page p ≡ X.page p
  unfolding part_sent EntriesCombinable
  part_kept zero es X r = refl
  part_kept (suc i) [] X r = refl
  part_kept (suc i) (x ∷ xs) X r = part_kept i xs _ r.3 ∙ r.2

  part_sends : (i : ℕ) (es : List Entry) (X : Image) → Ready es X → i < length es
      → EntryCombinable q level (end_in hi es i) (at es i) (part_sent i es X)
  unfolding part_sent EntriesCombinable
  part_sends i [] X r h = absurd (omega arith)
  part_sends zero (x ∷ xs) X r h = r.1
  part_sends (suc i) (x ∷ xs) X r h = part_sends i xs _ r.3 (omega arith)

  part_more : (i : ℕ) (es : List Entry) (X : Image) → i < length es
      → sent_by q level (end_in hi es i) (at es i) (part_sent i es X) ≡ part_sent (suc i) es X
  unfolding part_sent
  part_more i [] X h = absurd (omega arith)
  part_more zero (x ∷ xs) X h = refl
  part_more (suc i) (x ∷ xs) X h = part_more i xs _ (omega arith)

  part_all : (i : ℕ) (es : List Entry) (X : Image) → length es ≤ i → part_sent i es X ≡ all_sent q hi level es X
  unfolding part_sent combine_entries
  part_all zero [] X h = refl
  part_all zero (x ∷ xs) X h = absurd (omega arith)
  part_all (suc i) [] X h = refl
  part_all (suc i) (x ∷ xs) X h = part_all i xs _ (omega arith)

  -- each of them can take the effect where it lies inside
  each_takes : (es : List Entry) (X : Image) → Ready es X → (i : ℕ) → i < length es → Takes q (end_in hi es i) (at es i)
  unfolding EntriesCombinable
  each_takes [] X r i h = absurd (omega arith)
  each_takes (x ∷ xs) X r zero h = r.0
  each_takes (x ∷ xs) X r (suc i) h = each_takes xs _ r.3 i (omega arith)

  -- ---- the loop

  abbrev sent_of : ℕ → Image → Image
  sent_of i X = part_sent i (entries X p) X

  kept_of : (i : ℕ) (X : Image) → Start X → (sent_of i X).page p ≡ X.page p
  kept_of i X r = part_kept i (entries X p) X r.each

  -- After i entries of the page: so it goes for every image that the bytes held.
  pub record Sending (half : ℕ) (img₀ : List ℕ) (n i : ℕ) (img : List ℕ) : Type 0 where
    pub same : length img ≡ length img₀
    pub each : Post half img₀ Start (λ X. (n ≡ length (entries X p)) × Encodes half img (sent_of i X))

  pub none : {half : ℕ} {img : List ℕ} {n : ℕ}
      → PostLevel half img (λ l. TreePage l p) (λ l X. (n ≡ length (entries X p)) × (n ≤ capacity half))
      → Sending half img n 0 img
  unfolding part_sent
  none count = record { same = refl; each = λ X h r. ((count X h level r.tree_page).0, h) }

  -- After all of them.
  pub record Sent (half : ℕ) (img₀ img : List ℕ) : Type 0 where
    pub same : length img ≡ length img₀
    pub each : Post half img₀ Start (λ X. Encodes half img (all_sent q hi level (entries X p) X))

  pub leaf_sent : {half : ℕ} {img : List ℕ} → level ≡ 0 → Sent half img img
  leaf_sent {half} {img} e =
      record {
        same = refl;
        each = λ X h r. subst⁻¹ (Encodes half img) (ap (λ l. all_sent q hi l (entries X p) X) e ∙ none_sent q hi (entries X p) X) h;
      }

  module _ {half : ℕ} {img₀ : List ℕ} {n i : ℕ} {img : List ℕ} (t : Sending half img₀ n i img) where
    module _ (h : i < n) where
      has : (X : Image) → Encodes half img₀ X → Start X → HasEntry level p i (sent_of i X)
      has X k r =
          let u = t.each X k r in
          let page = kept_of i X r in
          record {
            tree_page = tree_still k u.1 t.same page r.tree_page;
            inside = omega (arith, u.0, ap length (entries_still p X (sent_of i X) page));
          }

      pub some_has : Pre half img₀ Start → PreLevel half img (λ l. HasEntry l p i)
      some_has s = some_then (λ X k r. (t.each X k r).1) (λ X k r. (level, has X k r)) s

      -- the next entry and its end, as they were read
      module _ {x : Entry} {end : ℕ} (read : PostLevel half img (λ l. HasEntry l p i) (λ l Y. x ≡ at (entries Y p) i))
          (ended : PostLevel half img (λ l. HasEntry l p i) (λ l Y. end ≡ end_in hi (entries Y p) i)) where
        entry_is : (X : Image) → Encodes half img₀ X → Start X → x ≡ at (entries X p) i
        entry_is X k r = read _ (t.each X k r).1 level (has X k r) ∙ ap (λ es. at es i) (entries_still p X _ (kept_of i X r))

        end_is : (X : Image) → Encodes half img₀ X → Start X → end ≡ end_in hi (entries X p) i
        end_is X k r = ended _ (t.each X k r).1 level (has X k r) ∙ ap (λ es. end_in hi es i) (entries_still p X _ (kept_of i X r))

        ready : (X : Image) → Encodes half img₀ X → Start X → EntryCombinable q level end x (sent_of i X)
        ready X k r =
            subst₂ (λ b y. EntryCombinable q level b y (sent_of i X)) (sym (end_is X k r)) (sym (entry_is X k r))
            (part_sends i (entries X p) X r.each (omega (arith, (t.each X k r).0)))

        pub sends : Pre half img₀ Start → Pre half img (EntryCombinable q level end x)
        sends s = some_then (λ X k r. (t.each X k r).1) ready s

        pub more : {img' : List ℕ} → Post half img (EntryCombinable q level end x) (λ Y. Encodes half img' (sent_by q level end x Y))
            → length img' ≡ length img → Sending half img₀ n (i + 1) img'
        more {img'} sent e =
            record {
              same = e ∙ t.same;
              each =
                  λ X k r.
                  let u = t.each X k r in (
                    u.0,
                    subst (Encodes half img') ((λ j. sent_by q level (end_is X k r j) (entry_is X k r j) (sent_of i X))
                        ∙ part_more i (entries X p) X (omega (arith, u.0)) ∙ ap (λ m. sent_of m X) (sym (add-one i)))
                        (sent (sent_of i X) u.1 (ready X k r)),
                  );
            }

    pub all_sent_of : n ≤ i → Sent half img₀ img
    all_sent_of h =
        record {
          same = t.same;
          each = λ X k r. let u = t.each X k r in subst (Encodes half img) (part_all i (entries X p) X (omega (arith, u.0))) u.1;
        }

  -- ---- and then they take the effect themselves

  module _ {half : ℕ} {img₀ img : List ℕ} (t : Sent half img₀ img) where
    page_then : (X : Image) → Start X → (all_sent q hi level (entries X p) X).page p ≡ X.page p
    page_then X r = subst (λ Y. Y.page p ≡ X.page p) (part_all _ (entries X p) X (omega arith)) (kept_of (length (entries X p)) X r)

    takes_then : (X : Image) → Encodes half img₀ X → Start X → PageTakes q hi p level (all_sent q hi level (entries X p) X)
    takes_then X h r =
        let page = page_then X r in
        record {
          tree_page = tree_still h (t.each X h r) t.same page r.tree_page;
          each =
              subst⁻¹ (λ es. (i : ℕ) → i < length es → Takes q (end_in hi es i) (at es i)) (entries_still p X _ page)
              (each_takes (entries X p) X r.each);
        }

    pub can_take : Pre half img₀ Start → PreLevel half img (PageTakes q hi p)
    can_take s = some_then t.each (λ X h r. (level, takes_then X h r)) s

    pub took : {img' : List ℕ} → PostLevel half img (PageTakes q hi p)
        (λ l Y. Encodes half img' (put p (tree l (all_took q hi (entries Y p))) Y))
        → Post half img₀ Start (λ X. Encodes half img' (page_by q level hi p X))
    took {img'} take X h r =
        let Y : Image = all_sent q hi level (entries X p) X in
        subst (Encodes half img') (ap (λ es. put p (tree level (all_took q hi es)) Y) (entries_still p X Y (page_then X r))
        ∙ page_whole q hi level p X) (take Y (t.each X h r) level (takes_then X h r))
