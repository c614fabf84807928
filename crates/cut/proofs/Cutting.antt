-- An entry whose page is on the path to an instant: what was found in the page, and what the entry becomes. Assumes nothing.
use Prim.Native.Nat.{ℕ, zero, suc, ◌-◌}
use mathlib.Core.Path.{◌≡◌, refl, sym, ap, ◌∙◌, subst, subst⁻¹}
use mathlib.Core.List.{List}
use native.Mathlib.Omega.{arith}
use lib.ListN.{length}
use lib.Dec.{leb, eqb}
use borrow.Author.Tests.{eq-eqb, ne_eqb}
use Rattle.std.specs.Prelude.{Option, Some, None}
use Rattle.page.specs.declared.Entry.{Entry}
use Rattle.page.specs.Entries.{at, index_of}
use Rattle.lists.specs.Lists.{splice}
use Rattle.lists.proofs.Choices.{either}
use Rattle.page.specs.Layout.{capacity}
use Rattle.image.specs.Images.{Image, Cell, tree, entries_in}
use Rattle.steps.specs.Supply.{entries, put, taken}
use Rattle.steps.specs.Cut.{Cutting, cut_leaf_entry, not_split, split, split_if_full, cut_entry}
use Rattle.store.specs.declared.Found.{Found}
use Rattle.store.specs.Encoding.{Encodes, PostLevel}
use Rattle.store.specs.Preconditions.{InImage, Searchable, found_in, entry_for}
use Rattle.page.proofs.Laws.Indices.{index_in}
use Rattle.store.proofs.Supplying.{within_put, within_taken}
use Rattle.cut.specs.declared.SplitOff.{SplitOff}
use Rattle.cut.specs.Answers.{became, inserted_after, CutAs}
use Rattle.cut.specs.Cuttable.{Insertable, below, PageCuttable, EntryCuttable}
use Rattle.cut.proofs.Splitting.{told, cut_as}

-- ---- what a cutting leaves as it is: all that putting a page and taking one do

module _ (P : Image → Type 0) (puts : (p : ℕ) (c : Cell) (X : Image) → P X → P (put p c X)) (takes : (X : Image) → P X → P (taken X)) where
  split_if_full_keeps : (half level : ℕ) (e : Entry) (es : List Entry) (X : Image) → P X → P (split_if_full half level e es X).image
  unfolding split_if_full not_split split
  split_if_full_keeps half level e es X h =
      either (λ (c : Cutting). P c.image) {x = not_split level e es X} {y = split half level e es X} (puts _ _ _ h)
      (puts _ _ _ (puts _ _ _ (takes _ h))) (leb (length es) (capacity half))

  pub cut_keeps : (half t l : ℕ) (e : Entry) (X : Image) → P X → P (cut_entry half t l e X).image
  unfolding cut_entry
  cut_keeps half t zero e X h = h
  cut_keeps half t (suc l) e X h =
      let es : List Entry = entries X e.child in
      let i : ℕ = index_of t es in
      let r : Cutting = cut_entry half t l (at es i) X in
      let k : P r.image = cut_keeps half t l (at es i) X h in
      either (λ (c : Cutting). P c.image) k (split_if_full_keeps half l e (splice i r.became es) r.image k)
      (eqb (length r.became) 1)

-- ---- a leaf's entry

module _ (e : Entry) (t : ℕ) where
  pub leaf_same : e.start ≡ t → became e None ≡ cut_leaf_entry t e
  unfolding became cut_leaf_entry
  leaf_same s = sym (rw (eq-eqb e.start t s))

  pub leaf_two : (e.start ≡ t → ⊥) → became e (Some (record { start = t; page = e.child })) ≡ cut_leaf_entry t e
  unfolding became cut_leaf_entry
  leaf_two s = sym (rw (ne_eqb e.start t s))

  pub leaf_as : {half level : ℕ} {X : Image} {g : Option SplitOff} {after : List ℕ} → level ≡ 0 → became e g ≡ cut_leaf_entry t e
      → Encodes half after X
      → CutAs half e (cut_entry half t level e X) g after
  unfolding cut_entry
  leaf_as {half} {level} {X} {g} {after} z b h =
      subst⁻¹ (λ l. CutAs half e (cut_entry half t l e X) g after) z (record { becomes = b; holds = h })

-- ---- an inner one: it goes by what the entry of its page that has t becomes

-- the level of its page
at_inner : (P : ℕ → Type 0) {level : ℕ} → (level ≡ 0 → ⊥) → P (suc (level - 1)) → P level
at_inner P {level} d p =
    let n : suc (level - 1) ≡ level = omega arith in
    subst P n p

pub page_cuttable : {half level : ℕ} (e : Entry) {t : ℕ} {X : Image} → (level ≡ 0 → ⊥) → EntryCuttable half level e t X
    → PageCuttable half (level - 1) e.child t X × EntryCuttable half (level - 1) (entry_for t e.child X) t X
unfolding EntryCuttable
page_cuttable {half} {level} e {t} {X} d r =
    let n : level ≡ suc (level - 1) = omega arith in
    subst (λ l. EntryCuttable half l e t X) n r

-- what a search for t found in the page of e, and what it leads to
pub record Searched (half : ℕ) (e : Entry) (level t : ℕ) (X : Image) (f : Found) : Type 0 where
  pub inner : level ≡ 0 → ⊥
  pub page : PageCuttable half (level - 1) e.child t X
  pub below : EntryCuttable half (level - 1) f.entry t X
  pub index : f.index ≡ index_of t (entries X e.child)
  pub entry : f.entry ≡ entry_for t e.child X

pub searched : {half : ℕ} {img : List ℕ} {level t : ℕ} {X : Image} {f : Found} (e : Entry) (hi : ℕ) → (level ≡ 0 → ⊥) → Encodes half img X
    → EntryCuttable half level e t X
    → PostLevel half img (λ l. Searchable l e.child t) (λ l Y. f ≡ found_in hi t (entries Y e.child))
    → Searched half e level t X f
unfolding found_in
searched {half} {level = level} {t} {X} e hi d h r finds =
    let k = page_cuttable e d r in
    let found = finds X h (level - 1) k.0.searchable in
    record {
      inner = d;
      page = k.0;
      below = subst⁻¹ (λ (g : Found). EntryCuttable half (level - 1) g.entry t X) found k.1;
      index = ap (λ (g : Found). g.index) found;
      entry = ap (λ (g : Found). g.entry) found;
    }

module _ {half : ℕ} {e : Entry} {level t : ℕ} {X : Image} {f : Found} (k : Searched half e level t X f) where
  abbrev under : Cutting
  under = below half (level - 1) e.child t X

  -- what it leads to is cut, with the answer that a match has told
  pub found_cut : {g g' : Option SplitOff} {after : List ℕ} → g ≡ g'
      → CutAs half f.entry (cut_entry half t (level - 1) f.entry X) g after
      → CutAs half f.entry under g' after
  found_cut same b = told same (cut_as (ap (λ x. cut_entry half t (level - 1) x X) k.entry) b)

  -- the entry stayed one, and so does e
  pub found_same : {after : List ℕ} → CutAs half f.entry under None after → CutAs half e (cut_entry half t level e X) None after
  unfolding became cut_entry
  found_same {after} b =
      at_inner (λ n. CutAs half e (cut_entry half t n e X) None after) k.inner
      (rw (eq-eqb (length under.became) 1 (ap length (sym b.becomes))) (record { becomes = refl; holds = b.holds }))

  module _ {right : SplitOff} {after : List ℕ} (b : CutAs half f.entry under (Some right) after) where
    abbrev r : PageCuttable half (level - 1) e.child t X
    r = k.page

    two : length under.became ≡ 2
    unfolding became
    two = ap length (sym b.becomes)

    -- the page's entries are those that were searched
    same_entries : entries under.image e.child ≡ entries X e.child
    unfolding entries
    same_entries = ap entries_in r.kept

    -- it became two: the page can gain an entry
    pub found_insertable : Insertable half (level - 1) e.child f.index under.image
    found_insertable =
        let p = e.child in
        let s = r.searchable in
        let n : length (entries under.image p) ≡ length (entries X p) = ap length same_entries in
        record {
          has_entry =
              record {
                tree_page =
                    record {
                      within =
                          cut_keeps (InImage p) (λ q c Y v. within_put v q c) (λ Y v. within_taken v) half t (level - 1)
                          (entry_for t p X) X
                          s.tree_page.within;
                      page = r.kept ∙ s.tree_page.page ∙ ap (tree (level - 1)) (sym same_entries);
                    };
                inside = omega (arith, n, k.index, index_in t (entries X p) s.some);
              };
          low = r.low;
          room = λ many. r.room (omega (arith, two)) (omega (arith, n));
        }

    gained : inserted_after f.index right (entries under.image e.child) ≡
        splice (index_of t (entries X e.child)) under.became (entries X e.child)
    unfolding inserted_after
    gained =
        let x : at (entries under.image e.child) f.index ≡ f.entry =
        (λ j. at (same_entries j) (k.index j)) ∙ sym k.entry in
        let both : became (at (entries under.image e.child) f.index) (Some right) ≡ under.became =
        ap (λ y. became y (Some right)) x ∙ b.becomes in
        λ j. splice (k.index j) (both j) (same_entries j)

    -- and e becomes what the cutting says
    pub found_two : {g : Option SplitOff} {then : List ℕ}
        → CutAs half e (split_if_full half (level - 1) e (inserted_after f.index right (entries under.image e.child))
        under.image) g then
        → CutAs half e (cut_entry half t level e X) g then
    unfolding cut_entry
    found_two {g} {then} m =
        at_inner (λ n. CutAs half e (cut_entry half t n e X) g then) k.inner
        (rw (ne_eqb (length under.became) 1 (λ one. omega (arith, two)))
        (cut_as (λ j. split_if_full half (level - 1) e (gained j) under.image) m))
