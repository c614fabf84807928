-- The root: it is cut as an entry, and where it becomes two it gets a new root. Assumes nothing.
use Prim.Native.Nat.{ℕ, ◌+◌, ◌≤◌, ◌<◌}
use mathlib.Core.Path.{◌≡◌, refl, sym, ap, ◌∙◌, subst, subst₂}
use mathlib.Core.Bool.{cond}
use mathlib.Core.List.{List, [], ◌∷◌}
use native.Mathlib.Numerals.{add-one}
use native.Mathlib.Omega.{arith}
use lib.ListN.{length}
use lib.Dec.{eqb}
use borrow.Author.Tests.{eq-eqb, ne_eqb, le-leb, lt-leb}
use Rattle.rule.specs.Pairs.{none}
use Rattle.rule.specs.Time.{END}
use Rattle.lists.proofs.Choices.{either}
use Rattle.std.specs.Prelude.{Option, Some, None}
use Rattle.page.specs.declared.Entry.{Entry}
use Rattle.page.specs.declared.Head.{Head}
use Rattle.page.specs.declared.Page.{Page}
use Rattle.page.specs.Entries.{entry}
use Rattle.page.specs.Decoded.{entry_list}
use Rattle.image.specs.Images.{Image, tree}
use Rattle.steps.specs.Supply.{put, with_supply, spare, taken, with_root}
use Rattle.steps.specs.Cut.{Cutting, cut_entry, root_entry, grow_root, grow_if_split, cut}
use Rattle.edit.specs.Contents.{HasEntries}
use Rattle.store.specs.Encoding.{Encodes}
use Rattle.cut.specs.declared.SplitOff.{SplitOff}
use Rattle.cut.specs.Answers.{became, CutAs}
use Rattle.cut.specs.Cuttable.{EntryCuttable, RootGrowable, from_root, RootCuttable}
use Rattle.cut.proofs.Splitting.{has_tree}
use Rattle.cut.proofs.Cutting.{cut_keeps}

pub cut_end : (half t : ℕ) (X : Image) → END ≤ t → cut half t X ≡ X
unfolding cut
cut_end half t X h = ap (λ b. cond b X (grow_if_split (from_root half t X))) (le-leb END t h)

pub cut_inside : (half t : ℕ) (X : Image) → t < END → cut half t X ≡ grow_if_split (from_root half t X)
unfolding cut
cut_inside half t X h = ap (λ b. cond b X (grow_if_split (from_root half t X))) (lt-leb END t h)

grown_one : (r : Cutting) → length r.became ≡ 1 → grow_if_split r ≡ r.image
unfolding grow_if_split
grown_one r n = rw (eq-eqb (length r.became) 1 n)

grown_two : (r : Cutting) → (length r.became ≡ 1 → ⊥) → grow_if_split r ≡ grow_root r.became r.image
unfolding grow_if_split
grown_two r n = rw (ne_eqb (length r.became) 1 n)

-- no cutting alters the height
height_taken : (h : ℕ) (X : Image) → X.head.height ≡ h → (taken X).head.height ≡ h
unfolding taken with_supply
height_taken h X e = either (λ (k : Head). k.height ≡ h) e e (eqb X.head.chain 0)

height_kept : (half t l : ℕ) (e : Entry) (X : Image) → (cut_entry half t l e X).image.head.height ≡ X.head.height
unfolding put
height_kept half t l e X =
    let h : ℕ = X.head.height in
    cut_keeps (λ Y. Y.head.height ≡ h) (λ p c Y k. k) (height_taken h) half t l e X refl

-- the new root is written
pub grow_root_holds : {half : ℕ} (X : Image) (es : List Entry) {q : ℕ} {page : Page} {after : List ℕ} → q ≡ spare X
    → HasEntries X.head.height es page
    → Encodes half after (put q (tree page.level (entry_list page)) (with_root (X.head.height + 1) q (taken X)))
    → Encodes half after (grow_root es X)
unfolding grow_root
grow_root_holds {half} X es {after = after} n s h =
    subst (Encodes half after) (λ j. put (n j) (has_tree s j) (with_root (add-one X.head.height j) (n j) (taken X))) h

-- ---- the root as an entry

module _ (half t : ℕ) (X : Image) {h : Head} (read : h ≡ X.head) where
  -- by the head that was read
  module _ {e : Entry} (made : e ≡ entry 0 none h.root) where
    root_is : e ≡ root_entry X
    unfolding root_entry
    root_is = made ∙ ap (λ (k : Head). entry 0 none k.root) read

    pub root_ready : RootCuttable half t X → EntryCuttable half h.height e t X
    root_ready r = subst₂ (λ (k : Head) x. EntryCuttable half k.height x t X) (sym read) (sym root_is) r.entry

    pub root_cut : {g : Option SplitOff} {after : List ℕ} → CutAs half e (cut_entry half t h.height e X) g after
        → CutAs half (root_entry X) (from_root half t X) g after
    root_cut {g} {after} m = subst₂ (λ (k : Head) x. CutAs half x (cut_entry half t k.height x X) g after) read root_is m

  module _ {right : SplitOff} {after : List ℕ} (r : CutAs half (root_entry X) (from_root half t X) (Some right) after) where
    two : length (from_root half t X).became ≡ 2
    unfolding became
    two = ap length (sym r.becomes)

    pub root_growable : RootCuttable half t X → RootGrowable (from_root half t X).image
    root_growable ready =
        record {
          takable = ready.room (omega (arith, two));
          low = omega (arith, ready.low, height_kept half t X.head.height (root_entry X) X);
        }

    pub root_two : {then : List ℕ} → t < END
        → Encodes half then (grow_root (entry 0 none h.root ∷ entry right.start none right.page ∷ []) (from_root half t X).image)
        → Encodes half then (cut half t X)
    unfolding became root_entry
    root_two {then} l m =
        subst (Encodes half then)
        (ap (λ (k : Head). grow_root (entry 0 none k.root ∷ entry right.start none right.page ∷ []) (from_root half t X).image) read
        ∙ ap (λ es. grow_root es (from_root half t X).image) r.becomes
        ∙ sym (cut_inside half t X l ∙ grown_two (from_root half t X) (λ one. omega (arith, two))))
        m

pub root_same : (half t : ℕ) (X : Image) {after : List ℕ} → t < END → CutAs half (root_entry X) (from_root half t X) None after
    → Encodes half after (cut half t X)
unfolding became
root_same half t X {after} l r =
    subst (Encodes half after) (sym (cut_inside half t X l ∙ grown_one (from_root half t X) (ap length (sym r.becomes)))) r.holds
