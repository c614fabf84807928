-- A page that gains an entry, written as one page or as two. Assumes nothing.
use Prim.Native.Nat.{ℕ, suc, ◌+◌, ◌≤◌, ◌<◌}
use mathlib.Core.Path.{◌≡◌, refl, sym, ap, ◌∙◌, subst}
use mathlib.Core.Bool.{Bool, cond}
use mathlib.Core.List.{List, [], ◌∷◌}
use native.Mathlib.Numerals.{add-one}
use native.Mathlib.Omega.{arith}
use lib.ListN.{length, take, drop, length-drop}
use lib.Seq.{length-take-le}
use borrow.Author.Tests.{le-leb, lt-leb}
use Rattle.std.specs.Prelude.{Option, Some, None}
use Rattle.page.specs.declared.Entry.{Entry}
use Rattle.page.specs.declared.Page.{Page}
use Rattle.page.specs.Entries.{entry, at, inserted}
use Rattle.page.specs.Layout.{capacity}
use Rattle.page.specs.Decoded.{entry_list}
use Rattle.image.specs.Images.{Image, tree}
use Rattle.steps.specs.Supply.{put, spare, taken}
use Rattle.steps.specs.Cut.{Cutting, not_split, split, split_if_full}
use Rattle.edit.specs.Contents.{HasEntries}
use Rattle.edit.proofs.Edits.{has_len, splice_inserted}
use Rattle.store.specs.Encoding.{Encodes}
use Rattle.store.specs.Preconditions.{InImage, Takable}
use Rattle.store.proofs.Supplying.{within_taken}
use Rattle.cut.specs.declared.SplitOff.{SplitOff}
use Rattle.cut.specs.Answers.{became, inserted_after, CutAs}

-- the answer that a match has told, and the same cutting in other words
pub told : {half : ℕ} {e : Entry} {c : Cutting} {g g' : Option SplitOff} {after : List ℕ} → g ≡ g' → CutAs half e c g after
    → CutAs half e c g' after
told {half} {e} {c} {after = after} same m = subst (λ r. CutAs half e c r after) same m

pub cut_as : {half : ℕ} {e : Entry} {c c' : Cutting} {g : Option SplitOff} {after : List ℕ} → c ≡ c' → CutAs half e c g after
    → CutAs half e c' g after
cut_as {half} {e} {g = g} {after} same m = subst (λ c. CutAs half e c g after) same m

pub has_tree : {l : ℕ} {es : List Entry} {r : Page} → HasEntries l es r → tree r.level (entry_list r) ≡ tree l es
has_tree s = λ j. tree (s.level j) (s.entries j)

-- ---- the two halves

module _ (half : ℕ) {l : ℕ} (es : List Entry) {part : Page} (n : length es ≡ suc (capacity half)) where
  pub left_len : HasEntries l (take half es) part → part.len ≡ half
  left_len s = has_len s ∙ length-take-le half es (omega arith)

  pub right_len : HasEntries l (drop half es) part → part.len ≡ suc half
  right_len s = omega (arith, has_len s, length-drop half es)

-- the taken page is one of the image's
pub spare_within : {q : ℕ} {X : Image} → q ≡ spare X → Takable X → InImage q (taken X)
spare_within {X = X} n t = within_taken (subst (λ k. InImage k X) (sym n) t.within)

-- ---- one page or two

abbrev decided : ℕ → Entry → ℕ → List Entry → Image → Bool → Cutting
decided half e level es X b = cond b (not_split level e es X) (split half level e es X)

module _ (half : ℕ) (e : Entry) (level : ℕ) (es : List Entry) (X : Image) {after : List ℕ} where
  -- what a page can hold is saved
  pub saved_as : length es ≤ capacity half → Encodes half after (put e.child (tree level es) X)
      → CutAs half e (split_if_full half level e es X) None after
  unfolding split_if_full not_split became
  saved_as few h = cut_as (ap (decided half e level es X) (sym (le-leb (length es) (capacity half) few)))
      (record { becomes = refl; holds = h })

  -- "a split keeps K/2 and moves K/2 + 1", "the parent gains an entry with the same pair"
  pub split_as : {q start : ℕ} {left right : Page} → HasEntries level (take half es) left → HasEntries level (drop half es) right
      → q ≡ spare X → start ≡ (at (entry_list right) 0).start
      → Encodes half after (put q (tree right.level (entry_list right))
      (put e.child (tree left.level (entry_list left)) (taken X)))
      → CutAs half e (split half level e es X) (Some (record { start = start; page = q })) after
  unfolding split became
  split_as {q} {start} l r n s h =
      let first : start ≡ (at (drop half es) 0).start = s ∙ ap (λ xs. (at xs 0).start) r.entries in
      record {
        becomes = λ j. e ∷ entry (first j) e.pair (n j) ∷ [];
        holds = subst (Encodes half after) (λ j. put (n j) (has_tree r j) (put e.child (has_tree l j) (taken X))) h;
      }

  pub halved_as : {r : Option SplitOff} → capacity half < length es → CutAs half e (split half level e es X) r after
      → CutAs half e (split_if_full half level e es X) r after
  unfolding split_if_full
  halved_as many m = cut_as (ap (decided half e level es X) (sym (lt-leb (length es) (capacity half) many))) m

-- ---- an entry that becomes two

-- the new one stands behind its old one, with the same pair
pub inserted_after_is : (i : ℕ) (right : SplitOff) (es : List Entry) {new : Entry} → i < length es
    → new ≡ entry right.start (at es i).pair right.page
    → inserted (i + 1) new es ≡ inserted_after i right es
unfolding inserted_after became
inserted_after_is i right es h same =
    (λ j. inserted (add-one i j) (same j) es)
    ∙ sym (splice_inserted i (at es i) (entry right.start (at es i).pair right.page) es h refl)
