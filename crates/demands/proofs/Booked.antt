-- What a change that is accepted leaves of a sound image: a sound image of the same size, with the effect in exactly the pairs of its span,
-- and the bytes of every page that the five steps don't name. Assumes nothing.
use Prim.Native.Nat.{ℕ, zero, suc, ◌*◌, ◌≤◌, ◌<◌}
use mathlib.Core.Path.{◌≡◌, refl, sym, ap, ◌∙◌}
use mathlib.Core.Bool.{true, cond}
use mathlib.Core.List.{List, [], Memᴰ}
use native.Mathlib.Nat.{mul-le-mul_left}
use native.Mathlib.Decide.{dec_le}
use native.Mathlib.Omega.{arith}
use lib.Dec.{eqb}
use lib.IntN.{ℤ}
use lib.ListN.{length, take, drop, drop_of_length-le}
use lib.Seq.{take-nil}
use borrow.Author.Tests.{eqb-false}
use Rattle.rule.specs.declared.Pair.{Pair}
use Rattle.rule.specs.Time.{END, effect_end, covers}
use Rattle.rule.specs.Pairs.{combine}
use Rattle.rule.specs.Bounds.{Effective}
use Rattle.fields.specs.Bytes.{Bytes, part}
use Rattle.page.specs.declared.Head.{Head}
use Rattle.page.specs.Layout.{page_size}
use Rattle.page.specs.Fit.{most_changes, most_height}
use Rattle.image.specs.Images.{Image, capacity_field, page_at, cell_bytes, image_of, image_bytes}
use Rattle.image.specs.Sound.{sound}
use Rattle.image.specs.Instant.{look_up}
use Rattle.soundness.proofs.Sound.{the_head, sound_facts, sound_old}
use Rattle.steps.specs.Change.{change, change_names}
use Rattle.calls.specs.Refusals.{borrowed}
use Rattle.calls.specs.Changes.{Side, effect}
use Rattle.calls.specs.Calls.{head, changed, book}
use Rattle.claims.specs.Accepted.{named}
use Rattle.calls.proofs.Changes.{effective}
use Rattle.tree.specs.Tree.{pair_at}
use Rattle.tree.specs.Cut.{State}
use Rattle.invariant.specs.Invariant.{Invariant}
use Rattle.invariant.proofs.From.Load.{state_in}
use Rattle.invariant.proofs.From.Invariant.{sound_invariant}
use Rattle.invariant.proofs.From.Canonical.{canonical}
use Rattle.invariant.proofs.From.Look.{look_invariant}
use Rattle.image.proofs.Capacity.{field_read}
use Rattle.image.proofs.Written.{bytes_written}
use Rattle.invariant.proofs.Change.{next, next_pairs, Changed, change_is, invariant_change}
use Rattle.invariant.proofs.To.Height.{height_most}
use Rattle.invariant.proofs.To.Sound.{length_written, page_written, head_read_back, invariant_sound, look_written}
use Rattle.demands.proofs.Book.Accepted.{Passed, passed}

-- ---- the image that it leaves

image_accepted : (half : ℕ) (side : Side) (v : ℤ) (s e : ℕ) (img scratch : List ℕ) → (book borrowed half side v s e img scratch).status ≡ 0
    → (book borrowed half side v s e img scratch).image ≡ changed half side v s e img
unfolding book
image_accepted half side v s e img scratch n = ap (λ k. cond (eqb k 0) (changed half side v s e img) img) n

-- ---- pages past the end

beyond : (half : ℕ) (img : List ℕ) (n p : ℕ) → length img ≡ page_size half * n → n ≤ p → page_at half img p ≡ []
unfolding page_at part
beyond half img n p e h =
    let o : ℕ = page_size half * p in
    let far : length img ≤ o = omega (arith, mul-le-mul_left (page_size half) h) in
    let none : drop o img ≡ [] = drop_of_length-le img far in
    ap (take (page_size half)) none ∙ take-nil (page_size half)

-- ---- what holds of it

pub record LeftByChange (half : ℕ) (side : Side) (v : ℤ) (s e : ℕ) (img img' : List ℕ) : Type 0 where
  pub bytes : Bytes img'
  pub sound : sound half img' ≡ true
  pub size : length img' ≡ length img
  pub kind : (head half img').kind ≡ (head half img).kind
  pub window : (head half img').window ≡ (head half img).window
  pub changes : (head half img').changes ≡ suc (head half img).changes
  pub capacity : capacity_field img' ≡ capacity_field img
  pub pairs : (t : ℕ) → t < END
      → (look_up half img' t).pair
      ≡ cond (covers s (effect_end e (head half img).window) t)
      (combine (head half img).kind (look_up half img t).pair (effect side v)) (look_up half img t).pair
  pub frame : (p : ℕ) → ¬ Memᴰ p (named half side v s e img) → page_at half img' p ≡ page_at half img p

module _ {half : ℕ} (two : 2 ≤ half) (side : Side) (v : ℤ) (s e : ℕ) (img : List ℕ) {scratch : List ℕ} (b : Bytes img)
    (a : Passed half side v s e img scratch) where
  some : 1 ≤ half
  some = omega (arith, two)

  abbrev X : Image
  X = image_of half img

  abbrev Y : State
  Y = state_in half img

  abbrev end : ℕ
  end = effect_end e X.head.window

  g : Invariant half X Y
  g = sound_invariant half img some a.whole

  abbrev added : Pair
  added = effect side v

  abbrev Z : Image
  Z = change half (combine X.head.kind) s end added X

  -- the tree that it shows
  abbrev U : State
  U = next two s end added g

  f : Effective X.head.kind added
  unfolding head image_of
  f = effective X.head.kind side v a.value a.sided

  few : X.head.changes < most_changes
  unfolding head image_of
  few = omega (arith, eqb-false X.head.changes most_changes a.few, g.structure.changes_most)

  g' : Invariant half Z U
  unfolding head image_of
  g' = invariant_change two s end added g f few a.pages

  c : Changed half s end added X Y
  unfolding head image_of
  c = change_is two s end added g f few a.pages

  -- the bytes that it had before are those of its cells
  was : image_bytes half X ≡ img
  was = canonical half img some b (sound_old half img a.whole)

  tall : X.head.height ≤ most_height
  tall = height_most X Y g.structure two

  tall' : Z.head.height ≤ most_height
  tall' = height_most Z U g'.structure two

  kept_page : (p : ℕ) → 1 ≤ p → p < X.head.pages → Z.page p ≡ X.page p → page_at half (image_bytes half Z) p ≡ page_at half img p
  kept_page p l r same =
      page_written half Z U some g'.structure tall' p l (omega (arith, c.pages))
      ∙ ap (cell_bytes half) same
      ∙ sym (page_written half X Y some g.structure tall p l r)
      ∙ ap (λ i. page_at half i p) was

  size : length img ≡ page_size half * X.head.pages
  size = ap length (sym was) ∙ length_written half X Y some g.structure tall

  size' : length (image_bytes half Z) ≡ page_size half * X.head.pages
  size' = length_written half Z U some g'.structure tall' ∙ ap (λ n. page_size half * n) c.pages

  far_page : (p : ℕ) → X.head.pages ≤ p → page_at half (image_bytes half Z) p ≡ page_at half img p
  far_page p h = beyond half (image_bytes half Z) X.head.pages p size' h ∙ sym (beyond half img X.head.pages p size h)

  framed : (p : ℕ) → ¬ Memᴰ p (change_names half (combine X.head.kind) s end added X)
      → page_at half (image_bytes half Z) p ≡ page_at half img p
  unfolding change_names
  framed zero h = absurd (h (Memᴰ.head refl))
  framed (suc p) h = go (dec_le X.head.pages (suc p)) (c.frame (suc p) h)
    where
      go : Dec (X.head.pages ≤ suc p) → Z.page (suc p) ≡ X.page (suc p)
          → page_at half (image_bytes half Z) (suc p) ≡ page_at half img (suc p)
      go (yes r) same = far_page (suc p) r
      go (no r) same = kept_page (suc p) (omega arith) (omega arith) same

  paired : (t : ℕ) → t < END
      → (look_up half (image_bytes half Z) t).pair
      ≡ cond (covers s end t) (combine X.head.kind (look_up half img t).pair (effect side v)) (look_up half img t).pair
  unfolding image_of
  paired t below =
      let k : (the_head half (image_bytes half Z)).kind ≡ X.head.kind =
      ap (λ (h : Head). h.kind) (head_read_back half Z U some g'.structure tall') ∙ c.kind in
      let before : (look_up half img t).pair ≡ pair_at (combine X.head.kind) Y.tree t =
      (look_invariant half img some (sound_facts half img (sound_old half img a.whole)) Y g.structure.shown t).looked.pair in
      (look_written half Z U some g'.structure tall' t).looked.pair
      ∙ ap (λ n. pair_at (combine n) U.tree t) k
      ∙ next_pairs two s end added g t below
      ∙ ap (λ q. cond (covers s end t) (combine X.head.kind q (effect side v)) q) (sym before)

  change_leaves : LeftByChange half side v s e img (changed half side v s e img)
  unfolding changed head image_of named
  change_leaves =
      let h = head_read_back half Z U some g'.structure tall' in
      record {
        bytes = bytes_written half Z;
        sound = invariant_sound half Z U some g' tall';
        size = size' ∙ sym size;
        kind = ap (λ (k : Head). k.kind) h ∙ c.kind;
        window = ap (λ (k : Head). k.window) h ∙ c.window;
        changes = ap (λ (k : Head). k.changes) h ∙ c.changes;
        capacity = sym (field_read half (image_bytes half Z) some) ∙ ap (λ (k : Head). k.capacity) h ∙ c.capacity ∙ field_read half img some;
        pairs = paired;
        frame = framed;
      }

-- by the status that it returned
pub booked : {half : ℕ} → 2 ≤ half → (side : Side) (v : ℤ) (s e : ℕ) (img scratch : List ℕ) → Bytes img
    → (book borrowed half side v s e img scratch).status ≡ 0
    → LeftByChange half side v s e img (book borrowed half side v s e img scratch).image
booked {half} two side v s e img scratch b n =
    rw (image_accepted half side v s e img scratch n)
    (change_leaves two side v s e img b (passed half side v s e img scratch n))
