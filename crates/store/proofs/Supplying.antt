-- What a head that was read says of the image, and what taking a page, writing one and giving one back leave. Assumes nothing.
use Prim.Native.Nat.{ℕ, suc, ◌+◌, ◌-◌, ◌<◌}
use mathlib.Core.Path.{◌≡◌, refl, sym, ap, ◌∙◌, subst}
use mathlib.Core.Bool.{cond}
use mathlib.Core.List.{List}
use native.Mathlib.Numerals.{add-one}
use native.Mathlib.Omega.{arith}
use lib.Dec.{eqb}
use borrow.Author.Tests.{eq-eqb, ne_eqb}
use Rattle.lists.proofs.Choices.{either}
use Rattle.page.specs.declared.Head.{Head}
use Rattle.image.specs.Images.{Image, Cell, free, next_in}
use Rattle.steps.specs.Supply.{put, with_supply, spare, taken, given_back, with_root}
use Rattle.store.specs.Encoding.{Encodes, Pre, Post, Any, with_head}
use Rattle.store.specs.Preconditions.{InImage, Free, Takable}

-- ---- a head that was read

-- An image's head may be replaced by what was read of it.
pub by_head : {X : Image} {h : Head} (P : Image → Type 0) → h ≡ X.head → P (with_head h X) → P X
by_head {X} P e t = subst (λ k. P (with_head k X)) e t

-- some image with the head that was read
pub record Headed (half : ℕ) (img : List ℕ) (h : Head) (Ready : Image → Type 0) : Type 0 where
  pub image : Image
  pub holds : Encodes half img (with_head h image)
  pub ready : Ready (with_head h image)

pub some_headed : {half : ℕ} {img : List ℕ} {h : Head} {Ready : Image → Type 0} → Pre half img Ready → Post half img Any (λ X. h ≡ X.head)
    → Headed half img h Ready
some_headed {half} {img} {h} {Ready} s e =
    let X : Image = s.image in
    let q : X.head ≡ h = sym (e X s.holds tt) in
    record {
      image = X;
      holds = subst (λ k. Encodes half img (with_head k X)) q s.holds;
      ready = subst (λ k. Ready (with_head k X)) q
          s.ready;
    }

-- ---- taking a page

module _ (X : Image) (e : X.head.chain ≡ 0) where
  pub spare_marked : X.head.mark ≡ spare X
  unfolding spare
  spare_marked = ap (λ b. cond b X.head.mark X.head.free) (sym (eq-eqb X.head.chain 0 e))

  pub taken_marked : with_head (with_supply X.head.free X.head.chain (X.head.mark + 1) X.head) X ≡ taken X
  unfolding taken
  taken_marked =
      let h : Head = X.head in
      λ j. with_head (cond (sym (eq-eqb h.chain 0 e) j) (with_supply h.free h.chain (add-one h.mark j) h)
      (with_supply (next_in (X.page h.free)) (h.chain - 1) h.mark h)) X

module _ (X : Image) (e : X.head.chain ≡ 0 → ⊥) where
  pub spare_chained : X.head.free ≡ spare X
  unfolding spare
  spare_chained = ap (λ b. cond b X.head.mark X.head.free) (sym (ne_eqb X.head.chain 0 e))

  pub taken_chained : {next : ℕ} (f : Free (X.page X.head.free)) → next ≡ f.next
      → with_head (with_supply next (X.head.chain - 1) X.head.mark X.head) X ≡ taken X
  unfolding taken next_in
  taken_chained {next} f n =
      let h : Head = X.head in
      let q : next ≡ next_in (X.page h.free) = n ∙ ap next_in (sym f.is) in
      λ j. with_head (cond (sym (ne_eqb h.chain 0 e) j) (with_supply h.free h.chain (suc h.mark) h)
      (with_supply (q j) (h.chain - 1) h.mark h)) X

-- the page taken is one of the image's
pub marked_below : {X : Image} → X.head.chain ≡ 0 → Takable X → X.head.mark < X.head.pages
marked_below {X} e t = omega (arith, spare_marked X e, t.within.below)

pub chained_within : {X : Image} → (X.head.chain ≡ 0 → ⊥) → Takable X → InImage X.head.free X
chained_within {X} e t = subst (λ p. InImage p X) (sym (spare_chained X e)) t.within

-- ---- the image keeps its pages' number

module _ {q : ℕ} {X : Image} (w : InImage q X) where
  kept : {Y : Image} → Y.head.pages ≡ X.head.pages → InImage q Y
  kept same = record { least = w.least; below = omega (arith, w.below) }

  pub within_put : (p : ℕ) (c : Cell) → InImage q (put p c X)
  unfolding put
  within_put p c = kept refl

  pub within_taken : InImage q (taken X)
  unfolding taken with_supply
  within_taken = kept (either (λ (h : Head). h.pages ≡ X.head.pages) refl refl (eqb X.head.chain 0))

  pub within_given : (p : ℕ) → InImage q (given_back p X)
  unfolding given_back put with_supply
  within_given p = kept refl

  pub within_rooted : (height p : ℕ) → InImage q (with_root height p X)
  unfolding with_root
  within_rooted height p = kept refl

-- ---- giving one back

pub given_back_is : (p : ℕ) (X : Image)
    → put p (free X.head.free) (with_head (with_supply p (X.head.chain + 1) X.head.mark X.head) X) ≡ given_back p X
unfolding given_back
given_back_is p X = ap (λ k. put p (free X.head.free) (with_head (with_supply p k X.head.mark X.head) X))
    (add-one X.head.chain)
