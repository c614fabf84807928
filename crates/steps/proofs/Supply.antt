-- What each small change of an image leaves of its pages and its head. Assumes nothing.
use Prim.Native.Nat.{ℕ}
use mathlib.Core.Path.{◌≡◌, refl, sym, ap, ◌∙◌}
use mathlib.Core.Bool.{Bool, true, false, cond}
use lib.Dec.{eqb}
use borrow.Author.Tests.{eqb-true, eq-eqb, ne_eqb}
use Rattle.lists.proofs.Choices.{cond_one}
use Rattle.image.specs.Images.{Image, Cell}
use Rattle.steps.specs.Supply.{put, taken, with_root}

module _ (p : ℕ) (c : Cell) (X : Image) where
  pub put_at : (put p c X).page p ≡ c
  unfolding put
  put_at = rw (eq-eqb p p refl)

  pub put_other : (q : ℕ) → (q ≡ p → ⊥) → (put p c X).page q ≡ X.page q
  unfolding put
  put_other q d = rw (ne_eqb q p d)

  pub put_head : (put p c X).head ≡ X.head
  unfolding put
  put_head = refl

-- only the last write to a page counts
pub put_again : (p : ℕ) (c d : Cell) (X : Image) → put p c (put p d X) ≡ put p c X
unfolding put
put_again p c d X = λ j. record { head = X.head; page = λ q. over (eqb q p) (X.page q) j }
  where
    over : (b : Bool) (old : Cell) → cond b c (cond b d old) ≡ cond b c old
    over true old = refl
    over false old = refl

-- and not one of what stands there
pub put_same : {p : ℕ} {c : Cell} (X : Image) → X.page p ≡ c → put p c X ≡ X
unfolding put
put_same {p} {c} X h = λ j. record { head = X.head; page = λ q. still q j }
  where
    still : (q : ℕ) → cond (eqb q p) c (X.page q) ≡ X.page q
    still q = cond_one (λ d. d ≡ X.page q) (eqb q p) (λ e. sym h ∙ ap X.page (sym (eqb-true q p e))) (λ e. refl)

pub taken_page : (X : Image) → (taken X).page ≡ X.page
unfolding taken
taken_page X = refl

module _ (h p : ℕ) (X : Image) where
  pub rooted_page : (with_root h p X).page ≡ X.page
  unfolding with_root
  rooted_page = refl

  pub rooted_height : (with_root h p X).head.height ≡ h
  unfolding with_root
  rooted_height = refl

  pub rooted_root : (with_root h p X).head.root ≡ p
  unfolding with_root
  rooted_root = refl
