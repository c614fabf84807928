-- Pages written one after another: which writes count, and what a page holds then. Assumes nothing.
use mathlib.Core.Path.{◌≡◌, refl, sym, ap, ◌∙◌}
use mathlib.Core.Bool.{Bool, true, false, cond}
use mathlib.Core.List.{List}
use Prim.Native.Nat.{ℕ, suc}
use native.Mathlib.Omega.{arith}
use lib.Dec.{eqb}
use Rattle.page.specs.declared.Entry.{Entry}
use Rattle.image.specs.Images.{Image, Cell, tree, free, entries_in}
use Rattle.steps.specs.Supply.{entries, put, with_supply, given_back}
use Rattle.steps.proofs.Supply.{put_at, put_other}
use Rattle.store.specs.Preconditions.{InImage, TreePage}
use Rattle.store.proofs.Supplying.{within_put, within_given}

-- ---- which writes count

-- of two pages that were written twice, the later of each
later : (f g : Bool) (u v w x y : Cell) → cond g u (cond f v (cond g w (cond f x y))) ≡ cond g u (cond f v y)
later true true u v w x y = refl
later false true u v w x y = refl
later true false u v w x y = refl
later false false u v w x y = refl

module _ (a b : ℕ) (v w x : Cell) (X : Image) where
  pub put_both : (u : Cell) → put b u (put a v (put b w (put a x X))) ≡ put b u (put a v X)
  unfolding put
  put_both u = λ j. record { head = X.head; page = λ q. later (eqb q a) (eqb q b) u v w x (X.page q) j }

  pub given_both : given_back b (put a v (put b w (put a x X))) ≡ given_back b (put a v X)
  unfolding put given_back
  given_both =
      λ j.
      record {
        head = with_supply b (suc X.head.chain) X.head.mark X.head;
        page = λ q. later (eqb q a) (eqb q b) (free X.head.free) v w x (X.page q) j;
      }

-- ---- what a page holds then

module _ (p level : ℕ) (es : List Entry) (X : Image) where
  pub entries_at : entries (put p (tree level es) X) p ≡ es
  unfolding entries entries_in
  entries_at = ap entries_in (put_at p (tree level es) X)

  pub tree_at : InImage p X → TreePage level p (put p (tree level es) X)
  tree_at w = record { within = within_put w p (tree level es); page = put_at p (tree level es) X ∙ ap (tree level) (sym entries_at) }

module _ (p : ℕ) (c : Cell) (X : Image) {q : ℕ} (d : q ≡ p → ⊥) where
  pub entries_else : entries (put p c X) q ≡ entries X q
  unfolding entries
  entries_else = ap entries_in (put_other p c X q d)

  pub tree_else : {level : ℕ} → TreePage level q X → TreePage level q (put p c X)
  tree_else {level} t =
      record {
        within = within_put t.within p c;
        page = put_other p c X q d ∙ t.page ∙ ap (tree level) (sym entries_else);
      }

module _ (p : ℕ) (X : Image) {q : ℕ} (d : q ≡ p → ⊥) where
  pub page_given : (given_back p X).page q ≡ X.page q
  unfolding given_back
  page_given = put_other p _ _ q d

  pub entries_given : entries (given_back p X) q ≡ entries X q
  unfolding entries
  entries_given = ap entries_in page_given

  pub tree_given : {level : ℕ} → TreePage level q X → TreePage level q (given_back p X)
  tree_given {level} t =
      record { within = within_given t.within p; page = page_given ∙ t.page ∙ ap (tree level) (sym entries_given) }

-- tree pages of two levels are two pages
pub levels_apart : {level p q : ℕ} {X : Image} → TreePage (suc level) p X → TreePage level q X → p ≡ q → ⊥
levels_apart {level} {p} {q} {X} t u e =
    let same : tree (suc level) (entries X p) ≡ tree level (entries X q) = sym t.page ∙ ap X.page e ∙ u.page in
    let d : suc level ≡ level = cc in
    omega arith
