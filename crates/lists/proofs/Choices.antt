-- What holds of a choice by a test. Assumes nothing.
use mathlib.Core.Path.{◌≡◌, refl, sym, ◌∙◌}
use mathlib.Core.Bool.{Bool, true, false, cond, true≢false, false≢true}

-- Two choices by one test are both the first or both the second.
pub cond_both : {A B : Type 0} (P : A → B → Type 0) {x x' : A} {y y' : B} (a b : Bool) → a ≡ b → (a ≡ true → P x y)
    → (a ≡ false → P x' y') → P (cond a x x') (cond b y y')
cond_both P true true e f g = f refl
cond_both P true false e f g = absurd (true≢false e)
cond_both P false true e f g = absurd (false≢true e)
cond_both P false false e f g = g refl

pub cond_one : {A : Type 0} (P : A → Type 0) {x x' : A} (a : Bool) → (a ≡ true → P x) → (a ≡ false → P x') → P (cond a x x')
cond_one P true f g = f refl
cond_one P false f g = g refl

-- a function of a choice is a choice of the function's
pub cond_ap : {A B : Type 0} (g : A → B) (b : Bool) (x y : A) → g (cond b x y) ≡ cond b (g x) (g y)
cond_ap g true x y = refl
cond_ap g false x y = refl

-- what passes a test that the second fails is the first
pub chose : {A : Type 0} (test : A → Bool) (b : Bool) (x : A) {y : A} → test y ≡ false → test (cond b x y) ≡ true
    → (b ≡ true) × (test x ≡ true)
chose test true x f e = (refl, e)
chose test false x f e = absurd (false≢true (sym f ∙ e))

-- what holds of both holds of either
pub either : {A : Type 0} (P : A → Type 0) {x y : A} → P x → P y → (b : Bool) → P (cond b x y)
either P p q b = cond_one P b (λ _. p) (λ _. q)
