-- Sums over the numbers below n: one compared with another, of ones, of at most ones, of a mark at one place, and of marks of disjoint
-- spans; and a list's sum by index. Assumes nothing.
use mathlib.Core.Path.{◌≡◌, refl, sym, ap, ◌∙◌}
use mathlib.Core.Bool.{false, cond}
use mathlib.Core.List.{List, [], ◌∷◌}
use Prim.Native.Nat.{ℕ, zero, suc, ◌+◌, ◌*◌, ◌≤◌, ◌<◌}
use native.Mathlib.Nat.{add-zero, mul-add}
use native.Mathlib.Omega.{arith}
use native.Mathlib.Decide.{ℕ_discrete, dec_le, dec_lt}
use lib.ListN.{length, get_or}
use lib.Dec.{eqb, leb, leb-zero, leb-suc-zero, leb-suc-suc, eqb-zero-suc, eqb-suc-zero, eqb-suc-suc}
use borrow.Author.Tests.{eq-eqb, ne_eqb}
use Rattle.lists.specs.Lists.{hit, sum, total}

pub total_add : (n : ℕ) (f g : ℕ → ℕ) → total n (λ i. f i + g i) ≡ total n f + total n g
unfolding total
total_add zero f g = refl
total_add (suc n) f g = omega (arith, total_add n f g)

pub total_none : (n : ℕ) (f : ℕ → ℕ) → ((i : ℕ) → i < n → f i ≡ 0) → total n f ≡ 0
unfolding total
total_none zero f h = refl
total_none (suc n) f h = omega (arith, total_none n f (λ i l. h i (omega arith)), h n (omega arith))

pub total_zeros : (n : ℕ) → total n (λ i. 0) ≡ 0
total_zeros n = total_none n (λ i. 0) (λ i l. refl)

-- the first apart
total_first : (n : ℕ) (f : ℕ → ℕ) → total (suc n) f ≡ f 0 + total n (λ i. f (suc i))
unfolding total
total_first zero f = omega arith
total_first (suc n) f = omega (arith, total_first n f)

-- a list's sum by index, also past its end
pub sum_total : (ns : List ℕ) (n : ℕ) → length ns ≤ n → total n (λ i. get_or ns i 0) ≡ sum (λ k. k) ns
unfolding sum
sum_total [] n h = total_zeros n
sum_total (k ∷ ks) zero h = absurd (omega arith)
sum_total (k ∷ ks) (suc n) h = omega (arith, total_first n (λ i. get_or (k ∷ ks) i 0), sum_total ks n (omega arith))

-- ---- one beside another

-- each at most k times another
pub total_most_times : (n k : ℕ) (f g : ℕ → ℕ) → ((i : ℕ) → i < n → f i ≤ k * g i) → total n f ≤ k * total n g
unfolding total
total_most_times zero k f g h = omega arith
total_most_times (suc n) k f g h =
    omega (arith, mul-add k (total n g) (g n), total_most_times n k f g (λ i l. h i (omega arith)), h n (omega arith))

-- each at most another
pub total_le : (n : ℕ) (f g : ℕ → ℕ) → ((i : ℕ) → i < n → f i ≤ g i) → total n f ≤ total n g
total_le n f g h = omega (arith, total_most_times n 1 f g (λ i l. omega (arith, h i l)))

-- and with as much in all they are the same
pub all_same : (n : ℕ) (f g : ℕ → ℕ) → ((i : ℕ) → i < n → f i ≤ g i) → total n g ≤ total n f → (i : ℕ) → i < n → f i ≡ g i
unfolding total
all_same zero f g h e i l = absurd (omega arith)
all_same (suc n) f g h e i l =
    let below : (j : ℕ) → j < n → f j ≤ g j = λ j k. h j (omega arith) in
    let rest : total n f ≤ total n g = total_le n f g below in
    let last : f n ≤ g n = h n (omega arith) in
    go (all_same n f g below (omega arith) i) (omega arith) (dec_lt i n)
  where
    go : (i < n → f i ≡ g i) → f n ≡ g n → Dec (i < n) → f i ≡ g i
    go earlier last (yes k) = earlier k
    go earlier last (no k) =
        let d : i ≡ n = omega arith in
        ap f d ∙ last ∙ ap g (sym d)

-- ---- ones

pub total_ones : (n : ℕ) (f : ℕ → ℕ) → ((i : ℕ) → i < n → f i ≡ 1) → total n f ≡ n
unfolding total
total_ones zero f h = refl
total_ones (suc n) f h = omega (arith, total_ones n f (λ i l. h i (omega arith)), h n (omega arith))

-- as many as there are numbers
just_ones : (n : ℕ) → total n (λ i. 1) ≡ n
just_ones n = total_ones n (λ i. 1) (λ i l. refl)

pub total_most : (n : ℕ) (f : ℕ → ℕ) → ((i : ℕ) → i < n → f i ≤ 1) → total n f ≤ n
total_most n f h = omega (arith, total_le n f (λ i. 1) h, just_ones n)

-- n numbers of at most 1 that add to n are ones
pub all_ones : (n : ℕ) (f : ℕ → ℕ) → ((i : ℕ) → i < n → f i ≤ 1) → total n f ≡ n → (i : ℕ) → i < n → f i ≡ 1
all_ones n f h e = all_same n f (λ i. 1) h (omega (arith, just_ones n))

-- ---- 1 where a number is x, else 0

pub hit_same : (p q : ℕ) → p ≡ q → hit p q ≡ 1
hit_same p q e = ap (λ t. cond t 1 0) (eq-eqb p q e)

pub hit_other : (p q : ℕ) → (p ≡ q → ⊥) → hit p q ≡ 0
hit_other p q h = ap (λ t. cond t 1 0) (ne_eqb p q h)

pub hit_self : (p : ℕ) → hit p p ≡ 1
hit_self p = hit_same p p refl

pub hit_is : (p q : ℕ) → 1 ≤ hit p q → p ≡ q
hit_is p q h = go (ℕ_discrete p q)
  where
    go : Dec (p ≡ q) → p ≡ q
    go (yes e) = e
    go (no d) = absurd (omega (arith, hit_other p q d))

pub hit_not : (p q : ℕ) → hit p q ≡ 0 → eqb p q ≡ false
hit_not p q h = ne_eqb p q (λ e. omega (arith, hit_same p q e))

total_past : (n x : ℕ) → n < x → total n (λ i. hit (suc i) x) ≡ 0
total_past n x h = total_none n (λ i. hit (suc i) x) (λ i l. hit_other (suc i) x (λ e. omega arith))

pub total_one : (n x : ℕ) → 1 ≤ x → x ≤ n → total n (λ i. hit (suc i) x) ≡ 1
unfolding total
total_one zero x g h = absurd (omega arith)
total_one (suc n) x g h = go (ℕ_discrete (suc n) x) (total_one n x g)
  where
    go : Dec (suc n ≡ x) → (x ≤ n → total n (λ i. hit (suc i) x) ≡ 1)
        → total n (λ i. hit (suc i) x) + hit (suc n) x ≡ 1
    go (yes e) ih = omega (arith, total_past n x (omega arith), hit_same (suc n) x e)
    go (no d) ih = omega (arith, ih (omega arith), hit_other (suc n) x d)

-- counted from 0
pub total_hits : (n x : ℕ) → x < n → total n (λ i. hit i x) ≡ 1
total_hits n x l = sym (λ j. total n (λ i. cond (eqb-suc-suc i x j) 1 0)) ∙ total_one n (suc x) (omega arith) (omega arith)

-- ---- 1 from m on, else 0

abbrev pub from : ℕ → ℕ → ℕ
from m p = cond (leb m p) 1 0

-- from m on is m, or from the next on
pub hit_from : (p m : ℕ) → hit p m + from (suc m) p ≡ from m p
hit_from zero zero = refl
hit_from zero (suc m) = rw (eqb-zero-suc m, leb-suc-zero (suc m), leb-suc-zero m)
hit_from (suc p) zero = rw (eqb-suc-zero p, leb-suc-suc 0 p, leb-zero p, leb-zero (suc p))
hit_from (suc p) (suc m) = rw (eqb-suc-suc p m, leb-suc-suc (suc m) p, leb-suc-suc m p) (hit_from p m)

-- p is one of the n numbers from m on, or lies past them, or before
pub total_from : (p m n : ℕ) → total n (λ i. hit p (m + i)) + from (m + n) p ≡ from m p
unfolding total
total_from p m zero = omega (arith, ap (λ k. from k p) (add-zero m))
total_from p m (suc n) =
    let e : m + suc n ≡ suc (m + n) = omega arith in
    omega (arith, total_from p m n, hit_from p (m + n), ap (λ k. from k p) e)

-- ---- spans one after the other

-- x is found k times, at most once, and then in the span from lo to hi
pub record Held (k x lo hi : ℕ) : Type 0 where
  pub most : k ≤ 1
  pub inside : 1 ≤ k → (lo ≤ x) × (x < hi)

-- numbers that rise below n
pub rises : (n : ℕ) (b : ℕ → ℕ) → ((i : ℕ) → i < n → b i < b (suc i)) → (i j : ℕ) → i ≤ j → j ≤ n → b i ≤ b j
rises n b r i zero l k =
    let e : i ≡ 0 = omega arith in
    omega (arith, ap b e)
rises n b r i (suc j) l k = go (dec_lt j i) (rises n b r i j)
  where
    go : Dec (j < i) → (i ≤ j → j ≤ n → b i ≤ b j) → b i ≤ b (suc j)
    go (yes c) rest =
        let e : i ≡ suc j = omega arith in
        omega (arith, ap b e)
    go (no c) rest = omega (arith, rest (omega arith) (omega arith), r j (omega arith))

pub climb : (n : ℕ) (b : ℕ → ℕ) → ((i : ℕ) → i < n → b i < b (suc i)) → b 0 + n ≤ b n
climb zero b r = omega arith
climb (suc n) b r = omega (arith, climb n b (λ i l. r i (omega arith)), r n (omega arith))

-- spans that follow each other hold x at most once in all
pub total_held : (n : ℕ) (f b : ℕ → ℕ) (x : ℕ) → ((i : ℕ) → i < n → b i < b (suc i)) → ((i : ℕ) → i < n → Held (f i) x (b i) (b (suc i)))
    → Held (total n f) x (b 0) (b n)
unfolding total
total_held zero f b x r h = record { most = omega arith; inside = λ l. absurd (omega arith) }
total_held (suc n) f b x r h =
    let earlier : (i : ℕ) → i < n → b i < b (suc i) = λ i l. r i (omega arith) in
    go (total_held n f b x earlier (λ i l. h i (omega arith))) (h n (omega arith)) (climb n b earlier) (r n (omega arith))
    (dec_le 1 (total n f)) (dec_le 1 (f n))
  where
    go : Held (total n f) x (b 0) (b n) → Held (f n) x (b n) (b (suc n)) → b 0 + n ≤ b n → b n < b (suc n) → Dec (1 ≤ total n f)
        → Dec (1 ≤ f n)
        → Held (total n f + f n) x (b 0) (b (suc n))
    go before last s t (yes p) (yes q) = absurd (omega (arith, before.inside p, last.inside q))
    go before last s t (yes p) (no q) = record { most = omega arith; inside = λ l. omega (arith, before.inside p) }
    go before last s t (no p) (yes q) = record { most = omega arith; inside = λ l. omega (arith, last.inside q) }
    go before last s t (no p) (no q) = record { most = omega arith; inside = λ l. absurd (omega arith) }

-- what follows wherever a number is not 0 follows if the sum is not 0
pub total_some : (n : ℕ) (f : ℕ → ℕ) {G : Type 0} → ((i : ℕ) → i < n → 1 ≤ f i → G) → 1 ≤ total n f → G
unfolding total
total_some zero f g h = absurd (omega arith)
total_some (suc n) f {G} g h = go (total_some n f (λ i l. g i (omega arith))) (dec_le 1 (f n))
  where
    go : (1 ≤ total n f → G) → Dec (1 ≤ f n) → G
    go earlier (yes p) = g n (omega arith) p
    go earlier (no p) = earlier (omega arith)
