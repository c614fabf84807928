-- How many pages a number of entries takes, and how many entries each of them has. Assumes nothing.
use Prim.Native.Nat.{ℕ, zero, suc, ◌+◌, ◌*◌, ◌-◌, ◌/◌, ◌%◌, ◌≤◌, ◌<◌, min}
use mathlib.Core.Path.{◌≡◌, refl, sym, ap, ◌∙◌}
use mathlib.Core.Bool.{Bool, true, false, cond}
use native.Mathlib.Nat.{div-add-mod', mod-lt, zero-mul, one-mul, two-mul, mul-add, suc-mul, mul_comm, mul-le-mul_left, mul-le-mul_right, div-one}
use native.Mathlib.Omega.{arith}
use native.Mathlib.Decide.{dec_le, dec_lt}
use lib.Dec.{ltb}
use borrow.Author.Tests.{lt-ltb, le-ltb}
use Rattle.lists.specs.Lists.{total}
use Rattle.page.specs.Layout.{capacity}
use Rattle.tight.specs.Tight.{pages_for, page_entries, entries_before}

-- ---- how many pages

-- a division rounded up
module _ (k m : ℕ) (some : 1 ≤ k) where
  abbrev up : ℕ
  up = (m + (k - 1)) / k

  parts : (m + (k - 1) ≡ up * k + (m + (k - 1)) % k) × ((m + (k - 1)) % k < k)
  parts = (sym (div-add-mod' (m + (k - 1)) k), mod-lt (m + (k - 1)) some)

  up_enough : m ≤ up * k
  up_enough = omega (arith, parts)

  up_tight : up * k < m + k
  up_tight = omega (arith, parts)

  up_some : 1 ≤ m → 1 ≤ up
  up_some one = go (dec_le 1 up)
    where
      go : Dec (1 ≤ up) → 1 ≤ up
      go (yes h) = h
      go (no h) =
          let z : up ≡ 0 = omega arith in
          let e : up * k ≡ 0 = ap (λ n. n * k) z ∙ zero-mul k in
          absurd (omega (arith, up_enough))

module _ (half m : ℕ) (some : 1 ≤ half) where
  pub pages_enough : m ≤ pages_for half m * capacity half
  unfolding pages_for
  pages_enough = up_enough (capacity half) m (omega arith)

  pub pages_tight : pages_for half m * capacity half < m + capacity half
  unfolding pages_for
  pages_tight = up_tight (capacity half) m (omega arith)

  pub pages_some : 1 ≤ m → 1 ≤ pages_for half m
  unfolding pages_for
  pages_some = up_some (capacity half) m (omega arith)

  -- no fewer pages have room for so many entries
  pub pages_least : (p : ℕ) → m ≤ p * capacity half → pages_for half m ≤ p
  pages_least p room = go (dec_le (pages_for half m) p)
    where
      go : Dec (pages_for half m ≤ p) → pages_for half m ≤ p
      go (yes h) = h
      go (no h) =
          let a : suc p * capacity half ≤ pages_for half m * capacity half = mul-le-mul_right (capacity half) (omega arith) in
          absurd (omega (arith, suc-mul p (capacity half), pages_tight))

-- a level has fewer pages than entries, but where there is one
pub pages_fewer : (half m : ℕ) → 1 ≤ half → 2 ≤ m → pages_for half m < m
pages_fewer half m some two =
    let room : (m - 1) * 2 ≤ (m - 1) * capacity half = mul-le-mul_left (m - 1) (omega arith) in
    omega (arith, pages_least half m some (m - 1) (omega arith))

-- where there are two pages there are two entries
pub pages_several : (half m : ℕ) → 1 ≤ half → 2 ≤ pages_for half m → 2 ≤ m
pages_several half m some two = go (dec_le 2 m)
  where
    go : Dec (2 ≤ m) → 2 ≤ m
    go (yes h) = h
    go (no h) = absurd (omega (arith, pages_least half m some 1 (omega arith)))

-- and with four entries to a page twice as many as pages
pub pages_half : (half m : ℕ) → 2 ≤ half → 2 ≤ pages_for half m → 2 * pages_for half m ≤ m
pages_half half m two many =
    let some : 2 ≤ m = pages_several half m (omega arith) many in
    let room : m / 2 * 4 ≤ m / 2 * capacity half = mul-le-mul_left (m / 2) (omega arith) in
    omega (arith, pages_least half m (omega arith) (m / 2) (omega arith))

-- ---- how many entries each page has

module _ (m p : ℕ) where
  -- the first i pages have i times the quotient, and one more for each of the larger ones
  pub before_is : (i : ℕ) → entries_before m p i ≡ i * (m / p) + min i (m % p)
  unfolding entries_before total page_entries
  before_is zero = omega (arith, zero-mul (m / p))
  before_is (suc i) = go (dec_lt i (m % p)) (before_is i)
    where
      go : Dec (i < m % p) → total i (page_entries m p) ≡ i * (m / p) + min i (m % p)
          → total i (page_entries m p) + (m / p + cond (ltb i (m % p)) 1 0) ≡ suc i * (m / p) + min (suc i) (m % p)
      go (yes h) e = rw (lt-ltb i (m % p) h) (omega (arith, e, suc-mul i (m / p)))
      go (no h) e = rw (le-ltb i (m % p) (omega arith)) (omega (arith, e, suc-mul i (m / p)))

  pub before_more : (i : ℕ) → entries_before m p (suc i) ≡ entries_before m p i + page_entries m p i
  unfolding entries_before total
  before_more i = refl

  module _ (one : 1 ≤ p) where
    whole : m ≡ m / p * p + m % p
    whole = sym (div-add-mod' m p)

    -- together they have all
    pub before_all : entries_before m p p ≡ m
    before_all = omega (arith, before_is p, whole, mod-lt m one, mul_comm p (m / p))

    pub before_most : (i : ℕ) → i ≤ p → entries_before m p i ≤ m
    before_most i le =
        let a : i * (m / p) ≤ p * (m / p) = mul-le-mul_right (m / p) le in
        omega (arith, before_is i, whole, mod-lt m one, mul_comm p (m / p))

-- the sizes differ by one at the most, the larger first
module _ (m p : ℕ) where
  pub size_least : (i : ℕ) → m / p ≤ page_entries m p i
  unfolding page_entries
  size_least i = omega arith

  pub size_most : (i : ℕ) → page_entries m p i ≤ suc (m / p)
  unfolding page_entries
  size_most i = go (ltb i (m % p))
    where
      go : (b : Bool) → m / p + cond b 1 0 ≤ suc (m / p)
      go true = omega arith
      go false = omega arith

  pub size_falls : (i j : ℕ) → i ≤ j → page_entries m p j ≤ page_entries m p i
  unfolding page_entries
  size_falls i j le = go (dec_lt j (m % p))
    where
      go : Dec (j < m % p) → m / p + cond (ltb j (m % p)) 1 0 ≤ m / p + cond (ltb i (m % p)) 1 0
      go (yes h) = rw (lt-ltb j (m % p) h, lt-ltb i (m % p) (omega arith)) (omega arith)
      go (no h) = rw (le-ltb j (m % p) (omega arith)) (omega arith)

-- in the fewest pages: no page has more than its capacity, and where there are two no page has less than half of it
module _ (half m : ℕ) (some : 1 ≤ half) (one : 1 ≤ m) where
  abbrev p : ℕ
  p = pages_for half m

  positive : 1 ≤ p
  positive = pages_some half m some one

  quotient : m ≡ m / p * p + m % p
  quotient = sym (div-add-mod' m p)

  pub page_most : (i : ℕ) → page_entries m p i ≤ capacity half
  unfolding page_entries
  page_most i = go (dec_lt i (m % p))
    where
      room : m ≤ capacity half * p
      room = omega (arith, pages_enough half m some, mul_comm p (capacity half))

      larger : 1 ≤ m % p → m / p < capacity half
      larger h = below (dec_lt (m / p) (capacity half))
        where
          below : Dec (m / p < capacity half) → m / p < capacity half
          below (yes g) = g
          below (no g) =
              let a : capacity half * p ≤ m / p * p = mul-le-mul_right p (omega arith) in
              absurd (omega (arith, quotient, room))

      smaller : m / p ≤ capacity half
      smaller = below (dec_le (m / p) (capacity half))
        where
          below : Dec (m / p ≤ capacity half) → m / p ≤ capacity half
          below (yes g) = g
          below (no g) =
              let a : suc (capacity half) * p ≤ m / p * p = mul-le-mul_right p (omega arith) in
              absurd (omega (arith, quotient, room, positive, suc-mul (capacity half) p))

      go : Dec (i < m % p) → m / p + cond (ltb i (m % p)) 1 0 ≤ capacity half
      go (yes h) = rw (lt-ltb i (m % p) h) (omega (arith, larger (omega arith)))
      go (no h) = rw (le-ltb i (m % p) (omega arith)) (omega (arith, smaller))

  -- the first pages have no more entries than they have room for
  pub before_room : (i : ℕ) → entries_before m p i ≤ i * capacity half
  unfolding entries_before total
  before_room zero = omega arith
  before_room (suc i) = omega (arith, before_room i, page_most i, suc-mul i (capacity half))

  half_full : 2 ≤ p → half ≤ m / p
  half_full two = go (dec_le half (m / p))
    where
      go : Dec (half ≤ m / p) → half ≤ m / p
      go (yes h) = h
      go (no h) =
          let x : ℕ = p - 1 in
          let c : ℕ = suc (m / p) in
          let e : p ≡ suc x = omega arith in
          let filled : p * capacity half ≡ x * capacity half + capacity half = ap (λ n. n * capacity half) e ∙ suc-mul x (capacity half) in
          let doubled : x * capacity half ≡ x * half + x * half =
          ap (λ n. x * n) (two-mul half) ∙ mul-add x half half in
          let cs : c * p ≡ m / p * p + p = suc-mul (m / p) p in
          let cx : c * p ≡ x * c + c = mul_comm c p ∙ ap (λ n. n * c) e ∙ suc-mul x c in
          let le : c * x ≤ half * x = mul-le-mul_right x (omega arith) in
          let one_half : 1 * half ≤ x * half = mul-le-mul_right half (omega arith) in
          absurd
          (omega (
            arith,
            filled,
            doubled,
            cs,
            cx,
            le,
            one_half,
            mul_comm c x,
            mul_comm half x,
            one-mul half,
            pages_tight half m some,
            quotient,
            mod-lt m positive,
          ))

  pub page_least : 2 ≤ p → (i : ℕ) → half ≤ page_entries m p i
  page_least two i = omega (arith, half_full two, size_least m p i)

  pub page_some : (i : ℕ) → i < p → 1 ≤ page_entries m p i
  page_some i lt = go (dec_le 2 p)
    where
      alone : p ≡ 1 → m / p ≡ m
      alone e = ap (λ n. m / n) e ∙ div-one m

      go : Dec (2 ≤ p) → 1 ≤ page_entries m p i
      go (yes two) = omega (arith, some, page_least two i)
      go (no few) = omega (arith, one, alone (omega (arith, positive)), size_least m p i)
