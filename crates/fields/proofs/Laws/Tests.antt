-- The laws of the tests: `all_are` over a list, `every` over the numbers below n, and of unused bytes. Assumes nothing.
use mathlib.Core.Path.{◌≡◌, refl, sym, ap, ap₂, ◌∙◌}
use mathlib.Core.Bool.{Bool, true, false, ◌&&◌, and-eq-true_iff, and-true, and_assoc}
use Prim.Native.Nat.{ℕ, zero, suc, ◌+◌, ◌-◌, ◌^◌, ◌≤◌, ◌<◌}
use native.Mathlib.Decide.{dec_lt}
use native.Mathlib.Numerals.{add-one}
use native.Mathlib.Omega.{arith}
use mathlib.Core.List.{List, [], ◌∷◌, ◌++◌}
use lib.ListN.{length, get_or, replicate, length-replicate, replicate-append-replicate}
use lib.Dec.{eqb}
use lib.Bits.{bit_and, and_le_l, and_le_r, and_self}
use borrow.Author.Tests.{eqb-true, eq-eqb}
use Rattle.fields.specs.Bytes.{Bytes, part, unused, all_are, every}
use Rattle.fields.specs.Numbers.{num, digits}
use Rattle.fields.proofs.Laws.Parts.{length_part, part_none, part_first, part_add, part_middle}
use Rattle.fields.proofs.Laws.Offsets.{unsigned}

-- ---- all bytes of a list are b

pub all_are_append : (b : ℕ) (xs ys : List ℕ) → all_are b (xs ++ ys) ≡ all_are b xs && all_are b ys
unfolding all_are
all_are_append b [] ys = refl
all_are_append b (x ∷ xs) ys = ap (λ t. eqb x b && t) (all_are_append b xs ys) ∙ sym (and_assoc (eqb x b) (all_are b xs) (all_are b ys))

pub all_are_replicate : (b n : ℕ) → all_are b (replicate n b) ≡ true
unfolding all_are
all_are_replicate b zero = refl
all_are_replicate b (suc n) = (and-eq-true_iff (eqb b b) (all_are b (replicate n b))).1 (eq-eqb b b refl, all_are_replicate b n)

pub all_are_true : (b : ℕ) (xs : List ℕ) → all_are b xs ≡ true → xs ≡ replicate (length xs) b
unfolding all_are
all_are_true b [] h = refl
all_are_true b (x ∷ xs) h =
    let k = (and-eq-true_iff (eqb x b) (all_are b xs)).0 h in
    λ i. eqb-true x b k.0 i ∷ all_are_true b xs k.1 i

-- a loop over a part: none of it, and one byte more
pub all_are_none : (b : ℕ) (s : List ℕ) (a : ℕ) → all_are b (part s a 0) ≡ true
unfolding all_are part
all_are_none b s a = refl

pub all_are_more : (b : ℕ) (s : List ℕ) (a i : ℕ) → a + i < length s
    → all_are b (part s a (i + 1)) ≡ all_are b (part s a i) && eqb (get_or s (a + i) 0) b
unfolding all_are
all_are_more b s a i h =
    ap (all_are b) (part_add s a i 1)
    ∙ all_are_append b (part s a i) (part s (a + i) 1)
    ∙ ap (λ l. all_are b (part s a i) && all_are b l) (part_first s (a + i) 0 h ∙ ap (λ l. get_or s (a + i) 0 ∷ l) (part_none s (a + i + 1)))
    ∙ ap (λ t. all_are b (part s a i) && t) (and-true (eqb (get_or s (a + i) 0) b))

-- ---- unused bytes

-- two tests that pass for the same facts are one
agree : (a b : Bool) → (a ≡ true → b ≡ true) → (b ≡ true → a ≡ true) → a ≡ b
agree true b f g = sym (f refl)
agree false true f g = g refl
agree false false f g = refl

-- numbers up to m are m exactly where their `and` is: m has ones alone
and_ones : (m a b : ℕ) → a ≤ m → b ≤ m → eqb (bit_and a b) m ≡ eqb a m && eqb b m
and_ones m a b f g = agree _ _ each all
  where
    each : eqb (bit_and a b) m ≡ true → (eqb a m && eqb b m) ≡ true
    each h =
        let e = eqb-true (bit_and a b) m h in
        (and-eq-true_iff _ _).1 (eq-eqb a m (omega (arith, e, and_le_l a b)), eq-eqb b m (omega (arith, e, and_le_r a b)))

    all : (eqb a m && eqb b m) ≡ true → eqb (bit_and a b) m ≡ true
    all h =
        let k = (and-eq-true_iff (eqb a m) (eqb b m)).0 h in
        eq-eqb _ _ (ap₂ bit_and (eqb-true a m k.0) (eqb-true b m k.1) ∙ and_self m)

pub length_unused : (n : ℕ) → length (unused n) ≡ n
unfolding unused
length_unused n = length-replicate n 255

pub unused_add : (n m : ℕ) → unused (n + m) ≡ unused n ++ unused m
unfolding unused
unused_add n m = sym (replicate-append-replicate n m 255)

pub part_unused : (n o m : ℕ) → o + m ≤ n → part (unused n) o m ≡ unused m
part_unused n o m h =
    let e : n ≡ o + (m + (n - o - m)) = omega arith in
    ap (λ k. part (unused k) o m) e
    ∙ ap (λ l. part l o m) (unused_add o (m + (n - o - m)) ∙ ap (λ l. unused o ++ l) (unused_add m (n - o - m)))
    ∙ part_middle (unused o) (unused m) (unused (n - o - m)) o m (length_unused o) (length_unused m)

pub all_are_unused : (n : ℕ) → all_are 255 (unused n) ≡ true
unfolding unused
all_are_unused n = all_are_replicate 255 n

pub unused_all_are : (n : ℕ) (xs : List ℕ) → length xs ≡ n → all_are 255 xs ≡ true → xs ≡ unused n
unfolding unused
unused_all_are n xs e h = all_are_true 255 xs h ∙ ap (λ k. replicate k 255) e

-- ---- the words of a part, each of k bytes: m is the number of k bytes FF

module _ (k m : ℕ) (ff : digits k m ≡ unused k) (full : suc m ≡ 256 ^ k) where
  below : (n : ℕ) → n < 256 ^ k → n ≤ m
  below n h = let l : n < suc m = rw full h in omega arith

  word_unused : (s : List ℕ) (o : ℕ) → Bytes s → o + k ≤ length s → eqb (num (part s o k)) m ≡ all_are 255 (part s o k)
  word_unused s o b h = agree _ _ ones bytes
    where
      ones : eqb (num (part s o k)) m ≡ true → all_are 255 (part s o k) ≡ true
      ones e =
          ap (all_are 255) (sym ((unsigned k).bytes_at s o b h) ∙ ap (digits k) (eqb-true (num (part s o k)) m e) ∙ ff)
          ∙ all_are_unused k

      bytes : all_are 255 (part s o k) ≡ true → eqb (num (part s o k)) m ≡ true
      bytes e =
          let l : m < 256 ^ k = rw (← full) (omega arith) in
          eq-eqb _ _ ((unsigned k).at_bytes s o m (unused_all_are k (part s o k) (length_part s o k h) e ∙ sym ff) l)

  -- the `and` of a number and a word is m exactly where the number is m and the word's bytes are FF
  pub and_word : (s : List ℕ) (o all w : ℕ) → Bytes s → o + k ≤ length s → all ≤ m → w ≡ num (part s o k)
      → eqb (bit_and all w) m ≡ (eqb all m && all_are 255 (part s o k))
  and_word s o all w b h l f =
      let v = num (part s o k) in
      ap (λ x. eqb (bit_and all x) m) f
      ∙ and_ones m all v l (below v ((unsigned k).at_fits s o b))
      ∙ ap (λ t. eqb all m && t) (word_unused s o b h)

-- a part in two
pub all_are_split : (b : ℕ) (s : List ℕ) (a n m l : ℕ) → n + m ≡ l
    → (all_are b (part s a n) && all_are b (part s (a + n) m)) ≡ all_are b (part s a l)
all_are_split b s a n m l e =
    sym (all_are_append b (part s a n) (part s (a + n) m)) ∙ ap (all_are b) (sym (part_add s a n m) ∙ ap (part s a) e)

-- a test of a part, and of what stands behind it too
pub all_are_next : (b : ℕ) (s : List ℕ) (a n m l : ℕ) {before now : Bool} → before ≡ all_are b (part s a n)
    → now ≡ (before && all_are b (part s (a + n) m)) → n + m ≡ l → now ≡ all_are b (part s a l)
all_are_next b s a n m l passed next e = next ∙ ap (λ t. t && all_are b (part s (a + n) m)) passed ∙ all_are_split b s a n m l e

-- ---- p of each number below n

pub every_none : (p : ℕ → Bool) → every 0 p ≡ true
unfolding every
every_none p = refl

pub every_more : (n : ℕ) (p : ℕ → Bool) → every (n + 1) p ≡ every n p && p n
unfolding every
every_more n p = rw add-one

pub every_all : (n : ℕ) (p : ℕ → Bool) → every n p ≡ true → (i : ℕ) → i < n → p i ≡ true
unfolding every
every_all zero p e i h = absurd (omega arith)
every_all (suc n) p e i h =
    let k : (every n p ≡ true) × (p n ≡ true) = (and-eq-true_iff (every n p) (p n)).0 e in
    last (dec_lt i n) (every_all n p k.0 i) k.1
  where
    last : Dec (i < n) → (i < n → p i ≡ true) → p n ≡ true → p i ≡ true
    last (yes l) f q = f l
    last (no g) f q =
        let d : i ≡ n = omega arith in
        ap p d ∙ q

pub every_of : (n : ℕ) (p : ℕ → Bool) → ((i : ℕ) → i < n → p i ≡ true) → every n p ≡ true
unfolding every
every_of zero p f = refl
every_of (suc n) p f = (and-eq-true_iff (every n p) (p n)).1 (every_of n p (λ i h. f i (omega arith)), f n (omega arith))
