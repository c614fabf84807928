-- The laws of `num` and `digits`: a number and its bytes, the least first, at any width. Assumes nothing.
use mathlib.Core.Path.{◌≡◌, refl, sym, ap, ◌∙◌}
use Prim.Native.Nat.{ℕ, zero, suc, ◌+◌, ◌*◌, ◌/◌, ◌%◌, ◌^◌, ◌<◌}
use native.Mathlib.Nat.{zero-add, suc-add, mul_assoc, pow-suc, pow-succ', mod-eq_of_lt, one-le-pow, div-one, div-div-eq-div-mul}
use native.Mathlib.Omega.{arith}
use mathlib.Core.List.{List, [], ◌∷◌, ◌++◌}
use lib.ListN.{length, get_or, take, drop, replicate}
use lib.Seq.{get_or-drop}
use lib.Arith.{mod-mul}
use lib.Dec.{lit<}
use mir.Syntax.{w8}
use mir.Val.{Fits}
use Rattle.fields.specs.Bytes.{Bytes, part, unused}
use Rattle.fields.specs.Numbers.{num, digits}

-- ---- all elements are bytes

-- what `.slice_known .given` and `.shared_slice_known .given` say of a slice
pub bytes_of : (s : List ℕ) → ((i : ℕ) → Fits w8 (get_or s i 0)) → Bytes s
bytes_of s h i = omega (arith, h i)

pub bytes_append : (xs ys : List ℕ) → Bytes xs → Bytes ys → Bytes (xs ++ ys)
bytes_append [] ys g h i = h i
bytes_append (x ∷ xs) ys g h zero = g zero
bytes_append (x ∷ xs) ys g h (suc i) = bytes_append xs ys (λ j. g (suc j)) h i

bytes_take : (n : ℕ) (s : List ℕ) → Bytes s → Bytes (take n s)
bytes_take zero s h i = lit< tt
bytes_take (suc n) [] h i = lit< tt
bytes_take (suc n) (x ∷ s) h zero = h zero
bytes_take (suc n) (x ∷ s) h (suc i) = bytes_take n s (λ j. h (suc j)) i

bytes_drop : (n : ℕ) (s : List ℕ) → Bytes s → Bytes (drop n s)
bytes_drop n s h i = rw get_or-drop (h (n + i))

pub bytes_part : (s : List ℕ) (o n : ℕ) → Bytes s → Bytes (part s o n)
unfolding part
bytes_part s o n h = bytes_take n (drop o s) (bytes_drop o s h)

pub bytes_replicate : (n b : ℕ) → b < 256 → Bytes (replicate n b)
bytes_replicate zero b h i = lit< tt
bytes_replicate (suc n) b h zero = h
bytes_replicate (suc n) b h (suc i) = bytes_replicate n b h i

pub bytes_unused : (n : ℕ) → Bytes (unused n)
unfolding unused
bytes_unused n = bytes_replicate n 255 (lit< tt)

pub bytes_digits : (k v : ℕ) → Bytes (digits k v)
unfolding digits
bytes_digits zero v i = lit< tt
bytes_digits (suc k) v zero = omega arith
bytes_digits (suc k) v (suc i) = bytes_digits k (v / 256) i

-- ---- a number and its bytes

pub length_digits : (k v : ℕ) → length (digits k v) ≡ k
unfolding digits
length_digits zero v = refl
length_digits (suc k) v = ap suc (length_digits k (v / 256))

pub num_lt : (bs : List ℕ) → Bytes bs → num bs < 256 ^ length bs
unfolding num
num_lt [] h = lit< tt
num_lt (b ∷ bs) h = rw pow-succ' (omega (arith, h zero, num_lt bs (λ i. h (suc i))))

-- the bytes of what bytes show are those bytes
pub digits_num : (bs : List ℕ) → Bytes bs → digits (length bs) (num bs) ≡ bs
unfolding num digits
digits_num [] h = refl
digits_num (b ∷ bs) h =
    let l : b < 256 = h zero in
    let e : (b + 256 * num bs) % 256 ≡ b = omega arith in
    let f : (b + 256 * num bs) / 256 ≡ num bs = omega arith in
    rw (e, f) (ap (λ r. b ∷ r) (digits_num bs (λ i. h (suc i))))

-- k bytes of a number show it below 256 ^ k
pub num_digits_mod : (k v : ℕ) → num (digits k v) ≡ v % 256 ^ k
unfolding num digits
num_digits_mod zero v = omega arith
num_digits_mod (suc k) v =
    let e : v % (256 ^ k * 256) ≡ v / 256 % 256 ^ k * 256 + v % 256 = mod-mul v (one-le-pow k 256 (lit< tt)) (lit< tt) in
    rw (num_digits_mod k (v / 256), pow-suc, e) (omega arith)

pub num_digits : (k v : ℕ) → v < 256 ^ k → num (digits k v) ≡ v
num_digits k v h = num_digits_mod k v ∙ mod-eq_of_lt h

-- what a number has beyond its k bytes does not show in them
pub digits_mod : (k v : ℕ) → digits k (v % 256 ^ k) ≡ digits k v
digits_mod k v =
    ap (digits k) (sym (num_digits_mod k v)) ∙ ap (λ n. digits n (num (digits k v))) (sym (length_digits k v))
    ∙ digits_num (digits k v) (bytes_digits k v)

-- bytes in two runs, the lower ones first
pub num_append : (xs ys : List ℕ) → num (xs ++ ys) ≡ num xs + 256 ^ length xs * num ys
unfolding num
num_append [] ys = omega arith
num_append (x ∷ xs) ys = rw (num_append xs ys, pow-succ', mul_assoc) (omega arith)

pub digits_add : (j k v : ℕ) → digits (j + k) v ≡ digits j v ++ digits k (v / 256 ^ j)
unfolding digits
digits_add zero k v = rw (zero-add, div-one)
digits_add (suc j) k v = rw (suc-add, pow-succ', ← div-div-eq-div-mul) (ap (λ l. v % 256 ∷ l) (digits_add j k (v / 256)))
