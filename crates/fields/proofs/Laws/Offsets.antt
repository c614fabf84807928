-- The laws of a number at an offset of a list, which the three kinds u32, i32 and i64 share as the record `Field`. So a law above is
-- stated once, for any `Field`.
-- Assumes nothing.
use mathlib.Core.Path.{◌≡◌, refl, sym, ap, ◌∙◌}
use Prim.Native.Nat.{ℕ, ◌+◌, ◌*◌, ◌^◌, ◌≤◌, ◌<◌}
use native.Mathlib.Nat.{lt_of_lt_of_le, pow-le-pow_right}
use native.Mathlib.Omega.{arith}
use mathlib.Core.List.{List}
use lib.ListN.{length, get_or, length-take}
use lib.Dec.{lit<}
use mir.Syntax.{Width, w32, w64}
use mir.Val.{Fits, SFits, bits, to_z, of_z}
use mir.ValLaws.{to_z-of_z, of_z-to_z, to_z-Fits, of_z_fits}
use Rattle.fields.specs.Bytes.{Bytes, part}
use Rattle.fields.specs.Numbers.{num, digits, u32_at, i32_at, i64_at, u32_bytes, i32_bytes, i64_bytes}
use Rattle.fields.proofs.Laws.Parts.{length_part, part_first, part_add}
use Rattle.fields.proofs.Laws.Digits.{bytes_part, bytes_digits, length_digits, num_lt, digits_num, num_digits, num_append}

-- A number of `size` bytes: `at` reads it and `bytes` has its bytes. `Fit` says which numbers have that many bytes.
pub record Field {A : Type 0} (at : List ℕ → ℕ → A) (bytes : A → List ℕ) (size : ℕ) (Fit : A → Type 0) : Type 0 where
  pub length_bytes : (a : A) → length (bytes a) ≡ size
  pub bytes_bytes : (a : A) → Bytes (bytes a)
  -- where the bytes of a stand, a is read
  pub at_bytes : (s : List ℕ) (o : ℕ) (a : A) → part s o size ≡ bytes a → Fit a → at s o ≡ a
  -- the bytes of what is read are those that stand there
  pub bytes_at : (s : List ℕ) (o : ℕ) → Bytes s → o + size ≤ length s → bytes (at s o) ≡ part s o size
  pub at_fits : (s : List ℕ) (o : ℕ) → Bytes s → Fit (at s o)

-- ---- the three kinds

num_part_lt : (k : ℕ) (s : List ℕ) (o : ℕ) → Bytes s → num (part s o k) < 256 ^ k
num_part_lt k s o h = lt_of_lt_of_le (num_lt (part s o k) (bytes_part s o k h)) (pow-le-pow_right (lit< tt) (short k s o))
  where
    short : (k : ℕ) (s : List ℕ) (o : ℕ) → length (part s o k) ≤ k
    short k s o = unfold part in simp length-take (omega arith)

pub unsigned : (k : ℕ) → Field (λ s o. num (part s o k)) (digits k) k (λ v. v < 256 ^ k)
unsigned k = record {
  length_bytes = length_digits k;
  bytes_bytes = bytes_digits k;
  at_bytes = λ s o v e h. ap num e ∙ num_digits k v h;
  bytes_at = λ s o b h. ap (λ n. digits n (num (part s o k))) (sym (length_part s o k h)) ∙ digits_num (part s o k) (bytes_part s o k b);
  at_fits = num_part_lt k;
}

signed : (w : Width) (k : ℕ) → 256 ^ k ≡ 2 ^ bits w → Field (λ s o. to_z w (num (part s o k))) (λ z. digits k (of_z w z)) k (SFits w)
signed w k q = record {
  length_bytes = λ z. length_digits k (of_z w z);
  bytes_bytes = λ z. bytes_digits k (of_z w z);
  at_bytes = λ s o z e h. ap (to_z w) ((unsigned k).at_bytes s o (of_z w z) e (rw q (of_z_fits w z h).fits)) ∙ to_z-of_z w z h;
  bytes_at = λ s o b h. ap (digits k) (of_z-to_z w (num (part s o k)) (fit s o b)) ∙ (unsigned k).bytes_at s o b h;
  at_fits = λ s o b. to_z-Fits w (num (part s o k)) (fit s o b);
}
  where
    fit : (s : List ℕ) (o : ℕ) → Bytes s → Fits w (num (part s o k))
    fit s o b = record { fits = rw q at (num_part_lt k s o b) }

pub u32 : Field u32_at u32_bytes 4 (λ v. v < 2 ^ 32)
unfolding u32_at u32_bytes
u32 = unsigned 4

pub i32 : Field i32_at i32_bytes 4 (SFits w32)
unfolding i32_at i32_bytes
i32 = signed w32 4 refl

pub i64 : Field i64_at i64_bytes 8 (SFits w64)
unfolding i64_at i64_bytes
i64 = signed w64 8 refl

-- ---- numbers from their bytes, as the code reads them

pub num_part_add : (s : List ℕ) (o n m : ℕ) → o + n ≤ length s
    → num (part s o (n + m)) ≡ num (part s o n) + 256 ^ n * num (part s (o + n) m)
num_part_add s o n m h =
    ap num (part_add s o n m)
    ∙ num_append (part s o n) (part s (o + n) m)
    ∙ ap (λ k. num (part s o n) + 256 ^ k * num (part s (o + n) m)) (length_part s o n h)

num_part_one : (s : List ℕ) (o : ℕ) → o < length s → num (part s o 1) ≡ get_or s o 0
unfolding num part
num_part_one s o h = ap num (part_first s o 0 h) ∙ omega arith

pub num_part_four : (s : List ℕ) (o : ℕ) → o + 4 ≤ length s
    → num (part s o 4) ≡ get_or s o 0 + 256 * get_or s (o + 1) 0 + 65536 * get_or s (o + 2) 0 + 16777216 * get_or s (o + 3) 0
num_part_four s o h =
    omega (
      arith,
      num_part_add s o 3 1 (omega arith),
      num_part_add s o 2 1 (omega arith),
      num_part_add s o 1 1 (omega arith),
      num_part_one s o (omega arith),
      num_part_one s (o + 1) (omega arith),
      num_part_one s (o + 2) (omega arith),
      num_part_one s (o + 3) (omega arith),
    )
