-- Document 01, "The page": "Numbers are little-endian." Assumes nothing.
use Rattle.std.specs.Prelude.{ℕ, zero, suc, ◌+◌, ◌*◌, ◌/◌, ◌%◌, List, [], ◌∷◌, ℤ}
use Rattle.std.specs.Int.{w32, w64}
use Rattle.std.proofs.Common.{to_z, of_z}
use Rattle.fields.specs.Bytes.{part}

-- the number that bytes show, the least first
unfoldable pub num : List ℕ → ℕ
num [] = 0
num (b ∷ bs) = b + 256 * num bs

-- the k bytes of a number, the least first
unfoldable pub digits : ℕ → ℕ → List ℕ
digits zero v = []
digits (suc k) v = v % 256 ∷ digits k (v / 256)

-- the numbers at an offset: u32, i32 and i64
unfoldable pub u32_at : List ℕ → ℕ → ℕ
u32_at s o = num (part s o 4)

unfoldable pub i32_at : List ℕ → ℕ → ℤ
i32_at s o = to_z w32 (num (part s o 4))

unfoldable pub i64_at : List ℕ → ℕ → ℤ
i64_at s o = to_z w64 (num (part s o 8))

-- their bytes
unfoldable pub u32_bytes : ℕ → List ℕ
u32_bytes v = digits 4 v

unfoldable pub i32_bytes : ℤ → List ℕ
i32_bytes z = digits 4 (of_z w32 z)

unfoldable pub i64_bytes : ℤ → List ℕ
i64_bytes z = digits 8 (of_z w64 z)
