-- The library's words for a number and its bytes, the least first, are `num` and `digits`. Assumes nothing.
use Rattle.std.proofs.Common.{◌≡◌, ℕ, zero, suc, ◌/◌, ◌%◌, ◌^◌, List, ◌∷◌, length, refl, sym, ap, ap₂, ◌∙◌, arith, w32, w64}
use native.Mathlib.Nat.{pow-suc, div-one, div-div-eq-div-mul}
use Rattle.std.specs.Int.{to_le_bytes, from_le_bytes, byte_at, bytes_low_first}
use Rattle.fields.specs.Bytes.{part}
use Rattle.fields.specs.Numbers.{num, digits}
use Rattle.fields.proofs.Laws.Parts.{part_whole}
use Rattle.fields.proofs.Laws.Offsets.{num_part_add, num_part_four}

pub read_four : (bs : List ℕ) → length bs ≡ 4 → from_le_bytes w32 bs ≡ num bs
read_four bs e =
    let whole : num (part bs 0 4) ≡ num bs = ap num (part_whole bs 4 e) in
    omega (arith, num_part_four bs 0 (omega arith))

pub read_eight : (bs : List ℕ) → length bs ≡ 8 → from_le_bytes w64 bs ≡ num bs
read_eight bs e =
    let whole : num (part bs 0 8) ≡ num bs = ap num (part_whole bs 8 e) in
    omega (
      arith,
      num_part_add bs 0 4 4 (omega arith),
      num_part_four bs 0 (omega arith),
      num_part_four bs 4 (omega arith),
    )

byte_is : (i n : ℕ) → byte_at i n ≡ n / 256 ^ i % 256
byte_is zero n = ap (λ m. m % 256) (sym (div-one n))
byte_is (suc i) n = refl

low_first : (i k n : ℕ) → bytes_low_first i k n ≡ digits k (n / 256 ^ i)
unfolding digits
low_first i zero n = refl
low_first i (suc k) n =
    ap₂ ◌∷◌ (byte_is i n) (low_first (suc i) k n ∙ ap (digits k) (ap (λ d. n / d) (pow-suc _ _) ∙ sym (div-div-eq-div-mul _ _ _)))

pub written_four : (v : ℕ) → to_le_bytes w32 v ≡ digits 4 v
written_four v = low_first 0 4 v ∙ ap (digits 4) (div-one v)

pub written_eight : (v : ℕ) → to_le_bytes w64 v ≡ digits 8 v
written_eight v = low_first 0 8 v ∙ ap (digits 8) (div-one v)
