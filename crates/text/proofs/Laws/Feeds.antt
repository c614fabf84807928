-- What is kept of a line that comes byte by byte. Assumes nothing.
use mathlib.Core.Path.{◌≡◌, sym, ap, ◌∙◌}
use Prim.Native.Nat.{ℕ, ◌+◌, ◌≤◌, ◌<◌, min}
use native.Mathlib.Numerals.{add-one}
use native.Mathlib.Omega.{arith}
use mathlib.Core.List.{List, [], ◌∷◌, ◌++◌}
use lib.ListN.{length, set, take, length-append, length-take}
use lib.Seq.{take_all, take-append-le, take-suc-set}
use Rattle.text.specs.Reading.{Holds}

-- the first n bytes of a buffer are those that are kept of a line
module _ (line buffer : List ℕ) (n : ℕ) (l : length buffer ≡ 36) (h : take n buffer ≡ take 36 line) where
  count : min n (length buffer) ≡ min 36 (length line)
  count = sym (length-take n buffer) ∙ ap length h ∙ length-take 36 line

  -- a byte more, where there is room, and where there is none
  pub more_bytes : (b : ℕ) → n < 36 → take (n + 1) (set buffer n b) ≡ take 36 (line ++ (b ∷ []))
  more_bytes b k =
      ap (λ i. take i (set buffer n b)) (add-one n)
      ∙ take-suc-set buffer n b (omega arith)
      ∙ ap (λ r. r ++ (b ∷ [])) (h ∙ take_all 36 line (omega (arith, count)))
      ∙ sym (take_all 36 (line ++ (b ∷ [])) (omega (arith, count, length-append line (b ∷ []))))

  pub full_bytes : (b : ℕ) → 36 ≤ n → take n buffer ≡ take 36 (line ++ (b ∷ []))
  full_bytes b k = h ∙ sym (take-append-le 36 line (b ∷ []) (omega (arith, count)))

-- the same where n says how many they are
module _ (line buffer : List ℕ) (n : ℕ) (l : length buffer ≡ 36) (h : Holds (record { length = n; bytes = take n buffer }) line) where
  pub fed_more : (b : ℕ) → n < 36 → Holds (record { length = n + 1; bytes = take (n + 1) (set buffer n b) }) (line ++ (b ∷ []))
  fed_more b k =
      record { count = omega (arith, h.count, length-append line (b ∷ [])); same = more_bytes line buffer n l h.same b k }

  pub fed_full : (b : ℕ) → 36 ≤ n → Holds (record { length = n; bytes = take n buffer }) (line ++ (b ∷ []))
  fed_full b k =
      record { count = omega (arith, h.count, length-append line (b ∷ [])); same = full_bytes line buffer n l h.same b k }

-- a line of which not too much is kept is all there, and another one is longer than a booking
pub held_line : {kept : List ℕ} (line : List ℕ) → kept ≡ take 36 line → length kept ≤ 35 → kept ≡ line
held_line line h k = h ∙ take_all 36 line (omega (arith, ap length h, length-take 36 line))

pub held_long : {kept : List ℕ} (line : List ℕ) → kept ≡ take 36 line → 35 < length kept → 35 < length line
held_long line h k = omega (arith, ap length h, length-take 36 line)

-- nothing is kept of the empty line, and of no other
pub held_none : {kept : List ℕ} (line : List ℕ) → kept ≡ take 36 line → length kept ≡ 0 → length line ≡ 0
held_none line h e = omega (arith, ap length h, length-take 36 line)

pub held_some : {kept : List ℕ} (line : List ℕ) → kept ≡ take 36 line → length line ≡ 0 → length kept ≡ 0
held_some line h e = omega (arith, ap length h, length-take 36 line)
