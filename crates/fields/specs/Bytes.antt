-- Parts of a list of bytes and the writing of a part: the one vocabulary for every byte that is read or written. Assumes nothing.
use Rattle.std.specs.Prelude.{ℕ, zero, suc, ◌+◌, ◌<◌, Bool, true, ◌&&◌, List, [], ◌∷◌, ◌++◌, length, get_or, take, drop, replicate, eqb}

-- Each number of a list is a byte: below 256. Any slice of bytes has this.
abbrev pub Bytes : List ℕ → Type 0
Bytes s = (i : ℕ) → get_or s i 0 < 256

-- the n bytes of s from offset o on
unfoldable pub part : List ℕ → ℕ → ℕ → List ℕ
part s o n = take n (drop o s)

-- s with bs in the place of as many bytes from offset o on
unfoldable pub patch : List ℕ → ℕ → List ℕ → List ℕ
patch s o bs = take o s ++ (bs ++ drop (o + length bs) s)

-- "Unused bytes are FF (hexadecimal)."
unfoldable pub unused : ℕ → List ℕ
unused n = replicate n 255

-- the test whether all bytes of a list are b
unfoldable pub all_are : ℕ → List ℕ → Bool
all_are b [] = true
all_are b (x ∷ xs) = eqb x b && all_are b xs

-- p of each number below n
unfoldable pub every : ℕ → (ℕ → Bool) → Bool
every zero p = true
every (suc n) p = every n p && p n
