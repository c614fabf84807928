-- A booking has 35 bytes at most: the sign, a value of 11 and two instants of 10, and three spaces. Assumes nothing.
use mathlib.Core.Path.{◌≡◌, refl, ap, ◌∙◌}
use mathlib.Core.Bool.{Bool, true, false, cond}
use Prim.Native.Nat.{ℕ, suc, ◌+◌, ◌<◌}
use native.Mathlib.Decide.{dec_lt, ℕ_discrete}
use native.Mathlib.Omega.{arith}
use mathlib.Core.List.{List, [], ◌∷◌}
use lib.ListN.{length, get_or, drop, length-drop}
use lib.Dec.{eqb}
use Rattle.calls.specs.Changes.{Side}
use Rattle.calls.specs.Program.{unread, cut_at, onto_first, instant_read, value_read, line_with, signed_line, line_from}
use Rattle.text.proofs.Laws.Cuts.{Pieces, cut_some}
use Rattle.text.proofs.Laws.Digits.{read_long}
use Rattle.text.proofs.Laws.Lines.{instant_not, value_minus, value_plain, sign_alone, unsigned, sign_unread, not_value, not_start, not_end}

-- the bytes of the pieces, and one more for each
unfoldable size : List (List ℕ) → ℕ
size [] = 0
size (l ∷ ls) = suc (length l) + size ls

size_onto : (x : ℕ) {ls : List (List ℕ)} → Pieces ls → size (onto_first x ls) ≡ suc (size ls)
unfolding size onto_first
size_onto x p = rw p.same (omega arith)

cut_size : (b : ℕ) (s : List ℕ) → size (cut_at b s) ≡ suc (length s)
unfolding size cut_at
cut_size b [] = refl
cut_size b (x ∷ xs) = step (eqb x b) (cut_size b xs)
  where
    step : (t : Bool) → size (cut_at b xs) ≡ suc (length xs)
        → size (cond t ([] ∷ cut_at b xs) (onto_first x (cut_at b xs))) ≡ suc (suc (length xs))
    step true e = omega arith
    step false e = size_onto x (cut_some b xs) ∙ ap suc e

-- ---- fields that are too long

value_long : (ds : List ℕ) → 11 < length ds → value_read ds ≡ false
value_long ds h = step (ℕ_discrete (get_or ds 0 0) 45)
  where
    step : Dec (get_or ds 0 0 ≡ 45) → value_read ds ≡ false
    step (yes e) =
        let l : 10 < length (drop 1 ds) = simp length-drop (omega arith) in
        value_minus ds (omega arith) e ∙ read_long (drop 1 ds) l
    step (no n) = value_plain ds (omega arith) n ∙ read_long ds (omega arith)

instant_long : (ds : List ℕ) → 10 < length ds → instant_read ds ≡ false
instant_long ds h = instant_not ds (read_long ds h)

three_long : (side : Side) (v s e : List ℕ) → 31 < length v + length s + length e → line_with side v s e ≡ unread
three_long side v s e h = step (dec_lt 11 (length v)) (dec_lt 10 (length s))
  where
    step : Dec (11 < length v) → Dec (10 < length s) → line_with side v s e ≡ unread
    step (yes l) d = not_value side v s e (value_long v l)
    step (no n) (yes l) = not_start side v s e (instant_long s l)
    step (no n) (no m) = not_end side v s e (instant_long e (omega arith))

four_long : (c v s e : List ℕ) → 32 < length c + length v + length s + length e → signed_line c v s e ≡ unread
four_long c v s e h = step (ℕ_discrete (length c) 1)
  where
    step : Dec (length c ≡ 1) → signed_line c v s e ≡ unread
    step (yes l) = sign_unread c v s e (λ side. three_long side v s e (omega arith))
    step (no n) = unsigned c v s e (sign_alone c n)

pieces_long : (ls : List (List ℕ)) → 36 < size ls → line_from ls ≡ unread
unfolding size line_from
pieces_long [] h = refl
pieces_long (a ∷ []) h = refl
pieces_long (a ∷ b ∷ []) h = refl
pieces_long (a ∷ b ∷ d ∷ []) h = refl
pieces_long (a ∷ b ∷ d ∷ e ∷ []) h = four_long a b d e (omega arith)
pieces_long (a ∷ b ∷ d ∷ e ∷ f ∷ fs) h = refl

pub long_unread : (s : List ℕ) → 35 < length s → line_from (cut_at 32 s) ≡ unread
long_unread s h = pieces_long (cut_at 32 s) (omega (arith, cut_size 32 s))
