-- The texts of numbers: a decimal by its last digit, its length, and a sign in front. Assumes nothing.
use mathlib.Core.Logic.{◌⊎◌, inl, inr}
use mathlib.Core.Path.{◌≡◌, refl, sym, ap, ◌∙◌}
use mathlib.Core.Bool.{true, false, cond, true≢false}
use Prim.Native.Nat.{ℕ, zero, suc, ◌+◌, ◌*◌, ◌/◌, ◌%◌, ◌^◌, ◌≤◌, ◌<◌}
use native.Mathlib.Nat.{pow-succ'}
use native.Mathlib.Decide.{dec_lt}
use native.Mathlib.Omega.{arith}
use mathlib.Core.List.{[], ◌∷◌, ◌++◌, append_assoc}
use lib.ListN.{length, length-append}
use lib.IntN.{ℤ, pos, negsuc, nat_abs}
use lib.Signed.{lt_z}
use borrow.Author.Tests.{lt-ltb, le-ltb, ltb-true}
use Rattle.rule.specs.declared.Average.{Average}
use Rattle.rule.specs.declared.Average.TheVariants.{Hundredths, Nothing, Beyond}
use Rattle.rule.specs.Averages.{average}
use Rattle.image.specs.Listing.{Run}
use Rattle.calls.specs.Program.{decimal_in, decimal, integer, two_decimals, average_text, run_text}
use Rattle.print.specs.declared.Printer.{Printer}
use Rattle.print.specs.Written.{Prints, sign_text}

-- one digit, and more
in_one : (k n : ℕ) → n < 10 → decimal_in (suc k) n ≡ (48 + n) ∷ []
unfolding decimal_in
in_one k n h = ap (λ t. cond t ((48 + n) ∷ []) (decimal_in k (n / 10) ++ ((48 + n % 10) ∷ []))) (lt-ltb n 10 h)

in_more : (k n : ℕ) → 10 ≤ n → decimal_in (suc k) n ≡ decimal_in k (n / 10) ++ ((48 + n % 10) ∷ [])
unfolding decimal_in
in_more k n h = ap (λ t. cond t ((48 + n) ∷ []) (decimal_in k (n / 10) ++ ((48 + n % 10) ∷ []))) (le-ltb n 10 h)

-- a number whose digits have room needs no more
in_enough : (k n : ℕ) → n < 10 ^ suc k → decimal_in (suc k) n ≡ decimal_in (suc (suc k)) n
in_enough zero n h = in_one 0 n h ∙ sym (in_one 1 n h)
in_enough (suc k) n h =
    let p : 10 ^ suc (suc k) ≡ 10 * 10 ^ suc k = pow-succ' 10 (suc k) in
    step (dec_lt n 10) (in_enough k (n / 10) (omega arith))
  where
    step : Dec (n < 10) → decimal_in (suc k) (n / 10) ≡ decimal_in (suc (suc k)) (n / 10)
        → decimal_in (suc (suc k)) n ≡ decimal_in (suc (suc (suc k))) n
    step (yes l) e = in_one (suc k) n l ∙ sym (in_one (suc (suc k)) n l)
    step (no g) e =
        let l : 10 ≤ n = omega arith in
        in_more (suc k) n l ∙ ap (λ ds. ds ++ ((48 + n % 10) ∷ [])) e ∙ sym (in_more (suc (suc k)) n l)

length_in : (k n : ℕ) → length (decimal_in k n) ≤ k
unfolding decimal_in
length_in zero n = omega arith
length_in (suc k) n = step (dec_lt n 10) (length_in k (n / 10))
  where
    step : Dec (n < 10) → length (decimal_in k (n / 10)) ≤ k → length (decimal_in (suc k) n) ≤ suc k
    step (yes l) h = omega (arith, ap length (in_one k n l))
    step (no g) h =
        let l : 10 ≤ n = omega arith in
        omega (arith, ap length (in_more k n l), length-append (decimal_in k (n / 10)) ((48 + n % 10) ∷ []))

-- ---- a decimal by its last digit

pub decimal_one : (n : ℕ) → n < 10 → decimal n ≡ (48 + n) ∷ []
unfolding decimal
decimal_one n h = in_one 19 n h

pub decimal_more : (n : ℕ) → 10 ≤ n → n < 10 ^ 20 → decimal n ≡ decimal (n / 10) ++ ((48 + n % 10) ∷ [])
unfolding decimal
decimal_more n h k = in_more 19 n h ∙ ap (λ ds. ds ++ ((48 + n % 10) ∷ [])) (in_enough 18 (n / 10) (omega arith))

pub length_decimal : (n : ℕ) → length (decimal n) ≤ 20
unfolding decimal
length_decimal n = length_in 20 n

-- the digits before the last one leave room for it
pub length_before : (n : ℕ) → 10 ≤ n → n < 10 ^ 20 → length (decimal (n / 10)) < 20
length_before n h k = omega (arith, ap length (decimal_more n h k), length-append (decimal (n / 10)) ((48 + n % 10) ∷ []), length_decimal n)

-- ---- a sign in front

pub sign_minus : (z : ℤ) → lt_z z (pos 0) ≡ true → sign_text z ≡ 45 ∷ []
unfolding sign_text
sign_minus (pos n) h = let l : n < 0 = ltb-true n 0 h in absurd (omega arith)
sign_minus (negsuc n) h = refl

pub sign_none : (z : ℤ) → lt_z z (pos 0) ≡ false → sign_text z ≡ []
unfolding sign_text
sign_none (pos n) h = refl
sign_none (negsuc n) h = absurd (true≢false h)

pub length_sign : (z : ℤ) → length (sign_text z) ≤ 1
unfolding sign_text
length_sign (pos n) = omega arith
length_sign (negsuc n) = omega arith

integer_signed : (z : ℤ) → sign_text z ++ decimal (nat_abs z) ≡ integer z
unfolding sign_text integer
integer_signed (pos n) = refl
integer_signed (negsuc n) = refl

pub signed_integer : {y z : ℤ} {m : ℕ} → m ≡ nat_abs y → y ≡ z → sign_text y ++ decimal m ≡ integer z
signed_integer {y} e f = ap (λ n. sign_text y ++ decimal n) e ∙ integer_signed y ∙ ap integer f

pub length_integer : (z : ℤ) → length (integer z) ≤ 21
length_integer z =
    omega (arith, ap length (integer_signed z), length-append (sign_text z) (decimal (nat_abs z)), length_sign z, length_decimal (nat_abs z))

average_signed : (z : ℤ) → sign_text z ++ two_decimals (nat_abs z) ≡ average_text (Hundredths z)
unfolding sign_text average_text
average_signed (pos n) = refl
average_signed (negsuc n) = refl

pub signed_average : {z : ℤ} {m : ℕ} {a : Average} → m ≡ nat_abs z → a ≡ Hundredths z → sign_text z ++ two_decimals m ≡ average_text a
signed_average {z} e f = ap (λ n. sign_text z ++ two_decimals n) e ∙ average_signed z ∙ ap average_text (sym f)

-- "`-` for none", and for a sum that no fit page can show
pub without_average : {a : Average} → (a ≡ Nothing) ⊎ (a ≡ Beyond) → 45 ∷ [] ≡ average_text a
unfolding average_text
without_average (inl e) = ap average_text (sym e)
without_average (inr e) = ap average_text (sym e)

length_two_decimals : (n : ℕ) → length (two_decimals n) ≤ 23
unfolding two_decimals
length_two_decimals n =
    omega (arith, length-append (decimal (n / 100)) (46 ∷ (48 + n / 10 % 10) ∷ (48 + n % 10) ∷ []), length_decimal (n / 100))

pub length_average : (a : Average) → length (average_text a) ≤ 24
unfolding average_text
length_average (Hundredths z) =
    let m : ℕ = nat_abs z in
    omega (arith, ap length (average_signed z), length-append (sign_text z) (two_decimals m), length_sign z, length_two_decimals m)
length_average Nothing = omega arith
length_average Beyond = omega arith

-- ---- a space behind

pub length_instant : (t : ℕ) → length (decimal t ++ (32 ∷ [])) ≤ 21
length_instant t = omega (arith, length-append (decimal t) (32 ∷ []), length_decimal t)

pub length_amount : (z : ℤ) → length (integer z ++ (32 ∷ [])) ≤ 22
length_amount z = omega (arith, length-append (integer z) (32 ∷ []), length_integer z)

-- ---- how far what is printed reaches at most: rules for omega, which applies each to every thing that was printed

module _ {p q : Printer} where
  pub behind_decimal : (n : ℕ) → Prints p (decimal n) q → q.at ≤ p.at + 20
  behind_decimal n f = omega (arith, f.put.offset, length_decimal n)

  pub behind_sign : (z : ℤ) → Prints p (sign_text z) q → q.at ≤ p.at + 1
  behind_sign z f = omega (arith, f.put.offset, length_sign z)

  pub behind_integer : (z : ℤ) → Prints p (integer z) q → q.at ≤ p.at + 21
  behind_integer z f = omega (arith, f.put.offset, length_integer z)

  pub behind_instant : (n : ℕ) → Prints p (decimal n ++ (32 ∷ [])) q → q.at ≤ p.at + 21
  behind_instant n f = omega (arith, f.put.offset, length_instant n)

  pub behind_amount : (z : ℤ) → Prints p (integer z ++ (32 ∷ [])) q → q.at ≤ p.at + 22
  behind_amount z f = omega (arith, f.put.offset, length_amount z)

  pub behind_average : (a : Average) → Prints p (average_text a) q → q.at ≤ p.at + 24
  behind_average a f = omega (arith, f.put.offset, length_average a)

-- six things make the line of a run
pub run_pieces : (r : Run) (end : ℕ) {z y : ℤ} {a : Average} → z ≡ r.pair.sum → y ≡ r.pair.count → a ≡ average 1 r.pair
    → (decimal r.start ++ (32 ∷ [])) ++ ((decimal end ++ (32 ∷ [])) ++ ((integer z ++ (32 ∷ []))
    ++ ((integer y ++ (32 ∷ [])) ++ (average_text a ++ (10 ∷ []))))) ≡ run_text r end
unfolding run_text
run_pieces r end e f g = rw (e, f, g) (simp append_assoc)
