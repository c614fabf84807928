-- The digits of a number, as a loop passes them. Assumes nothing.
use mathlib.Core.Logic.{◌⊎◌, inl, inr}
use mathlib.Core.Path.{◌≡◌, refl, sym, ap, ap₂, ◌∙◌}
use mathlib.Core.Bool.{false, cond, ◌&&◌, and-false}
use Prim.Native.Nat.{ℕ, ◌+◌, ◌*◌, ◌-◌, ◌^◌, ◌≤◌, ◌<◌}
use native.Mathlib.Nat.{pow-succ', pow-le-pow_right}
use native.Mathlib.Numerals.{add-one}
use native.Mathlib.Omega.{arith}
use mathlib.Core.List.{List, []}
use lib.ListN.{length, get_or, drop}
use lib.Seq.{drop-cons, drop-length}
use lib.Dec.{leb}
use borrow.Author.Tests.{le-leb, lt-leb}
use Rattle.std.specs.Prelude.{Some, None}
use Rattle.text.specs.Reading.{number_of}
use Rattle.calls.specs.Program.{all_digits, number_read, number_from}

-- ---- whether all bytes are digits

digits_first : (ds : List ℕ) (i : ℕ) → i < length ds
    → all_digits (drop i ds) ≡ leb 48 (get_or ds i 0) && (leb (get_or ds i 0) 57 && all_digits (drop (i + 1) ds))
unfolding all_digits
digits_first ds i h =
    ap all_digits (drop-cons ds i 0 h)
    ∙ ap (λ k. leb 48 (get_or ds i 0) && (leb (get_or ds i 0) 57 && all_digits (drop k ds))) (sym (add-one i))

-- ---- whether it is a number

pub read_none : (ds : List ℕ) → length ds < 1 → number_read ds ≡ false
unfolding number_read
read_none ds h = ap (λ t. t && (leb (length ds) 10 && all_digits ds)) (lt-leb 1 (length ds) h)

pub read_long : (ds : List ℕ) → 10 < length ds → number_read ds ≡ false
unfolding number_read
read_long ds h =
    ap (λ t. t && (leb (length ds) 10 && all_digits ds)) (le-leb 1 (length ds) (omega arith))
    ∙ ap (λ t. t && all_digits ds) (lt-leb (length ds) 10 h)

read_digits : (ds : List ℕ) → 1 ≤ length ds → length ds ≤ 10 → number_read ds ≡ all_digits ds
unfolding number_read
read_digits ds h k =
    ap (λ t. t && (leb (length ds) 10 && all_digits ds)) (le-leb 1 (length ds) h)
    ∙ ap (λ t. t && all_digits ds) (le-leb (length ds) 10 k)

no_number : (ds : List ℕ) → number_read ds ≡ false → None ≡ number_of ds
unfolding number_of
no_number ds h = ap (λ t. cond t (Some (number_from 0 ds)) None) (sym h)

pub none_short : (ds : List ℕ) → length ds < 1 → None ≡ number_of ds
none_short ds h = no_number ds (read_none ds h)

pub none_long : (ds : List ℕ) → 10 < length ds → None ≡ number_of ds
none_long ds h = no_number ds (read_long ds h)

-- ---- which number it is

-- the loop's invariant: n is the number of the bytes passed, which are digits, of ten bytes at most
pub record Summed (ds : List ℕ) (i n : ℕ) : Type 0 where
  pub within : i ≤ length ds
  pub some : 1 ≤ length ds
  pub short : length ds ≤ 10
  pub small : n < 10 ^ i
  pub left : number_read ds ≡ all_digits (drop i ds)
  pub same : number_from 0 ds ≡ number_from n (drop i ds)

pub summed_first : (ds : List ℕ) → 1 ≤ length ds → length ds ≤ 10 → Summed ds 0 0
summed_first ds h k =
    record { within = omega arith; some = h; short = k; small = omega arith; left = read_digits ds h k; same = refl }

-- ten digits are below 10 ^ 10
pub summed_small : {ds : List ℕ} {i n : ℕ} → Summed ds i n → n < 10 ^ 10
summed_small {ds} {i} {n} h =
    let l : i ≤ 10 = omega (arith, h.within, h.short) in
    let m : 10 ^ i ≤ 10 ^ 10 = pow-le-pow_right (omega arith) l in
    omega (arith, h.small)

-- the next byte is a digit
pub summed_more : {ds : List ℕ} {i n : ℕ} → Summed ds i n → i < length ds → 48 ≤ get_or ds i 0 → get_or ds i 0 ≤ 57
    → {d : ℕ} → d ≡ get_or ds i 0 - 48 → Summed ds (i + 1) (10 * n + d)
unfolding number_from
summed_more {ds} {i} {n} h l least most {d} f =
    let p : 10 ^ (i + 1) ≡ 10 * 10 ^ i = ap (λ k. 10 ^ k) (add-one i) ∙ pow-succ' 10 i in
    record {
      within = omega arith;
      some = h.some;
      short = h.short;
      small = omega (arith, h.small, p, most, f);
      left =
          h.left
          ∙ digits_first ds i l
          ∙ ap (λ t. t && (leb (get_or ds i 0) 57 && all_digits (drop (i + 1) ds))) (le-leb 48 (get_or ds i 0) least)
          ∙ ap (λ t. t && all_digits (drop (i + 1) ds)) (le-leb (get_or ds i 0) 57 most);
      same =
          h.same
          ∙ ap (number_from n) (drop-cons ds i 0 l)
          ∙ ap₂ (λ e k. number_from (10 * n + e) (drop k ds)) (sym f) (sym (add-one i));
    }

-- it is none
pub summed_other : {ds : List ℕ} {i n : ℕ} → Summed ds i n → i < length ds → (get_or ds i 0 < 48) ⊎ (57 < get_or ds i 0)
    → None ≡ number_of ds
summed_other {ds} {i} {n} h l (inl b) =
    no_number ds
    (h.left
    ∙ digits_first ds i l
    ∙ ap (λ t. t && (leb (get_or ds i 0) 57 && all_digits (drop (i + 1) ds))) (lt-leb 48 (get_or ds i 0) b))
summed_other {ds} {i} {n} h l (inr b) =
    no_number ds
    (h.left
    ∙ digits_first ds i l
    ∙ ap (λ t. leb 48 (get_or ds i 0) && (t && all_digits (drop (i + 1) ds))) (lt-leb (get_or ds i 0) 57 b)
    ∙ and-false (leb 48 (get_or ds i 0)))

pub summed_all : {ds : List ℕ} {i n : ℕ} → Summed ds i n → length ds ≤ i → Some n ≡ number_of ds
unfolding number_of number_from all_digits
summed_all {ds} {i} {n} h l =
    let e : i ≡ length ds = omega (arith, h.within) in
    let d : drop i ds ≡ [] = ap (λ k. drop k ds) e ∙ drop-length ds in
    sym (ap₂ (λ t k. cond t (Some k) None) (h.left ∙ ap all_digits d) (h.same ∙ ap (number_from n) d))
