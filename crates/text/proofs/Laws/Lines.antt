-- The fields of a line: what each way out of the functions that read it rests on. Assumes nothing.
use mathlib.Core.Path.{◌≡◌, refl, sym, ap, ap₂, subst, ◌∙◌}
use mir.Syntax.{w64}
use mir.Val.{SFits, to_z, of_z}
use mir.Facts.{to_z-of_z}
use mir.ValLaws.{to_z_pos}
use denote.Param.Members.{Mut}
use denote.Ref.{Bor}
use mathlib.Core.Bool.{Bool, true, false, cond, ◌&&◌, and-false, false≢true}
use Prim.Native.Nat.{ℕ, ◌^◌, ◌≤◌, ◌<◌}
use native.Mathlib.Decide.{dec_lt}
use native.Mathlib.Omega.{arith}
use mathlib.Core.List.{List, [], ◌∷◌, map}
use lib.ListN.{length, get_or, take, drop}
use lib.Dec.{eqb, leb}
use lib.IntN.{ℤ, pos, neg_ℤ, ◌-ℤ◌, +ℤ_idl}
use lib.Pointwise.{pointwise}
use borrow.Author.Tests.{le-leb, lt-leb, eq-eqb, ne_eqb}
use Rattle.std.specs.Prelude.{Option, Some, None, option_map, nat_eq}
use Rattle.std.specs.declared.result.Result.TheVariants.{Ok, Err}
use Rattle.std.specs.Prelude.{Result}
use Rattle.std.specs.Result.{OkIff, result_ok}
use Rattle.std.specs.Iterator.{Yields}
use Rattle.std.proofs.lemmas.Option.{none-some, cond_some}
use Rattle.std.specs.Iterator.Runs.{Run, EachRunFrom}
use Rattle.std.specs.Slice.Iter.{split_rest, split_done, split_callee, split_steps}
use Rattle.std.specs.Fn.{CalledAt}
use Rattle.std.proofs.lemmas.Iterator.{YieldsList}
use Rattle.std.proofs.lemmas.Iterator.Splits.{YieldsList-from_slice_split}
use Rattle.std.proofs.lemmas.Iterator.Consumers.{YieldsList-so_far, YieldsList-end}
use Rattle.rule.specs.Time.{END}
use Rattle.rule.proofs.Signed.{sfits_nat_abs, nat_abs_neg}
use Rattle.calls.specs.Changes.{Side, entering, withdrawing}
use Rattle.calls.specs.Program.{cut_at, Line, booking, unread, line_with, signed_line, line_from}
use Rattle.calls.specs.Program.{number_read, number_from, instant_read, value_read, value_from}
use Rattle.calls.specs.declared.bookings.Side as declared
use Rattle.calls.specs.declared.bookings.Side.TheVariants.{Entering, Withdrawing}
use Rattle.calls.specs.Bookings.{side_of}
use Rattle.text.specs.Reading.{number_of, instant_of, value_of, sign_of, line_of}
use Rattle.text.proofs.Laws.Cuts.{cut_split}

-- a test whose value is none
none_false : {A : Type 0} (t : Bool) (x : A) → cond t (Some x) None ≡ None → t ≡ false
none_false true x e = absurd (none-some x (sym e))
none_false false x e = refl

-- ---- an instant

pub instant_not : (ds : List ℕ) → number_read ds ≡ false → instant_read ds ≡ false
unfolding instant_read
instant_not ds h = ap (λ t. t && leb (number_from 0 ds) END) h

-- what is no number is no instant, and a number is one up to END
pub no_instant : (ds : List ℕ) → None ≡ number_of ds → None ≡ instant_of ds
unfolding number_of instant_of
no_instant ds h = ap (λ t. cond t (Some (number_from 0 ds)) None) (sym (instant_not ds (none_false _ _ (sym h))))

instant_number : (ds : List ℕ) {n : ℕ} → Some n ≡ number_of ds → instant_of ds ≡ cond (leb n END) (Some n) None
unfolding number_of instant_of instant_read
instant_number ds {n} h =
    let e = cond_some (number_read ds) (number_from 0 ds) n (sym h) in
    ap₂ (λ t k. cond (t && leb k END) (Some k) None) e.0 e.1

small_instant : (ds : List ℕ) {n : ℕ} → Some n ≡ number_of ds → n ≤ END → Some n ≡ instant_of ds
small_instant ds {n} h l = sym (instant_number ds h ∙ ap (λ t. cond t (Some n) None) (le-leb n END l))

large_instant : (ds : List ℕ) {n : ℕ} → Some n ≡ number_of ds → END < n → None ≡ instant_of ds
large_instant ds {n} h l = sym (instant_number ds h ∙ ap (λ t. cond t (Some n) None) (lt-leb n END l))

-- a number is one if it fits a u32
pub fitting_instant : {E : Type 0} (r : Result ℕ E) (ds : List ℕ) {n : ℕ} → Some n ≡ number_of ds → OkIff r (n < 4294967296) n
    → result_ok r ≡ instant_of ds
fitting_instant (Ok x) ds h o = ap Some o.1 ∙ small_instant ds h (omega (arith, o.0))
fitting_instant (Err x) ds {n} h o = large_instant ds h (step (dec_lt END n))
  where
    step : Dec (END < n) → END < n
    step (yes l) = l
    step (no g) = absurd (o (omega arith))

-- ---- a value: with a minus, without one

pub value_minus : (ds : List ℕ) → 0 < length ds → get_or ds 0 0 ≡ 45 → value_read ds ≡ number_read (drop 1 ds)
unfolding value_read
value_minus [] l h = absurd (omega arith)
value_minus (d ∷ ds) l h = ap (λ t. cond t (number_read ds) (number_read (d ∷ ds))) (eq-eqb d 45 h)

pub value_plain : (ds : List ℕ) → 0 < length ds → (get_or ds 0 0 ≡ 45 → ⊥) → value_read ds ≡ number_read ds
unfolding value_read
value_plain [] l h = absurd (omega arith)
value_plain (d ∷ ds) l h = ap (λ t. cond t (number_read ds) (number_read (d ∷ ds))) (ne_eqb d 45 h)

-- its number is that of the digits behind the minus, or of all of them
minus_value : (ds : List ℕ) → pointwise nat_eq (take 1 ds) (45 ∷ []) ≡ true
    → value_of ds ≡ option_map (λ n. neg_ℤ (pos n)) (number_of (drop 1 ds))
unfolding number_of value_of value_read value_from
minus_value [] h = absurd (false≢true h)
minus_value (d ∷ ds) h = step (eqb d 45) h
  where
    step : (t : Bool) → t && true ≡ true
        → cond (cond t (number_read ds) (number_read (d ∷ ds))) (Some (cond t (neg_ℤ (pos (number_from 0 ds))) (pos (number_from 0 (d ∷ ds))))) None
        ≡ option_map (λ n. neg_ℤ (pos n)) (cond (number_read ds) (Some (number_from 0 ds)) None)
    step true e = either (number_read ds)
      where
        either : (u : Bool) → cond u (Some (neg_ℤ (pos (number_from 0 ds)))) None
            ≡ option_map (λ n. neg_ℤ (pos n)) (cond u (Some (number_from 0 ds)) None)
        either true = refl
        either false = refl
    step false e = absurd (false≢true e)

plain_value : (ds : List ℕ) → pointwise nat_eq (take 1 ds) (45 ∷ []) ≡ false → value_of ds ≡ option_map pos (number_of ds)
unfolding number_of number_read value_of value_read value_from
plain_value [] h = refl
plain_value (d ∷ ds) h = step (eqb d 45) h
  where
    step : (t : Bool) → t && true ≡ false
        → cond (cond t (number_read ds) (number_read (d ∷ ds))) (Some (cond t (neg_ℤ (pos (number_from 0 ds))) (pos (number_from 0 (d ∷ ds))))) None
        ≡ option_map pos (cond (number_read (d ∷ ds)) (Some (number_from 0 (d ∷ ds))) None)
    step true e = absurd (false≢true (sym e))
    step false e = either (number_read (d ∷ ds))
      where
        either : (u : Bool) → cond u (Some (pos (number_from 0 (d ∷ ds)))) None
            ≡ option_map pos (cond u (Some (number_from 0 (d ∷ ds))) None)
        either true = refl
        either false = refl

module _ (v : List ℕ) {d : List ℕ} (p : pointwise nat_eq (take 1 v) (45 ∷ []) ≡ true) (e : d ≡ drop 1 v) where
  pub minus_none : None ≡ number_of d → None ≡ value_of v
  minus_none h = sym (minus_value v p ∙ ap (option_map (λ n. neg_ℤ (pos n))) (ap number_of (sym e) ∙ sym h))

  pub minus_some : {n : ℕ} {z : ℤ} → Some n ≡ number_of d → z ≡ neg_ℤ (pos n) → Some z ≡ value_of v
  minus_some h f = ap Some f ∙ sym (minus_value v p ∙ ap (option_map (λ n. neg_ℤ (pos n))) (ap number_of (sym e) ∙ sym h))

module _ (v : List ℕ) (p : pointwise nat_eq (take 1 v) (45 ∷ []) ≡ false) where
  pub plain_none : None ≡ number_of v → None ≡ value_of v
  plain_none h = sym (plain_value v p ∙ ap (option_map pos) (sym h))

  pub plain_some : {n : ℕ} {z : ℤ} → Some n ≡ number_of v → z ≡ pos n → Some z ≡ value_of v
  plain_some h f = ap Some f ∙ sym (plain_value v p ∙ ap (option_map pos) (sym h))

-- the machine's opposite of a number of ten digits
pub opposite : (n : ℕ) → n < 10 ^ 10 → pos 0 -ℤ to_z w64 n ≡ neg_ℤ (pos n)
opposite n h = ap (λ z. pos 0 -ℤ z) (to_z_pos w64 n (omega arith)) ∙ +ℤ_idl (neg_ℤ (pos n))

pub opposite_fits : (n : ℕ) → n < 10 ^ 10 → SFits w64 (pos 0 -ℤ to_z w64 n)
opposite_fits n h = sfits_nat_abs w64 (rw (opposite n h, nat_abs_neg (pos n)) (omega arith))

pub opposite_is : (n : ℕ) → n < 10 ^ 10 → to_z w64 (of_z w64 (pos 0 -ℤ to_z w64 n)) ≡ neg_ℤ (pos n)
opposite_is n h = to_z-of_z (opposite_fits n h) ∙ opposite n h

-- ---- three fields

module _ (side : Side) (v s e : List ℕ) where
  abbrev test : Bool → Line
  test t = cond t (booking side (value_from v) (number_from 0 s) (number_from 0 e)) unread

  with_tests : {a b c : Bool} → value_read v ≡ a → instant_read s ≡ b → instant_read e ≡ c
      → line_with side v s e ≡ test (a && (b && c))
  unfolding line_with
  with_tests f g h = ap test (ap₂ ◌&&◌ f (ap₂ ◌&&◌ g h))

  pub not_value : value_read v ≡ false → line_with side v s e ≡ unread
  not_value f = with_tests f refl refl

  pub not_start : instant_read s ≡ false → line_with side v s e ≡ unread
  not_start g = with_tests refl g refl ∙ ap test (and-false (value_read v))

  pub not_end : instant_read e ≡ false → line_with side v s e ≡ unread
  not_end h = with_tests refl refl h ∙ ap test (ap (λ t. value_read v && t) (and-false (instant_read s)) ∙ and-false (value_read v))

  -- the numbers that were read
  all_read : {z : ℤ} {m n : ℕ} → value_of v ≡ Some z → instant_of s ≡ Some m → instant_of e ≡ Some n
      → line_with side v s e ≡ booking side z m n
  unfolding value_of instant_of
  all_read {z} {m} {n} f g h =
      let i = cond_some (value_read v) (value_from v) z f in
      let j = cond_some (instant_read s) (number_from 0 s) m g in
      let k = cond_some (instant_read e) (number_from 0 e) n h in
      with_tests i.0 j.0 k.0 ∙ (let a = i.1 in let b = j.1 in let c = k.1 in cc)

-- ---- the sign and three fields

pub sign_unread : (c v s e : List ℕ) → ((side : Side) → line_with side v s e ≡ unread) → signed_line c v s e ≡ unread
unfolding signed_line
sign_unread [] v s e f = refl
sign_unread (x ∷ []) v s e f = step (eqb x 43) (eqb x 45)
  where
    step : (p m : Bool) → cond p (line_with entering v s e) (cond m (line_with withdrawing v s e) unread) ≡ unread
    step true m = f entering
    step false true = f withdrawing
    step false false = refl
sign_unread (x ∷ y ∷ ys) v s e f = refl

-- the line that is signed so
abbrev by_sign : Option declared.Side → List ℕ → List ℕ → List ℕ → Line
by_sign None v s e = unread
by_sign (Some d) v s e = line_with (side_of d) v s e

signed : (c v s e : List ℕ) → signed_line c v s e ≡ by_sign (sign_of c) v s e
unfolding sign_of signed_line
signed [] v s e = refl
signed (x ∷ []) v s e = step (eqb x 43) (eqb x 45)
  where
    step : (p m : Bool) → cond p (line_with entering v s e) (cond m (line_with withdrawing v s e) unread)
        ≡ by_sign (cond p (Some Entering) (cond m (Some Withdrawing) None)) v s e
    step true m = refl
    step false true = refl
    step false false = refl
signed (x ∷ y ∷ ys) v s e = refl

module _ (c v s e : List ℕ) where
  pub unsigned : sign_of c ≡ None → signed_line c v s e ≡ unread
  unsigned h = signed c v s e ∙ ap (λ d. by_sign d v s e) h

  module _ {d : declared.Side} (h : sign_of c ≡ Some d) where
    of_sign : {l : Line} → line_with (side_of d) v s e ≡ l → signed_line c v s e ≡ l
    of_sign f = signed c v s e ∙ ap (λ d. by_sign d v s e) h ∙ f

    pub without_value : value_of v ≡ None → signed_line c v s e ≡ unread
    unfolding value_of
    without_value f = of_sign (not_value (side_of d) v s e (none_false _ _ f))

    pub without_start : instant_of s ≡ None → signed_line c v s e ≡ unread
    unfolding instant_of
    without_start f = of_sign (not_start (side_of d) v s e (none_false _ _ f))

    pub without_end : instant_of e ≡ None → signed_line c v s e ≡ unread
    unfolding instant_of
    without_end f = of_sign (not_end (side_of d) v s e (none_false _ _ f))

    pub booked : {z : ℤ} {m n : ℕ} → value_of v ≡ Some z → instant_of s ≡ Some m → instant_of e ≡ Some n
        → signed_line c v s e ≡ line_of (Some (record { side = d; value = z; start = m; end = n }))
    unfolding line_of
    booked f g k = of_sign (all_read (side_of d) v s e f g k)

-- ---- a sign: one byte, + or -

pub sign_alone : (c : List ℕ) → (length c ≡ 1 → ⊥) → sign_of c ≡ None
unfolding sign_of
sign_alone [] n = refl
sign_alone (x ∷ []) n = absurd (n refl)
sign_alone (x ∷ y ∷ ys) n = refl

sign_tests : (c : List ℕ) {p m : Bool} → length c ≡ 1 → eqb (get_or c 0 0) 43 ≡ p → eqb (get_or c 0 0) 45 ≡ m
    → sign_of c ≡ cond p (Some Entering) (cond m (Some Withdrawing) None)
unfolding sign_of
sign_tests [] l f g = absurd (omega arith)
sign_tests (x ∷ []) l f g = ap₂ (λ p m. cond p (Some Entering) (cond m (Some Withdrawing) None)) f g
sign_tests (x ∷ y ∷ ys) l f g = absurd (omega arith)

pub sign_plus : (c : List ℕ) → length c ≡ 1 → get_or c 0 0 ≡ 43 → sign_of c ≡ Some Entering
sign_plus c l h = sign_tests c l (eq-eqb (get_or c 0 0) 43 h) refl

pub sign_minus : (c : List ℕ) → length c ≡ 1 → get_or c 0 0 ≡ 45 → sign_of c ≡ Some Withdrawing
sign_minus c l h = sign_tests c l (ne_eqb (get_or c 0 0) 43 (λ f. omega arith)) (eq-eqb (get_or c 0 0) 45 h)

pub sign_other : (c : List ℕ) → length c ≡ 1 → (get_or c 0 0 ≡ 43 → ⊥) → (get_or c 0 0 ≡ 45 → ⊥) → sign_of c ≡ None
sign_other c l f g = sign_tests c l (ne_eqb (get_or c 0 0) 43 f) (ne_eqb (get_or c 0 0) 45 g)

-- ---- the fields of a line, as an iterator yields them

pub split_yields : {F : Type 0} {g : Mut F (Bor ℕ × Unit {0}) Bool} {s : _} {f : F} {Q : Run (split_steps g) → Type 0} (xs : List ℕ)
    → EachRunFrom (split_steps g) s Q → split_rest s ≡ xs → split_done s ≡ false → split_callee s ≡ f
    → ((x : ℕ) (b : Bool) (q : F) → CalledAt g f x b q → (q ≡ f) × (b ≡ eqb x 32))
    → YieldsList (split_steps g) (λ x. x.now) s (cut_at 32 xs)
split_yields {g = g} {s = s} xs runs rest done closure tested =
    subst (YieldsList (split_steps g) (λ x. x.now) s) (sym (cut_split 32 xs))
    (YieldsList-from_slice_split g (λ b. eqb b 32) xs rest done closure tested)

five : (ls : List (List ℕ)) {k l m n o : List ℕ} → take 5 ls ≡ k ∷ l ∷ m ∷ n ∷ o ∷ [] → line_from ls ≡ unread
unfolding line_from
five [] h = refl
five (a ∷ []) h = refl
five (a ∷ b ∷ []) h = refl
five (a ∷ b ∷ c ∷ []) h = refl
five (a ∷ b ∷ c ∷ d ∷ []) h = let l = ap length h in absurd (omega arith)
five (a ∷ b ∷ c ∷ d ∷ f ∷ fs) h = refl

module _ {S A : Type 0} {steps : S → Option A → S → Type 0} {v : A → List ℕ} {s : S} {all : List (List ℕ)} (e : YieldsList steps v s all) where
  -- up to four, and no more
  pub yielded : (xs : List A) {t u : S} → Yields steps s xs t → steps t None u → line_from all ≡ line_from (map v xs)
  yielded xs {t} {u} y h = ap line_from (sym (YieldsList-end e xs t y None u refl h).0)

  -- more
  pub yielded_more : (a b c d f : A) {t : S} → Yields steps s (a ∷ b ∷ c ∷ d ∷ f ∷ []) t → line_from all ≡ unread
  yielded_more a b c d f {t} y = five all (sym (YieldsList-so_far e (a ∷ b ∷ c ∷ d ∷ f ∷ []) t y))
