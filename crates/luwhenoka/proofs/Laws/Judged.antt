-- A call by what the rows ahead said of its image. Assumes nothing.
use Prim.Native.Nat.{ℕ, ◌≤◌}
use mathlib.Core.Path.{◌≡◌, sym, ap, ◌∙◌}
use mathlib.Core.Logic.{◌≢◌}
use mathlib.Core.List.{List}
use native.Mathlib.Omega.{arith}
use Rattle.std.specs.Prelude.{Option, None, Result, Ok, Err, IsErr, IsErrAnd}
use Rattle.std.specs.Option.{ok_or}
use Rattle.calls.specs.declared.refusals.Refusal.{Refusal}
use Rattle.image.specs.Images.{half_of}
use Rattle.image.proofs.Capacity.{own_half}
use Rattle.calls.specs.Index.{names_capacity, judge, judged}
use Rattle.calls.proofs.Judged.{judged_own, judged_refused, goes_on}

module _ (img : List ℕ) {half : ℕ} (passed : 0 ≡ judge img) (named : half ≡ half_of img) where
  -- the half that it goes by is in its range
  pub half_ranged : (2 ≤ half) × (half ≤ 12)
  unfolding names_capacity
  half_ranged =
      let h = own_half (goes_on img (sym passed)).named in
      (omega (arith, h.least, named), omega (arith, h.most, named))

  pub by_half : {A : Type 0} (refused call : ℕ → A) → call half ≡ judged refused call img
  by_half refused call = ap call named ∙ sym (judged_own refused call img (sym passed))

pub by_refusal : (img : List ℕ) {number : ℕ} → number ≡ judge img → number ≢ 0 → {A : Type 0} (refused call : ℕ → A)
    → refused number ≡ judged refused call img
by_refusal img e n refused call = ap refused e ∙ sym (judged_refused refused call img (λ z. n (e ∙ z)))

-- what a `?` answers on its way out
pub handed_on_is : {A : Type 0} (r : Result A Refusal) (refusal : Refusal) → IsErr r × IsErrAnd r (λ e. e ≡ refusal) → r ≡ Err refusal
handed_on_is (Ok x) refusal h = absurd (h.1)
handed_on_is (Err e) refusal h = ap Err h.1

same_refusal : {A : Type 0} {e told : Refusal} → ◌≡◌ {A = Result A Refusal} (Err e) (Err told) → e ≡ told
same_refusal s = cc

-- and where it is that of an `ok_or` which had nothing
pub handed_on_none : {A B : Type 0} (r : Result A Refusal) (o : Option B) (refusal told : Refusal)
    → IsErr r × IsErrAnd r (λ e. e ≡ refusal) → Err refusal ≡ ok_or o told → o ≡ None → r ≡ Err told
handed_on_none r o refusal told h e n = handed_on_is r refusal h ∙ ap Err (same_refusal (e ∙ ap (λ x. ok_or x told) n))
