-- The chain as the audit's loop meets it: with left of it to go, a page p of n that leads to a free one, or not. Assumes nothing.
use mathlib.Core.Path.{◌≡◌, refl, sym, ap, ◌∙◌}
use mathlib.Core.Bool.{true, false, ◌&&◌, and_assoc}
use mathlib.Core.List.{List}
use Prim.Native.Nat.{ℕ, zero, suc, ◌-◌, ◌≤◌, ◌<◌}
use native.Mathlib.Numerals.{sub-one}
use native.Mathlib.Omega.{arith}
use lib.Dec.{eqb}
use Rattle.page.specs.Layout.{next_of}
use Rattle.image.specs.Images.{page_at, pages_in}
use Rattle.soundness.specs.Counting.{chain_ends}
use Rattle.fit.proofs.Tests.{fails}
use Rattle.audit.specs.Walks.{leads_to_free}

module _ (half : ℕ) (img : List ℕ) where
  pub chain_none : (left p : ℕ) → left ≤ 0 → eqb p 0 ≡ chain_ends half img left p
  unfolding chain_ends
  chain_none zero p l = refl
  chain_none (suc k) p l = absurd (omega arith)

  chain_more : (n left p : ℕ) → pages_in half img ≡ n → 0 < left
      → leads_to_free half img n p && chain_ends half img (left - 1) (next_of (page_at half img p)) ≡ chain_ends half img left p
  unfolding leads_to_free chain_ends
  chain_more n zero p e l = absurd (omega arith)
  chain_more n (suc k) p e l = rw (e, sub-one) (simp and_assoc)

  pub chain_on : (n left p : ℕ) → pages_in half img ≡ n → 0 < left → leads_to_free half img n p ≡ true
      → chain_ends half img left p ≡ chain_ends half img (left - 1) (next_of (page_at half img p))
  chain_on n left p e l h = sym (chain_more n left p e l) ∙ ap (λ t. t && chain_ends half img (left - 1) (next_of (page_at half img p))) h

  pub chain_stops : (n left p : ℕ) → pages_in half img ≡ n → 0 < left → leads_to_free half img n p ≡ false
      → false ≡ chain_ends half img left p
  chain_stops n left p e l h = fails (chain_ends half img (left - 1) (next_of (page_at half img p))) h ∙ chain_more n left p e l
