-- The pages that a cut takes: how many, and what they leave of the chain and of the pages from the high mark on. Assumes nothing.
use Prim.Native.Nat.{ℕ, ◌+◌, ◌-◌, ◌≤◌}
use mathlib.Core.Path.{◌≡◌, ap, ◌∙◌}
use mathlib.Core.Logic.{◌↔◌}
use native.Mathlib.Omega.{arith}
use lib.ListN.{length, drop, length-drop}
use lib.Seq.{drop-drop}
use Rattle.tree.specs.Supply.{Supply}
use Rattle.tree.specs.Cut.{State, cut}
use Rattle.tree.proofs.Conservation.Supply.{later_chain, later_mark}
use Rattle.tree.proofs.Conservation.Cut.{cut_taken}

-- The cut took k pages: they left the chain's front, and then the pages from the high mark on.
pub record Taken (k : ℕ) (Y Z : State) : Type 0 where
  pub chain : Z.supply.chain ≡ drop k Y.supply.chain
  pub mark : Z.supply.mark ≡ Y.supply.mark + (k - length Y.supply.chain)

-- one after the other
pub taken_both : {j k : ℕ} (X Y Z : State) → Taken j X Y → Taken k Y Z → Taken (j + k) X Z
taken_both {j} {k} X Y Z a b =
    let n = ap length a.chain ∙ length-drop j X.supply.chain in
    record {
      chain = b.chain ∙ (ap (λ ps. drop k ps) a.chain ∙ drop-drop k j X.supply.chain);
      mark = omega arith;
    }

-- the number, by what left the chain and what the high mark passed
pub taken_number : {k : ℕ} (Y Z : State) → Taken k Y Z
    → (length Y.supply.chain - length Z.supply.chain) + (Z.supply.mark - Y.supply.mark) ≡ k
taken_number {k} Y Z a = omega (arith, ap length a.chain ∙ length-drop k Y.supply.chain)

-- the high mark stays within n pages exactly if chain and pages from the high mark on hold them all
pub taken_fits : {k : ℕ} (n : ℕ) (Y Z : State) → Taken k Y Z → Y.supply.mark ≤ n
    → (k ≤ length Y.supply.chain + (n - Y.supply.mark)) ↔ (Z.supply.mark ≤ n)
taken_fits n Y Z a h = omega arith

pub cut_takes : (half t : ℕ) (Y : State) → (k : ℕ) × Taken k Y (cut half t Y)
cut_takes half t Y =
    let (k, e) = cut_taken half t Y in (
      k,
      record {
        chain = ap (λ (S : Supply). S.chain) e ∙ later_chain k Y.supply;
        mark = ap (λ (S : Supply). S.mark) e ∙ later_mark k Y.supply;
      },
    )
