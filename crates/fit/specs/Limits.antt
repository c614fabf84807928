-- What an entry may hold: the bounds by which the code tests its sum, its count and its child. Assumes nothing.
use Rattle.std.specs.Prelude.{◌≡◌, ℕ, ◌+◌, ◌*◌, ◌%◌, ◌^◌, ◌<◌, ◌≤◌, Bool, ◌&&◌, List, nat_le, nat_lt, unsigned_abs}
use Rattle.std.specs.Int.{w32, w64}
use Rattle.std.proofs.Common.{to_z}
use Rattle.rule.specs.Pairs.{pair}
use Rattle.fields.specs.Bytes.{every}
use Rattle.page.specs.declared.Head.{Head}
use Rattle.page.specs.Layout.{pair_at, child_at}
use Rattle.page.specs.Fit.{PageContext, child_ok, pair_ok}
use Rattle.fit.specs.declared.Limits.{Limits}

-- the test of an entry by limits: the 64 bits of its sum, the 32 bits of its count, its child
unfoldable pub allows : Limits → ℕ → ℕ → ℕ → Bool
allows l sum count child =
    (nat_le l.first child && nat_lt child l.past)
    && (nat_le (unsigned_abs (to_z w64 sum)) (l.sum + l.each * count) && nat_le ((count + l.below) % 2 ^ 32) l.span)

-- limits that no sum of 64 bits oversteps
pub record Small (l : Limits) : Type 0 where
  pub sum : l.sum < 2 ^ 52
  pub each : l.each ≤ 1000000
  pub below : l.below < 2 ^ 32
  pub span : l.span < 2 ^ 33
  pub first : l.first ≤ 1
  pub past : l.past < 2 ^ 32
  pub twice : l.below + l.below ≤ l.span

-- limits that allow a leaf's child
pub record Leaf (l : Limits) : Type 0 where
  pub first : l.first ≡ 0
  pub past : l.past ≡ 1

-- the limits of a page in a context: they allow what may stand there
pub record LimitsOf (h : Head) (at : PageContext) (l : Limits) : Type 0 where
  pub small : Small l
  pub same : (sum count child : ℕ) → sum < 2 ^ 64 → count < 2 ^ 32
      → allows l sum count child ≡ child_ok h.pages at.level child && pair_ok h at (pair (to_z w64 sum) (to_z w32 count))

-- whether the i-th entry of a page may stand there
abbrev pub entry_ok : ℕ → Head → PageContext → List ℕ → ℕ → Bool
entry_ok half h at s i = child_ok h.pages at.level (child_at half s i) && pair_ok h at (pair_at half s i)

-- r tells, wherever these are the limits, whether n entries of a page may stand there
abbrev pub Tells : ℕ → Limits → List ℕ → ℕ → Bool → Type 0
Tells half l s n r = (h : Head) (at : PageContext) → LimitsOf h at l → r ≡ every n (entry_ok half h at s)
