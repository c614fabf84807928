-- The ways out of a rebuild: behind the rows before its source is read. Assumes nothing.
use Prim.Native.Nat.{ℕ}
use mathlib.Core.Path.{◌≡◌, sym, ap, ◌∙◌}
use mathlib.Core.Logic.{◌≢◌}
use mathlib.Core.Bool.{true, cond, not}
use mathlib.Core.List.{List, [], ◌∷◌, ◌++◌}
use native.Mathlib.Omega.{arith}
use lib.Dec.{eqb}
use borrow.Author.Tests.{ne_eqb, not-false}
use Rattle.image.specs.Images.{pages_in}
use Rattle.image.specs.Sound.{sound_before}
use Rattle.calls.specs.Refusals.{Row, first, borrowed, scratch_after}
use Rattle.calls.specs.Calls.{rebuilt_bytes, audit_input_rows, rebuild_state_rows, rebuild_status, rebuild}
use Rattle.calls.proofs.Rows.{first_none}
use Rattle.luwhenoka.proofs.Laws.Audits.{early_status, late_status}

module _ (half : ℕ) (source target scratch : List ℕ) where
  abbrev early : List Row
  early = audit_input_rows borrowed half source scratch

  abbrev late : List Row
  late = rebuild_state_rows half source target

  abbrev done : List ℕ
  done = rebuilt_bytes half source (pages_in half target)

  abbrev after : List ℕ
  after = scratch_after borrowed early (pages_in half source) scratch

  by_status : {n : ℕ} {made left : List ℕ} → n ≡ rebuild_status borrowed half source target scratch → made ≡ cond (eqb n 0) done target → left ≡ after
      → record { status = n; target = made; scratch = left } ≡ rebuild borrowed half source target scratch
  unfolding rebuild
  by_status {n} e m a =
      (λ j. record { status = n; target = m j; scratch = a j })
      ∙ (λ j. record { status = e j; target = cond (eqb (e j) 0) done target; scratch = after })

  pub rebuild_early : {n : ℕ} {left : List ℕ} → n ≡ first early → n ≢ 0 → left ≡ after
      → record { status = n; target = target; scratch = left } ≡ rebuild borrowed half source target scratch
  unfolding rebuild_status
  rebuild_early {n} e d a =
      by_status (early_status half source scratch late e d) (sym (ap (λ b. cond b done target) (ne_eqb n 0 d))) a

  pub rebuild_late : {n : ℕ} {made left : List ℕ} → 0 ≡ first early → n ≡ first late → made ≡ cond (eqb n 0) done target → left ≡ after
      → record { status = n; target = made; scratch = left } ≡ rebuild borrowed half source target scratch
  unfolding rebuild_status
  rebuild_late z e m a = by_status (e ∙ late_status half source scratch late z) m a

-- A source that no row of an audit by document 01's rule turns back is sound by that rule.
pub audited_sound : (half : ℕ) (source scratch : List ℕ)
    → first (audit_input_rows borrowed half source scratch ++ ((21, not (sound_before half source)) ∷ [])) ≡ 0
    → sound_before half source ≡ true
unfolding audit_input_rows
audited_sound half source scratch all =
    let behind_16 = (first_none 16 _ _ (omega arith) all).1 in
    let behind_17 = (first_none 17 _ _ (omega arith) behind_16).1 in
    not-false _ (first_none 21 _ _ (omega arith) behind_17).0
