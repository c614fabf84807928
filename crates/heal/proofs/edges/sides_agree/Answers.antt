-- `heal::edges::sides_agree` meets its contract: the first entry has none before it, and of another one both totals are read.
-- Assumes nothing.
use mathlib.Core.Path.{subst⁻¹}
use Rattle.std.proofs.Common.{◌≡◌, ℕ, suc, ◌-◌, ◌<◌, ◌∙◌, arith}
use Rattle.rule.specs.Pairs.{combine}
use Rattle.rule.proofs.Laws.{pairs_equal}
use Rattle.page.specs.declared.Entry.{Entry}
use Rattle.page.specs.Entries.{at}
use Rattle.image.specs.Images.{Image}
use Rattle.steps.specs.Supply.{entries}
use Rattle.store.specs.Preconditions.{HasEntry}
use Rattle.heal.specs.Edges.{UnderTotalled, SidesReadable}
use Rattle.heal.proofs.Sides.{sides_later}
use Rattle.heal.proofs.edges.sides_agree.Goals as goal

-- ---- an entry that isn't the first, of an image that the bytes encode

module _ (kind : ℕ) {t below p i : ℕ} {e : Entry} {X : Image} (some : i ≡ 0 → ⊥) (s : SidesReadable (combine kind) t below p i e X) where
  later : 0 < i
  later = omega arith

  right : UnderTotalled (combine kind) t below e X
  right = subst⁻¹ (λ e. UnderTotalled (combine kind) t below e X) s.read (s.sides later).right

  has_before : HasEntry (suc below) p (i - 1) X
  has_before = record { tree_page = s.has.tree_page; inside = omega (arith, s.has.inside) }

  left : {x : Entry} → x ≡ at (entries X p) (i - 1) → UnderTotalled (combine kind) (t - 1) below x X
  left before = subst⁻¹ (λ e. UnderTotalled (combine kind) (t - 1) below e X) before (s.sides later).left

pub returns : goal.returns
returns c X h s =
    let kind = c.args.kind in
    let some = c.if-i-eq0.false in
    let before = c.entry_of-before.ensures X h _ (has_before kind some s) in
    c.eq.ensures ∙ pairs_equal _ _
    ∙ sides_later (combine kind) c.args.t c.args.p c.args.below c.args.found.index X some s.read before
    (c.total_under-right.ensures X h (right kind some s)) (c.total_under-left.ensures X h (left kind some s before))
