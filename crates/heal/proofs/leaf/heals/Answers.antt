-- `heal::leaf::heals` meets its contract: the first entry stays, another one is compared with the one before. Assumes nothing.
use Rattle.std.proofs.Common.{ℕ, ◌-◌, ◌≡◌, ◌&&◌, refl, sym, ap, ◌∙◌, arith}
use borrow.Author.Tests.{eq-eqb, ne_eqb}
use Rattle.rule.specs.Pairs.{same_pair}
use Rattle.rule.proofs.Laws.{pairs_equal}
use Rattle.page.specs.declared.Entry.{Entry}
use Rattle.image.specs.Images.{Image}
use Rattle.steps.specs.Supply.{entries}
use Rattle.store.specs.Preconditions.{HasEntry}
use Rattle.heal.specs.Healable.{EntryRead}
use Rattle.heal.proofs.Leaves.{heals_first, heals_later}
use Rattle.heal.proofs.leaf.heals.Goals as goal

-- the one before is there
before : {v p i : ℕ} {e : Entry} {X : Image} → (i ≡ 0 → ⊥) → EntryRead e v p i X → HasEntry v p (i - 1) X
before some s = record { tree_page = s.has.tree_page; inside = omega (arith, s.has.inside) }

pub returns-then-i-eq0 : goal.returns-then-i-eq0
returns-then-i-eq0 c X h v s = heals_first c.args.t c.args.i (entries X c.args.p) c.if-i-eq0.true

pub returns-then-e-t : goal.returns-then-e-t
returns-then-e-t c X h v s =
    let some = c.if-i-eq0.false in
    ap (λ b. b && c.eq.result) (sym (eq-eqb c.args.e.start c.args.t c.if-e-t.true))
    ∙ heals_later c.args.t c.args.i (entries X c.args.p) some s.read (c.entry_of-before.ensures X h v (before some s))
    (c.eq.ensures ∙ pairs_equal _ _)

pub returns-else-e-t : goal.returns-else-e-t
returns-else-e-t c X h v s =
    let some = c.if-i-eq0.false in
    let apart = ne_eqb c.args.e.start c.args.t c.if-e-t.false in
    apart
    ∙ ap (λ b. b && same_pair c.args.e.pair c.entry_of-before.result.pair) (sym apart)
    ∙ heals_later c.args.t c.args.i (entries X c.args.p) some s.read (c.entry_of-before.ensures X h v (before some s)) refl
