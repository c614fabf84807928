-- The cycle of `combine_page` and `combine_entry` meets its contracts. Assumes nothing.
use Rattle.std.proofs.Common.{sym, ◌∙◌, arith}
use mathlib.Core.Path.{subst, subst⁻¹}
use Rattle.store.specs.Encoding.{Encodes}
use Rattle.combine_span.proofs.Laws.{sent_inside, sent_apart, combinable_below, sent_below}
use Rattle.combine_span.proofs.Sent as turns
use Rattle.combine_span.proofs.pages.+combine_entry_combine_page.Goals as goal
use Rattle.combine_span.proofs.pages.+combine_entry_combine_page.Goals.{combine_page-then-level-gt0+else-loop-i-test, combine_page-else-level-gt0}
use Rattle.combine_span.proofs.pages.+combine_entry_combine_page.Goals.{combine_entry-else-not-contains-via-then-not-contains+else-meets, combine_entry-else-not-contains-via-else-not-contains}

-- ---- an entry

pub combine_entry-combine_page-requires : goal.combine_entry-combine_page-requires
combine_entry-combine_page-requires t c =
    let apart = sym c.contains.ensures ∙ c.if-not-contains.true in
    let meets = sym c.meets.ensures ∙ c.if-meets.true in
    let s = c.requires.combinable in (
      omega (arith, c.requires.inner),
      record { image = s.image; holds = s.holds; ready = combinable_below _ _ _ _ _ c.requires.inner apart meets s.ready },
    )

pub combine_entry-returns-then-meets : goal.combine_entry-returns-then-meets
combine_entry-returns-then-meets t c X h r =
    let some = c.requires.inner in
    let apart = sym c.contains.ensures ∙ c.if-not-contains.true in
    let meets = sym c.meets.ensures ∙ c.if-meets.true in
    subst (Encodes _ _) (sent_below _ _ _ _ X some apart meets)
    (c.combine_page.ensures X h (combinable_below _ _ _ _ X some apart meets r))

pub combine_entry-returns-else-not-contains : goal.combine_entry-returns-else-not-contains
combine_entry-returns-else-not-contains t c X h r =
    elim c.else-not-contains.branch [
      | combine_entry-else-not-contains-via-then-not-contains+else-meets w ↦
          let apart = sym c.contains.ensures ∙ w.if-not-contains.true in
          subst (Encodes _ _) (sent_apart _ _ _ _ X apart (sym w.meets.ensures ∙ w.if-meets.false)) h
      | combine_entry-else-not-contains-via-else-not-contains w ↦
          subst (Encodes _ _) (sent_inside _ _ _ _ X (sym c.contains.ensures ∙ w.if-not-contains.false)) h
    ]

-- ---- a page

pub combine_page-loop-i-init : goal.combine_page-loop-i-init
combine_page-loop-i-init t c = turns.none _ _ _ _ c.entry_count_in-i-end.ensures

pub combine_page-entry_of-x-requires : goal.combine_page-entry_of-x-requires
combine_page-entry_of-x-requires t c = turns.some_has _ _ _ _ c.loop-i.invariant c.loop-i-test.true c.requires

pub combine_page-entry_end-end-requires : goal.combine_page-entry_end-end-requires
combine_page-entry_end-end-requires t c = turns.some_has _ _ _ _ c.loop-i.invariant c.loop-i-test.true c.requires

pub combine_page-combine_entry-requires : goal.combine_page-combine_entry-requires
combine_page-combine_entry-requires t c = (
  omega arith,
  (
    omega (arith, c.if-level-gt0.true),
    turns.sends _ _ _ _ c.loop-i.invariant c.loop-i-test.true c.entry_of-x.ensures c.entry_end-end.ensures c.requires,
  ),
)

pub combine_page-loop-i-preserved : goal.combine_page-loop-i-preserved
combine_page-loop-i-preserved t c =
    turns.more _ _ _ _ c.loop-i.invariant c.loop-i-test.true c.entry_of-x.ensures c.entry_end-end.ensures c.combine_entry.ensures
    c.combine_entry.auto.img

-- what the entries of an inner page sent, and a leaf's none, whichever it was
pub combine_page-take_effect-requires : goal.combine_page-take_effect-requires
combine_page-take_effect-requires t c =
    let args = c.args in
    let sent : turns.Sent args.q args.level args.hi args.p args.half args.img.now c.if-level-gt0.img =
    elim c.if-level-gt0.branch [
      | combine_page-then-level-gt0+else-loop-i-test w ↦
          subst⁻¹ (turns.Sent _ _ _ _ _ _) w.img-is (turns.all_sent_of _ _ _ _ w.loop-i.invariant w.loop-i-test.false)
      | combine_page-else-level-gt0 w ↦ subst⁻¹ (turns.Sent _ _ _ _ _ _) w.img-is (turns.leaf_sent _ _ _ _ (omega arith))
    ] in
    turns.can_take _ _ _ _ sent c.requires

pub combine_page-returns : goal.combine_page-returns
combine_page-returns t c =
    let args = c.args in
    let sent : turns.Sent args.q args.level args.hi args.p args.half args.img.now c.if-level-gt0.img =
    elim c.if-level-gt0.branch [
      | combine_page-then-level-gt0+else-loop-i-test w ↦
          subst⁻¹ (turns.Sent _ _ _ _ _ _) w.img-is (turns.all_sent_of _ _ _ _ w.loop-i.invariant w.loop-i-test.false)
      | combine_page-else-level-gt0 w ↦ subst⁻¹ (turns.Sent _ _ _ _ _ _) w.img-is (turns.leaf_sent _ _ _ _ (omega arith))
    ] in
    turns.took _ _ _ _ sent c.take_effect.ensures
