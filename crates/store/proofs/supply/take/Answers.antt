-- `take` meets its contract: with no chain the high mark goes on, else the chain begins behind its first page. Assumes nothing.
use Rattle.std.proofs.Common.{◌≡◌, ◌≤◌, refl, arith}
use mathlib.Core.Path.{subst}
use Rattle.steps.specs.Supply.{with_supply, spare, taken}
use Rattle.store.specs.Encoding.{Encodes}
use Rattle.store.specs.Preconditions.{Takable}
use Rattle.store.proofs.Encoding.{holds_numbers}
use Rattle.store.proofs.Supplying.{by_head, some_headed, spare_marked, taken_marked, spare_chained, taken_chained}
use Rattle.store.proofs.Supplying.{marked_below, chained_within}
use Rattle.store.proofs.supply.take.Goals as goal

pub overflow_add-h : goal.overflow_add-h
overflow_add-h c =
    let k = some_headed c.requires c.head_of-h.ensures in
    omega (arith, marked_below (omega arith) k.ready, k.holds.pages_most)

pub set_head-requires : goal.set_head-requires
set_head-requires c = holds_numbers c.requires.holds

pub next_free-next-requires : goal.next_free-next-requires
next_free-next-requires c =
    let k = some_headed c.requires c.head_of-h.ensures in
    record { image = _; holds = k.holds; ready = chained_within (λ e. omega arith) k.ready }

pub set_head-requires-else-h-eq0 : goal.set_head-requires-else-h-eq0
set_head-requires-else-h-eq0 c = holds_numbers c.requires.holds

pub returns-then-h-eq0 : goal.returns-then-h-eq0
unfolding with_supply
returns-then-h-eq0 c X h r =
    let args = c.args in
    let empty : c.head_of-h.result.chain ≡ 0 = omega arith in
    by_head
    (λ Y. Encodes args.half args.img.now Y → (c.head_of-h.result.mark ≡ spare Y) × Encodes args.half c.set_head.new.img (taken Y))
    (c.head_of-h.ensures X h tt)
    (λ k. (
      spare_marked _ empty,
      subst (Encodes _ _) (taken_marked _ empty) (c.set_head.ensures _ _ k (record { pages = refl })),
    ))
    h

pub returns-else-h-eq0 : goal.returns-else-h-eq0
unfolding with_supply
returns-else-h-eq0 c X h r =
    let args = c.args in
    let some : 1 ≤ c.head_of-h.result.chain = omega arith in
    let filled : c.head_of-h.result.chain ≡ 0 → ⊥ = λ e. omega arith in
    by_head
    (λ Y. Encodes args.half args.img.now Y → Takable Y
    → (c.head_of-h.result.free ≡ spare Y) × Encodes args.half c.set_head-else-h-eq0.new.img (taken Y))
    (c.head_of-h.ensures X h tt)
    (λ k t. (
      spare_chained _ filled,
      subst (Encodes _ _) (taken_chained _ filled (t.front some)
          (c.next_free-next.ensures _ k (chained_within filled t) _ (t.front some).is))
          (c.set_head-else-h-eq0.ensures _ _ k (record { pages = refl })),
    ))
    h r
