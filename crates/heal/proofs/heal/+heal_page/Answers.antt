-- `heal_page` calls itself on the child page and meets its contract. Assumes nothing.
use mathlib.Core.Path.{subst⁻¹}
use Rattle.std.proofs.Common.{subst, arith}
use Rattle.rule.specs.Pairs.{combine}
use Rattle.steps.specs.Heal.{heal_page as heal}
use Rattle.store.specs.Encoding.{Encodes}
use Rattle.store.proofs.Encoding.{from, readied}
use Rattle.heal.proofs.Paths.{leaf_ready, inner, found_inner}
use Rattle.heal.proofs.heal.+heal_page.Goals as goal

pub heal_leaf-requires : goal.heal_leaf-requires
heal_leaf-requires n c = readied c.requires (λ X h s. leaf_ready _ c.args.by.kind c.args.by.edge _ _ c.if-level-eq0.true s)

pub returns-then-level-eq0 : goal.returns-then-level-eq0
returns-then-level-eq0 n c X h s =
    let e = c.if-level-eq0.true in
    subst⁻¹
    (λ l. Encodes c.args.half c.heal_leaf.new.img (heal c.args.half (combine c.args.by.kind) c.args.by.edge c.args.by.t l c.args.p X)) e
    (c.heal_leaf.ensures X h (leaf_ready _ c.args.by.kind c.args.by.edge _ _ e s) c.args.by.kind)

pub find_entry-found-requires : goal.find_entry-found-requires
find_entry-found-requires n c = readied c.requires (λ X h s. (_, (inner _ _ _ _ _ c.if-level-eq0.false s).searchable))

-- by what was found in the page, of every image that the bytes encode
pub heal_page-requires : goal.heal_page-requires
heal_page-requires n c = (
  omega (arith, c.if-level-eq0.false),
  readied c.requires (λ X h s. (found_inner _ _ _ _ _ c.args.hi c.if-level-eq0.false h s c.find_entry-found.ensures).below),
)

-- where the page below has been healed
pub carry-requires : goal.carry-requires
carry-requires n c =
    from c.requires
    (λ X h s.
    let k = found_inner _ _ _ _ _ c.args.hi c.if-level-eq0.false h s c.find_entry-found.ensures in
    record { image = _; holds = c.heal_page.ensures X h k.below; ready = (_, k.carries) })

-- and where a start has been carried
pub rebalance_if_short-requires : goal.rebalance_if_short-requires
rebalance_if_short-requires n c =
    from c.requires
    (λ X h s.
    let k = found_inner _ _ _ _ _ c.args.hi c.if-level-eq0.false h s c.find_entry-found.ensures in
    record {
      image = _;
      holds = c.carry.ensures _ (c.heal_page.ensures X h k.below) _ k.carries;
      ready = (_, k.rebalances);
    })

pub returns : goal.returns
returns n c X h s =
    let k = found_inner _ _ _ _ _ c.args.hi c.if-level-eq0.false h s c.find_entry-found.ensures in
    subst (Encodes _ _) k.done
    (c.rebalance_if_short.ensures _ (c.carry.ensures _ (c.heal_page.ensures X h k.below) _ k.carries) _ k.rebalances)
