-- `total_under` calls itself on the entry of the page below and meets its contract. Assumes nothing.
use mathlib.Core.Path.{subst⁻¹}
use Rattle.std.proofs.Common.{◌≡◌, ap, ◌∙◌, arith}
use Rattle.rule.specs.Bounds.{Combinable}
use Rattle.rule.specs.Pairs.{combine}
use Rattle.steps.specs.Heal.{total_from}
use Rattle.store.proofs.Encoding.{from, readied}
use Rattle.heal.proofs.Sides.{totalled_searchable, total_leaf, found_total}
use Rattle.heal.proofs.edges.+total_under.Goals as goal
use Rattle.heal.proofs.edges.+total_under.Goals.{then-level-eq0, else-level-eq0}

pub find_entry-found-requires : goal.find_entry-found-requires
find_entry-found-requires n c = readied c.requires (λ X h s. (_, totalled_searchable _ _ _ _ s.below))

-- by what was found in the page, of every image that the bytes encode
pub total_under-below-requires : goal.total_under-below-requires
total_under-below-requires n c = (
  omega (arith, c.if-level-eq0.false),
  readied c.requires
      (λ X h s.
      let found = c.find_entry-found.ensures X h _ (totalled_searchable _ _ _ _ s.below) in
      let k = found_total _ _ _ c.args.hi X c.if-level-eq0.false found s.below in
      record { below = k.below; combines = k.combines }),
)

-- the total from the page, a leaf or another
pub combine-requires : goal.combine-requires
combine-requires n c =
    from c.requires
    (λ X h s.
    let found = c.find_entry-found.ensures X h _ (totalled_searchable _ _ _ _ s.below) in
    let below : c.if-level-eq0.below ≡ total_from (combine c.args.kind) c.args.t c.args.level c.args.e.child X =
    elim c.if-level-eq0.branch [
      | then-level-eq0 w ↦ w.below-is ∙ total_leaf _ _ _ c.args.hi X w.if-level-eq0.true found
      | else-level-eq0 w ↦
          let k = found_total _ _ _ c.args.hi X w.if-level-eq0.false found s.below in
          w.below-is ∙ w.total_under-below.ensures X h (record { below = k.below; combines = k.combines }) ∙ k.done
    ] in
    subst⁻¹ (Combinable _) below s.combines)

pub returns : goal.returns
returns n c X h s =
    let found = c.find_entry-found.ensures X h _ (totalled_searchable _ _ _ _ s.below) in
    let below : c.if-level-eq0.below ≡ total_from (combine c.args.kind) c.args.t c.args.level c.args.e.child X =
    elim c.if-level-eq0.branch [
      | then-level-eq0 w ↦ w.below-is ∙ total_leaf _ _ _ c.args.hi X w.if-level-eq0.true found
      | else-level-eq0 w ↦
          let k = found_total _ _ _ c.args.hi X w.if-level-eq0.false found s.below in
          w.below-is ∙ w.total_under-below.ensures X h (record { below = k.below; combines = k.combines }) ∙ k.done
    ] in
    c.combine.ensures ∙ ap (combine c.args.kind _) below
