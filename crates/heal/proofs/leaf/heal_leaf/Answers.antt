-- `heal::leaf::heal_leaf` meets its contract: the leaf loses the entry, or is not written. Assumes nothing.
use Rattle.std.proofs.Common.{◌≡◌, true, sym, ap, ◌∙◌, ◌||◌, subst}
use Rattle.steps.specs.Supply.{entries}
use Rattle.steps.specs.Heal.{heals}
use Rattle.store.specs.Encoding.{Encodes}
use Rattle.store.proofs.Encoding.{readied}
use Rattle.heal.proofs.Leaves.{found_read, leaf_kept, leaf_healed}
use Rattle.heal.proofs.leaf.heal_leaf.Goals as goal
use Rattle.heal.proofs.leaf.heal_leaf.Goals.{then-edge-via-then-edge, then-edge-via-else-edge+then-heals}

-- the entry that has t was read, of every image that the bytes encode
pub heals-requires : goal.heals-requires
heals-requires c =
    readied c.requires (λ X h s. (_, found_read c.args.hi c.args.t c.args.p X (c.find_entry-found.ensures X h 0 s) s))

pub remove_entry-requires : goal.remove_entry-requires
remove_entry-requires c =
    readied c.requires (λ X h s. (_, (found_read c.args.hi c.args.t c.args.p X (c.find_entry-found.ensures X h 0 s) s).has))

pub returns-then-edge : goal.returns-then-edge
returns-then-edge c X h s kind =
    let found = c.find_entry-found.ensures X h 0 s in
    let read = found_read c.args.hi c.args.t c.args.p X found s in
    let goes : (c.args.edge || heals c.args.t (entries X c.args.p) c.find_entry-found.result.index) ≡ true =
    elim c.then-edge.branch [
      | then-edge-via-then-edge w ↦ ap (λ b. b || heals c.args.t (entries X c.args.p) c.find_entry-found.result.index) w.if-edge.true
      | then-edge-via-else-edge+then-heals w ↦
          (λ j. w.if-edge.false j || sym (w.heals.ensures X h 0 read) j) ∙ w.if-heals.true
    ] in
    subst (Encodes _ _) (leaf_healed c.args.hi c.args.t c.args.p X found _ kind _ goes) (c.remove_entry.ensures X h 0 read.has)

pub returns-else-heals : goal.returns-else-heals
returns-else-heals c X h s kind =
    let found = c.find_entry-found.ensures X h 0 s in
    let read = found_read c.args.hi c.args.t c.args.p X found s in
    let stays = (λ j. c.if-edge.false j || sym (c.heals.ensures X h 0 read) j) ∙ c.if-heals.false in
    subst (Encodes _ _) (leaf_kept c.args.hi c.args.t c.args.p X found _ kind _ stays) h
