-- `heal::heal::heal` meets its contract: from the root of the head that was read, by what was told of the edge, and then the root. Assumes
-- nothing.
use Rattle.std.proofs.Common.{subst}
use Rattle.store.specs.Encoding.{Encodes}
use Rattle.heal.proofs.Roots.{read_readable, read_page, read_collapses, read_healed}
use Rattle.heal.proofs.heal.heal.Goals as goal

-- by the head, and by what was told of the edge, of every image that the bytes encode
pub returns : goal.returns
returns c X h s =
    let e = c.head_of-h.ensures X h tt in
    let b = c.joins_edge-edge.ensures X h (read_readable _ _ _ s e) in
    subst (Encodes _ _) (read_healed _ _ _ s e b)
    (c.collapse_if_single.ensures _ (c.heal_page.ensures X h (read_page _ _ _ s e b)) (read_collapses _ _ _ s e b))
