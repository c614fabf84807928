-- `listing::passes::write_runs` meets its contract: what the walk writes is the joined runs. Assumes nothing.
use Rattle.std.proofs.Common.{◌∙◌}
use Rattle.listing.proofs.Laws.Roots.{room_writing, output_all}
use Rattle.listing.proofs.passes.write_runs.Goals as goal

pub walk_root-requires-clause-room : goal.walk_root-requires-clause-room
walk_root-requires-clause-room c =
    let w = c.requires in
    room_writing c.args.a c.args.b _ w.opened.1 w.opened.2 w.all_fit w.room

pub returns : goal.returns
returns c = c.walk_root.ensures.writes ∙ output_all _ _ c.requires.room
