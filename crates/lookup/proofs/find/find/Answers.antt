-- `lookup::find::find` meets its contract: the index that was found is one of the page's. Assumes nothing.
use Rattle.std.proofs.Common.{arith}
use Rattle.lookup.proofs.Laws.Finds.{found_inside}
use Rattle.lookup.proofs.find.find.Goals as goal

pub end_at-requires : goal.end_at-requires
end_at-requires c = (omega (arith, c.requires.inside, c.requires.len), found_inside c.requires c.find_index-i.ensures)
