-- `runs::output::put_run` meets its contract: three numbers, one behind the other. Assumes nothing.
use Rattle.std.proofs.Common.{◌≡◌, ◌*◌, rules, w32, w64, to_z, of_z}
use mir.ValLaws.{to_z-of_z}
use Rattle.image.specs.Listing.{run}
use Rattle.runs.proofs.Laws.Steps.{patch_run}
use Rattle.runs.proofs.output.put_run.Goals as goal

pub returns : goal.returns
returns c =
    let sum : to_z w64 (of_z w64 c.args.x.pair.sum) ≡ c.args.x.pair.sum = to_z-of_z w64 c.args.x.pair.sum (search rules) in
    let count : to_z w32 (of_z w32 c.args.x.pair.count) ≡ c.args.x.pair.count = to_z-of_z w32 c.args.x.pair.count (search rules) in
    rw (c.write_at-3.ensures, sum, c.write_at-2.ensures, count, c.write_at.ensures)
    (patch_run c.args.out.now (16 * c.args.at) (run c.args.x.start c.args.x.pair) c.requires)
