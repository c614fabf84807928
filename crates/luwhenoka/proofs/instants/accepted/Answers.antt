-- `luwhenoka::instants::accepted` meets its contract: the pair's numbers have their widths. Assumes nothing.
use Rattle.std.proofs.Common.{rules, refl, w32, w64, SFits, to_z-of_z}
use Rattle.luwhenoka.specs.Answers.{instant_answer}
use Rattle.luwhenoka.proofs.instants.accepted.Goals as goal

pub returns : goal.returns
unfolding instant_answer
returns c =
    let pair = c.args.found.pair in
    let sum : SFits w64 pair.sum = search rules in
    let count : SFits w32 pair.count = search rules in
    rw (to_z-of_z sum, to_z-of_z count) refl
