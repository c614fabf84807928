-- `page_need::walk::parted_cuts` meets its contract. Assumes nothing.
use Rattle.image.specs.Images.{image_of}
use Rattle.page_need.proofs.Below.{leads_low}
use Rattle.page_need.proofs.Walks.{apart_is, small_one}
use Rattle.page_need.proofs.walk.parted_cuts.Goals as goal

pub add-requires : goal.add-requires
add-requires c =
    let args = c.args in
    let X = image_of args.half args.img.now in
    let low = leads_low args.half args.img.now args.s args.x.end args.level args.x.entry c.requires.leads in (
      small_one args.half X args.level args.x.entry low args.s c.one_cut.ensures,
      small_one args.half X args.level args.y.entry low args.t c.one_cut-2.ensures,
    )

pub returns : goal.returns
returns c =
    let args = c.args in
    apart_is args.half args.s args.t (image_of args.half args.img.now) args.level args.x.entry args.y.entry c.one_cut.ensures
    c.one_cut-2.ensures c.add.ensures
