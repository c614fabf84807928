-- `scratch::clear_scratch` meets its contract: the scratch has the bytes that are filled. Assumes nothing.
use Rattle.std.proofs.Common.{◌≤◌, ap, ◌∙◌, arith, length, replicate}
use borrow.Author.Tests.{leb-true}
use Rattle.fields.specs.Bytes.{patch}
use Rattle.image.specs.Images.{pages_in}
use Rattle.calls.specs.Refusals.{borrowed, scratch_ok, cleared}
use Rattle.scratch.proofs.clear_scratch.Goals as goal

pub fill-requires : goal.fill-requires
unfolding scratch_ok
fill-requires c =
    let room : borrowed (pages_in c.args.half c.args.img.now) ≤ length c.args.scratch.now = leb-true _ _ c.requires.scratch_value in
    omega (arith, c.borrowed.ensures, room)

pub returns : goal.returns
unfolding cleared
returns c = c.fill.ensures ∙ ap (λ n. patch c.args.scratch.now 0 (replicate n 0)) c.borrowed.ensures
