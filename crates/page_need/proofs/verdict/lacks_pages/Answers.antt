-- `page_need::verdict::lacks_pages` meets its contract, by the theorem on what is counted. Assumes nothing.
use Rattle.std.proofs.Common.{arith}
use Rattle.page_need.proofs.Opening.{head_is, asked_small, lacks_asked}
use Rattle.page_need.proofs.verdict.lacks_pages.Goals as goal

pub overflow_sub-held : goal.overflow_sub-held
overflow_sub-held c = let f = head_is c.requires.sound_image in omega (arith, f.pages_is, f.mark_most)

pub overflow_add-result : goal.overflow_add-result
overflow_add-result c = omega (arith, asked_small c.requires.sound_image c.args.s c.args.e c.cuts_need-n.ensures)

pub returns : goal.returns
returns c =
    lacks_asked c.requires.sound_image c.args.s c.args.e c.requires.span (omega (arith, c.well_formed)) c.cuts_need-n.ensures
