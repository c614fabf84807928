-- `page_need::verdict::cuts_need` meets its contract: the root of a sound image leads on. Assumes nothing.
use Rattle.std.proofs.Common.{rules, arith}
use Rattle.fields.proofs.Laws.Digits.{bytes_of}
use Rattle.page_need.proofs.Opening.{opened_leads, asked_first, asked_both}
use Rattle.page_need.proofs.verdict.cuts_need.Goals as goal

pub one_cut-requires : goal.one_cut-requires
one_cut-requires c =
    opened_leads c.requires.sound_image (bytes_of c.args.img.now (search rules)) c.args.s c.root_entry-root.ensures

pub returns-then-e-eq-END : goal.returns-then-e-eq-END
returns-then-e-eq-END c =
    asked_first c.requires.sound_image c.args.s c.args.e c.root_entry-root.ensures (omega (arith, c.if-e-eq-END.true)) c.one_cut.ensures

pub both_cuts-requires-clause-leads : goal.both_cuts-requires-clause-leads
both_cuts-requires-clause-leads c =
    opened_leads c.requires.sound_image (bytes_of c.args.img.now (search rules)) c.args.s c.root_entry-root.ensures

pub returns : goal.returns
returns c =
    asked_both c.requires.sound_image c.args.s c.args.e c.root_entry-root.ensures (omega (arith, c.well_formed, c.if-e-eq-END.false))
    c.both_cuts.ensures
