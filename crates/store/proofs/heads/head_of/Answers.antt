-- `head_of` meets its contract: page 0 is the head's page. Assumes nothing.
use Rattle.std.proofs.Common.{length, ap, ◌∙◌, arith}
use Rattle.page.specs.Layout.{head_of}
use Rattle.access.proofs.Laws.{page_length}
use Rattle.store.proofs.Encoding.{holds_first, holds_head}
use Rattle.store.proofs.heads.head_of.Goals as goal

pub page_at-requires : goal.page_at-requires
page_at-requires c = holds_first c.requires.holds

pub read_head-requires : goal.read_head-requires
read_head-requires c =
    let h = c.requires.holds in
    omega (
      arith,
      ap length c.page_at.ensures ∙ page_length c.args.half c.args.img.now 0 (holds_first h),
      h.half_least,
    )

pub returns : goal.returns
returns c X h any = c.read_head.ensures ∙ ap head_of c.page_at.ensures ∙ holds_head h
