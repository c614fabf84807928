-- `page_need::parts::page_need` meets its contract. Assumes nothing.
use Rattle.std.proofs.Common.{◌≡◌, suc, ◌+◌, sym, ap, ◌∙◌, arith}
use Rattle.page_need.specs.Needs.{need}
use Rattle.page_need.proofs.Counts.{page_need_few, page_need_over}
use Rattle.page_need.proofs.parts.page_need.Goals as goal

pub returns-then-n-below : goal.returns-then-n-below
returns-then-n-below c =
    sym (page_need_few c.args.half c.args.n c.args.below (omega (arith, c.capacity.ensures, c.if-n-below.true)))

pub returns : goal.returns
returns c =
    let below = c.args.below in
    let d : below.pages + 1 ≡ suc below.pages = omega arith in
    ap (need 1) d ∙ sym (page_need_over c.args.half c.args.n below (omega (arith, c.capacity.ensures, c.if-n-below.false)))
