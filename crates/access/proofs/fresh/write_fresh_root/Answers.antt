-- `access::fresh::write_fresh_root` meets its contract: a page of zeros that has one entry shows entry 0 with (0, 0). Assumes nothing.
use Rattle.std.proofs.Common.{[], ◌∷◌, ap, ◌∙◌, arith}
use native.Mathlib.Nat.{mul-one}
use Rattle.lists.specs.Lists.{listed}
use Rattle.rule.specs.Pairs.{none}
use Rattle.fields.specs.Bytes.{patch}
use Rattle.page.specs.Entries.{entry}
use Rattle.page.specs.Layout.{page_size, tree_bytes}
use Rattle.page.specs.Decoded.{slot_at, entry_list}
use Rattle.page.proofs.Laws.Lent.{back_range}
use Rattle.access.proofs.fresh.write_fresh_root.Goals as goal

pub returns : goal.returns
unfolding entry_list slot_at listed
returns c =
    let half = c.args.half in
    back_range _ _ 1 c.page_range.ensures (omega arith) c.write_page.auto.s c.write_page.ensures
    ∙ ap (λ o. patch c.args.img.now o (tree_bytes half 0 (entry 0 none 0 ∷ []))) (mul-one (page_size half))
