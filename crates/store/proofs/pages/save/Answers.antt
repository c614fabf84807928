-- `save` meets its contract: the struct's numbers have their widths, so the tree page is read back. Assumes nothing.
use Rattle.std.proofs.Common.{arith}
use Rattle.page.specs.Decoded.{entry_list}
use Rattle.page.proofs.Laws.Decoded.{length_shown}
use Rattle.page.proofs.Laws.Lent.{back_range}
use Rattle.image.specs.Images.{tree, cell_bytes}
use Rattle.image.proofs.Cells.{canonical_tree}
use Rattle.store.proofs.Encoding.{some_long, holds_within, holds_put}
use Rattle.store.proofs.Widths.{shown_fits}
use Rattle.store.proofs.pages.save.Goals as goal

pub slice_bounds-write_page-end : goal.slice_bounds-write_page-end
slice_bounds-write_page-end c = omega (arith, c.page_range.ensures, some_long c.requires.in_image)

pub returns : goal.returns
unfolding cell_bytes
returns c X h w =
    let page = c.args.page in
    let most = h.half_most in
    let n = length_shown page in
    holds_put h (tree page.level (entry_list page)) w
    (canonical_tree _ page.level (entry_list page) (omega arith) (omega arith) (omega arith)
    (shown_fits page _ c.well_formed.1.1.1.0))
    (back_range _ _ _ c.page_range.ensures (holds_within h w) c.write_page.auto.s c.write_page.ensures)
