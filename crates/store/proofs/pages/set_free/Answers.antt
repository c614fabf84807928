-- `set_free` meets its contract: a free page is read back. Assumes nothing.
use Rattle.std.proofs.Common.{arith}
use Rattle.page.proofs.Laws.Lent.{back_range}
use Rattle.image.specs.Images.{free, cell_bytes}
use Rattle.image.proofs.Cells.{canonical_free}
use Rattle.store.proofs.Encoding.{some_long, holds_within, holds_put}
use Rattle.store.proofs.pages.set_free.Goals as goal

pub slice_bounds-write_free-end : goal.slice_bounds-write_free-end
slice_bounds-write_free-end c = omega (arith, c.page_range.ensures, some_long c.requires)

pub returns : goal.returns
unfolding cell_bytes
returns c X h w =
    holds_put h (free c.args.next) w (canonical_free _ c.args.next (omega arith))
    (back_range _ _ _ c.page_range.ensures (holds_within h w) c.write_free.auto.s c.write_free.ensures)
