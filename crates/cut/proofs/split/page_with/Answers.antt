-- `page_with` meets its contract: the page is loaded and edited. Assumes nothing.
use Rattle.std.proofs.Common.{arith}
use Rattle.store.proofs.Encoding.{from}
use Rattle.store.proofs.Reading.{loaded_len}
use Rattle.cut.proofs.split.page_with.Goals as goal

pub insert-requires : goal.insert-requires
insert-requires c =
    from c.requires
    (λ X h r.
    let page = c.load.ensures X h r.0 r.1.tree_page in
    (omega (arith, loaded_len page, r.1.inside), omega (arith, page.few, h.half_most)))
