-- `cut_entry` calls itself on the entry of the page below and meets its contract. Assumes nothing.
use Rattle.std.proofs.Common.{sym, arith}
use Rattle.store.proofs.Encoding.{from, readied}
use Rattle.cut.proofs.Cutting.{leaf_as, page_cuttable, searched, found_cut, found_same, found_insertable, found_two}
use Rattle.cut.proofs.Splitting.{told}
use Rattle.cut.proofs.entries.+cut_entry.Goals as goal

pub returns-then-level-eq0 : goal.returns-then-level-eq0
returns-then-level-eq0 n c X h r = leaf_as c.args.e c.args.t c.if-level-eq0.true c.cut_leaf_entry.ensures h

pub find_entry-found-requires : goal.find_entry-found-requires
find_entry-found-requires n c = readied c.requires (λ X h r. (_, (page_cuttable c.args.e c.if-level-eq0.false r).0.searchable))

pub cut_entry-requires : goal.cut_entry-requires
cut_entry-requires n c = (
  omega (arith, c.if-level-eq0.false),
  readied c.requires (λ X h r. (searched c.args.e c.args.hi c.if-level-eq0.false h r c.find_entry-found.ensures).below),
)

pub returns-in_err-right : goal.returns-in_err-right
returns-in_err-right n c X h r =
    let k = searched c.args.e c.args.hi c.if-level-eq0.false h r c.find_entry-found.ensures in
    told (sym c.from_residual.ensures) (found_same k (found_cut k c.in_err-right.was (c.cut_entry.ensures X h k.below)))

pub insert_after-requires : goal.insert_after-requires
insert_after-requires n c =
    from c.requires
    (λ X h r.
    let k = searched c.args.e c.args.hi c.if-level-eq0.false h r c.find_entry-found.ensures in
    let b = found_cut k c.in_ok-right.was (c.cut_entry.ensures X h k.below) in
    record { image = _; holds = b.holds; ready = (_, found_insertable k b) })

pub returns : goal.returns
returns n c X h r =
    let k = searched c.args.e c.args.hi c.if-level-eq0.false h r c.find_entry-found.ensures in
    let b = found_cut k c.in_ok-right.was (c.cut_entry.ensures X h k.below) in
    found_two k b (c.insert_after.ensures _ b.holds _ (found_insertable k b))
