-- `split` meets its contract: a page is taken, then each half is saved. Assumes nothing.
use Rattle.std.proofs.Common.{rules, ◌≡◌, ℕ, suc, length, take, drop, ap, ◌∙◌, arith}
use Rattle.page.specs.declared.Entry.{Entry}
use Rattle.page.specs.declared.Page.{Page}
use Rattle.page.specs.Entries.{inserted}
use Rattle.page.specs.Layout.{capacity}
use Rattle.page.proofs.Laws.Shifts.{length_inserted}
use Rattle.image.specs.Images.{Image}
use Rattle.steps.specs.Supply.{entries}
use Rattle.edit.specs.Contents.{HasEntries}
use Rattle.edit.proofs.Edits.{has_len, has_then}
use Rattle.store.proofs.Encoding.{from}
use Rattle.store.proofs.Supplying.{within_put, within_taken}
use Rattle.cut.specs.Cuttable.{Splittable}
use Rattle.cut.proofs.Splitting.{left_len, right_len, spare_within, split_as}
use Rattle.cut.proofs.split.split.Goals as goal

-- the full page with the new entry is one longer than the capacity
module _ {half l p : ℕ} {X : Image} (i : ℕ) (new : Entry) (r : Splittable half l p i X) where
  many : length (inserted i new (entries X p)) ≡ suc (capacity half)
  many = omega (arith, length_inserted i new (entries X p), r.full)

  long : {page : Page} → HasEntries l (inserted i new (entries X p)) page → page.len ≡ suc (capacity half)
  long s = has_len s ∙ many

pub first_of-left-requires : goal.first_of-left-requires
first_of-left-requires c =
    from c.requires
    (λ X h r. omega (arith, long c.args.i c.args.new r.1 (c.page_with-page.ensures X h r.0 r.1.place)))

-- the page and the one taken are two of the image's
pub save-requires-clause-in_image : goal.save-requires-clause-in_image
save-requires-clause-in_image c =
    from c.requires
    (λ X h r.
    let q = c.take-q.ensures X h r.1.takable in
    let old = within_taken r.1.place.tree_page.within in
    let new = spare_within q.0 r.1.takable in
    record { image = _; holds = q.1; ready = search rules })

pub save-requires-clause-writable : goal.save-requires-clause-writable
save-requires-clause-writable c =
    from c.requires
    (λ X h r.
    let left = has_then (take c.args.half) (c.page_with-page.ensures X h r.0 r.1.place) c.first_of-left.ensures in
    (omega (arith, left.level, r.1.low), omega (arith, left_len _ _ (many c.args.i c.args.new r.1) left)))

pub rest_of-right-requires : goal.rest_of-right-requires
rest_of-right-requires c =
    from c.requires
    (λ X h r.
    let n = long c.args.i c.args.new r.1 (c.page_with-page.ensures X h r.0 r.1.place) in
    (omega arith, omega (arith, h.half_most)))

pub save-requires-2-clause-in_image : goal.save-requires-2-clause-in_image
save-requires-2-clause-in_image c =
    from c.requires
    (λ X h r.
    let q = c.take-q.ensures X h r.1.takable in
    let old = within_taken r.1.place.tree_page.within in
    let new = spare_within q.0 r.1.takable in
    record { image = _; holds = c.save.ensures _ q.1 (search rules); ready = within_put (search rules) _ _ })

pub save-requires-2-clause-writable : goal.save-requires-2-clause-writable
save-requires-2-clause-writable c =
    from c.requires
    (λ X h r.
    let right = has_then (drop c.args.half) (c.page_with-page.ensures X h r.0 r.1.place) c.rest_of-right.ensures in
    (omega (arith, right.level, r.1.low), omega (arith, right_len _ _ (many c.args.i c.args.new r.1) right)))

pub entry_at-requires : goal.entry_at-requires
entry_at-requires c =
    from c.requires
    (λ X h r.
    let right = has_then (drop c.args.half) (c.page_with-page.ensures X h r.0 r.1.place) c.rest_of-right.ensures in
    let n = right_len _ _ (many c.args.i c.args.new r.1) right in
    (omega arith, omega (arith, h.half_most)))

pub returns : goal.returns
returns c X h l r =
    let page = c.page_with-page.ensures X h l r.place in
    let q = c.take-q.ensures X h r.takable in
    split_as _ c.args.e l _ X (has_then (take c.args.half) page c.first_of-left.ensures)
    (has_then (drop c.args.half) page c.rest_of-right.ensures) q.0 (ap (λ e. e.start) c.entry_at.ensures)
    (c.save-2.ensures _ (c.save.ensures _ q.1 (within_taken r.place.tree_page.within))
    (within_put (spare_within q.0 r.takable) _ _))
