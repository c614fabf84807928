-- `insert_after` meets its contract: an entry that becomes two is kept, with the second put in behind it. Assumes nothing.
use Rattle.std.proofs.Common.{◌≡◌, ℕ, suc, ◌+◌, Option, List, length, ap, arith}
use Rattle.page.specs.declared.Entry.{Entry}
use Rattle.page.specs.Entries.{entry, at, inserted}
use Rattle.page.proofs.Laws.Shifts.{length_inserted}
use Rattle.image.specs.Images.{Image}
use Rattle.steps.specs.Supply.{entries}
use Rattle.steps.specs.Cut.{split_if_full}
use Rattle.cut.specs.declared.SplitOff.{SplitOff}
use Rattle.cut.specs.Answers.{inserted_after, CutAs}
use Rattle.cut.specs.Cuttable.{Insertable}
use Rattle.cut.proofs.Splitting.{cut_as, inserted_after_is, saved_as, halved_as}
use Rattle.cut.proofs.split.insert_after.Goals as goal

-- The page under e with the new entry: how many it has, and what is done to it is done as asked.
module _ {half l : ℕ} {X : Image} (e : Entry) (i : ℕ) (right : SplitOff) (r : Insertable half l e.child i X) {old : Entry}
    (read : old ≡ at (entries X e.child) i) where
  abbrev gained : List Entry
  gained = inserted (i + 1) (entry right.start old.pair right.page) (entries X e.child)

  longer : length gained ≡ suc (length (entries X e.child))
  longer = length_inserted (i + 1) (entry right.start old.pair right.page) (entries X e.child)

  asked : {out : Option SplitOff} {after : List ℕ} → CutAs half e (split_if_full half l e gained X) out after
      → CutAs half e (split_if_full half l e (inserted_after i right (entries X e.child)) X) out after
  asked =
      let same =
      inserted_after_is i right (entries X e.child) r.has_entry.inside (ap (λ x. entry right.start x.pair right.page) read) in
      cut_as (ap (λ es. split_if_full half l e es X) same)

pub returns-then-entry_count_in-capacity : goal.returns-then-entry_count_in-capacity
returns-then-entry_count_in-capacity c X h l r =
    let read = c.entry_of-old.ensures X h l r.has_entry in
    let n = c.entry_count_in.ensures X h l r.has_entry.tree_page in
    asked c.args.e c.args.i c.args.right r read
    (saved_as _ _ l _ X
    (omega (arith, longer c.args.e c.args.i c.args.right r read, n, c.capacity.ensures, c.if-entry_count_in-capacity.true))
    (c.insert_entry.ensures X h l
    (record {
      tree_page = r.has_entry.tree_page;
      inside = omega (arith, r.has_entry.inside);
      room = omega (arith, n, c.capacity.ensures, c.if-entry_count_in-capacity.true);
    })))

pub returns-else-entry_count_in-capacity : goal.returns-else-entry_count_in-capacity
returns-else-entry_count_in-capacity c X h l r =
    let read = c.entry_of-old.ensures X h l r.has_entry in
    let n = c.entry_count_in.ensures X h l r.has_entry.tree_page in
    let m = c.capacity.ensures in
    asked c.args.e c.args.i c.args.right r read
    (halved_as _ _ l _ X
    (omega (arith, longer c.args.e c.args.i c.args.right r read, n, m, c.if-entry_count_in-capacity.false))
    (c.split.ensures X h l
    (record {
      place = record { tree_page = r.has_entry.tree_page; inside = omega (arith, r.has_entry.inside) };
      low = r.low;
      full = omega (arith, n, m, c.if-entry_count_in-capacity.false);
      takable = r.room (omega (arith, n, m, c.if-entry_count_in-capacity.false));
    })))
