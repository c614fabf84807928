-- Entries and heads whose numbers have their widths: those that can be written and read back. Assumes nothing.
use Rattle.std.specs.Prelude.{ℕ, ◌<◌, ◌^◌, List}
use Rattle.std.specs.Int.{w32, w64}
use Rattle.std.proofs.Common.{SFits}
use Rattle.page.specs.declared.Entry.{Entry}
use Rattle.page.specs.declared.Head.{Head}
use Rattle.page.specs.Entries.{at}

-- "starts (u32)", "sum (i64), count (i32), child page (u32, 0 in a leaf)"
pub record EntryFits (e : Entry) : Type 0 where
  pub start : e.start < 2 ^ 32
  pub sum : SFits w64 e.pair.sum
  pub count : SFits w32 e.pair.count
  pub child : e.child < 2 ^ 32

-- Past the end stands `no_entry`, which fits: so no slot is too far.
abbrev pub EntriesFit : List Entry → Type 0
EntriesFit es = (i : ℕ) → EntryFits (at es i)

-- "Page 0, the head, u32 each"
pub record HeadFits (h : Head) : Type 0 where
  pub pages : h.pages < 2 ^ 32
  pub height : h.height < 2 ^ 32
  pub root : h.root < 2 ^ 32
  pub free : h.free < 2 ^ 32
  pub chain : h.chain < 2 ^ 32
  pub mark : h.mark < 2 ^ 32
  pub kind : h.kind < 2 ^ 32
  pub window : h.window < 2 ^ 32
  pub changes : h.changes < 2 ^ 32
  pub capacity : h.capacity < 2 ^ 32
