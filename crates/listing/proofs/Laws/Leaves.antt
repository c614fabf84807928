-- One leaf entry is one run more: what a pass makes of it, and the room for it. Assumes nothing.
use mathlib.Core.Path.{◌≡◌, ap}
use mathlib.Core.Bool.{Bool, true, false, cond}
use mathlib.Core.List.{List, []}
use Prim.Native.Nat.{ℕ, ◌+◌, ◌*◌, ◌≤◌, ◌<◌, max}
use native.Mathlib.Omega.{arith}
use lib.ListN.{length}
use Rattle.std.specs.Prelude.{Some}
use Rattle.rule.specs.declared.Pair.{Pair}
use Rattle.page.specs.Layout.{start_at}
use Rattle.image.specs.Listing as image
use Rattle.runs.specs.declared.Run.{Run}
use Rattle.runs.specs.Open.{goes_on, stepped, output_after, stepped_all, output_after_all}
use Rattle.runs.proofs.Laws.Entries.{room_for_new}
use Rattle.listing.specs.declared.SpanQuery.{SpanQuery}
use Rattle.listing.specs.declared.Cursor.{Cursor}
use Rattle.listing.specs.Cursors.{ValidEntry}
use Rattle.listing.specs.Walks.{bytes_at, cursor_below, entry_walk, one_run, answer, output, Room, Does}
use Rattle.listing.proofs.Laws.Pages.{entry_leaf}

module _ {img : List ℕ} {q : SpanQuery} {on : Cursor} {i start : ℕ} {pair : Pair} (here : ValidEntry img q on i) (leaf : on.at.level ≡ 0)
    (starts : start ≡ max q.a (start_at (bytes_at q.half img on) i)) (total : pair ≡ (cursor_below q (bytes_at q.half img on) on i).above)
  where
    abbrev x : image.Run
    x = record { start = start; pair = pair }

    one : entry_walk img q on i ≡ one_run start pair
    one = entry_leaf img q on i here.met leaf starts total

    module _ {writing : Bool} {run : Run} {out : List ℕ} where
      pub entry_few : {known : Bool} → Room known writing run (entry_walk img q on i) out → run.written < 4294967295
      entry_few h = omega (arith, (rw one at h).few)

      -- a run that begins has room where runs are written
      pub entry_room : {known : Bool} → Room known writing run (entry_walk img q on i) out → writing ≡ true → goes_on run x ≡ false
          → 16 * run.written + 16 ≤ length out
      entry_room h w new = room_for_new run x [] out ((rw one at h).room w) new

      pub entry_does : {r : Run} {left : List ℕ} → r ≡ stepped run x → left ≡ cond writing (output_after run x out) out
          → Does writing run (entry_walk img q on i) out (Some r) left
      unfolding answer output stepped_all output_after_all
      entry_does e w = rw one (record { answers = ap Some e; writes = w })
