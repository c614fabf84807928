-- Runs as they stand in a listing's output. Assumes nothing.
use Rattle.std.specs.Prelude.{ℕ, ◌+◌, ◌*◌, List}
use Rattle.fields.specs.Numbers.{u32_at, i32_at, i64_at}
use Rattle.image.specs.Listing.{Run, run}

-- "16 bytes each: start (u32), count (i32), sum (i64)"
unfoldable pub run_at : List ℕ → ℕ → Run
run_at s i = run (u32_at s (16 * i)) (record { sum = i64_at s (16 * i + 8); count = i32_at s (16 * i + 4) })
