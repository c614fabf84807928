-- Document 01, "Span listing": "While the walk goes on, one open run is updated in place at every leaf entry." Assumes nothing.
use Rattle.std.specs.Prelude.{ℕ, suc, ◌*◌, Bool, cond, ◌&&◌, List, [], ◌∷◌, ltb}
use Rattle.rule.specs.Pairs.{none, same_pair}
use Rattle.fields.specs.Bytes.{patch}
use Rattle.image.specs.Listing as image
use Rattle.image.specs.Listing.{run_bytes}
use Rattle.runs.specs.declared.Run.{Run}

-- before the first leaf entry
abbrev pub no_run : Run
no_run = record { start = 0; pair = none; written = 0 }

-- "joined as long as the pair is equal": the open run goes on
unfoldable pub goes_on : Run → image.Run → Bool
goes_on r x = ltb 0 r.written && same_pair r.pair x.pair

-- the open run after one leaf entry more
unfoldable pub stepped : Run → image.Run → Run
stepped r x = cond (goes_on r x) r (record { start = x.start; pair = x.pair; written = suc r.written })

-- the output after it: a run that begins is written at once, behind those before it
unfoldable pub output_after : Run → image.Run → List ℕ → List ℕ
output_after r x out = cond (goes_on r x) out (patch out (16 * r.written) (run_bytes x))

-- after all leaf entries of a list
unfoldable pub stepped_all : Run → List image.Run → Run
stepped_all r [] = r
stepped_all r (x ∷ xs) = stepped_all (stepped r x) xs

unfoldable pub output_after_all : Run → List image.Run → List ℕ → List ℕ
output_after_all r [] out = out
output_after_all r (x ∷ xs) out = output_after_all (stepped r x) xs (output_after r x out)
