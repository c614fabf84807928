-- The laws of one leaf entry: the open run goes on, or another begins and is written. Assumes nothing.
use mathlib.Core.Path.{◌≡◌, ap, ◌∙◌}
use mathlib.Core.Bool.{true, false}
use mathlib.Core.List.{List, ◌++◌, append_assoc}
use Prim.Native.Nat.{ℕ, ◌+◌, ◌*◌, ◌≤◌}
use native.Mathlib.Numerals.{add-one}
use native.Mathlib.Omega.{arith}
use lib.ListN.{length, length-append}
use Rattle.fields.specs.Bytes.{patch}
use Rattle.fields.specs.Numbers.{u32_bytes, i32_bytes, i64_bytes}
use Rattle.fields.proofs.Laws.Parts.{patch_patch_next}
use Rattle.fields.proofs.Laws.Offsets.{u32, i32, i64}
use Rattle.image.specs.Listing as image
use Rattle.image.specs.Listing.{run_bytes}
use Rattle.runs.specs.declared.Run.{Run}
use Rattle.runs.specs.Open.{goes_on, stepped, output_after}

-- a law for each way: the run r that is open before the entry x goes on, or x begins another
module _ (r : Run) (x : image.Run) where
  pub stepped_on : goes_on r x ≡ true → stepped r x ≡ r
  unfolding stepped
  stepped_on e = rw e

  pub stepped_new : goes_on r x ≡ false → stepped r x ≡ record { start = x.start; pair = x.pair; written = r.written + 1 }
  unfolding stepped
  stepped_new e = rw (e, add-one)

  pub output_on : (out : List ℕ) → goes_on r x ≡ true → output_after r x out ≡ out
  unfolding output_after
  output_on out e = rw e

  pub output_new : (out : List ℕ) → goes_on r x ≡ false → output_after r x out ≡ patch out (16 * r.written) (run_bytes x)
  unfolding output_after
  output_new out e = rw e

-- "16 bytes each"
pub length_run_bytes : (x : image.Run) → length (run_bytes x) ≡ 16
unfolding run_bytes
length_run_bytes x = simp (length-append, u32.length_bytes, i32.length_bytes, i64.length_bytes)

-- start, count and sum written one after the other are the run
pub patch_run : (out : List ℕ) (o : ℕ) (x : image.Run) → o + 16 ≤ length out
    → patch (patch (patch out o (u32_bytes x.start)) (o + 4) (i32_bytes x.pair.count)) (o + 8) (i64_bytes x.pair.sum) ≡
    patch out o (run_bytes x)
unfolding run_bytes
patch_run out o x h =
    let a = u32_bytes x.start in
    let b = i32_bytes x.pair.count in
    let d = i64_bytes x.pair.sum in
    let m : length a ≡ 4 = u32.length_bytes x.start in
    let n : length b ≡ 4 = i32.length_bytes x.pair.count in
    let l : length (a ++ b) ≡ 8 = simp length-append (omega arith) in
    ap (λ s. patch s (o + 8) d) (patch_patch_next out o a b (o + 4) (ap (λ k. o + k) m) (omega arith))
    ∙ patch_patch_next out o (a ++ b) d (o + 8) (ap (λ k. o + k) l) (omega arith)
    ∙ ap (patch out o) (append_assoc a b d)
