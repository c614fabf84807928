-- Runs are read back from a listing's bytes. Assumes nothing.
use mathlib.Core.Path.{◌≡◌, refl, sym, ap, ◌∙◌}
use mathlib.Core.List.{List, [], ◌∷◌, ◌++◌, append_assoc, append-nil}
use Prim.Native.Nat.{ℕ, suc, ◌+◌, ◌*◌, ◌≤◌, ◌<◌, ◌^◌}
use native.Mathlib.Nat.{add-zero}
use native.Mathlib.Omega.{arith}
use lib.ListN.{length, length-append}
use mir.Syntax.{w32, w64}
use mir.Val.{SFits}
use Rattle.lists.specs.Lists.{All, all_none, all_more}
use Rattle.fields.specs.Bytes.{part}
use Rattle.fields.specs.Numbers.{u32_bytes, i32_bytes, i64_bytes}
use Rattle.fields.proofs.Laws.Parts.{part_whole, part_part, part_append_left, part_append_right, part_middle}
use Rattle.fields.proofs.Laws.Offsets.{u32, i32, i64}
use Rattle.lists.specs.Lists.{concat_map}
use Rattle.image.specs.Listing.{Run, run_bytes}
use Rattle.runs.proofs.Laws.Steps.{length_run_bytes}
use Rattle.runs.proofs.Laws.Entries.{length_runs_bytes}
use Rattle.runs.specs.Listed.{run_at}
use Rattle.program.specs.Listed.{runs_at}

-- "16 bytes each: start (u32), count (i32), sum (i64)"
pub record Fits (r : Run) : Type 0 where
  pub start : r.start < 2 ^ 32
  pub count : SFits w32 r.pair.count
  pub sum : SFits w64 r.pair.sum

module _ (s : List ℕ) (i : ℕ) (r : Run) (e : part s (16 * i) 16 ≡ run_bytes r) where
  inside : (o n : ℕ) → o + n ≤ 16 → part s (16 * i + o) n ≡ part (run_bytes r) o n
  inside o n h = sym (part_part s (16 * i) 16 o n h) ∙ ap (λ l. part l o n) e

  its_start : part s (16 * i) 4 ≡ u32_bytes r.start
  unfolding run_bytes
  its_start =
      ap (λ k. part s k 4) (sym (add-zero (16 * i)))
      ∙ inside 0 4 (omega arith)
      ∙ part_append_left (u32_bytes r.start) (i32_bytes r.pair.count ++ i64_bytes r.pair.sum) 0 4
      (omega (arith, u32.length_bytes r.start))
      ∙ part_whole (u32_bytes r.start) 4 (u32.length_bytes r.start)

  its_count : part s (16 * i + 4) 4 ≡ i32_bytes r.pair.count
  unfolding run_bytes
  its_count =
      inside 4 4 (omega arith)
      ∙ part_middle (u32_bytes r.start) (i32_bytes r.pair.count) (i64_bytes r.pair.sum) 4 4
      (u32.length_bytes r.start) (i32.length_bytes r.pair.count)

  its_sum : part s (16 * i + 8) 8 ≡ i64_bytes r.pair.sum
  unfolding run_bytes
  its_sum =
      let first : List ℕ = u32_bytes r.start ++ i32_bytes r.pair.count in
      let last : List ℕ = i64_bytes r.pair.sum in
      let l : length first ≡ 8 = omega (
        arith,
        length-append (u32_bytes r.start) (i32_bytes r.pair.count),
        u32.length_bytes r.start,
        i32.length_bytes r.pair.count,
      ) in
      inside 8 8 (omega arith)
      ∙ ap (λ bs. part bs 8 8)
      (sym (append_assoc (u32_bytes r.start) (i32_bytes r.pair.count) last) ∙ ap (λ bs. first ++ bs) (sym (append-nil last)))
      ∙ part_middle first last [] 8 8 l (i64.length_bytes r.pair.sum)

  run_back : Fits r → run_at s i ≡ r
  unfolding run_at
  run_back f =
      λ j.
      record {
        start = u32.at_bytes s (16 * i) r.start its_start f.start j;
        pair =
            record {
              sum = i64.at_bytes s (16 * i + 8) r.pair.sum its_sum f.sum j;
              count = i32.at_bytes s (16 * i + 4) r.pair.count its_count f.count j;
            };
      }

pub runs_back : (s : List ℕ) (i : ℕ) {rs : List Run} → All Fits rs
    → part s (16 * i) (16 * length rs) ≡ concat_map run_bytes rs → runs_at s i (length rs) ≡ rs
unfolding runs_at concat_map
runs_back s i all_none e = refl
runs_back s i (all_more {x = r} {xs = rs} f fs) e =
    let n : ℕ = 16 * length (r ∷ rs) in
    let k : ℕ = 16 * length rs in
    let rest : List ℕ = concat_map run_bytes rs in
    let l : length (run_bytes r) ≡ 16 = length_run_bytes r in
    let o : 16 * i + 16 ≡ 16 * suc i = omega arith in
    let z : 16 ≡ length (run_bytes r) + 0 = omega arith in
    let one : part s (16 * i) 16 ≡ run_bytes r =
    ap (λ a. part s a 16) (sym (add-zero (16 * i)))
    ∙ sym (part_part s (16 * i) n 0 16 (omega arith))
    ∙ ap (λ b. part b 0 16) e
    ∙ part_append_left (run_bytes r) rest 0 16 (omega arith)
    ∙ part_whole (run_bytes r) 16 l in
    let others : part s (16 * suc i) k ≡ rest =
    ap (λ a. part s a k) (sym o)
    ∙ sym (part_part s (16 * i) n 16 k (omega arith))
    ∙ ap (λ b. part b 16 k) e
    ∙ ap (λ a. part (run_bytes r ++ rest) a k) z
    ∙ part_append_right (run_bytes r) rest 0 k
    ∙ part_whole rest k (length_runs_bytes rs) in
    λ j. run_back s i r one f j ∷ runs_back s (suc i) fs others j
