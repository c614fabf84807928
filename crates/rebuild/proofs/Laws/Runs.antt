-- The runs that are listed at the front, read as entries: their bytes are those of the leaf entries of the runs. Assumes nothing.
use Prim.Native.Nat.{ℕ, ◌+◌, ◌*◌, ◌≤◌, ◌<◌}
use mathlib.Core.Path.{◌≡◌, refl, sym, ap, ◌∙◌}
use mathlib.Core.List.{List, [], ◌++◌, append_assoc, append-nil, map}
use native.Mathlib.Nat.{add-zero}
use native.Mathlib.Omega.{arith}
use lib.ListN.{length, length-append, get_or, drop}
use Rattle.lists.proofs.Edits.{map_listed}
use Rattle.lists.specs.Lists.{concat_map}
use Rattle.lists.proofs.Listed.{listed_same, listed_get_or}
use Rattle.rule.specs.Pairs.{none}
use Rattle.fields.specs.Bytes.{Bytes, part, patch}
use Rattle.fields.specs.Numbers.{u32_bytes, i32_bytes, i64_bytes}
use Rattle.fields.proofs.Laws.Offsets.{u32, i32, i64}
use Rattle.fields.proofs.Laws.Parts.{length_patch}
use Rattle.page.specs.Layout.{entry_bytes}
use Rattle.page.proofs.Laws.Concat.{part_joined}
use Rattle.page.proofs.Laws.Pieces.{part_inside}
use Rattle.image.specs.Listing.{Run, run, run_bytes}
use Rattle.runs.proofs.Laws.Steps.{length_run_bytes}
use Rattle.runs.proofs.Laws.Entries.{length_runs_bytes}
use Rattle.tight.specs.Tight.{leaf_entry}
use Rattle.rebuild.specs.Levels.{run_entry, run_entries}
use Rattle.rebuild.proofs.Laws.Coded.{coded, SameBytes}

-- one run, where its bytes stand
module _ (s : List ℕ) (i : ℕ) (r : Run) (bytes : Bytes s) (inside : 16 * i + 16 ≤ length s)
    (stands : part s (16 * i) 16 ≡ run_bytes r) where
  run_coded : coded (run_entry s i) ≡ coded (leaf_entry r)
  unfolding run_entry leaf_entry entry_bytes run_bytes
  run_coded =
      let o : ℕ = 16 * i in
      let a : List ℕ = u32_bytes r.start in
      let b : List ℕ = i32_bytes r.pair.count in
      let d : List ℕ = i64_bytes r.pair.sum in
      let la : length a ≡ 4 = u32.length_bytes r.start in
      let lb : length b ≡ 4 = i32.length_bytes r.pair.count in
      let ld : length d ≡ 8 = i64.length_bytes r.pair.sum in
      let lab : length (a ++ b) ≡ 8 = simp length-append (omega arith) in
      let whole : part s o 16 ≡ (a ++ b) ++ (d ++ []) = stands ∙ sym (append_assoc a b d) ∙ ap (λ l. (a ++ b) ++ l) (sym (append-nil d)) in
      let start : part s o 4 ≡ a =
      ap (λ p. part s p 4) (sym (add-zero o)) ∙ part_inside s o 16 [] a (b ++ d) 0 4 stands refl la (omega arith) in
      let count : part s (o + 4) 4 ≡ b = part_inside s o 16 a b d 4 4 stands la lb (omega arith) in
      let sum : part s (o + 8) 8 ≡ d = part_inside s o 16 (a ++ b) d [] 8 8 whole lab ld (omega arith) in
      λ j. record {
        start = (u32.bytes_at s o bytes (omega arith) ∙ start) j;
        rest = (i64.bytes_at s (o + 8) bytes (omega arith) ∙ sum) j
            ++ ((i32.bytes_at s (o + 4) bytes (omega arith) ∙ count) j ++ u32_bytes 0);
      }

-- where a listing at the front has them
run_stands : (s : List ℕ) (rs : List Run) (d : Run) (i : ℕ) → i < length rs
    → part (patch s 0 (concat_map run_bytes rs)) (16 * i) 16 ≡ run_bytes (get_or rs i d)
unfolding patch
run_stands s rs d i h = part_joined run_bytes 16 length_run_bytes rs (drop (0 + length (concat_map run_bytes rs)) s) d i h

-- all of them
pub runs_coded : (s : List ℕ) (rs : List Run) {t : List ℕ} → 16 * length rs ≤ length s → Bytes t
    → t ≡ patch s 0 (concat_map run_bytes rs) → SameBytes (run_entries t (length rs)) (map leaf_entry rs)
unfolding run_entries
runs_coded s rs {t} room bytes wrote =
    let n : ℕ = length rs in
    let no_run : Run = run 0 none in
    let r : ℕ → Run = λ i. get_or rs i no_run in
    let l : length t ≡ length s = ap length wrote ∙ length_patch s 0 (concat_map run_bytes rs) (omega (arith, length_runs_bytes rs)) in
    record {
      each = map_listed coded n (run_entry t)
          ∙ listed_same n (λ i. coded (run_entry t i)) (λ i. coded (leaf_entry (r i)))
          (λ i h. run_coded t i (r i) bytes (omega arith)
          (ap (λ u. part u (16 * i) 16) wrote ∙ run_stands s rs no_run i h))
          ∙ sym (map_listed coded n (λ i. leaf_entry (r i)))
          ∙ ap (map coded) (sym (map_listed leaf_entry n r))
          ∙ ap (λ l. map coded (map leaf_entry l)) (listed_get_or rs no_run);
    }
