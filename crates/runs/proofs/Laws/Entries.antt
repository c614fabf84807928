-- The laws of a list of leaf entries: the open run counts the joined runs, and the output has them one behind the other. Assumes nothing.
use mathlib.Core.Path.{◌≡◌, refl, sym, ap, ◌∙◌}
use mathlib.Core.Bool.{Bool, true, false, cond, ◌&&◌}
use mathlib.Core.List.{List, [], ◌∷◌, ◌++◌}
use Prim.Native.Nat.{ℕ, ◌+◌, ◌*◌, ◌≤◌, ◌<◌}
use native.Mathlib.Nat.{add-zero}
use native.Mathlib.Omega.{arith}
use lib.ListN.{length, length-append}
use borrow.Author.Tests.{lt-ltb}
use Rattle.rule.specs.Pairs.{same_pair}
use Rattle.fields.specs.Bytes.{patch}
use Rattle.fields.proofs.Laws.Parts.{length_patch, patch_none, patch_patch_next}
use Rattle.lists.specs.Lists.{concat_map}
use Rattle.lists.proofs.Concat.{concat_map_append, concat_map_one}
use Rattle.page.proofs.Laws.Concat.{length_joined}
use Rattle.image.specs.Listing as image
use Rattle.image.specs.Listing.{run_bytes, join_after, join}
use Rattle.runs.specs.declared.Run.{Run}
use Rattle.runs.specs.Open.{no_run, goes_on, stepped, output_after, stepped_all, output_after_all}
use Rattle.runs.proofs.Laws.Steps.{length_run_bytes, stepped_on, stepped_new, output_on, output_new}

-- ---- one list behind another, and one entry more

pub stepped_all_append : (r : Run) (xs ys : List image.Run) → stepped_all r (xs ++ ys) ≡ stepped_all (stepped_all r xs) ys
unfolding stepped_all
stepped_all_append r [] ys = refl
stepped_all_append r (x ∷ xs) ys = stepped_all_append (stepped r x) xs ys

pub output_after_all_append : (r : Run) (xs ys : List image.Run) (out : List ℕ)
    → output_after_all r (xs ++ ys) out ≡ output_after_all (stepped_all r xs) ys (output_after_all r xs out)
unfolding stepped_all output_after_all
output_after_all_append r [] ys out = refl
output_after_all_append r (x ∷ xs) ys out = output_after_all_append (stepped r x) xs ys (output_after r x out)

-- ---- the runs that begin

-- the run that begins at one entry, if one does, where r is open before it
unfoldable pub begun_at : Run → image.Run → List image.Run
begun_at r x = cond (goes_on r x) [] (x ∷ [])

-- those that begin at the entries of a list
unfoldable pub begun : Run → List image.Run → List image.Run
begun r [] = []
begun r (x ∷ xs) = begun_at r x ++ begun (stepped r x) xs

test : {A : Type 0} (b : Bool) → (b ≡ true → A) → (b ≡ false → A) → A
test true t f = t refl
test false t f = f refl

written_step : (r : Run) (x : image.Run) → (stepped r x).written ≡ r.written + length (begun_at r x)
unfolding begun_at
written_step r x =
    test (goes_on r x)
    (λ e. rw (e, stepped_on r x e) (omega arith))
    (λ e. rw (e, stepped_new r x e) (omega arith))

output_step : (r : Run) (x : image.Run) (out : List ℕ)
    → output_after r x out ≡ patch out (16 * r.written) (concat_map run_bytes (begun_at r x))
unfolding begun_at concat_map
output_step r x out =
    test (goes_on r x)
    (λ e. rw (e, output_on r x out e) (sym (patch_none out (16 * r.written))))
    (λ e. rw (e, output_new r x out e) (ap (patch out (16 * r.written)) (sym (concat_map_one run_bytes x))))

-- "16 bytes each", one behind the other
pub length_runs_bytes : (xs : List image.Run) → length (concat_map run_bytes xs) ≡ 16 * length xs
length_runs_bytes xs = length_joined run_bytes 16 length_run_bytes xs

-- from any open run: each run that begins is counted, and is written behind those before it
pub written_begun : (r : Run) (xs : List image.Run) → (stepped_all r xs).written ≡ r.written + length (begun r xs)
unfolding stepped_all begun
written_begun r [] = sym (add-zero r.written)
written_begun r (x ∷ xs) =
    omega (arith, written_begun (stepped r x) xs, written_step r x, length-append (begun_at r x) (begun (stepped r x) xs))

pub output_begun : (r : Run) (xs : List image.Run) (out : List ℕ) → 16 * (r.written + length (begun r xs)) ≤ length out
    → output_after_all r xs out ≡ patch out (16 * r.written) (concat_map run_bytes (begun r xs))
unfolding output_after_all begun concat_map
output_begun r [] out h = sym (patch_none out (16 * r.written))
output_begun r (x ∷ xs) out h =
    let n : ℕ = r.written in
    let one : List image.Run = begun_at r x in
    let rest : List image.Run = begun (stepped r x) xs in
    let l : length (one ++ rest) ≡ length one + length rest = length-append one rest in
    let w : (stepped r x).written ≡ n + length one = written_step r x in
    let b : length (concat_map run_bytes one) ≡ 16 * length one = length_runs_bytes one in
    let e : output_after r x out ≡ patch out (16 * n) (concat_map run_bytes one) = output_step r x out in
    let k : length (output_after r x out) ≡ length out = ap length e ∙ length_patch out (16 * n) (concat_map run_bytes one) (omega arith) in
    output_begun (stepped r x) xs (output_after r x out) (omega arith)
    ∙ ap (λ s. patch s (16 * (stepped r x).written) (concat_map run_bytes rest)) e
    ∙ patch_patch_next out (16 * n) (concat_map run_bytes one) (concat_map run_bytes rest) (16 * (stepped r x).written)
    (omega arith) (omega arith)
    ∙ ap (patch out (16 * n)) (sym (concat_map_append run_bytes one rest))

-- ---- those runs are the joined ones

goes_on_open : (r : Run) (x : image.Run) → 0 < r.written → goes_on r x ≡ same_pair r.pair x.pair
unfolding goes_on
goes_on_open r x h = ap (λ b. b && same_pair r.pair x.pair) (lt-ltb 0 r.written h)

-- behind an open run
pub begun_open : (r : Run) (xs : List image.Run) → 0 < r.written → begun r xs ≡ join_after r.pair xs
unfolding begun begun_at join_after
begun_open r [] h = refl
begun_open r (x ∷ xs) h =
    let g = goes_on_open r x h in
    test (same_pair r.pair x.pair)
    (λ e. rw (g ∙ e, stepped_on r x (g ∙ e), e) (begun_open r xs h))
    (λ e.
    rw (g ∙ e, stepped_new r x (g ∙ e), e)
    (ap (λ l. x ∷ l) (begun_open (record { start = x.start; pair = x.pair; written = r.written + 1 }) xs (omega arith))))

-- from the first entry on
pub begun_first : (xs : List image.Run) → begun no_run xs ≡ join xs
unfolding begun begun_at join goes_on stepped
begun_first [] = refl
begun_first (x ∷ xs) = ap (λ l. x ∷ l) (begun_open (record { start = x.start; pair = x.pair; written = 1 }) xs (omega arith))

-- ---- so what is counted and written

pub written_join : (xs : List image.Run) → (stepped_all no_run xs).written ≡ length (join xs)
written_join xs = omega (arith, written_begun no_run xs, ap length (begun_first xs))

pub output_join : (xs : List image.Run) (out : List ℕ) → 16 * length (join xs) ≤ length out
    → output_after_all no_run xs out ≡ patch out 0 (concat_map run_bytes (join xs))
output_join xs out room =
    let e : begun no_run xs ≡ join xs = begun_first xs in
    output_begun no_run xs out (omega (arith, ap length e)) ∙ ap (λ l. patch out 0 (concat_map run_bytes l)) e

-- ---- how many runs there are, and the room for them

begun_few : (r : Run) (xs : List image.Run) → length (begun r xs) ≤ length xs
unfolding begun
begun_few r [] = omega arith
begun_few r (x ∷ xs) = omega (arith, begun_few (stepped r x) xs, at_most_one, length-append (begun_at r x) (begun (stepped r x) xs))
  where
    at_most_one : length (begun_at r x) ≤ 1
    at_most_one = unfold begun_at in test (goes_on r x) (λ e. rw e (omega arith)) (λ e. rw e (omega arith))

-- the number never falls, and rises by at most one an entry
pub written_grows : (r : Run) (xs : List image.Run) → r.written ≤ (stepped_all r xs).written
written_grows r xs = omega (arith, written_begun r xs)

pub written_few : (r : Run) (xs : List image.Run) → (stepped_all r xs).written ≤ r.written + length xs
written_few r xs = omega (arith, written_begun r xs, begun_few r xs)

-- where the output has room for all runs, it has room for one that begins, and keeps its length
pub room_for_new : (r : Run) (x : image.Run) (xs : List image.Run) (out : List ℕ) → 16 * (stepped_all r (x ∷ xs)).written ≤ length out
    → goes_on r x ≡ false → 16 * r.written + 16 ≤ length out
unfolding stepped_all
room_for_new r x xs out h e = omega (arith, written_grows (stepped r x) xs, ap (λ (s : Run). s.written) (stepped_new r x e))

pub length_output : (r : Run) (xs : List image.Run) (out : List ℕ) → 16 * (stepped_all r xs).written ≤ length out
    → length (output_after_all r xs out) ≡ length out
length_output r xs out h =
    let w = written_begun r xs in
    let b = length_runs_bytes (begun r xs) in
    ap length (output_begun r xs out (omega arith)) ∙ length_patch out (16 * r.written) (concat_map run_bytes (begun r xs)) (omega arith)
