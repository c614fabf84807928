-- Head, tree and unused bytes, one behind another, are the tight image. Assumes nothing.
use Prim.Native.Nat.{ℕ, zero, suc, ◌+◌, ◌-◌, ◌*◌, ◌≤◌, ◌<◌}
use mathlib.Core.Path.{◌≡◌, sym, ap, ◌∙◌}
use mathlib.Core.Bool.{true, false}
use mathlib.Core.List.{List, [], ◌++◌, append_assoc, append-nil, map}
use native.Mathlib.Nat.{add-zero, add-suc, mul-zero, mul-suc, mul-add, mul-le-mul_left}
use native.Mathlib.Omega.{arith}
use lib.ListN.{length, length-append, length-map, get_or, get_or-eq_default}
use borrow.Author.Tests.{ltb-false}
use Rattle.lists.specs.Lists.{concat_map, sum}
use Rattle.lists.proofs.Listed.{listed_get_or}
use Rattle.lists.proofs.Concat.{concat_map_more}
use Rattle.fields.specs.Bytes.{Bytes, patch, unused}
use Rattle.fields.proofs.Laws.Parts.{patch_whole, patch_patch_next, patch_front}
use Rattle.fields.proofs.Laws.Tests.{length_unused, unused_add}
use Rattle.page.specs.declared.Head.{Head}
use Rattle.page.specs.Layout.{page_size, head_bytes}
use Rattle.page.proofs.Laws.Concat.{length_sized}
use Rattle.page.proofs.Laws.Heads.{length_head}
use Rattle.image.specs.Images.{Cell, never_used, cell_bytes, image_bytes, pages_in, length_ok}
use Rattle.image.specs.Listing.{Run, run_bytes}
use Rattle.image.proofs.Rows.{rows}
use Rattle.image.proofs.Sizes.{sized}
use Rattle.tight.specs.Tight.{pages_for, entries_before, level_sizes, sizes, pages_used, cells, leaf_entry, tight_cells, tight_head, tight, too_small}
use Rattle.tight.proofs.Pages.{pages_some, before_all}
use Rattle.tight.proofs.Levels.{length_cells, leaves_used}
use Rattle.rebuild.specs.Levels.{run_entries}
use Rattle.rebuild.proofs.Laws.Pieces.{joined_rows}
use Rattle.rebuild.proofs.Laws.Pages.{runs_room}
use Rattle.rebuild.proofs.Laws.Coded.{cells_same}
use Rattle.rebuild.proofs.Laws.Runs.{runs_coded}
use Rattle.rebuild.proofs.Laws.Tree.{cells_sized}

-- ---- the pages of an image whose first ones are cs, and the others never used

module _ (half : ℕ) (cs : List Cell) where
  abbrev page : ℕ → List ℕ
  page p = cell_bytes half (get_or cs (suc p - 1) never_used)

  page_is : (p : ℕ) → page p ≡ cell_bytes half (get_or cs p never_used)
  page_is p =
      let e : suc p - 1 ≡ p = omega arith in
      ap (λ q. cell_bytes half (get_or cs q never_used)) e

  page_unused : (p : ℕ) → length cs ≤ p → page p ≡ unused (page_size half)
  unfolding cell_bytes
  page_unused p h = page_is p ∙ ap (cell_bytes half) (get_or-eq_default cs never_used h)

  nothing_unused : (k : ℕ) → unused (k * 0) ≡ []
  unfolding unused
  nothing_unused k = rw (mul-zero k)

  pages_filled : (j : ℕ) → rows page (length cs + j) ≡ concat_map (cell_bytes half) cs ++ unused (page_size half * j)
  pages_filled zero =
      let b : Cell → List ℕ = cell_bytes half in
      ap (rows page) (add-zero (length cs))
      ∙ sym (joined_rows b (λ p. get_or cs p never_used) page (length cs) (λ i l. sym (page_is i)))
      ∙ ap (concat_map b) (listed_get_or cs never_used)
      ∙ sym (append-nil (concat_map b cs))
      ∙ ap (λ l. concat_map b cs ++ l) (sym (nothing_unused (page_size half)))
  pages_filled (suc j) =
      let k : ℕ = page_size half in
      let b : List ℕ = concat_map (cell_bytes half) cs in
      ap (rows page) (add-suc (length cs) j)
      ∙ concat_map_more page (λ p. p) (length cs + j)
      ∙ (λ i. pages_filled j i ++ page_unused (length cs + j) (omega arith) i)
      ∙ append_assoc b (unused (k * j)) (unused k)
      ∙ ap (λ l. b ++ l) (sym (unused_add (k * j) k) ∙ ap unused (sym (mul-suc k j)))

-- ---- the image

module _ (half n : ℕ) (h : Head) where
  -- the head of the tight image of m runs
  abbrev pub head_over : ℕ → Head
  head_over m = tight_head half n h.kind h.window h.changes (pages_used half m) (length (sizes half m))

  image_parts : (rs : List Run) (j : ℕ) → n - 1 ≡ length (tight_cells half rs) + j
      → image_bytes half (tight half n h.kind h.window h.changes rs)
      ≡ head_bytes half (head_over (length rs))
      ++ (concat_map (cell_bytes half) (tight_cells half rs) ++ unused (page_size half * j))
  unfolding image_bytes tight
  image_parts rs j e =
      let top : List ℕ = head_bytes half (head_over (length rs)) in
      ap (λ k. top ++ rows (page half (tight_cells half rs)) k) e ∙ ap (λ l. top ++ l) (pages_filled half (tight_cells half rs) j)

-- what each call leaves of s: the m runs at the front, the tree, and then unused bytes behind the root and the head
module _ (half n m : ℕ) (rs : List Run) (h : Head) (two : 2 ≤ half) (one : 1 ≤ m) (counted : m ≡ length rs) (s : List ℕ)
    (size : length s ≡ page_size half * n) (room : pages_used half m < n) (listed : 16 * m ≤ length s) where
  abbrev used : ℕ
  used = pages_used half m

  cells_length : length (tight_cells half rs) ≡ used
  unfolding tight_cells pages_used sizes
  cells_length =
      length_cells half (length rs) 0 1 (map leaf_entry rs)
      ∙ ap (λ k. sum (λ p. p) (level_sizes half (length rs) k)) (length-map rs leaf_entry)
      ∙ ap (pages_used half) (sym counted)

  tree_length : length (concat_map (cell_bytes half) (tight_cells half rs)) ≡ page_size half * used
  unfolding tight_cells
  tree_length =
      let es = map leaf_entry rs in
      length_sized (cell_bytes half) (page_size half)
      (cells_sized half (length rs) 0 1 es (omega arith) (omega (arith, length-map rs leaf_entry)))
      ∙ ap (λ k. page_size half * k) cells_length

  pub tight_written : {t u w : List ℕ} {top : Head} → Bytes t → length t ≡ length s → length u ≡ length s → top ≡ head_over half n h m
      → t ≡ patch s 0 (concat_map run_bytes rs)
      → u ≡ patch t (page_size half) (concat_map (cell_bytes half) (cells half m 0 1 (run_entries t m)))
      → w ≡ patch (patch u (page_size half * top.mark) (unused (length u - page_size half * top.mark))) 0 (head_bytes half top)
      → w ≡ image_bytes half (tight half n h.kind h.window h.changes rs)
  unfolding tight_cells
  tight_written {t} {u} {w} {top} bytes long still same_head front tree ends =
      let k : ℕ = page_size half in
      let a : List ℕ = head_bytes half (head_over half n h m) in
      let b : List ℕ = concat_map (cell_bytes half) (tight_cells half rs) in
      let j : ℕ = n - suc used in
      let d : List ℕ = unused (k * j) in
      let la : length a ≡ k = length_head half (head_over half n h m) (omega arith) in
      let lb : length b ≡ k * used = tree_length in
      let ld : length d ≡ k * j = length_unused (k * j) in
      let nj : n ≡ suc used + j = omega arith in
      let whole : k * n ≡ k * suc used + k * j = ap (λ i. k * i) nj ∙ mul-add k (suc used) j in
      let left : length s - k * suc used ≡ k * j = omega arith in
      let same : u ≡ patch t k b =
      tree
      ∙ ap (λ i. patch t k (concat_map (cell_bytes half) (cells half i 0 1 (run_entries t i)))) counted
      ∙ ap (patch t k) (cells_same half (length rs) 0 1 (runs_coded s rs (omega arith) bytes front)) in
      ends
      ∙ (λ i. patch (patch u (k * (same_head i).mark) (unused (still i - k * (same_head i).mark))) 0 (head_bytes half (same_head i)))
      ∙ (λ i. patch (patch (same i) (k * suc used) (unused (left i))) 0 a)
      ∙ ap (λ l. patch l 0 a) (patch_patch_next t k b d (k * suc used) (omega (arith, mul-suc k used)) (omega (arith, mul-suc k used)))
      ∙ patch_front t k (b ++ d) 0 a (omega arith) (omega (arith, mul-suc k used))
      ∙ patch_whole t (a ++ (b ++ d)) (simp length-append (omega (arith, mul-suc k used)))
      ∙ ap (λ i. head_bytes half (head_over half n h i) ++ (b ++ d)) counted
      ∙ sym (image_parts half n h rs j (omega (arith, cells_length)))

-- ---- a target that is long enough

pub record LongEnough (half m : ℕ) (s : List ℕ) : Type 0 where
  pub size : length s ≡ page_size half * pages_in half s
  pub most : pages_in half s ≤ 1024
  pub room : pages_used half m < pages_in half s
  pub tree : page_size half * suc (pages_used half m) ≤ length s
  pub runs : 16 * m ≤ length s

pub long_enough : (half m : ℕ) (s : List ℕ) → 1 ≤ half → 1 ≤ m → length_ok half s ≡ true → too_small half (pages_in half s) m ≡ false
    → LongEnough half m s
unfolding too_small
long_enough half m s some one ok large =
    let k : ℕ = page_size half in
    let p : ℕ = pages_for half m in
    let z = sized half s ok in
    let room : suc (pages_used half m) ≤ pages_in half s = ltb-false (pages_in half s) (suc (pages_used half m)) large in
    let tree : k * suc (pages_used half m) ≤ k * pages_in half s = mul-le-mul_left k room in
    let leaves : k * p ≤ k * suc (pages_used half m) = mul-le-mul_left k (omega (arith, leaves_used half m one)) in
    let all : entries_before m p p ≡ m = before_all m p (pages_some half m some one) in
    record {
      size = z.size;
      most = z.most;
      room = room;
      tree = omega (arith, z.size);
      runs = omega (arith, z.size, runs_room half m some one p);
    }
