-- `rebuild::images::write_tight` meets its contract: the runs at the front, the tree, head and unused bytes are the tight image. Assumes
-- nothing.
use Rattle.std.proofs.Common.{◌≡◌, ℕ, ◌*◌, ◌/◌, suc, List, length, ap, ◌∙◌, arith, rules}
use Rattle.fields.proofs.Laws.Digits.{bytes_of}
use Rattle.page.specs.declared.Head.{Head}
use Rattle.page.specs.Layout.{page_size}
use Rattle.image.specs.Images.{pages_in}
use Rattle.tight.specs.Tight.{pages_used, tight_head}
use Rattle.calls.specs.Calls.{runs_over, full_runs}
use Rattle.rebuild.specs.declared.TreeSize.{TreeSize}
use Rattle.rebuild.specs.Levels.{tree_size}
use Rattle.rebuild.specs.Rebuild.{Rebuildable}
use Rattle.rebuild.proofs.Laws.Images.{LongEnough, long_enough, head_over, tight_written}
use Rattle.rebuild.proofs.Laws.Targets.{by_head}
use Rattle.rebuild.proofs.images.write_tight.Goals as goal

target_enough : {half m : ℕ} {source s : List ℕ} {h : Head} → Rebuildable half source h s m → LongEnough half m s
target_enough pre = long_enough _ _ _ (omega (arith, pre.half_least)) pre.some pre.whole pre.room

-- the pages of the target are as many as before
pages_told : (half : ℕ) (s t : List ℕ) {n : ℕ} → n ≡ pages_in half t → length t ≡ length s → n ≡ pages_in half s
unfolding pages_in
pages_told half s t e l = e ∙ ap (λ k. k / page_size half) l

-- the pages that the tree takes
used : (half m : ℕ) {tree : TreeSize} → tree ≡ tree_size half m → tree.pages ≡ pages_used half m
unfolding tree_size
used half m e = ap (λ (t : TreeSize). t.pages) e

head_is : (half m : ℕ) (h : Head) {n k : ℕ} {top : Head} {tree : TreeSize}
    → top ≡ tight_head half k h.kind h.window h.changes tree.pages tree.height
    → k ≡ n
    → tree ≡ tree_size half m
    → top ≡ head_over half n h m
unfolding tree_size
head_is half m h made pages size =
    made ∙ (λ j. tight_head half (pages j) h.kind h.window h.changes (size j).pages (size j).height)

pub write_runs-requires-clause-room : goal.write_runs-requires-clause-room
unfolding full_runs runs_over
write_runs-requires-clause-room c =
    let pre = c.requires.0 in
    omega (arith, target_enough pre, pre.counted)

pub write_tree-requires-clause-room : goal.write_tree-requires-clause-room
write_tree-requires-clause-room c = omega (arith, target_enough c.requires.0)

pub overflow_cast-pages : goal.overflow_cast-pages
overflow_cast-pages c =
    let told = pages_told c.args.half c.args.target.now _ c.page_count-pages.ensures (omega arith) in
    omega (arith, told, target_enough c.requires.0)

pub tight_head-requires : goal.tight_head-requires
tight_head-requires c = omega (arith, c.requires.0.half_most, target_enough c.requires.0, used _ _ c.requires.1)

pub write_ends-requires : goal.write_ends-requires
write_ends-requires c =
    let args = c.args in
    let top =
    head_is args.half args.runs args.h c.tight_head.ensures
    (pages_told args.half args.target.now _ c.page_count-pages.ensures (omega arith)) c.requires.1 in
    let mark : c.tight_head.result.mark ≡ suc (pages_used args.half args.runs) = ap (λ h. h.mark) top in
    omega (arith, c.requires.0.half_least, c.requires.0.half_most, target_enough c.requires.0, ap (λ k. page_size args.half * k) mark)

pub returns : goal.returns
unfolding full_runs runs_over
returns c =
    let args = c.args in
    let pre = c.requires.0 in
    let s = args.target.now in
    let z = target_enough pre in
    let top =
    head_is args.half args.runs args.h c.tight_head.ensures
    (pages_told args.half s _ c.page_count-pages.ensures (omega arith)) c.requires.1 in
    tight_written args.half (pages_in args.half s) args.runs (full_runs args.half args.source.now) args.h
    pre.half_least pre.some pre.counted s z.size z.room z.runs
    (bytes_of c.write_runs.new.out (search rules)) (omega arith) (omega arith) top
    c.write_runs.ensures c.write_tree.ensures c.write_ends.ensures
    ∙ by_head args.half args.source.now (pages_in args.half s) pre.opened
