-- `page::slots::remove_slot` meets its contract: a turn moves the entry behind the j-th slot there. Assumes nothing.
use Rattle.std.proofs.Common.{◌≡◌, ℕ, suc, ◌+◌, ◌-◌, ◌≤◌, ◌<◌, List, [], length, sym, ap, ◌∙◌, arith}
use native.Mathlib.Numerals.{add-one}
use Rattle.lists.specs.Lists.{splice}
use Rattle.page.specs.declared.Entry.{Entry}
use Rattle.page.specs.Entries.{at, no_entry}
use Rattle.page.specs.Layout.{capacity, entry_at, with_entry, without_entry, tree_bytes}
use Rattle.page.proofs.Laws.Shifts.{closed, closed_none, closed_more, closed_all, length_closed, length_removed}
use Rattle.page.proofs.Laws.Trees.{page_bytes, page_copied, page_dropped, page_whole, tree_numbered, tree_count}
use Rattle.page.proofs.slots.remove_slot.Goals as goal

pub loop-j-init : goal.loop-j-init
loop-j-init c = λ level es n e. e ∙ ap (page_bytes _ level _) (sym (closed_none _ es))

-- the entry behind the j-th slot moves there
step : (half level number i j : ℕ) (es : List Entry) {s t : List ℕ} {e : Entry} → i ≤ j → suc j < length es → length es ≤ capacity half
    → t ≡ with_entry half j e s → e ≡ entry_at half s (j + 1) → s ≡ page_bytes half level number (closed j (splice i [] es) es)
    → t ≡ page_bytes half level number (closed (j + 1) (splice i [] es) es)
step half level number i j es h g l moved read before =
    let rs : List Entry = splice i [] es in
    let n : length rs + 1 ≡ length es = length_removed i es (omega arith) in
    let m = length_closed j rs es in
    moved
    ∙ (λ k. with_entry half j ((read ∙ (λ b. entry_at half (before b) (add-one j b))) k) (before k))
    ∙ page_copied half level number (closed j rs es) (suc j) j (omega arith) (omega arith) (omega arith) (omega arith)
    ∙ ap (page_bytes half level number) (closed_more i j es no_entry h g ∙ ap (λ k. closed k rs es) (sym (add-one j)))

pub loop-j-preserved : goal.loop-j-preserved
loop-j-preserved c = λ level es n e.
    step _ level _ _ c.loop-j.j es (omega arith) (omega arith) (omega arith) c.set_slot.ensures c.entry_at.ensures
    (c.loop-j.invariant level es n e)

-- the last slot is unused, and the page says how many it has
cleared : (half level n i : ℕ) (es : List Entry) {s t : List ℕ} → length es ≡ n + 1 → n < capacity half → i ≤ n → t ≡ without_entry half n s
    → s ≡ page_bytes half level n (closed n (splice i [] es) es) → t ≡ tree_bytes half level (splice i [] es)
cleared half level n i es same few h last before =
    let rs : List Entry = splice i [] es in
    let d : length rs + 1 ≡ length es = length_removed i es (omega arith) in
    let m : n ≡ length rs = omega arith in
    last
    ∙ (λ k. without_entry half (m k) ((before ∙ ap (λ k. page_bytes half level n (closed k rs es)) m) k))
    ∙ ap (λ l. without_entry half (length rs) (page_bytes half level n l)) (closed_all rs es no_entry d)
    ∙ page_dropped half level n rs (at es (length rs)) (omega arith)
    ∙ page_whole half level n rs (sym m)

pub returns : goal.returns
returns c level es within e =
    let half = c.args.half in
    let i = c.args.i in
    let n = c.entry_count-n.result - 1 in
    let same : length es ≡ n + 1 = omega (arith, c.entry_count-n.ensures ∙ tree_count half level es within (omega arith) e) in
    let j : c.loop-j.j ≡ n = omega arith in
    cleared half level n i es same (omega arith) (omega arith) c.clear_slot.ensures
    (c.loop-j.invariant level es same (tree_numbered half level es n e c.write_at.ensures)
    ∙ ap (λ k. page_bytes half level n (closed k (splice i [] es) es)) j)
