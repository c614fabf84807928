-- `page::slots::insert_slot` meets its contract: a turn moves the entry below the j-th slot there. Assumes nothing.
use Rattle.std.proofs.Common.{◌≡◌, ℕ, suc, ◌+◌, ◌-◌, ◌≤◌, ◌<◌, List, length, sym, ap, ◌∙◌, arith}
use Rattle.page.specs.declared.Entry.{Entry}
use Rattle.page.specs.Entries.{no_entry, inserted}
use Rattle.page.specs.Layout.{capacity, entry_at, with_entry, tree_bytes}
use Rattle.page.proofs.Laws.Shifts.{opened, opened_none, opened_more, opened_set, length_opened, length_inserted}
use Rattle.page.proofs.Laws.Trees.{page_bytes, page_set, page_copied, page_whole, tree_numbered, tree_count}
use Rattle.page.proofs.slots.insert_slot.Goals as goal

pub loop-j-init : goal.loop-j-init
loop-j-init c =
    (omega arith, λ level es n e. e ∙ ap (page_bytes _ level _) (sym (ap (λ k. opened k es) (sym n) ∙ opened_none es)))

step : (half level number j k : ℕ) (es : List Entry) {s t : List ℕ} {e : Entry} → j ≡ suc k → k < length es → length es < capacity half
    → t ≡ with_entry half (k + 1) e s → e ≡ entry_at half s k → s ≡ page_bytes half level number (opened j es)
    → t ≡ page_bytes half level number (opened k es)
step half level number j k es q h l moved read before =
    let n = length_opened (suc k) es in
    let m : k + 1 ≡ suc k = omega arith in
    let s : _ ≡ page_bytes half level number (opened (suc k) es) = before ∙ ap (λ m. page_bytes half level number (opened m es)) q in
    moved
    ∙ (λ i. with_entry half (m i) ((read ∙ ap (λ b. entry_at half b k) s) i) (s i))
    ∙ page_copied half level number (opened (suc k) es) k (suc k) (omega arith) (omega arith) (omega arith) (omega arith)
    ∙ ap (page_bytes half level number) (opened_more k es no_entry h)

pub loop-j-preserved : goal.loop-j-preserved
loop-j-preserved c =
    let j = c.loop-j.j in (
      omega arith,
      λ level es n e.
          step _ level _ j (j - 1) es (omega arith) (omega arith) (omega arith) c.set_slot.ensures c.entry_at.ensures
          (c.loop-j.invariant.1 level es n e),
    )

-- the entry is written, and the page says how many it has
written : (half level n i : ℕ) (es : List Entry) (e : Entry) {s t : List ℕ} → length es ≡ n → n < capacity half → i ≤ n
    → t ≡ with_entry half i e s
    → s ≡ page_bytes half level (n + 1) (opened i es) → t ≡ tree_bytes half level (inserted i e es)
written half level n i es e same few h set before =
    let m = length_opened i es in
    set
    ∙ ap (with_entry half i e) before
    ∙ page_set half level (n + 1) (opened i es) e i (omega arith) (omega arith) (omega arith)
    ∙ ap (page_bytes half level (n + 1)) (opened_set i e es)
    ∙ page_whole half level (n + 1) (inserted i e es) (omega (arith, length_inserted i e es))

pub returns : goal.returns
returns c level es within e =
    let half = c.args.half in
    let n = c.entry_count-n.result in
    let same : length es ≡ n = sym (c.entry_count-n.ensures ∙ tree_count half level es within (omega arith) e) in
    let i : c.loop-j.j ≡ c.args.i = omega arith in
    written half level n c.args.i es c.args.e same (omega arith) (omega arith) c.set_slot-2.ensures
    (c.loop-j.invariant.1 level es same (tree_numbered half level es (n + 1) e c.write_at.ensures)
    ∙ ap (λ k. page_bytes half level (n + 1) (opened k es)) i)
