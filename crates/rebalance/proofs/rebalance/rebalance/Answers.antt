-- `rebalance::rebalance::rebalance` meets its contract: the sibling's count decides between redistributing and merging. Assumes nothing.
use mathlib.Core.Path.{subst⁻¹}
use Rattle.std.proofs.Common.{◌≡◌, ℕ, ap, ◌∙◌, ◌≤◌, List, length, subst}
use Rattle.page.specs.declared.Entry.{Entry}
use Rattle.page.specs.Entries.{at}
use Rattle.page.specs.Layout.{capacity}
use Rattle.image.specs.Images.{Image}
use Rattle.steps.specs.Supply.{entries}
use Rattle.steps.specs.Heal.{sibling}
use Rattle.store.specs.Encoding.{Encodes, PostLevel}
use Rattle.store.specs.Preconditions.{TreePage, HasEntry}
use Rattle.store.proofs.Encoding.{from, readied}
use Rattle.rebalance.specs.Siblings.{Rebalanceable}
use Rattle.rebalance.proofs.Rebalancing.{left_before, rebalance_sibling, rebalance_entry, rebalance_redistributable, rebalance_mergeable}
use Rattle.rebalance.proofs.Rebalancing.{rebalance_redistributed, rebalance_merged}
use Rattle.rebalance.proofs.rebalance.rebalance.Goals as goal

pub entry_of-e-requires : goal.entry_of-e-requires
entry_of-e-requires c = readied c.requires (λ X h s. (_, rebalance_entry s.1 c.sibling.ensures))

-- ---- the sibling as it was read, of every image that the bytes encode

module _ {half p i j : ℕ} {img : List ℕ} {e : Entry} (index : j ≡ sibling i)
    (read : PostLevel half img (λ v. HasEntry v p j) (λ v X. e ≡ at (entries X p) j)) where
  entry : {v : ℕ} {X : Image} → Encodes half img X → Rebalanceable half v p i X → e ≡ at (entries X p) (sibling i)
  entry {X = X} h s = read X h _ (rebalance_entry s index) ∙ ap (at (entries X p)) index

  tree_page : {v : ℕ} {X : Image} → Encodes half img X → Rebalanceable half v p i X → TreePage v e.child X
  tree_page {v} {X} h s = subst⁻¹ (λ e. TreePage v e.child X) (entry h s) (rebalance_sibling i s).tree_page

  -- how many entries it has
  module _ {n : ℕ}
      (count : PostLevel half img (λ v. TreePage v e.child) (λ v X. (n ≡ length (entries X e.child)) × (n ≤ capacity half))) where
    len : {v : ℕ} {X : Image} → Encodes half img X → Rebalanceable half v p i X → n ≡ length (entries X (at (entries X p) (sibling i)).child)
    len {v} {X} h s = (count X h v (tree_page h s)).0 ∙ ap (λ e. length (entries X e.child)) (entry h s)

    few : {v : ℕ} {X : Image} → Encodes half img X → Rebalanceable half v p i X → n ≤ capacity half
    few {v} {X} h s = (count X h v (tree_page h s)).1

pub entry_count_in-n-requires : goal.entry_count_in-n-requires
entry_count_in-n-requires c = readied c.requires (λ X h s. (_, tree_page c.sibling.ensures c.entry_of-e.ensures h s.1))

pub redistribute-requires : goal.redistribute-requires
redistribute-requires c =
    from c.requires
    (λ X h s.
    let n = len c.sibling.ensures c.entry_of-e.ensures c.entry_count_in-n.ensures h s.1 in
    let most = few c.sibling.ensures c.entry_of-e.ensures c.entry_count_in-n.ensures h s.1 in
    let l = c.saturating_sub-l.ensures ∙ left_before c.args.i in
    let ready = rebalance_redistributable l n c.left_share.ensures c.if-n-half.true most s.1 in
    record { image = X; holds = h; ready = (_, ready) })

pub returns-then-n-half : goal.returns-then-n-half
returns-then-n-half c X h v s =
    let l = c.saturating_sub-l.ensures ∙ left_before c.args.i in
    let k = c.left_share.ensures in
    let n = len c.sibling.ensures c.entry_of-e.ensures c.entry_count_in-n.ensures h s in
    let most = few c.sibling.ensures c.entry_of-e.ensures c.entry_count_in-n.ensures h s in
    subst (Encodes _ _) (rebalance_redistributed _ c.args.kind v c.args.p c.args.i X l n k c.if-n-half.true)
    (c.redistribute.ensures X h v (rebalance_redistributable l n k c.if-n-half.true most s))

pub merge-requires : goal.merge-requires
merge-requires c =
    from c.requires
    (λ X h s.
    let n = len c.sibling.ensures c.entry_of-e.ensures c.entry_count_in-n.ensures h s.1 in
    record { image = X; holds = h; ready = (_, rebalance_mergeable (c.saturating_sub-l.ensures ∙ left_before c.args.i) n c.if-n-half.false s.1) })

pub returns-else-n-half : goal.returns-else-n-half
returns-else-n-half c X h v s =
    let l = c.saturating_sub-l.ensures ∙ left_before c.args.i in
    let n = len c.sibling.ensures c.entry_of-e.ensures c.entry_count_in-n.ensures h s in
    subst (Encodes _ _) (rebalance_merged _ c.args.kind v c.args.p c.args.i X l n c.if-n-half.false)
    (c.merge.ensures X h v (rebalance_mergeable l n c.if-n-half.false s))
