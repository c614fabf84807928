-- `heal::collapse::collapse_if_single` meets its contract: a leaf stays, and a root with one entry alone goes. Assumes nothing.
use Rattle.std.proofs.Common.{◌≡◌, ℕ, List, ◌≤◌, ◌<◌, length, sym, ap, ◌∙◌, subst, arith}
use Rattle.page.specs.declared.Head.{Head}
use Rattle.page.specs.Layout.{capacity}
use Rattle.image.specs.Images.{Image}
use Rattle.steps.specs.Supply.{entries}
use Rattle.store.specs.Encoding.{Encodes, PostLevel}
use Rattle.store.specs.Preconditions.{TreePage}
use Rattle.heal.specs.Healable.{Collapsible, CollapsibleIfSingle}
use Rattle.heal.proofs.Roots.{read_root, read_len, collapsed_low, collapsed_wide, collapsed_collapse_root}
use Rattle.heal.proofs.collapse.collapse_if_single.Goals as goal
use Rattle.heal.proofs.collapse.collapse_if_single.Goals.{else-h-gt1-via-then-h-gt1+else-entry_count_in-eq1, else-h-gt1-via-else-h-gt1}

-- ---- the root as its head was read, of an image that the bytes encode

module _ {half n : ℕ} {img : List ℕ} {k : Head} {X : Image} (head : k ≡ X.head) (h : Encodes half img X) (s : CollapsibleIfSingle X)
    (count : PostLevel half img (λ v. TreePage v k.root) (λ v X. (n ≡ length (entries X k.root)) × (n ≤ capacity half))) where
  len : n ≡ length (entries X X.head.root)
  len = read_len X head (count X h _ (read_root X head s.root)).0

  collapses : 1 < k.height → n ≡ 1 → Collapsible X
  collapses high one =
      let e = ap (λ (k : Head). k.height) head in
      s.collapses (omega arith) (sym len ∙ one)

pub returns-then-entry_count_in-eq1 : goal.returns-then-entry_count_in-eq1
returns-then-entry_count_in-eq1 c X h s =
    let e = c.head_of-h.ensures X h tt in
    let n = c.entry_count_in.ensures in
    let one = c.if-entry_count_in-eq1.true in
    let l = collapses e h s n c.if-h-gt1.true one in
    subst (Encodes _ _) (collapsed_collapse_root c.args.kind X l.inner (sym (len e h s n) ∙ one)) (c.collapse_root.ensures X h l)

pub returns-else-h-gt1 : goal.returns-else-h-gt1
returns-else-h-gt1 c X h s =
    let head = c.head_of-h.ensures X h tt in
    elim c.else-h-gt1.branch [
      | else-h-gt1-via-then-h-gt1+else-entry_count_in-eq1 w ↦
          let n = len head h s w.entry_count_in.ensures in
          subst (Encodes _ _) (collapsed_wide c.args.kind X (λ e. w.if-entry_count_in-eq1.false (n ∙ e))) h
      | else-h-gt1-via-else-h-gt1 w ↦
          let e = ap (λ (k : Head). k.height) head in
          subst (Encodes _ _) (collapsed_low c.args.kind X (omega (arith, w.if-h-gt1.false))) h
    ]
