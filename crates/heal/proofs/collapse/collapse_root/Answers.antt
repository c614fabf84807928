-- `heal::collapse::collapse_root` meets its contract: the page under the root's entry takes its pair, and the root is given back. Assumes
-- nothing.
use mathlib.Core.Path.{subst⁻¹}
use Rattle.std.proofs.Common.{◌≡◌, ℕ, List, ◌-◌, subst}
use Rattle.page.specs.declared.Entry.{Entry}
use Rattle.page.specs.declared.Head.{Head}
use Rattle.page.specs.Entries.{at}
use Rattle.image.specs.Images.{Image}
use Rattle.steps.specs.Supply.{entries}
use Rattle.store.specs.Encoding.{Encodes, PostLevel}
use Rattle.store.specs.Preconditions.{HasEntry, PushReady, Givable}
use Rattle.store.proofs.Encoding.{from}
use Rattle.heal.specs.Healable.{Collapsible}
use Rattle.heal.proofs.Roots.{read_entry, givable_put, collapse_root_is}
use Rattle.heal.proofs.collapse.collapse_root.Goals as goal

-- ---- the root and its entry as they were read, of an image that the bytes encode

module _ {k : Head} {X : Image} (head : k ≡ X.head) (s : Collapsible X) where
  root : HasEntry (X.head.height - 1) k.root 0 X
  root = subst⁻¹ (λ (k : Head). HasEntry (X.head.height - 1) k.root 0 X) head s.root

  goes : Givable k.root X
  goes = record { within = root.tree_page.within; room = s.room }

  module _ {half : ℕ} {img : List ℕ} {e : Entry} (h : Encodes half img X)
      (read : PostLevel half img (λ v. HasEntry v k.root 0) (λ v X. e ≡ at (entries X k.root) 0)) where
    found : e ≡ at (entries X X.head.root) 0
    found = read_entry X head 0 (read X h _ root)

    child : PushReady (X.head.height - 2) e X
    child = subst⁻¹ (λ e. PushReady (X.head.height - 2) e X) found s.child

-- ---- what is written

pub give_back-requires : goal.give_back-requires
give_back-requires c =
    from c.requires
    (λ X h s.
    let head = c.head_of-h.ensures X h tt in
    record {
      image = _;
      holds = c.push_down.ensures X h _ (child head s h c.entry_of-e.ensures);
      ready = givable_put (goes head s) _ _;
    })

pub set_root-requires : goal.set_root-requires
set_root-requires c =
    from c.requires
    (λ X h s.
    let head = c.head_of-h.ensures X h tt in
    let down = c.push_down.ensures X h _ (child head s h c.entry_of-e.ensures) in
    record { image = _; holds = c.give_back.ensures _ down (givable_put (goes head s) _ _); ready = tt })

pub returns : goal.returns
returns c X h s =
    let head = c.head_of-h.ensures X h tt in
    let down = c.push_down.ensures X h _ (child head s h c.entry_of-e.ensures) in
    subst (Encodes _ _) (collapse_root_is c.args.kind X head (found head s h c.entry_of-e.ensures))
    (c.set_root.ensures _ (c.give_back.ensures _ down (givable_put (goes head s) _ _)) tt)
