-- `rebalance::push::push_siblings` meets its contract: both entries are read before a page is written. Assumes nothing.
use mathlib.Core.Path.{subst⁻¹}
use Rattle.std.proofs.Common.{◌≡◌, ℕ, suc, sym, ap, ◌∙◌, subst, arith}
use native.Mathlib.Numerals.{add-one}
use Rattle.rule.specs.Pairs.{combine}
use Rattle.page.specs.declared.Entry.{Entry}
use Rattle.page.specs.Entries.{at}
use Rattle.image.specs.Images.{Image, tree}
use Rattle.steps.specs.Supply.{entries, put}
use Rattle.steps.specs.Heal.{pushed}
use Rattle.store.specs.Encoding.{Encodes}
use Rattle.store.specs.Preconditions.{PushReady}
use Rattle.store.proofs.Encoding.{from}
use Rattle.rebalance.specs.Siblings.{Siblings}
use Rattle.rebalance.proofs.Outcomes.{entry_there, push_else, pushed_else, next_fits}
use Rattle.rebalance.proofs.push.push_siblings.Goals as goal

pub overflow_add-at : goal.overflow_add-at
overflow_add-at c = from c.requires (λ X h s. omega (arith, next_fits s.1 h))

-- ---- the two entries as they were read, of every image that the bytes encode

module _ (kind : ℕ) {v p l : ℕ} {X : Image} {a b : Entry} (s : Siblings v p l X) (left : a ≡ at (entries X p) l)
    (right : b ≡ at (entries X p) (suc l)) where
  left_ready : PushReady v a X
  left_ready = subst⁻¹ (λ e. PushReady v e X) left s.left

  -- the image once the left one has its pair
  abbrev half : Image
  half = put a.child (tree v (pushed (combine kind) X a)) X

  apart : b.child ≡ a.child → ⊥
  apart e = s.apart (ap (λ (x : Entry). x.child) (sym left) ∙ sym e ∙ ap (λ (x : Entry). x.child) right)

  right_ready : PushReady v b half
  right_ready = push_else _ _ X _ apart (subst⁻¹ (λ e. PushReady v e X) right s.right)

pub push_down-requires-2 : goal.push_down-requires-2
push_down-requires-2 c =
    from c.requires
    (λ X h s.
    let kind = c.args.at.kind in
    let left = c.entry_of-a.ensures X h _ (entry_there s.1 (omega arith)) in
    let right =
    c.entry_of-b.ensures X h _ (entry_there s.1 (omega arith)) ∙ ap (at (entries X c.args.at.p)) (add-one c.args.at.l) in
    record {
      image = _;
      holds = c.push_down.ensures X h _ (left_ready kind s.1 left right);
      ready = (_, right_ready kind s.1 left right);
    })

pub returns : goal.returns
returns c X h v s =
    let kind = c.args.at.kind in
    let f = combine kind in
    let a = c.entry_of-a.ensures X h _ (entry_there s (omega arith)) in
    let b =
    c.entry_of-b.ensures X h _ (entry_there s (omega arith)) ∙ ap (at (entries X c.args.at.p)) (add-one c.args.at.l) in
    let e = c.entry_of-b.result in
    record {
      left = ap (λ (x : Entry). x.child) a;
      right = ap (λ (x : Entry). x.child) b;
      holds =
          subst (Encodes _ _)
          (ap (λ es. put e.child (tree v es) (half kind s a b)) (pushed_else _ _ X _ (apart kind s a b) f)
          ∙ (λ j. put (b j).child (tree v (pushed f X (b j))) (put (a j).child (tree v (pushed f X (a j))) X)))
          (c.push_down-2.ensures _ (c.push_down.ensures X h v (left_ready kind s a b)) v (right_ready kind s a b));
    }
