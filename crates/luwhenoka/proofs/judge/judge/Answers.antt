-- `luwhenoka::judge::judge` meets its contract, row by row. Assumes nothing.
use Rattle.std.proofs.Common.{◌≡◌, ℕ, ◌/◌, Bool, List, sym, ap, refl, ◌∙◌}
use borrow.Author.Tests.{lt-ltb, le-ltb}
use Rattle.page.specs.Layout.{capacity_ok, capacity_named}
use Rattle.fields.specs.Numbers.{u32_at}
use Rattle.image.specs.Images.{capacity_field, half_of}
use Rattle.calls.specs.Refusals.{first}
use Rattle.calls.specs.Index.{names_capacity, judge}
use Rattle.luwhenoka.proofs.judge.judge.Goals as goal

-- the capacity that the field names
field : (img : List ℕ) {k read : ℕ} → k ≡ capacity_named read → read ≡ u32_at img 36 → k ≡ capacity_named (capacity_field img)
unfolding capacity_field
field img e r = e ∙ ap capacity_named r

tested : (img : List ℕ) {k : ℕ} {ok : Bool} → ok ≡ capacity_ok k → k ≡ capacity_named (capacity_field img) → names_capacity img ≡ ok
unfolding names_capacity
tested img e f = sym (e ∙ ap capacity_ok f)

pub returns-then-img-lt-HEAD_BYTES-clause-status : goal.returns-then-img-lt-HEAD_BYTES-clause-status
unfolding judge first
returns-then-img-lt-HEAD_BYTES-clause-status c = rw (lt-ltb _ _ c.if-img-lt-HEAD_BYTES.true) refl

pub returns-then-not-capacity_ok-clause-status : goal.returns-then-not-capacity_ok-clause-status
unfolding judge first
returns-then-not-capacity_ok-clause-status c =
    let f = field c.args.img.now c.capacity_named-k.ensures c.read_at.ensures in
    rw (le-ltb _ _ c.if-img-lt-HEAD_BYTES.false, tested c.args.img.now c.capacity_ok.ensures f, c.if-not-capacity_ok.true) refl

pub returns-clause-status : goal.returns-clause-status
unfolding judge first
returns-clause-status c =
    let f = field c.args.img.now c.capacity_named-k.ensures c.read_at.ensures in
    rw (le-ltb _ _ c.if-img-lt-HEAD_BYTES.false, tested c.args.img.now c.capacity_ok.ensures f, c.if-not-capacity_ok.false) refl

pub returns-clause-named : goal.returns-clause-named
unfolding half_of
returns-clause-named c = ap (λ k. k / 2) (field c.args.img.now c.capacity_named-k.ensures c.read_at.ensures)
