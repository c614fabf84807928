-- `neighbours::verdict::sound` meets its contract: a law for each way out. Assumes nothing.
use Rattle.std.proofs.Common.{◌≡◌, ◌<◌, length, true, not, sym, ap, ◌∙◌, arith, rules}
use borrow.Author.Tests.{ne_eqb}
use Rattle.page.specs.Layout.{head_of}
use Rattle.page.specs.declared.Head.{Head}
use Rattle.page.proofs.Laws.Offsets.{page_within}
use Rattle.image.specs.Images.{pages_in}
use Rattle.image.specs.Sound.{sound_before}
use Rattle.image.proofs.Sizes.{sized}
use Rattle.soundness.proofs.Sound.{the_head}
use Rattle.access.specs.Access.{PageIn}
use Rattle.access.proofs.Laws.{page_length}
use Rattle.neighbours.proofs.Verdicts.{not_before, other_kind, of_totals}
use Rattle.neighbours.proofs.verdict.sound.Goals as goal
use Rattle.neighbours.proofs.verdict.sound.Goals.{Else-not-sound_before, After-read_head-h}

pub returns-then-not-sound_before : goal.returns-then-not-sound_before
returns-then-not-sound_before c =
    not_before _ _ (sym c.sound_before.ensures ∙ search rules)

-- behind the test
before : (c : Else-not-sound_before) → sound_before c.args.half c.args.img.now ≡ true
before c = sym c.sound_before.ensures ∙ search rules

within : (c : Else-not-sound_before) → PageIn c.args.half c.args.img.now 0
within c =
    let z = sized c.args.half _ c.requires.2 in
    let one : 0 < pages_in c.args.half c.args.img.now = omega (arith, z.least) in
    omega (arith, z.size, page_within c.args.half one)

kind_read : (c : After-read_head-h) → c.read_head-h.result.kind ≡ (the_head c.args.half c.args.img.now).kind
kind_read c = ap (λ (h : Head). h.kind) (c.read_head-h.ensures ∙ ap head_of c.page_at.ensures)

pub page_at-requires : goal.page_at-requires
page_at-requires c = within (goal.at.page_at-requires c).Else-not-sound_before

pub read_head-h-requires : goal.read_head-h-requires
read_head-h-requires c =
    omega (arith, ap length c.page_at.ensures, page_length _ _ _ (within (goal.at.read_head-h-requires c).Else-not-sound_before))

pub returns-then-h-ne-TOTALS : goal.returns-then-h-ne-TOTALS
returns-then-h-ne-TOTALS c =
    let at = goal.at.returns-then-h-ne-TOTALS c in
    ap not (ne_eqb _ 1 c.if-h-ne-TOTALS.true)
    ∙ other_kind _ _ (before at.Else-not-sound_before) (λ k. c.if-h-ne-TOTALS.true (kind_read at.After-read_head-h ∙ k))

pub neighbours_apart-requires : goal.neighbours_apart-requires
neighbours_apart-requires c =
    let at = goal.at.neighbours_apart-requires c in
    record {
      sound_before = (c.requires.0, c.requires.1, before at.Else-not-sound_before);
      totals = sym (kind_read at.After-read_head-h) ∙ c.if-h-ne-TOTALS.false;
    }

pub returns-else-h-ne-TOTALS : goal.returns-else-h-ne-TOTALS
returns-else-h-ne-TOTALS c =
    let at = goal.at.returns-else-h-ne-TOTALS c in
    of_totals _ _ (before at.Else-not-sound_before) (sym (kind_read at.After-read_head-h) ∙ c.if-h-ne-TOTALS.false) c.neighbours_apart.ensures
