-- `booking::state::check_state` meets its contract: the first row whose test fails. Assumes nothing.
use Rattle.std.proofs.Common.{◌≡◌, ℕ, List, ◌<◌, true, length, sym, refl, ap, ◌∙◌, arith}
use borrow.Author.Tests.{eq-eqb, ne_eqb}
use Rattle.rule.specs.Time.{effect_end}
use Rattle.page.proofs.Laws.Offsets.{page_within}
use Rattle.image.specs.Images.{pages_in, length_ok}
use Rattle.access.specs.Access.{PageIn}
use Rattle.soundness.proofs.Sound.{sound_old}
use Rattle.calls.specs.Refusals.{first}
use Rattle.calls.specs.Calls.{head}
use Rattle.image.proofs.Sizes.{sized}
use Rattle.access.proofs.Laws.{page_length}
use Rattle.booking.proofs.Laws.Late.{head_read}
use Rattle.booking.proofs.state.check_state.Goals as goal

pub returns-then-not-sound-clause-status : goal.returns-then-not-sound-clause-status
unfolding first
returns-then-not-sound-clause-status c = rw (sym c.sound.ensures, c.if-not-sound.true) refl

-- page 0 is there
within : (half : ℕ) (img : List ℕ) → length_ok half img ≡ true → PageIn half img 0
within half img l =
    let z = sized half img l in
    let one : 0 < pages_in half img = omega (arith, z.least) in
    omega (arith, z.size, page_within half one)

pub page_at-requires : goal.page_at-requires
page_at-requires c = within _ _ c.requires.image_sized.2

pub read_head-h-requires : goal.read_head-h-requires
read_head-h-requires c =
    let asked = c.requires.image_sized in
    omega (arith, ap length c.page_at.ensures ∙ page_length _ _ 0 (within _ _ asked.2), asked.0)

pub returns-then-kind_refuses-clause-status : goal.returns-then-kind_refuses-clause-status
unfolding first
returns-then-kind_refuses-clause-status c =
    let read = head_read c.args.half c.args.img.now c.read_head-h.ensures c.page_at.ensures in
    rw (sym c.sound.ensures, c.if-not-sound.false, sym read, sym c.kind_refuses.ensures, c.if-kind_refuses.true) refl

pub returns-then-h-eq-MOST_CHANGES-clause-status : goal.returns-then-h-eq-MOST_CHANGES-clause-status
unfolding first
returns-then-h-eq-MOST_CHANGES-clause-status c =
    let read = head_read c.args.half c.args.img.now c.read_head-h.ensures c.page_at.ensures in
    rw (sym c.sound.ensures, c.if-not-sound.false, sym read, sym c.kind_refuses.ensures, c.if-kind_refuses.false, eq-eqb _ _ c.if-h-eq-MOST_CHANGES.true) refl

pub lacks_pages-requires-clause-sound_image : goal.lacks_pages-requires-clause-sound_image
unfolding head
lacks_pages-requires-clause-sound_image c =
    let asked = c.requires.image_sized in
    record {
      half_least = asked.0;
      half_most = asked.1;
      sound = sound_old _ _ (sym c.sound.ensures ∙ c.if-not-sound.false);
      shown = head_read c.args.half c.args.img.now c.read_head-h.ensures c.page_at.ensures;
    }

-- where the effect ends, which is behind its start
pub lacks_pages-requires-clause-span : goal.lacks_pages-requires-clause-span
unfolding effect_end
lacks_pages-requires-clause-span c = omega (arith, c.effect_end.ensures, c.requires.span, c.well_formed)

pub returns-then-lacks_pages-clause-status : goal.returns-then-lacks_pages-clause-status
unfolding first
returns-then-lacks_pages-clause-status c =
    let read = head_read c.args.half c.args.img.now c.read_head-h.ensures c.page_at.ensures in
    let end : effect_end c.args.booking.end c.read_head-h.result.window ≡ c.effect_end.result = sym c.effect_end.ensures in
    rw (
      sym c.sound.ensures,
      c.if-not-sound.false,
      sym read,
      sym c.kind_refuses.ensures,
      c.if-kind_refuses.false,
      ne_eqb _ _ c.if-h-eq-MOST_CHANGES.false,
      end,
      sym c.lacks_pages.ensures,
      c.if-lacks_pages.true,
    ) refl

pub returns-clause-status : goal.returns-clause-status
unfolding first
returns-clause-status c =
    let read = head_read c.args.half c.args.img.now c.read_head-h.ensures c.page_at.ensures in
    let end : effect_end c.args.booking.end c.read_head-h.result.window ≡ c.effect_end.result = sym c.effect_end.ensures in
    rw (
      sym c.sound.ensures,
      c.if-not-sound.false,
      sym read,
      sym c.kind_refuses.ensures,
      c.if-kind_refuses.false,
      ne_eqb _ _ c.if-h-eq-MOST_CHANGES.false,
      end,
      sym c.lacks_pages.ensures,
      c.if-lacks_pages.false,
    ) refl

pub returns-clause-accepted : goal.returns-clause-accepted
returns-clause-accepted c = head_read c.args.half c.args.img.now c.read_head-h.ensures c.page_at.ensures
