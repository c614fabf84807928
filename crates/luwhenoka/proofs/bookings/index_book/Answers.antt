-- `luwhenoka::bookings::index_book` meets its contract: by half the capacity that the image names. Assumes nothing.
use Rattle.std.proofs.Common.{◌∙◌}
use Rattle.calls.specs.Refusals.{borrowed}
use Rattle.calls.specs.Bookings.{side_of}
use Rattle.calls.specs.Calls.{book}
use Rattle.calls.specs.Index.{index_book}
use Rattle.calls.proofs.Numbers.{refused_not_accepted, handed_on}
use Rattle.luwhenoka.proofs.Laws.Judged.{half_ranged, by_half, by_refusal}
use Rattle.luwhenoka.proofs.bookings.index_book.Goals as goal

pub returns-in_err-judge : goal.returns-in_err-judge
unfolding index_book
returns-in_err-judge c =
    let refusal = c.in_err-judge.field-0.0 in
    rw (handed_on c.from_residual.result refusal c.from_residual.ensures)
    (by_refusal c.args.img.now c.in_err-judge.ensures.status (refused_not_accepted refusal) _
    (λ half. book borrowed half (side_of c.args.booking.side) c.args.booking.value c.args.booking.start c.args.booking.end c.args.img.now c.args.scratch.now))

pub book-requires : goal.book-requires
book-requires c = half_ranged c.args.img.now c.in_ok-judge.ensures.status c.in_ok-judge.ensures.named

pub returns : goal.returns
unfolding index_book
returns c =
    c.book.ensures
    ∙ by_half c.args.img.now c.in_ok-judge.ensures.status c.in_ok-judge.ensures.named _
    (λ half. book borrowed half (side_of c.args.booking.side) c.args.booking.value c.args.booking.start c.args.booking.end c.args.img.now c.args.scratch.now)
