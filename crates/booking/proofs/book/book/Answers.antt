-- `booking::book::book` meets its contract: a law for each way out. Assumes nothing.
use Rattle.std.proofs.Common.{sym}
use Rattle.calls.specs.Bookings.{side_of}
use Rattle.calls.proofs.Numbers.{refused_not_accepted, handed_on}
use Rattle.booking.proofs.Laws.Books.{book_early_out, early_whole, early_room, early_span, book_late_out, book_done, accepts}
use Rattle.booking.proofs.book.book.Goals as goal

pub returns-in_err-check_input : goal.returns-in_err-check_input
returns-in_err-check_input c =
    let refusal = c.in_err-check_input.field-0.0 in
    rw (handed_on c.from_residual.result refusal c.from_residual.ensures)
    (book_early_out _ _ _ _ _ _ _ c.in_err-check_input.ensures (refused_not_accepted refusal))

-- no early row turns it back
pub clear_scratch-requires-clause-scratch_value : goal.clear_scratch-requires-clause-scratch_value
clear_scratch-requires-clause-scratch_value c =
    early_room _ (side_of c.args.booking.side) _ _ _ _ _ (sym c.in_ok-check_input.ensures)

pub check_state-requires-clause-image_sized : goal.check_state-requires-clause-image_sized
check_state-requires-clause-image_sized c =
    (c.requires.0, c.requires.1, early_whole _ (side_of c.args.booking.side) _ _ _ _ _ (sym c.in_ok-check_input.ensures))

pub check_state-requires-clause-span : goal.check_state-requires-clause-span
check_state-requires-clause-span c =
    early_span _ (side_of c.args.booking.side) _ _ _ _ _ (sym c.in_ok-check_input.ensures)

pub returns-in_err-h : goal.returns-in_err-h
returns-in_err-h c =
    let refusal = c.in_err-h.field-0.0 in
    rw (handed_on c.from_residual-in_err-h.result refusal c.from_residual-in_err-h.ensures)
    (book_late_out _ _ _ _ _ _ _ (sym c.in_ok-check_input.ensures) c.in_err-h.ensures.status (refused_not_accepted refusal)
    c.clear_scratch.ensures)

pub make_change-requires : goal.make_change-requires
make_change-requires c =
    accepts _ (side_of c.args.booking.side) _ _ _ _ _ (sym c.in_ok-check_input.ensures) (sym c.in_ok-h.ensures.status)
    c.in_ok-h.ensures.accepted c.requires.0 c.requires.1

pub returns : goal.returns
returns c =
    book_done _ _ _ _ _ _ _ (sym c.in_ok-check_input.ensures) c.in_ok-h.ensures.status c.make_change.ensures c.clear_scratch.ensures
