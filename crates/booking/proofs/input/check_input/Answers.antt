-- `booking::input::check_input` meets its contract: the first row whose test fails. Assumes nothing.
use Rattle.std.proofs.Common.{◌≡◌, false, true, sym, refl, ◌∙◌, arith, rules, to_z-of_z, SFits, w64}
use Rattle.calls.specs.Refusals.{first}
use Rattle.calls.specs.Calls.{book_input_rows}
use Rattle.rule.specs.Time.{value_ok}
use Rattle.booking.proofs.Laws.Early.{span_empty, span_whole}
use Rattle.booking.proofs.input.check_input.Goals as goal

pub returns-then-not-length_fits : goal.returns-then-not-length_fits
unfolding first book_input_rows
returns-then-not-length_fits c = rw (sym c.length_fits.ensures, c.if-not-length_fits.true) refl

pub returns-then-not-scratch_ok : goal.returns-then-not-scratch_ok
unfolding first book_input_rows
returns-then-not-scratch_ok c =
    rw (sym c.length_fits.ensures, c.if-not-length_fits.false, sym c.scratch_ok.ensures, c.if-not-scratch_ok.true) refl

pub returns-then-booking : goal.returns-then-booking
unfolding first book_input_rows
returns-then-booking c =
    rw
    (sym c.length_fits.ensures, c.if-not-length_fits.false, sym c.scratch_ok.ensures, c.if-not-scratch_ok.false, span_empty _ _ c.if-booking.true)
    refl

pub returns-then-not-value_ok : goal.returns-then-not-value_ok
unfolding first book_input_rows
returns-then-not-value_ok c =
    let width : SFits w64 c.args.booking.value = search rules in
    let value : value_ok c.args.booking.value ≡ false = sym (rw (to_z-of_z width) at c.value_ok.ensures) ∙ c.if-not-value_ok.true in
    rw (
      sym c.length_fits.ensures,
      c.if-not-length_fits.false,
      sym c.scratch_ok.ensures,
      c.if-not-scratch_ok.false,
      span_whole _ _ c.if-booking.false (omega (arith, c.well_formed)),
      value,
    )
    refl

pub returns : goal.returns
unfolding first book_input_rows
returns c =
    let width : SFits w64 c.args.booking.value = search rules in
    let value : value_ok c.args.booking.value ≡ true = sym (rw (to_z-of_z width) at c.value_ok.ensures) ∙ c.if-not-value_ok.false in
    rw (
      sym c.length_fits.ensures,
      c.if-not-length_fits.false,
      sym c.scratch_ok.ensures,
      c.if-not-scratch_ok.false,
      span_whole _ _ c.if-booking.false (omega (arith, c.well_formed)),
      value,
    )
    refl
