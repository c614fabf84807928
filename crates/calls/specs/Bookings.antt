-- A booking of the code as the change that it is in the definitions. Assumes nothing.
use Rattle.calls.specs.declared.bookings.Side.{Side}
use Rattle.calls.specs.declared.bookings.Side.TheVariants.{Entering, Withdrawing}
use Rattle.calls.specs.declared.bookings.Booking.{Booking}
use Rattle.calls.specs.Changes.{Change, entering, withdrawing}

abbrev pub side_of : Side → Rattle.calls.specs.Changes.Side
side_of Entering = entering
side_of Withdrawing = withdrawing

abbrev pub change_of : Booking → Change
change_of b = record { side = side_of b.side; v = b.value; s = b.start; e = b.end }
