-- Reading a line: what a field is, and which line an answer of `parse` is. Assumes nothing.
use Rattle.std.specs.Prelude.{ℕ, min, ◌≡◌, cond, Option, Some, None, ℤ, List, [], ◌∷◌, length, take, eqb}
use Rattle.calls.specs.Program.{Line, booking, unread, number_read, number_from, instant_read, value_read, value_from}
use Rattle.calls.specs.declared.bookings.Side as declared
use Rattle.calls.specs.declared.bookings.Side.TheVariants.{Entering, Withdrawing}
use Rattle.calls.specs.declared.bookings.Booking.{Booking}
use Rattle.calls.specs.Bookings.{side_of}

-- "1 to 10 digits": the number that a field is, if it is one
unfoldable pub number_of : List ℕ → Option ℕ
number_of ds = cond (number_read ds) (Some (number_from 0 ds)) None

-- "s and e at most END"
unfoldable pub instant_of : List ℕ → Option ℕ
instant_of ds = cond (instant_read ds) (Some (number_from 0 ds)) None

-- "v may have a minus"
unfoldable pub value_of : List ℕ → Option ℤ
value_of ds = cond (value_read ds) (Some (value_from ds)) None

-- the side of a sign, + (43) or - (45), alone
unfoldable pub sign_of : List ℕ → Option declared.Side
sign_of [] = None
sign_of (c ∷ []) = cond (eqb c 43) (Some Entering) (cond (eqb c 45) (Some Withdrawing) None)
sign_of (c ∷ d ∷ ds) = None

-- "`+ v s e` or `- v s e`", or "any other form"
unfoldable pub line_of : Option Booking → Line
line_of (Some b) = booking (side_of b.side) b.value b.start b.end
line_of None = unread

-- a line that comes byte by byte, as a contract sees it: how many bytes of it are kept, and which
pub record Kept : Type 0 where
  pub length : ℕ
  pub bytes : List ℕ

-- what is kept of a line: its first 36 bytes, and how many of them there are
pub record Holds (kept : Kept) (line : List ℕ) : Type 0 where
  pub count : kept.length ≡ min (length line) 36
  pub same : kept.bytes ≡ take 36 line
