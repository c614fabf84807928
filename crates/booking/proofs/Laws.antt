-- `Early` and `Late` have what the code's tests say of the two halves of a booking's rows, `Accepted` what an accepted booking finds, and
-- `Books` a law for each way out of a booking.
pub mod Early
pub mod Late
pub mod Accepted
pub mod Books
