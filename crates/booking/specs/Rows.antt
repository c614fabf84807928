-- When no row of enter and withdraw that needs the whole image turns a booking back. Assumes nothing.
use Rattle.std.specs.Prelude.{ℕ, ◌≤◌, ◌<◌, ◌≡◌, true, List, ℤ}
use Rattle.rule.specs.Time.{value_ok}
use Rattle.page.specs.declared.Head.{Head}
use Rattle.calls.specs.Refusals.{first}
use Rattle.calls.specs.Changes.{Side}
use Rattle.calls.specs.Calls.{head, book_state_rows}

-- No row turns the booking back, and h is the image's head.
pub record Accepts (half : ℕ) (side : Side) (v : ℤ) (s e : ℕ) (img : List ℕ) (h : Head) : Type 0 where
  pub half_least : 2 ≤ half
  pub half_most : half ≤ 12
  pub span : s < e
  pub fits : value_ok v ≡ true
  pub not_refused : first (book_state_rows half side s e img) ≡ 0
  pub shown : h ≡ head half img
