-- A u32's span, by the code's test. Assumes nothing.
use Prim.Native.Nat.{ℕ, ◌≤◌, ◌<◌}
use mathlib.Core.Path.{◌≡◌, ap, ◌∙◌}
use mathlib.Core.Bool.{true, false, ◌&&◌}
use lib.Dec.{leb}
use borrow.Author.Tests.{le-leb, le-ltb, lt-ltb}
use Rattle.rule.specs.Time.{END, span_ok}

pub span_empty : (s e : ℕ) → e ≤ s → span_ok s e ≡ false
unfolding span_ok
span_empty s e l = ap (λ b. b && leb e END) (le-ltb s e l)

-- for a u32 the span's second half always holds
pub span_whole : (s e : ℕ) → s < e → e ≤ END → span_ok s e ≡ true
unfolding span_ok
span_whole s e l m = ap (λ b. b && leb e END) (lt-ltb s e l) ∙ le-leb e END m
