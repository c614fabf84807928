-- A part of a slice that is lent as `&s[a..e]` or `&mut s[a..e]`: what it shows is a `part`, and the slice that it came back to is a
-- `patch`. Assumes nothing.
use mathlib.Core.Path.{◌≡◌, ap, ◌∙◌}
use Prim.Native.Nat.{ℕ, ◌+◌, ◌-◌, ◌≤◌}
use native.Mathlib.Omega.{arith}
use mathlib.Core.List.{List, ◌++◌}
use lib.ListN.{length, take, drop}
use borrow.Rule.Slice.PartMut.{mid_of, put_mid, mid_len, Post-is}
use Rattle.fields.specs.Bytes.{part, patch}

-- what the part from a to e shows
pub lent_part : (s : List ℕ) (a e n : ℕ) → a + n ≡ e → mid_of a (e - a) s ≡ part s a n
unfolding part
lent_part s a e n q =
    let d : e - a ≡ n = omega arith in
    ap (λ k. take k (drop a s)) d

-- the slice once the part came back as ys, which are as many as were lent (the call's `.kept`)
pub back_patch : (s : List ℕ) (a e : ℕ) (ys : List ℕ) → a ≤ e → e ≤ length s → length ys ≡ length (mid_of a (e - a) s)
    → put_mid a (e - a) s ys ≡ patch s a ys
unfolding patch
back_patch s a e ys g h l =
    let k : length (mid_of a (e - a) s) ≡ e - a = mid_len a e s h in
    let d : e ≡ a + length ys = omega arith in
    ap (λ r. take a s ++ (ys ++ r)) (Post-is a e s g ∙ ap (λ i. drop i s) d)
