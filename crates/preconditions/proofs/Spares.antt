-- From an image that has pages to be taken, one can be taken as long as the high mark then stays within the image. Assumes nothing.
use Prim.Native.Nat.{ℕ, ◌+◌, ◌≤◌, ◌<◌, min}
use mathlib.Core.Path.{◌≡◌}
use mathlib.Core.List.{List}
use native.Mathlib.Omega.{arith}
use native.Mathlib.Decide.{dec_le}
use lib.ListN.{length}
use Rattle.lists.specs.Lists.{hit}
use Rattle.lists.proofs.Totals.{hit_self}
use Rattle.image.specs.Images.{Image, Cell}
use Rattle.steps.specs.Supply.{spare}
use Rattle.store.specs.Preconditions.{Free, Takable}
use Rattle.tree.specs.Supply.{Supply, next_page, without_next}
use Rattle.tree.specs.Conserved.{times_spare}
use Rattle.tree.proofs.Conservation.Supply.{one_less}
use Rattle.refinement.specs.Represents.{Linked, ends, leads, Supplied}
use Rattle.refinement.proofs.Moves.{spare_from, spare_next, spare_is}

-- A count by which no page is there twice, and the head isn't.
abbrev pub Single : (ℕ → ℕ) → Type 0
Single counts = (q : ℕ) → counts q ≤ min 1 q

-- a page that is in no supply lies below its high mark
below_mark : (S : Supply) (q : ℕ) → times_spare q S ≡ 0 → q < S.mark
below_mark S q e = go (dec_le S.mark q)
  where
    go : Dec (S.mark ≤ q) → q < S.mark
    go (yes h) = absurd (omega (arith, spare_from S q h))
    go (no h) = omega arith

-- taking a page never lowers the high mark
pub next_mark : (S : Supply) → S.mark ≤ (without_next S).mark
next_mark S = omega (arith, (one_less S).mark)

linked_free : {pages : ℕ → Cell} {p : ℕ} {ps : List ℕ} → Linked pages p ps → 1 ≤ length ps → Free (pages p)
linked_free ends h = absurd (omega arith)
linked_free (leads {next = next} e r) h = record { next = next; is = e }

pub takable : {Z : Image} {R : Supply} → Supplied Z R → Single (λ q. times_spare q R) → (without_next R).mark ≤ Z.head.pages → Takable Z
takable {Z} {R} s single h =
    let n = next_page R in
    let e : spare Z ≡ n = spare_is s in
    let a : hit n n + times_spare n (without_next R) ≡ times_spare n R = spare_next n R in
    let b : n < (without_next R).mark = below_mark (without_next R) n (omega (arith, hit_self n, single n)) in
    record {
      within = record { least = omega (arith, hit_self n, single n); below = omega arith };
      front = λ k. linked_free s.linked (omega (arith, s.length_true));
    }
