-- A loop over walks in turn, of which just those of a range give something. Assumes nothing.
use Rattle.std.specs.Prelude.{Some, None}
use mathlib.Core.Path.{◌≡◌, refl, ◌∙◌}
use mathlib.Core.Bool.{Bool}
use mathlib.Core.List.{List}
use Prim.Native.Nat.{ℕ, ◌+◌, ◌-◌, ◌≤◌, ◌<◌}
use native.Mathlib.Omega.{arith}
use lib.ListN.{length}
use Rattle.image.specs.Listing.{Walked, nothing, in_turn}
use Rattle.runs.specs.declared.Run.{Run}
use Rattle.std.specs.declared.ops.Range.{Range}
use Rattle.listing.specs.Walks.{Does, Room}
use Rattle.listing.proofs.Laws.Turns.{Walking, walking_none, walking_skip, walking_room, walking_more, walking_unfit, walking_all}

-- w is n walks in turn, and those outside the range give nothing
pub record Ranged (w : Walked) (f : ℕ → Walked) (n : ℕ) (r : Range ℕ) : Type 0 where
  pub from_most : r.start ≤ n
  pub to_most : r.end ≤ n
  pub most : n ≤ 24
  pub whole : w ≡ in_turn n f
  pub before : (k : ℕ) → k < r.start → f k ≡ nothing
  pub behind : (k : ℕ) → r.end ≤ k → k < n → f k ≡ nothing

-- The loop over the range, with `left_over` of it to come: from run and out on, last and left are the open run and the output. Its pages
-- are known to be fit, or not; it writes, or only counts.
pub record Turning (w : Walked) (f : ℕ → Walked) (known writing : Bool) (run : Run) (out : List ℕ) (n : ℕ) (r left_over : Range ℕ)
    (last : Run) (left : List ℕ) : Type 0 where
  pub ranged : Ranged w f n r
  pub same_end : left_over.end ≡ r.end
  pub after : r.start ≤ left_over.start
  pub room : Room known writing run (in_turn n f) out
  pub so_far : Walking f writing run out n left_over.start last left

pub turning_none : {w : Walked} {f : ℕ → Walked} {known writing : Bool} {run : Run} {out : List ℕ} {n : ℕ} {r first : Range ℕ}
    → Ranged w f n r → first ≡ r → Room known writing run w out → Turning w f known writing run out n first first run out
turning_none {f = f} {writing = writing} {run} {out} {n} {r} g e room =
    rw e
    (record {
      ranged = g;
      same_end = refl;
      after = omega arith;
      room = rw g.whole at room;
      so_far =
          walking_skip f writing run out (walking_none f writing run out n) r.start (omega arith) g.from_most
          (λ k _ l. g.before k l);
    })

-- one step of a range: i comes, and the next start is behind it
pub record Comes (left_over next : Range ℕ) (i : ℕ) : Type 0 where
  pub same_end : next.end ≡ left_over.end
  pub more : 0 < left_over.end - left_over.start
  pub is : i ≡ left_over.start
  pub follows : next.start ≡ left_over.start + 1

-- as a call of the range's `next` tells it
pub comes : (left_over next : Range ℕ) {i : ℕ}
    → (next.end ≡ left_over.end) × ((0 < left_over.end - left_over.start) × (i ≡ left_over.start) × (next.start ≡ left_over.start + 1))
    → Comes left_over next i
comes left_over next h = record { same_end = h.0; more = h.1.0; is = h.1.1; follows = h.1.2 }

module _ {w : Walked} {f : ℕ → Walked} {known writing : Bool} {run : Run} {out : List ℕ} {n : ℕ} {r left_over : Range ℕ} {last : Run}
    {left : List ℕ} (t : Turning w f known writing run out n r left_over last left) where
  module _ {next : Range ℕ} {i : ℕ} (comes : Comes left_over next i) where
    turning_inside : (r.start ≤ i) × (i < r.end)
    turning_inside = omega (arith, t.after, t.same_end, comes.more, comes.is)

    -- of the range that the walk began with
    pub turning_met : {whole : Range ℕ} → r ≡ whole → (whole.start ≤ i) × (i < whole.end)
    turning_met e = rw (← e) turning_inside

    within : i < n
    within = omega (arith, turning_inside, t.ranged.to_most)

    so_far : Walking f writing run out n i last left
    so_far = rw comes.is t.so_far

    pub turning_room : Room known writing last (f i) left
    turning_room = walking_room f writing run out so_far t.room within

    pub turning_more : {now : Run} {left' : List ℕ} → Does writing last (f i) left (Some now) left' → length left' ≡ length left
        → Turning w f known writing run out n r next now left'
    turning_more d k =
        record {
          ranged = t.ranged;
          same_end = comes.same_end ∙ t.same_end;
          after = omega (arith, t.after, comes.follows);
          room = t.room;
          so_far = rw (comes.follows, ← comes.is) (walking_more f writing run out so_far within d k);
        }

    pub turning_unfit : {left' : List ℕ} → Does writing last (f i) left None left' → Does writing run w out None left'
    turning_unfit d = rw t.ranged.whole (walking_unfit f writing run out so_far t.room within d)

  pub turning_all : left_over.end - left_over.start ≡ 0 → Does writing run w out (Some last) left
  turning_all l =
      let done : r.end ≤ left_over.start = omega (arith, t.same_end, l) in
      rw t.ranged.whole
      (walking_all f writing run out
      (walking_skip f writing run out t.so_far n t.so_far.within (omega arith)
      (λ k a b. t.ranged.behind k (omega arith) b)) (omega arith))
