-- Document 02, (viii), "Tell until when a total holds": what the start and the end of an instant's answer say, and that all else in it is
-- what it was before. They are the leaf entry's. For kinds 2 and 3, and in images of kind 1 from before request (iv), the total may have held
-- before and may hold for longer. Assumes nothing.
use Rattle.std.specs.Prelude.{ℕ, ◌≤◌, ◌<◌, ◌≡◌, cond, not, ◌&&◌, List, [], ◌∷◌, eqb, leb, ltb}
use Rattle.rule.specs.declared.Pair.{Pair}
use Rattle.rule.specs.Time.{END}
use Rattle.rule.specs.Pairs.{none}
use Rattle.image.specs.Images.{half_of, length_ok}
use Rattle.image.specs.Trail.{instant_trail, LeafEntry}
use Rattle.image.specs.Descent.{Descent, from_root}
use Rattle.calls.specs.Refusals.{first}
use Rattle.calls.specs.Calls.{Instant, head_ok}
use Rattle.calls.specs.Index.{judged, index_instant}

-- ---- the instant call of before

pub record InstantBefore : Type 0 where
  pub status : ℕ
  pub pair : Pair
  pub pages : ℕ

-- by what its lookup found
unfoldable pub before_by : ℕ → ℕ → List ℕ → Descent → InstantBefore
before_by half t img looked =
    let number = first ((16, not (length_ok half img)) ∷ (12, leb END t) ∷ (21, not (head_ok half img && looked.fit)) ∷ []) in
    record {
      status = number;
      pair = cond (eqb number 0) looked.pair none;
      pages = cond (length_ok half img && (ltb t END && head_ok half img)) looked.pages 0;
    }

abbrev pub instant_before : ℕ → ℕ → List ℕ → InstantBefore
instant_before half t img = before_by half t img (from_root half img t)

unfoldable pub index_instant_before : ℕ → List ℕ → InstantBefore
index_instant_before t img = judged (λ number. record { status = number; pair = none; pages = 0 }) (λ half. instant_before half t img) img

-- ---- what is told

-- a, the answer at t, holds at every instant of [start, end), and t is one: the same status, pair, start, end and pages read
pub record HoldsUntil (t : ℕ) (img : List ℕ) (a : Instant) : Type 0 where
  pub begun : a.start ≤ t
  pub before_end : t < a.end
  pub most : a.end ≤ END
  pub same : (u : ℕ) → a.start ≤ u → u < a.end → index_instant u img ≡ a

pub record UntilWhen : Type 0 where
  -- every answer holds, whatever the image: all pages met are fit where an instant is answered
  pub holds : (t : ℕ) (img : List ℕ) → (index_instant t img).status ≡ 0 → HoldsUntil t img (index_instant t img)
  -- "the start and end of its leaf entry": the leaf is where the looks at t end, and the entry, by `begun` and `before_end`, the one that
  -- has t
  pub leaf_entry :
      (t : ℕ) (img : List ℕ)
      → (index_instant t img).status ≡ 0
      → let a = index_instant t img in
      LeafEntry (half_of img) img (instant_trail (half_of img) t img) a.start a.end
  -- "with the same pair as before for every image whose pages met are fit"; and for every other image too, with the same status and the
  -- same pages read
  pub as_before :
      (t : ℕ) (img : List ℕ)
      → let a = index_instant t img in
      record { status = a.status; pair = a.pair; pages = a.pages } ≡ index_instant_before t img
