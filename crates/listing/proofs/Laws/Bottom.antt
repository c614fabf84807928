-- The leaves below a page as walks in turn, and a leaf as its own one. Assumes nothing.
use Rattle.std.specs.Prelude.{Option, Some}
use mathlib.Core.Path.{◌≡◌, refl, sym}
use mathlib.Core.Bool.{Bool, true, false, cond}
use mathlib.Core.List.{List}
use Prim.Native.Nat.{ℕ, ◌≤◌, ◌<◌}
use native.Mathlib.Omega.{arith}
use lib.Dec.{eqb}
use borrow.Author.Tests.{eqb-true, eqb-false}
use Rattle.image.specs.Listing.{Walked, nothing, then, in_turn}
use Rattle.runs.specs.declared.Run.{Run}
use Rattle.listing.specs.declared.SpanQuery.{SpanQuery}
use Rattle.listing.specs.declared.Cursor.{Cursor}
use Rattle.std.specs.declared.ops.Range.{Range}
use Rattle.listing.specs.Walks.{bytes_at, page_walk, page_check, entry_walk, cursor_below, leaf_cursor, Room, Does}
use Rattle.listing.specs.Cursors.{ValidCursor, ValidEntry}
use Rattle.listing.specs.Met.{LeafRange}
use Rattle.listing.proofs.Laws.Ranges.{Ranged}
use Rattle.listing.proofs.Laws.Pages.{entry_inner}
use Rattle.listing.proofs.Laws.Stands.{step_down}
use Rattle.listing.proofs.Laws.Loops.{entries_ranged, entry_met}

-- what the i-th leaf gives, and how many there are
unfoldable pub leaf_walk : List ℕ → SpanQuery → Cursor → ℕ → Walked
leaf_walk img q on i = cond (eqb on.at.level 0) (page_walk img q on) (entry_walk img q on i)

unfoldable pub leaf_count : Cursor → ℕ → ℕ
leaf_count on n = cond (eqb on.at.level 0) 1 n

one_turn : (w : Walked) (f : ℕ → Walked) → f 0 ≡ w → w ≡ in_turn 1 f
unfolding in_turn then nothing
one_turn w f e = sym e

not_leaf : (on : Cursor) → eqb on.at.level 0 ≡ false → 1 ≤ on.at.level
not_leaf on z =
    let h : on.at.level ≡ 0 → ⊥ = eqb-false on.at.level 0 z in
    omega arith

module _ {img : List ℕ} {q : SpanQuery} {on : Cursor} {n : ℕ} {r : Range ℕ} (e : Some n ≡ page_check img q on)
    (range : LeafRange img q on n r) where
  pub leaves_ranged : q.half ≤ 12 → Ranged (page_walk img q on) (leaf_walk img q on) (leaf_count on n) r
  unfolding leaf_walk leaf_count
  leaves_ranged few = go (eqb on.at.level 0) refl
    where
      f : Bool → ℕ → Walked
      f b i = cond b (page_walk img q on) (entry_walk img q on i)

      go : (b : Bool) → eqb on.at.level 0 ≡ b → Ranged (page_walk img q on) (f b) (cond b 1 n) r
      go true z =
          let is = range.itself (eqb-true _ _ z) in
          record {
            from_most = omega (arith, is.0);
            to_most = omega (arith, is.1);
            most = omega arith;
            whole = one_turn _ (f true) refl;
            before = λ k l. absurd (omega (arith, is.0));
            behind = λ k l h. absurd (omega (arith, is.1));
          }
      go false z = entries_ranged img q on few e (range.below (not_leaf on z))

  pub leaf_entry : {i : ℕ} → r.start ≤ i → i < r.end → 1 ≤ on.at.level → ValidEntry img q on i
  leaf_entry l h inner = entry_met img q on e (range.below inner) l h

-- The i-th leaf is a leaf that the walk can go on at, and its walk is what it gives.
pub record Leaf (img : List ℕ) (q : SpanQuery) (on : Cursor) (i : ℕ) (leaf : Cursor) : Type 0 where
  pub stands : ValidCursor img q leaf
  pub bottom : leaf.at.level ≡ 0
  pub gives : leaf_walk img q on i ≡ page_walk img q leaf

pub leaf_at : {img : List ℕ} {q : SpanQuery} {on leaf : Cursor} {i : ℕ} → ValidCursor img q on → on.at.level < 2
    → (1 ≤ on.at.level → ValidEntry img q on i)
    → leaf ≡ leaf_cursor img q on i
    → Leaf img q on i leaf
unfolding leaf_walk leaf_cursor
leaf_at {img} {q} {on} {leaf} {i} sits low here d = go (eqb on.at.level 0) refl d
  where
    go : (b : Bool) → eqb on.at.level 0 ≡ b → leaf ≡ cond b on (cursor_below q (bytes_at q.half img on) on i) → Leaf img q on i leaf
    go true z k = rw k (record { stands = sits; bottom = eqb-true _ _ z; gives = rw z })
    go false z k =
        let inner = not_leaf on z in
        let down = step_down sits (here inner) k inner in
        record { stands = down.0; bottom = omega (arith, down.1); gives = rw z (entry_inner img q on i (here inner).met inner k) }

module _ {img : List ℕ} {q : SpanQuery} {on leaf : Cursor} {i : ℕ} {writing : Bool} {run : Run} {out : List ℕ}
    (here : Leaf img q on i leaf) where
  pub leaf_room : {known : Bool} → Room known writing run (leaf_walk img q on i) out → Room known writing run (page_walk img q leaf) out
  leaf_room h = rw here.gives at h

  pub leaf_does : {r : Option Run} {left : List ℕ} → Does writing run (page_walk img q leaf) out r left
      → Does writing run (leaf_walk img q on i) out r left
  leaf_does d = rw here.gives d
