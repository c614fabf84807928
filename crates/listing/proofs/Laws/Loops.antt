-- What the code is told of a page and its entries. Assumes nothing.
use Rattle.std.specs.Prelude.{Option, Some, None}
use Rattle.std.proofs.lemmas.Option.{cond_some}
use mathlib.Core.Path.{◌≡◌, refl, sym, ap, ◌∙◌}
use mathlib.Core.Bool.{Bool, true, false, false≢true}
use mathlib.Core.List.{List}
use Prim.Native.Nat.{ℕ, ◌≤◌, ◌<◌}
use native.Mathlib.Omega.{arith}
use Rattle.page.specs.Layout.{entry_count}
use Rattle.page.specs.Fit.{page_fit}
use Rattle.fit.specs.Contexts.{Compared}
use Rattle.fit.proofs.Laws.Pages.{page_fit_is, entry_first}
use Rattle.image.specs.Listing.{Walked, stopped, in_turn}
use Rattle.runs.specs.declared.Run.{Run}
use Rattle.listing.specs.declared.SpanQuery.{SpanQuery}
use Rattle.listing.specs.declared.Cursor.{Cursor}
use Rattle.std.specs.declared.ops.Range.{Range}
use Rattle.listing.specs.Walks.{bytes_at, cursor_below, page_walk, page_check, entry_walk, answer, Does, Room}
use Rattle.listing.specs.Cursors.{ValidCursor, KnownFit, ValidEntry}
use Rattle.listing.specs.Met.{Met}
use Rattle.listing.proofs.Laws.Turns.{cond_none, output_none}
use Rattle.listing.proofs.Laws.Ranges.{Ranged}
use Rattle.listing.proofs.Laws.Stands.{page_length}
use Rattle.listing.proofs.Laws.Pages.{entry_apart, entry_inner, page_stopped, page_in_turn}

-- ---- an unfit page

pub does_stopped : (writing : Bool) (run : Run) (out : List ℕ) → Does writing run stopped out None out
unfolding answer stopped
does_stopped writing run out = record { answers = refl; writes = sym (output_none writing run stopped out refl) }

-- ---- the page below an entry that overlaps the span

module _ {img : List ℕ} {q : SpanQuery} {on below : Cursor} {i : ℕ} {writing : Bool} {run : Run} {out : List ℕ}
    (here : ValidEntry img q on i) (inner : 1 ≤ on.at.level) (down : below ≡ cursor_below q (bytes_at q.half img on) on i) where
  pub room_below : {known : Bool} → Room known writing run (entry_walk img q on i) out → Room known writing run (page_walk img q below) out
  room_below h = rw (entry_inner img q on i here.met inner down) at h

  pub does_below : {r : Option Run} {left : List ℕ} → Does writing run (page_walk img q below) out r left
      → Does writing run (entry_walk img q on i) out r left
  does_below d = rw (entry_inner img q on i here.met inner down) d

-- ---- a page, and its entries in turn

module _ (img : List ℕ) (q : SpanQuery) (on : Cursor) where
  -- where the pages are known, this one is fit
  pub room_known : {writing : Bool} {run : Run} {out : List ℕ} → Room q.known writing run (page_walk img q on) out → KnownFit img q on
  unfolding stopped
  room_known room = record { known = λ w. go (page_fit q.half q.head on.at (bytes_at q.half img on)) refl (room.fit w) }
    where
      go : (b : Bool) → page_fit q.half q.head on.at (bytes_at q.half img on) ≡ b → (page_walk img q on).fit ≡ true → b ≡ true
      go true e f = refl
      go false e f = absurd (false≢true (sym (ap (λ (w : Walked). w.fit) (page_stopped img q on e)) ∙ f))

  pub opened_unfit : None ≡ page_check img q on → page_walk img q on ≡ stopped
  unfolding page_check
  opened_unfit e = page_stopped img q on (cond_none (page_fit q.half q.head on.at (bytes_at q.half img on)) _ e)

  pub opened_fit : {n : ℕ} → Some n ≡ page_check img q on
      → (page_fit q.half q.head on.at (bytes_at q.half img on) ≡ true) × (n ≡ entry_count (bytes_at q.half img on))
  unfolding page_check
  opened_fit {n} e =
      let s = bytes_at q.half img on in
      let f = cond_some (page_fit q.half q.head on.at s) (entry_count s) n (sym e) in
      (f.0, sym f.1)

  -- its count of entries may be used
  pub opened_compared : {n : ℕ} {s : List ℕ} → ValidCursor img q on → Some n ≡ page_check img q on
      → s ≡ bytes_at q.half img on → Compared q.half s n
  opened_compared sits e d =
      let f = opened_fit e in
      let fit = (page_fit_is q.half q.head on.at (bytes_at q.half img on)).0 f.0 in
      rw d
      (record {
        size = page_length sits;
        len = f.1;
        some = omega (arith, f.1, entry_first fit sits.half_least);
        most = omega (arith, f.1, fit.most);
      })

  -- its walk is that of the entries that overlap the span
  pub entries_ranged : {n : ℕ} {r : Range ℕ} → q.half ≤ 12 → Some n ≡ page_check img q on → Met img q on n r
      → Ranged (page_walk img q on) (entry_walk img q on) n r
  entries_ranged few e m =
      let f = opened_fit e in
      record {
        from_most = m.from_most;
        to_most = m.to_most;
        most = omega (arith, f.1, ((page_fit_is q.half q.head on.at (bytes_at q.half img on)).0 f.0).most);
        whole = page_in_turn img q on f.0 ∙ ap (λ k. in_turn k (entry_walk img q on)) (sym f.1);
        before = λ k l. entry_apart img q on k (m.before k l);
        behind = λ k l h. entry_apart img q on k (m.behind k l h);
      }

  pub entry_met : {n i : ℕ} {r : Range ℕ} → Some n ≡ page_check img q on → Met img q on n r → r.start ≤ i → i < r.end
      → ValidEntry img q on i
  entry_met {i = i} e m l h =
      let f = opened_fit e in
      record { fit = f.0; within = omega (arith, f.1, m.to_most); met = m.inside i l h }
