-- Nothing is out of bounds on the path of a walk. Assumes nothing.
use mathlib.Core.Path.{◌≡◌, refl, subst⁻¹}
use mathlib.Core.Logic.{inl}
use mathlib.Core.Bool.{Bool, true, false}
use mathlib.Core.List.{List}
use Prim.Native.Nat.{ℕ, ◌+◌, ◌*◌, ◌≤◌, ◌<◌}
use native.Mathlib.Omega.{arith}
use lib.ListN.{length}
use lib.Dec.{eqb}
use lib.IntN.{nat_abs}
use borrow.Author.Tests.{eqb-true}
use Rattle.rule.specs.declared.Pair.{Pair}
use Rattle.rule.specs.Pairs.{none, combine}
use Rattle.rule.specs.Bounds.{Combinable}
use Rattle.rule.proofs.Laws.{combine_sum_bound, total_count_bound, combine_value_or_none, value_or_none_is, values_combinable}
use Rattle.fields.proofs.Laws.Parts.{length_part}
use Rattle.page.specs.declared.Head.{Head}
use Rattle.page.specs.Layout.{capacity, page_size, entry_count, pair_at}
use Rattle.page.specs.Fit.{PageContext, root_context, context_below, most_changes}
use Rattle.page.proofs.Laws.Offsets as offsets
use Rattle.fit.specs.Contexts.{Bounded}
use Rattle.fit.proofs.Laws.Pages.{PageFit, page_fit_is}
use Rattle.fit.proofs.Laws.Paths.{root_path, path_bounded, below_path}
use Rattle.image.specs.Images.{page_at, pages_in}
use Rattle.listing.specs.declared.SpanQuery.{SpanQuery}
use Rattle.listing.specs.declared.Cursor.{Cursor}
use Rattle.listing.specs.Walks.{bytes_at, root_cursor, cursor_below}
use Rattle.access.specs.Access.{OpenImage}
use Rattle.access.proofs.Laws.{opened_ranges, opened_size}
use Rattle.listing.specs.Cursors.{Above, ValidCursor, ValidEntry}

-- ---- the pairs above

pub above_root : (h : Head) → Above h (root_context h) none
unfolding root_context
above_root h = record { sum = λ _. omega arith; count = λ _. omega arith; mark = λ _. (value_or_none_is none).1 (inl refl) }

module _ {half : ℕ} {h : Head} {at : PageContext} {p : Pair} {s : List ℕ} (above : Above h at p) (fit : PageFit half h at s) (i : ℕ)
    (l : i < entry_count s) where
  pub above_below : Above h (context_below half s at i) (combine h.kind p (pair_at half s i))
  unfolding context_below
  above_below =
      let q = fit.pairs i l in
      record {
        sum = λ e. omega (arith, above.sum e, combine_sum_bound h.kind p (pair_at half s i));
        count = λ e. subst⁻¹ (λ (k : ℕ). nat_abs (combine k p (pair_at half s i)).count ≤ at.counts + nat_abs (pair_at half s i).count)
            (eqb-true h.kind 1 e)
            (omega (arith, above.count e, total_count_bound p (pair_at half s i)));
        mark = λ e. combine_value_or_none h.kind p (pair_at half s i) e (above.mark e) (q.mark e);
      }

  -- an entry's pair can be combined with those above it
  pub combinable : h.changes ≤ most_changes → Combinable p (pair_at half s i)
  combinable m = go (eqb h.kind 1) refl
    where
      go : (b : Bool) → eqb h.kind 1 ≡ b → Combinable p (pair_at half s i)
      go true e =
          let t = (fit.pairs i l).total e in
          record { sums = omega (arith, above.sum e); counts = omega (arith, above.count e) }
      go false e = values_combinable p (pair_at half s i) (above.mark e) ((fit.pairs i l).mark e)

-- ---- a page where the walk stands

-- what is known of the bytes of a page that is lent, and of an entry in it
pub record Lent (half : ℕ) (s : List ℕ) (i : ℕ) : Type 0 where
  pub size : length s ≡ page_size half
  pub within : i < capacity half
  pub len : entry_count s ≤ capacity half

module _ {img : List ℕ} {q : SpanQuery} {on : Cursor} (sits : ValidCursor img q on) where
  pub page_within : page_size q.half * on.page + page_size q.half ≤ length img
  page_within = omega (arith, sits.size, offsets.page_within q.half sits.page)

  pub page_length : length (bytes_at q.half img on) ≡ page_size q.half
  unfolding page_at
  page_length = length_part img (page_size q.half * on.page) (page_size q.half) page_within

  pub sits_bounded : Bounded on.at
  sits_bounded = path_bounded sits.path sits.changes

  module _ {i : ℕ} (inside : ValidEntry img q on i) where
    pub fit_facts : PageFit q.half q.head on.at (bytes_at q.half img on)
    fit_facts = (page_fit_is q.half q.head on.at (bytes_at q.half img on)).0 inside.fit

    entry_within : (i < capacity q.half) × (entry_count (bytes_at q.half img on) ≤ capacity q.half)
    entry_within = omega (arith, fit_facts.most, inside.within)

    pub lent : {s : List ℕ} → s ≡ bytes_at q.half img on → Lent q.half s i
    lent e = rw e (record { size = page_length; within = entry_within.0; len = entry_within.1 })

    -- under an inner entry
    sits_below : 1 ≤ on.at.level → ValidCursor img q (cursor_below q (bytes_at q.half img on) on i)
    sits_below v =
        record {
          half_least = sits.half_least;
          half_most = sits.half_most;
          size = sits.size;
          changes = sits.changes;
          page = ((fit_facts.children i inside.within).inner v).1;
          depth = sits.depth + 1;
          path = below_path sits.path fit_facts sits.half_least i inside.within v;
          above = above_below sits.above fit_facts i inside.within;
        }

    -- the walk can go on at the page below, and the level falls
    pub step_down : {below : Cursor} → below ≡ cursor_below q (bytes_at q.half img on) on i → 1 ≤ on.at.level
        → ValidCursor img q below × (below.at.level < on.at.level)
    unfolding context_below
    step_down e v = rw e (sits_below v, omega arith)

-- ---- the root

pub sits_root : {img : List ℕ} (q : SpanQuery) → 1 ≤ q.half → q.half ≤ 12 → OpenImage q.half img q.head
    → ValidCursor img q (root_cursor q.head)
sits_root {img} q least most o =
    let r = opened_ranges o in
    record {
      half_least = least;
      half_most = most;
      size = opened_size o;
      changes = r.changes_most;
      page = omega (arith, r.root_below, r.pages_is);
      depth = 0;
      path = root_path q.half (pages_in q.half img) q.head r;
      above = above_root q.head;
    }
