-- What a page on the path to an instant answers, by its cases. Assumes nothing.
use mathlib.Core.Path.{◌≡◌, refl, ap}
use mathlib.Core.Bool.{Bool, true, false, cond}
use mathlib.Core.List.{List}
use Prim.Native.Nat.{ℕ, ◌≤◌, ◌<◌}
use native.Mathlib.Omega.{arith}
use lib.ListN.{length}
use Rattle.page.specs.declared.Entry.{Entry}
use Rattle.page.specs.declared.Head.{Head}
use Rattle.page.specs.Entries.{index_of}
use Rattle.page.specs.Layout.{page_size, entry_count, start_at, pair_at, child_at, entry_at, entries_of}
use Rattle.page.specs.Fit.{PageContext, end_at, context_under, context_below, page_fit}
use Rattle.fit.proofs.Laws.Pages.{PageFit, page_fit_is, entry_first}
use Rattle.lookup.specs.declared.LevelAnswer.{LevelAnswer}
use Rattle.lookup.specs.declared.LevelAnswer.TheVariants.{Entry as found_entry, Unfit}
use Rattle.lookup.specs.Levels.{PageSearchable, level_answer}
use Rattle.page.proofs.Laws.Indices.{index_within}

-- An entry that is a page's answer, and its end: the page is fit, and it is the last entry starting at t or before.
pub record Found (half : ℕ) (h : Head) (at : PageContext) (t : ℕ) (s : List ℕ) (e : Entry) (end : ℕ) : Type 0 where
  pub fit : page_fit half h at s ≡ true
  pub entry : e ≡ entry_at half s (index_of t (entries_of half s))
  pub ends : end ≡ end_at s at.hi (index_of t (entries_of half s))

module _ {half : ℕ} {h : Head} {at : PageContext} {t : ℕ} {s : List ℕ} {e : Entry} {end : ℕ} (f : Found half h at t s e end) where
  abbrev index : ℕ
  index = index_of t (entries_of half s)

  pub level_found : found_entry e end ≡ level_answer half h at t s
  unfolding level_answer
  level_found = rw (f.fit, f.entry, f.ends)

  pub found_fit : PageFit half h at s
  found_fit = (page_fit_is half h at s).0 f.fit

  pub found_in : 1 ≤ half → index < entry_count s
  found_in some = index_within half s t found_fit.most (entry_first found_fit some)

  -- its numbers
  pub found_start : e.start ≡ start_at s index
  unfolding entry_at
  found_start = ap (λ (x : Entry). x.start) f.entry

  pub found_pair : e.pair ≡ pair_at half s index
  unfolding entry_at
  found_pair = ap (λ (x : Entry). x.pair) f.entry

  pub found_child : e.child ≡ child_at half s index
  unfolding entry_at
  found_child = ap (λ (x : Entry). x.child) f.entry

  -- and the context under it
  pub found_context : context_under at e.start end e.pair ≡ context_below half s at index
  unfolding context_below
  found_context = λ j. context_under at (found_start j) (f.ends j) (found_pair j)

-- a page's answer, from the test and back to it
module _ (half : ℕ) (h : Head) (at : PageContext) (t : ℕ) (s : List ℕ) where
  abbrev answered : Bool → LevelAnswer
  answered b =
      let i = index_of t (entries_of half s) in
      cond b (found_entry (entry_at half s i) (end_at s at.hi i)) Unfit

  pub level_unfit : page_fit half h at s ≡ false → Unfit ≡ level_answer half h at t s
  unfolding level_answer
  level_unfit e = rw e

  pub unfit_level : Unfit ≡ level_answer half h at t s → page_fit half h at s ≡ false
  unfolding level_answer
  unfit_level = go (page_fit half h at s)
    where
      go : (b : Bool) → Unfit ≡ answered b → b ≡ false
      go true e =
          let z : ◌≡◌ {A = ℕ} 0 1 = cc in
          absurd (omega arith)
      go false e = refl

  pub found_level : {e : Entry} {end : ℕ} → found_entry e end ≡ level_answer half h at t s → Found half h at t s e end
  unfolding level_answer
  found_level {e} {end} = go (page_fit half h at s) refl
    where
      go : (b : Bool) → page_fit half h at s ≡ b → found_entry e end ≡ answered b → Found half h at t s e end
      go true f same = record { fit = f; entry = cc; ends = cc }
      go false f same =
          let z : ◌≡◌ {A = ℕ} 0 1 = cc in
          absurd (omega arith)

-- a fit page can be searched for an instant that isn't before it
pub fit_searched : {half : ℕ} {h : Head} {at : PageContext} {s : List ℕ} {n t : ℕ} → PageFit half h at s → 1 ≤ half
    → length s ≡ page_size half → n ≡ entry_count s → at.lo ≤ t → PageSearchable s n t
fit_searched fit some size e l =
    record {
      len = e;
      some = omega (arith, entry_first fit some);
      inside = omega (arith, fit.most);
      rising = λ i a. fit.rising i (omega arith);
      first = omega (arith, fit.first);
    }
