-- `lookup::levels::page_answer` meets its contract: behind the test the page is fit. Assumes nothing.
use Rattle.std.proofs.Common.{◌≡◌, ℕ, ◌≤◌, ◌<◌, List, true, sym, ap, ◌∙◌, arith, rules}
use Rattle.page.specs.declared.Entry.{Entry}
use Rattle.page.specs.declared.Head.{Head}
use Rattle.page.specs.Entries.{index_of}
use Rattle.page.specs.Layout.{capacity, entry_at, entries_of}
use Rattle.page.specs.Fit.{PageContext, end_at, page_fit}
use Rattle.fit.proofs.Laws.Pages.{PageFit, page_fit_is, entry_first}
use Rattle.page.proofs.Laws.Indices.{index_within}
use Rattle.lookup.specs.declared.FoundAt.{FoundAt}
use Rattle.lookup.specs.declared.LevelAnswer.TheVariants.{Entry as found_entry}
use Rattle.lookup.specs.Levels.{EntryFound, level_answer}
use Rattle.lookup.proofs.Laws.Levels.{level_unfit, level_found, fit_searched}
use Rattle.lookup.proofs.levels.page_answer.Goals as goal
use Rattle.lookup.proofs.levels.page_answer.Goals.{Else-not-page_fit}

tested : (c : Else-not-page_fit) → page_fit c.args.half c.args.h c.args.at c.args.s.now ≡ true
tested c = sym c.page_fit.ensures ∙ search rules

-- an entry was found
module _ (half : ℕ) (h : Head) (at : PageContext) {s : List ℕ} {t : ℕ} {r : FoundAt} (fit : page_fit half h at s ≡ true)
    (f : EntryFound at.hi t s r) where
  page : PageFit half h at s
  page = (page_fit_is half h at s).0 fit

  here : r.index ≡ index_of t (entries_of half s)
  here = f.index half page.most

  within : 1 ≤ half → r.index < capacity half
  within some = omega (arith, here, index_within half s t page.most (entry_first page some), page.most)

  answered : {e : Entry} → e ≡ entry_at half s r.index → found_entry e r.end ≡ level_answer half h at t s
  answered x =
      level_found (record {
        fit = fit;
        entry = x ∙ ap (entry_at half s) here;
        ends = f.end ∙ ap (end_at s at.hi) here;
      })

pub returns-then-not-page_fit : goal.returns-then-not-page_fit
returns-then-not-page_fit c = level_unfit _ _ _ _ _ (sym c.page_fit.ensures ∙ search rules)

pub find-found-requires : goal.find-found-requires
find-found-requires c =
    let fit = (page_fit_is _ _ _ _).0 (tested (goal.at.find-found-requires c).Else-not-page_fit) in
    fit_searched fit c.requires.page.0 c.requires.page.1 c.entry_count.ensures c.requires.on_path.begun

pub entry_at-requires : goal.entry_at-requires
entry_at-requires c =
    (c.requires.page.1, within _ _ _ (tested (goal.at.entry_at-requires c).Else-not-page_fit) c.find-found.ensures c.requires.page.0)

pub returns : goal.returns
returns c = answered _ _ _ (tested (goal.at.returns c).Else-not-page_fit) c.find-found.ensures c.entry_at.ensures
