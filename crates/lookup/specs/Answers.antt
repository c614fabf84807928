-- An instant's answer in the definition's words. Assumes nothing.
use Rattle.std.specs.Prelude.{ℕ, ◌+◌, ◌<◌, ◌^◌, ◌≡◌, true, false, Option, Some, None, List}
use Rattle.rule.specs.declared.Pair.{Pair}
use Rattle.rule.specs.Pairs.{none}
use Rattle.rule.specs.Bounds.{Combinable}
use Rattle.page.specs.declared.Entry.{Entry}
use Rattle.page.specs.declared.Head.{Head}
use Rattle.page.specs.Fit.{PageContext}
use Rattle.image.specs.Instant as image
use Rattle.lookup.specs.declared.Holding.{Holding}
use Rattle.lookup.specs.declared.LookupAnswer.{LookupAnswer}
use Rattle.lookup.specs.Levels.{MetIn}

-- what was found, and after how many pages: case by case
abbrev pub found_after : Option Holding → ℕ → image.Lookup
found_after (Some x) pages = record { fit = true; pair = x.pair; start = x.start; end = x.end; pages = pages }
found_after None pages = record { fit = false; pair = none; start = 0; end = 0; pages = pages }

unfoldable pub lookup_of : LookupAnswer → image.Lookup
lookup_of r = found_after r.found r.pages

-- what was found below an entry, with which its pair can be combined: one page more can be counted
pub record CombinableAbove (p : Pair) (below : LookupAnswer) : Type 0 where
  pub pairs : (lookup_of below).fit ≡ true → Combinable p (lookup_of below).pair
  pub pages : (lookup_of below).pages + 1 < 2 ^ 32

-- r is the answer from any page in which the entry was met
abbrev pub AnswersFrom : ℕ → List ℕ → Head → PageContext → ℕ → Entry → ℕ → LookupAnswer → Type 0
AnswersFrom half img h at t e end r = (p : ℕ) → MetIn half img h at t e end p → lookup_of r ≡ image.look half h img t at.level at p
