-- `fit::entries::entries_ok` meets its contract: what either test tells is told of the page in its context. Assumes nothing.
use Rattle.std.proofs.Common.{◌≡◌, ℕ, Bool, List, ◌&&◌, ap, ◌∙◌}
use Rattle.fields.specs.Bytes.{every}
use Rattle.page.specs.declared.Head.{Head}
use Rattle.page.specs.Layout.{entry_count, pair_at, child_at}
use Rattle.page.specs.Fit.{PageContext, child_ok, children_ok, pair_ok, pairs_ok}
use Rattle.fit.specs.declared.Limits.{Limits}
use Rattle.fit.specs.Limits.{LimitsOf, entry_ok, Tells}
use Rattle.fit.proofs.Tests.{every_both}
use Rattle.fit.proofs.entries.entries_ok.Goals as goal

told : (half : ℕ) (l : Limits) (s : List ℕ) (n : ℕ) (h : Head) (at : PageContext) (r : Bool) → n ≡ entry_count s → LimitsOf h at l
    → Tells half l s n r → r ≡ children_ok half h.pages at s && pairs_ok half h at s
unfolding children_ok pairs_ok
told half l s n h at r len limits tells =
    tells h at limits
    ∙ ap (λ n. every n (entry_ok half h at s)) len
    ∙ every_both (entry_count s) (λ i. child_ok h.pages at.level (child_at half s i)) (λ i. pair_ok h at (pair_at half s i))

pub returns-then-clearly_within : goal.returns-then-clearly_within
returns-then-clearly_within c =
    told _ _ _ _ _ _ _ c.requires.len c.limits-l.ensures (c.clearly_within.ensures c.if-clearly_within.true)

pub returns : goal.returns
returns c = told _ _ _ _ _ _ _ c.requires.len c.limits-l.ensures c.all_within.ensures
