-- `look` calls itself on the page below and meets its contract. Assumes nothing.
use Rattle.std.proofs.Common.{◌≡◌, ℕ, ◌≤◌, List, sym, ap, ◌∙◌, arith}
use Rattle.page.specs.Fit.{PageContext, context_under}
use Rattle.page.specs.declared.Entry.{Entry}
use Rattle.page.specs.declared.Head.{Head}
use Rattle.image.specs.Images.{page_at}
use Rattle.access.specs.Access.{OpenImage}
use Rattle.lookup.specs.declared.LevelAnswer.{LevelAnswer}
use Rattle.lookup.specs.declared.LevelAnswer.TheVariants.{Entry as found}
use Rattle.lookup.specs.Levels.{MetIn, ComeTo, level_answer}
use Rattle.lookup.proofs.Laws.Levels.{unfit_level, found_level}
use Rattle.lookup.proofs.Laws.Walks.{come_within, come_on_path, come_below, leaf_looked, unfit_below, below_combinable, inner_looked}
use Rattle.lookup.proofs.look_up.+look.Goals as goal

-- The lookup comes to the page below an entry that it met, by the code's context,
comes : {half : ℕ} {img : List ℕ} {h : Head} {at under : PageContext} {t : ℕ} {e : Entry} {end p : ℕ} → 1 ≤ half → OpenImage half img h
    → MetIn half img h at t e end p → 1 ≤ at.level → under ≡ context_under at e.start end e.pair → ComeTo h under e.child t
comes least opened m inner u = rw u (come_below least opened m.come (found_level _ _ _ _ _ m.found) inner)

-- and meets an entry there.
meets : {half : ℕ} {img : List ℕ} {h : Head} {at under : PageContext} {t : ℕ} {e x : Entry} {end x_end p : ℕ} {answer : LevelAnswer} → 1 ≤ half
    → OpenImage half img h → MetIn half img h at t e end p → 1 ≤ at.level → under ≡ context_under at e.start end e.pair
    → answer ≡ found x x_end → answer ≡ level_answer half h under t (page_at half img e.child) → MetIn half img h under t x x_end e.child
meets least opened m inner u is told = record { come = comes least opened m inner u; found = sym is ∙ told }

pub returns-then-at-eq0 : goal.returns-then-at-eq0
returns-then-at-eq0 n c p m =
    let o = c.requires.opened in
    leaf_looked o.0 o.1 m.come (found_level _ _ _ _ _ m.found) c.if-at-eq0.true

pub context_under-under-requires : goal.context_under-under-requires
context_under-under-requires n c =
    let o = c.requires.opened in
    (omega (arith, c.if-at-eq0.false), (come_on_path o.0 o.1 c.requires.met.1.come).bounded)

pub level_answer-requires-clause-inside : goal.level_answer-requires-clause-inside
level_answer-requires-clause-inside n c =
    let o = c.requires.opened in
    (o.0, come_within o.0 o.1 (comes o.0 o.1 c.requires.met.1 (omega (arith, c.if-at-eq0.false)) c.context_under-under.ensures))

pub level_answer-requires-clause-on_path : goal.level_answer-requires-clause-on_path
level_answer-requires-clause-on_path n c =
    let o = c.requires.opened in
    come_on_path o.0 o.1 (comes o.0 o.1 c.requires.met.1 (omega (arith, c.if-at-eq0.false)) c.context_under-under.ensures)

pub returns-in_default : goal.returns-in_default
returns-in_default n c p m =
    let o = c.requires.opened in
    rw c.unfit_after.ensures
    (unfit_below o.0 o.1 m.come (found_level _ _ _ _ _ m.found) (omega (arith, c.if-at-eq0.false))
    (rw c.context_under-under.ensures at (unfit_level _ _ _ _ _ (sym c.in_default.is ∙ c.level_answer.ensures))))

pub look-requires : goal.look-requires
look-requires n c =
    let o = c.requires.opened in
    let met =
    meets o.0 o.1 c.requires.met.1 (omega (arith, c.if-at-eq0.false)) c.context_under-under.ensures c.in-Entry.is c.level_answer.ensures
    in (
      omega (arith, ap (λ (at : PageContext). at.level) c.context_under-under.ensures, c.if-at-eq0.false),
      (c.requires.opened, (c.args.e.child, met)),
    )

pub combine_above-requires : goal.combine_above-requires
combine_above-requires n c =
    let o = c.requires.opened in
    let m = c.requires.met.1 in
    below_combinable o.0 o.1 m.come (found_level _ _ _ _ _ m.found) (omega (arith, c.if-at-eq0.false)) c.look.result
    (rw c.context_under-under.ensures at (c.look.ensures _ (meets o.0 o.1 m (omega (arith, c.if-at-eq0.false)) c.context_under-under.ensures c.in-Entry.is c.level_answer.ensures)))

pub returns : goal.returns
returns n c p m =
    let o = c.requires.opened in
    c.combine_above.ensures
    ∙ inner_looked o.0 o.1 m.come (found_level _ _ _ _ _ m.found) (omega (arith, c.if-at-eq0.false)) c.look.result
    (rw c.context_under-under.ensures at (c.look.ensures _ (meets o.0 o.1 m (omega (arith, c.if-at-eq0.false)) c.context_under-under.ensures c.in-Entry.is c.level_answer.ensures)))
