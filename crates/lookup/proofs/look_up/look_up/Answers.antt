-- `lookup::look_up::look_up` meets its contract: from the root on. Assumes nothing.
use Rattle.std.proofs.Common.{◌≡◌, ℕ, ◌≤◌, List, sym, ◌∙◌}
use mathlib.Core.Path.{subst⁻¹}
use Rattle.page.specs.Fit.{PageContext, root_context}
use Rattle.page.specs.declared.Head.{Head}
use Rattle.access.specs.Access.{OpenImage}
use Rattle.image.specs.Instant.{look, look_up}
use Rattle.access.proofs.Laws.{opened_ranges}
use Rattle.lookup.specs.Levels.{ComeTo}
use Rattle.lookup.proofs.Laws.Levels.{unfit_level}
use Rattle.lookup.proofs.Laws.Walks.{come_within, come_on_path, come_root, unfit_looked, root_looked}
use Rattle.lookup.proofs.look_up.look_up.Goals as goal

pub root_context-at-requires : goal.root_context-at-requires
root_context-at-requires c = (opened_ranges c.requires.1).height_least

comes : {half : ℕ} {img : List ℕ} {h : Head} {at : PageContext} → 1 ≤ half → OpenImage half img h → (t : ℕ) → at ≡ root_context h
    → ComeTo h at h.root t
comes {h = h} least opened t e = subst⁻¹ (λ at. ComeTo h at h.root t) e (come_root least opened t)

pub level_answer-requires-clause-inside : goal.level_answer-requires-clause-inside
level_answer-requires-clause-inside c = (c.requires.0, come_within c.requires.0 c.requires.1 (comes c.requires.0 c.requires.1 c.args.t c.root_context-at.ensures))

pub level_answer-requires-clause-on_path : goal.level_answer-requires-clause-on_path
level_answer-requires-clause-on_path c = come_on_path c.requires.0 c.requires.1 (comes c.requires.0 c.requires.1 _ c.root_context-at.ensures)

-- from the root on
looked : {half : ℕ} {img : List ℕ} {h : Head} {at : PageContext} → 1 ≤ half → OpenImage half img h → (t : ℕ) → at ≡ root_context h
    → look half h img t at.level at h.root ≡ look_up half img t
looked {half} {img} {h} least opened t e =
    subst⁻¹ (λ (at : PageContext). look half h img t at.level at h.root ≡ look_up half img t) e (root_looked least opened t)

pub returns-in_default : goal.returns-in_default
returns-in_default c =
    rw c.unfit_after.ensures
    (unfit_looked c.requires.0 c.requires.1 (comes c.requires.0 c.requires.1 _ c.root_context-at.ensures) (unfit_level _ _ _ _ _ (sym c.in_default.is ∙ c.level_answer.ensures))
    ∙ looked c.requires.0 c.requires.1 _ c.root_context-at.ensures)

pub look-requires-clause-met : goal.look-requires-clause-met
look-requires-clause-met c =
    let come = comes c.requires.0 c.requires.1 _ c.root_context-at.ensures in
    (_, record { come = come; found = sym c.in-Entry.is ∙ c.level_answer.ensures })

pub returns : goal.returns
returns c =
    let come = comes c.requires.0 c.requires.1 _ c.root_context-at.ensures in
    c.look.ensures _ (record { come = come; found = sym c.in-Entry.is ∙ c.level_answer.ensures })
    ∙ looked c.requires.0 c.requires.1 _ c.root_context-at.ensures
