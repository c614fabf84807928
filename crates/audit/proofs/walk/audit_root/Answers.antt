-- `audit::walk::audit_root` meets its contract: the walk stands at the root. Assumes nothing.
use Rattle.std.proofs.Common.{ap, ◌∙◌, rules}
use Rattle.page.specs.Fit.{PageContext}
use Rattle.access.proofs.Laws.{opened_ranges}
use Rattle.audit.specs.Walks.{Standing, page_count}
use Rattle.audit.proofs.Walks.{root_standing, standing_within, standing_size, standing_bounded, page_unfit, tested}
use Rattle.audit.proofs.walk.audit_root.Goals as goal
use Rattle.audit.proofs.walk.audit_root.Goals.{After-root_context-at}

standing : (c : After-root_context-at) → Standing c.args.half c.args.img.now c.args.h c.root_context-at.result c.args.h.root
standing c = root_standing c.requires.0 c.requires.1 c.requires.2 c.root_context-at.ensures

pub root_context-at-requires : goal.root_context-at-requires
root_context-at-requires c = (opened_ranges c.requires.2).height_least

pub page_at-requires : goal.page_at-requires
page_at-requires c = standing_within (standing (goal.at.page_at-requires c).After-root_context-at)

pub page_fit-requires-clause-bytes : goal.page_fit-requires-clause-bytes
page_fit-requires-clause-bytes c = (c.requires.0, standing_size (standing (goal.at.page_fit-requires-clause-bytes c).After-root_context-at) c.page_at.ensures)

pub page_fit-requires-clause-bounded : goal.page_fit-requires-clause-bounded
page_fit-requires-clause-bounded c = standing_bounded (standing (goal.at.page_fit-requires-clause-bounded c).After-root_context-at)

pub returns-then-not-page_fit : goal.returns-then-not-page_fit
returns-then-not-page_fit c =
    let args = c.args in
    page_unfit args.half _ _ _ _ (tested _ _ _ _ _ c.page_at.ensures c.page_fit.ensures (search rules))
    ∙ ap (λ (b : PageContext). page_count args.half args.h args.img.now b args.h.root) c.root_context-at.ensures

pub audit_page-requires : goal.audit_page-requires
audit_page-requires c =
    record {
      standing = standing (goal.at.audit_page-requires c).After-root_context-at;
      fit = tested _ _ _ _ _ c.page_at.ensures c.page_fit.ensures (search rules);
    }

pub returns : goal.returns
returns c =
    let args = c.args in
    c.audit_page.ensures ∙ ap (λ (b : PageContext). page_count args.half args.h args.img.now b args.h.root) c.root_context-at.ensures
