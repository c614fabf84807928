-- `audit::walk::audit_leaves` meets its contract: the chain tests the page below each entry. Assumes nothing.
use Rattle.std.proofs.Common.{◌≡◌, ℕ, ◌+◌, Bool, refl, ap, ap₂, ◌∙◌, rules, arith}
use Rattle.std.specs.Bool.{then_some}
use Rattle.std.proofs.lemmas.Iterator.{YieldsList-from_range}
use Rattle.std.proofs.lemmas.Iterator.Search.{all_from_yields_List}
use borrow.Author.Tests.{tests}
use Rattle.fields.specs.Bytes.{every}
use Rattle.page.specs.Layout.{entry_count}
use Rattle.audit.specs.Walks.{fit_below}
use Rattle.audit.proofs.Indices.{all_indices}
use Rattle.audit.proofs.Walks.{standing_size, leaves_counted, few_entries}
use Rattle.audit.proofs.walk.audit_leaves.Goals as goal

pub entry_count-n-requires : goal.entry_count-n-requires
entry_count-n-requires c = omega (arith, standing_size c.requires.standing c.page_at.ensures)

pub overflow_add-n : goal.overflow_add-n
overflow_add-n c =
    omega (
      arith,
      few_entries _ _ _ _ _ c.requires.standing.half_most c.requires.fit.0,
      c.entry_count-n.ensures ∙ ap entry_count c.page_at.ensures,
    )

pub returns : goal.returns
returns c =
    let fits = λ (i : ℕ). fit_below c.args.half c.args.h c.args.img.now c.args.at c.args.p i in
    let n = c.entry_count-n.result in
    let all : c.all.result ≡ every n fits =
    all_from_yields_List fits _ _ c.all.result c.all.ensures.ran (YieldsList-from_range 0 n n refl (omega arith)) (λ x b q k. search (rules, tests))
    ∙ all_indices n fits in
    let counted = c.entry_count-n.ensures ∙ ap entry_count c.page_at.ensures in
    c.then_some.ensures ∙ ap₂ (λ (b : Bool) (k : ℕ). then_some b (1 + k)) (all ∙ ap (λ k. every k fits) counted) counted
    ∙ leaves_counted _ _ _ _ _ c.requires.fit.1 c.requires.fit.0
