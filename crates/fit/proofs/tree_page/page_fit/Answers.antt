-- `fit::tree_page::page_fit` meets its contract: at each exit a part fails, and those before it passed. Assumes nothing.
use Rattle.std.proofs.Common.{sym, ◌∙◌, arith, eq-eqb, ne_eqb}
use Rattle.page.specs.Fit.{page_fit}
use Rattle.fit.proofs.Tests.{passes, fails}
use Rattle.fit.proofs.Laws.Parts.{compared}
use Rattle.fit.proofs.tree_page.page_fit.Goals as goal

pub returns-then-level_of-at : goal.returns-then-level_of-at
unfolding page_fit
returns-then-level_of-at c = fails _ (ne_eqb _ _ (λ e. c.if-level_of-at.true (c.level_of.ensures ∙ e)))

pub returns-then-not-entry_count_ok : goal.returns-then-not-entry_count_ok
unfolding page_fit
returns-then-not-entry_count_ok c =
    passes (eq-eqb _ _ (sym c.level_of.ensures ∙ c.if-level_of-at.false))
    (fails _ (sym c.entry_count_ok.ensures ∙ c.if-not-entry_count_ok.true))

-- the count of entries is compared before anything uses it
pub starts_ok-requires : goal.starts_ok-requires
starts_ok-requires c =
    let o = c.requires.bytes in
    let number = sym c.entry_count_ok.ensures ∙ c.if-not-entry_count_ok.false in
    omega (arith, compared c.args.half c.args.at c.args.s.now o.0 o.1 c.entry_count-n.ensures number)

pub returns-then-not-starts_ok : goal.returns-then-not-starts_ok
unfolding page_fit
returns-then-not-starts_ok c =
    passes (eq-eqb _ _ (sym c.level_of.ensures ∙ c.if-level_of-at.false))
    (passes (sym c.entry_count_ok.ensures ∙ c.if-not-entry_count_ok.false)
    (fails _ (sym c.starts_ok.ensures ∙ c.if-not-starts_ok.true)))

pub unused_ok-requires : goal.unused_ok-requires
unused_ok-requires c =
    let o = c.requires.bytes in
    let number = sym c.entry_count_ok.ensures ∙ c.if-not-entry_count_ok.false in
    compared c.args.half c.args.at c.args.s.now o.0 o.1 c.entry_count-n.ensures number

pub returns-then-not-unused_ok : goal.returns-then-not-unused_ok
unfolding page_fit
returns-then-not-unused_ok c =
    passes (eq-eqb _ _ (sym c.level_of.ensures ∙ c.if-level_of-at.false))
    (passes (sym c.entry_count_ok.ensures ∙ c.if-not-entry_count_ok.false)
    (passes (sym c.starts_ok.ensures ∙ c.if-not-starts_ok.false) (fails _ (sym c.unused_ok.ensures ∙ c.if-not-unused_ok.true))))

pub entries_ok-requires : goal.entries_ok-requires
entries_ok-requires c =
    let o = c.requires.bytes in
    let number = sym c.entry_count_ok.ensures ∙ c.if-not-entry_count_ok.false in
    compared c.args.half c.args.at c.args.s.now o.0 o.1 c.entry_count-n.ensures number

pub returns : goal.returns
unfolding page_fit
returns c =
    passes (eq-eqb _ _ (sym c.level_of.ensures ∙ c.if-level_of-at.false))
    (passes (sym c.entry_count_ok.ensures ∙ c.if-not-entry_count_ok.false)
    (passes (sym c.starts_ok.ensures ∙ c.if-not-starts_ok.false)
    (passes (sym c.unused_ok.ensures ∙ c.if-not-unused_ok.false) c.entries_ok.ensures)))
