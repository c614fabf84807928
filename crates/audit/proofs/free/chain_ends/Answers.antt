-- `audit::free::chain_ends` meets its contract: as far as the loop has come, the chain goes on. Assumes nothing.
use Rattle.std.proofs.Common.{◌≡◌, ◌+◌, ◌-◌, ℕ, length, sym, ap, ◌∙◌, arith, rules}
use Rattle.page.specs.Layout.{next_of}
use Rattle.image.specs.Images.{page_at}
use Rattle.access.specs.Access.{PageIn}
use Rattle.soundness.specs.Counting.{chain_ends}
use Rattle.access.proofs.Laws.{page_length}
use Rattle.audit.proofs.Bytes.{pages_are, free_within}
use Rattle.audit.proofs.Chain.{chain_none, chain_on, chain_stops}
use Rattle.audit.proofs.free.chain_ends.Goals as goal

pub returns-then-not-leads_to_free : goal.returns-then-not-leads_to_free
returns-then-not-leads_to_free c =
    chain_stops _ _ c.args.n (c.args.k - c.loop.counter) c.loop.p (pages_are _ _ _ c.requires) (omega arith)
    (sym c.leads_to_free.ensures ∙ search rules)
    ∙ sym c.loop.invariant

pub page_at-requires : goal.page_at-requires
page_at-requires c = free_within _ _ _ _ c.requires (sym c.leads_to_free.ensures ∙ search rules)

pub next_of-p-requires : goal.next_of-p-requires
next_of-p-requires c =
    let within : PageIn c.args.half c.args.img.now c.loop.p =
    free_within _ _ _ _ c.requires (sym c.leads_to_free.ensures ∙ search rules) in
    omega (arith, ap length c.page_at.ensures, page_length _ _ _ within)

pub loop-preserved : goal.loop-preserved
loop-preserved c =
    let args = c.args in
    let left : args.k - c.loop.counter - 1 ≡ args.k - (c.loop.counter + 1) = omega arith in
    c.loop.invariant
    ∙ chain_on args.half args.img.now args.n (args.k - c.loop.counter) c.loop.p (pages_are _ _ _ c.requires) (omega arith)
    (sym c.leads_to_free.ensures ∙ search rules)
    ∙ ap (λ (k : ℕ). chain_ends args.half args.img.now k (next_of (page_at args.half args.img.now c.loop.p))) left
    ∙ ap (chain_ends args.half args.img.now (args.k - (c.loop.counter + 1)))
    (sym (c.next_of-p.ensures ∙ ap next_of c.page_at.ensures))

pub returns : goal.returns
returns c =
    chain_none c.args.half c.args.img.now (c.args.k - c.loop.counter) c.loop.p (omega arith) ∙ sym c.loop.invariant
