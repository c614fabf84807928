-- `audit::free::leads_to_free` meets its contract: a number in the range leads to a page of the image. Assumes nothing.
use Rattle.std.proofs.Common.{◌≡◌, ℕ, ◌<◌, Bool, true, ◌&&◌, leb, ltb, length, sym, ap, ◌∙◌, rules, arith, ltb-true}
use Rattle.std.specs.Ordering.{nat_cmp, is_le, is_lt}
use mathlib.Core.Bool.{and_assoc, and-eq-true_iff}
use Rattle.page.specs.Layout.{free_ok}
use Rattle.page.proofs.Laws.Offsets.{page_within}
use Rattle.image.specs.Images.{page_at}
use Rattle.fit.proofs.Tests.{passes, fails}
use Rattle.access.proofs.Laws.{page_length}
use Rattle.audit.specs.Walks.{leads_to_free}
use Rattle.audit.proofs.free.leads_to_free.Goals as goal

-- the range's test in the definition's words
in_range : (n p : ℕ) → is_le (nat_cmp 1 p) && is_lt (nat_cmp p n) ≡ leb 1 p && ltb p n
in_range n p = search rules

range_part : (n p : ℕ) {t : Bool} → t ≡ is_le (nat_cmp 1 p) && is_lt (nat_cmp p n) → (t ≡ true → p < n)
range_part n p e f = ltb-true p n ((and-eq-true_iff (leb 1 p) (ltb p n)).0 (sym (e ∙ in_range n p) ∙ f)).1

pub free_ok-requires : goal.free_ok-requires
free_ok-requires c =
    let below = range_part c.args.n c.args.p c.contains.ensures.value c.if-contains.true in
    ap length c.page_at.ensures ∙ page_length _ _ _ (omega (arith, page_within c.args.half below))

pub returns-then-contains : goal.returns-then-contains
unfolding leads_to_free
returns-then-contains c =
    passes (sym (c.contains.ensures.value ∙ in_range c.args.n c.args.p) ∙ c.if-contains.true)
    (c.free_ok.ensures ∙ ap (free_ok c.args.half) c.page_at.ensures)
    ∙ and_assoc (leb 1 c.args.p) (ltb c.args.p c.args.n) (free_ok c.args.half (page_at c.args.half c.args.img.now c.args.p))

pub returns-else-contains : goal.returns-else-contains
unfolding leads_to_free
returns-else-contains c =
    let free = free_ok c.args.half (page_at c.args.half c.args.img.now c.args.p) in
    c.if-contains.false
    ∙ fails free (sym (c.contains.ensures.value ∙ in_range c.args.n c.args.p) ∙ c.if-contains.false)
    ∙ and_assoc (leb 1 c.args.p) (ltb c.args.p c.args.n) free
