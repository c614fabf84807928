-- `access::lengths::length_fits` meets its contract: a product of a quotient stays below what was divided. Assumes nothing.
use Rattle.std.proofs.Common.{◌≡◌, ◌*◌, ◌/◌, ◌&&◌, eqb, leb, length, ap, ◌∙◌, arith, rules}
use native.Mathlib.Nat.{mul-div-le}
use Rattle.page.specs.Layout.{page_size}
use Rattle.image.specs.Images.{length_ok, pages_in}
use Rattle.access.proofs.lengths.length_fits.Goals as goal

pub returns : goal.returns
unfolding length_ok
returns c =
    let len = length c.args.img.now in
    let n = c.page_count-n.result in
    let range : c.contains.result ≡ (leb 2 n && leb n 1024) =
    rw (c.contains.ensures.value) (search (rules, c.new.ensures.start, c.new.ensures.end, c.new.ensures.exhausted)) in
    ap (λ b. eqb len (c.page_size.result * n) && b) range
    ∙ (λ j.
    eqb len (c.page_size.ensures j * c.page_count-n.ensures j)
    && (leb 2 (c.page_count-n.ensures j) && leb (c.page_count-n.ensures j) 1024))

pub overflow_mul-result : goal.overflow_mul-result
unfolding pages_in
overflow_mul-result c =
    let half = c.args.half in
    let n = length c.args.img.now in
    let same : c.page_size.result * c.page_count-n.result ≡ page_size half * (n / page_size half) =
    λ j. c.page_size.ensures j * c.page_count-n.ensures j in
    omega (arith, same, mul-div-le n (page_size half))
