-- `access::fresh::write_fresh` meets its contract: head, root and unused bytes, one behind another, are the whole image. Assumes nothing.
use Rattle.std.proofs.Common.{◌≡◌, true, ℕ, ◌*◌, ◌-◌, ◌≤◌, List, length, ap, ◌∙◌, arith}
use native.Mathlib.Nat.{mul-le-mul_left}
use Rattle.fields.specs.Bytes.{patch, unused}
use Rattle.page.specs.Layout.{page_size, head_bytes}
use Rattle.image.specs.Images.{pages_in, length_ok, fresh}
use Rattle.image.proofs.Sizes.{sized}
use Rattle.access.proofs.Laws.{pages_counted}
use Rattle.access.proofs.FreshImage.{fresh_written}
use Rattle.access.proofs.fresh.write_fresh.Goals as goal

-- two pages at the least
two : (half : ℕ) (img : List ℕ) → length_ok half img ≡ true → 2 * page_size half ≤ length img
two half img ok =
    let z = sized half img ok in
    omega (arith, z.size, mul-le-mul_left (page_size half) z.least)

pub overflow_cast-length : goal.overflow_cast-length
overflow_cast-length c =
    omega (arith, pages_counted _ c.args.img.now c.page_size-size.ensures, (sized _ _ c.requires.2).most)

pub write_fresh_head-requires : goal.write_fresh_head-requires
write_fresh_head-requires c = omega (arith, two _ _ c.requires.2)

pub write_fresh_root-requires : goal.write_fresh_root-requires
write_fresh_root-requires c = omega (arith, two _ _ c.requires.2)

pub overflow_sub-length : goal.overflow_sub-length
overflow_sub-length c = omega (arith, two _ _ c.requires.2, c.page_size-size.ensures)

pub fill-requires : goal.fill-requires
fill-requires c = omega (arith, two _ _ c.requires.2, c.page_size-size.ensures)

pub returns : goal.returns
unfolding unused
returns c =
    let args = c.args in
    let half = args.half in
    let img : List ℕ = args.img.now in
    let e = c.page_size-size.ensures in
    let z = sized half img c.requires.2 in
    fresh_written half args.kind args.window args.field (pages_in half img) c.requires.0 z.least img z.size
    (c.write_fresh_head.ensures
    ∙ ap (λ n. patch img 0 (head_bytes half (fresh n args.kind args.window args.field).head)) (pages_counted half img e))
    c.write_fresh_root.ensures
    (c.fill.ensures ∙ (λ j. patch c.write_fresh_root.new.img (2 * e j) (unused (length img - 2 * e j))))
