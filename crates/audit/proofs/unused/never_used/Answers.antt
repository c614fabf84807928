-- `audit::unused::never_used` meets its contract: the pages are one run of words. Assumes nothing.
use Rattle.std.proofs.Common.{◌≡◌, ℕ, ◌+◌, ◌*◌, ◌-◌, ◌/◌, ◌≤◌, sym, ap, ap₂, ◌∙◌, arith}
use native.Mathlib.Nat.{mul-add, mul_assoc}
use Rattle.fields.specs.Bytes.{part, all_are}
use Rattle.page.specs.Layout.{page_size}
use Rattle.audit.proofs.NeverUsed.{pages_unused}
use Rattle.audit.proofs.unused.never_used.Goals as goal

-- so many words are so many pages
words : (half size m : ℕ) → size ≡ page_size half → 8 * (size / 8 * m) ≡ page_size half * m
words half size m e =
    let whole : 8 * (size / 8) ≡ page_size half = omega arith in
    sym (mul_assoc 8 (size / 8) m) ∙ ap (λ k. k * m) whole

-- the pages before the mark and from there on are all of them
inside : (size mark n : ℕ) → mark ≤ n → size * mark + size * (n - mark) ≡ size * n
inside size mark n l =
    let all : mark + (n - mark) ≡ n = omega arith in
    sym (mul-add size mark (n - mark)) ∙ ap (λ k. size * k) all

pub blocks_ff-requires : goal.blocks_ff-requires
blocks_ff-requires c =
    let args = c.args in
    let size = c.page_size-words.ensures in
    omega (
      arith,
      words args.half _ args.mark size,
      words args.half _ (args.n - args.mark) size,
      inside (page_size args.half) args.mark args.n (omega arith),
    )

pub returns : goal.returns
returns c =
    let args = c.args in
    let size = c.page_size-words.ensures in
    c.blocks_ff.ensures
    ∙ ap₂ (λ (a n : ℕ). all_are 255 (part args.img.now a n)) (words args.half _ args.mark size) (words args.half _ (args.n - args.mark) size)
    ∙ pages_unused args.half args.img.now args.mark (args.n - args.mark)
