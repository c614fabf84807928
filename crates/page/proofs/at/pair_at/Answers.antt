-- `page::at::pair_at` meets its contract: a load for each number. Assumes nothing.
use Rattle.std.proofs.Common.{◌+◌, ap, ◌∙◌, w32, w64}
use Rattle.fields.specs.Numbers.{i32_at, i64_at}
use Rattle.page.specs.Layout.{pair_at}
use Rattle.page.proofs.Laws.Signed.{result_is}
use Rattle.page.proofs.at.pair_at.Goals as goal

pub returns : goal.returns
unfolding pair_at
returns c =
    let s = c.args.s.now in
    let o = c.entry_offset-o.ensures in
    λ j. record {
      sum = result_is w64 c.read_at.type_inv (c.read_at.ensures ∙ ap (i64_at s) o) j;
      count = result_is w32 c.read_at-2.type_inv (c.read_at-2.ensures ∙ ap (λ k. i32_at s (k + 8)) o) j;
    }
