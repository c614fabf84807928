-- `page::heads::write_head` meets its contract: its numbers and unused bytes behind them are the whole page. Assumes nothing.
use Rattle.std.proofs.Common.{ℕ, ◌-◌, List, ◌++◌, refl, ap, ◌∙◌, arith}
use Rattle.fields.specs.Bytes.{unused}
use Rattle.fields.specs.Numbers.{u32_bytes}
use Rattle.lists.specs.Lists.{concat_map}
use Rattle.page.specs.Layout.{head_numbers, head_bytes}
use Rattle.page.proofs.Laws.Puts.{put_rest}
use Rattle.page.proofs.heads.write_head.Goals as goal

pub returns : goal.returns
unfolding unused head_bytes
returns c =
    let vs : List ℕ = head_numbers c.args.h in
    put_rest c.args.s.now vs 40 (c.page_size.result - 40) refl (omega arith) c.write_numbers.ensures c.fill.ensures
    ∙ ap (λ k. concat_map u32_bytes vs ++ unused (k - 40)) c.page_size.ensures
