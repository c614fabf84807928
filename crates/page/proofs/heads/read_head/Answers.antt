-- `page::heads::read_head` meets its contract: each number is read at its offset. Assumes nothing.
use Rattle.page.specs.Layout.{head_of}
use Rattle.page.proofs.heads.read_head.Goals as goal

pub returns : goal.returns
unfolding head_of
returns c =
    λ j. record {
      pages = c.read_at.ensures j;
      height = c.read_at-2.ensures j;
      root = c.read_at-3.ensures j;
      free = c.read_at-4.ensures j;
      chain = c.read_at-5.ensures j;
      mark = c.read_at-6.ensures j;
      kind = c.read_at-7.ensures j;
      window = c.read_at-8.ensures j;
      changes = c.read_at-9.ensures j;
      capacity = c.read_at-10.ensures j;
    }
