-- `text::feed::Fed::parse` meets its contract: a line that is all there is parsed, a longer one is no booking. Assumes nothing.
use Rattle.std.proofs.Common.{length, ap, sym, ◌∙◌, arith}
use Rattle.calls.specs.Program.{cut_at, line_from}
use Rattle.text.specs.Reading.{line_of}
use Rattle.text.proofs.Laws.Feeds.{held_line, held_long}
use Rattle.text.proofs.Laws.Long.{long_unread}
use Rattle.text.proofs.feed.Fed.parse.Goals as goal

pub returns-then-line-gt-LINE_BYTES : goal.returns-then-line-gt-LINE_BYTES
unfolding line_of
returns-then-line-gt-LINE_BYTES c line h =
    sym (long_unread line (held_long line h (omega (arith, c.if-line-gt-LINE_BYTES.true, ap length c.kept-line.ensures))))

pub returns : goal.returns
returns c line h =
    c.parse.ensures
    ∙ ap (λ l. line_from (cut_at 32 l))
    (c.kept-line.ensures ∙ held_line line h (omega (arith, c.if-line-gt-LINE_BYTES.false, ap length c.kept-line.ensures)))
