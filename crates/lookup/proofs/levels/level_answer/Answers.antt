-- `lookup::levels::level_answer` meets its contract: what is lent is the page. Assumes nothing.
use Rattle.std.proofs.Common.{length, ap, ◌∙◌}
use Rattle.access.proofs.Laws.{page_length}
use Rattle.lookup.specs.Levels.{level_answer}
use Rattle.lookup.proofs.levels.level_answer.Goals as goal

pub page_answer-requires-clause-page : goal.page_answer-requires-clause-page
page_answer-requires-clause-page c =
    (c.requires.inside.0, ap length c.page_at.ensures ∙ page_length _ _ _ c.requires.inside.1)

pub returns : goal.returns
returns c = c.page_answer.ensures ∙ ap (level_answer c.args.half c.args.h c.args.at c.args.t) c.page_at.ensures
