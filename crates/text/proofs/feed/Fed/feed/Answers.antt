-- `text::feed::Fed::feed` meets its contract: a byte more where there is room, and else none. Assumes nothing.
use Rattle.std.proofs.Common.{rules, sym, ap, ◌∙◌, subst, ◌++◌, ◌∷◌, []}
use Rattle.text.specs.Reading.{Kept, Holds}
use Rattle.text.proofs.Laws.Feeds.{fed_more, fed_full, more_bytes, full_bytes}
use Rattle.text.proofs.feed.Fed.feed.Goals as goal

pub returns-then-self-lt-FED_BYTES-clause-whole : goal.returns-then-self-lt-FED_BYTES-clause-whole
returns-then-self-lt-FED_BYTES-clause-whole c line h =
    fed_more line _ _ (search rules) (subst (λ k. Holds k line) (sym c.self.view_is) h) _ c.if-self-lt-FED_BYTES.true

pub returns-else-self-lt-FED_BYTES-clause-whole : goal.returns-else-self-lt-FED_BYTES-clause-whole
returns-else-self-lt-FED_BYTES-clause-whole c line h =
    subst (λ k. Holds k (line ++ (c.args.b ∷ []))) c.self.view_is
    (fed_full line _ _ (search rules) (subst (λ k. Holds k line) (sym c.self.view_is) h) _ c.if-self-lt-FED_BYTES.false)

pub returns-then-self-lt-FED_BYTES-clause-bytes : goal.returns-then-self-lt-FED_BYTES-clause-bytes
returns-then-self-lt-FED_BYTES-clause-bytes c line h =
    more_bytes line _ _ (search rules) (ap (λ (k : Kept). k.bytes) c.self.view_is ∙ h) _ c.if-self-lt-FED_BYTES.true

pub returns-else-self-lt-FED_BYTES-clause-bytes : goal.returns-else-self-lt-FED_BYTES-clause-bytes
returns-else-self-lt-FED_BYTES-clause-bytes c line h =
    sym (ap (λ (k : Kept). k.bytes) c.self.view_is)
    ∙ full_bytes line _ _ (search rules) (ap (λ (k : Kept). k.bytes) c.self.view_is ∙ h) _ c.if-self-lt-FED_BYTES.false
