-- `page_need::parts::leaf_need` meets its contract. Assumes nothing.
use Rattle.std.proofs.Common.{◌≡◌, Bool, true, false, not, cond, eqb, refl, ap, ◌∙◌}
use mir.Val.{bool_byte}
use Rattle.page_need.specs.Needs.{need, leaf_need}
use Rattle.page_need.proofs.parts.leaf_need.Goals as goal

byte : (b : Bool) → bool_byte (not b) ≡ cond b 0 1
byte true = refl
byte false = refl

pub returns : goal.returns
unfolding leaf_need
returns c = ap (λ n. need n 0) (c.from.ensures ∙ byte (eqb c.args.e.start c.args.t))
