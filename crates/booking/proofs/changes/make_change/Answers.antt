-- `booking::changes::make_change` meets its contract: what no row turns back can be changed. Assumes nothing.
use Rattle.std.proofs.Common.{rules}
use Rattle.fields.proofs.Laws.Digits.{bytes_of}
use Rattle.booking.proofs.Laws.Accepted.{accepted_some, accepted_changed}
use Rattle.booking.proofs.changes.make_change.Goals as goal

pub apply-requires : goal.apply-requires
apply-requires c =
    accepted_some c.requires (bytes_of c.args.img.now search rules) c.effect_end-end.ensures c.effect.ensures

pub returns : goal.returns
returns c =
    accepted_changed c.requires (bytes_of c.args.img.now search rules) c.effect_end-end.ensures c.effect.ensures c.apply.ensures
