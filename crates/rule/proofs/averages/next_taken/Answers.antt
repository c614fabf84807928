-- `rule::averages::next_taken` meets its contract: it is the definition, and odd is told whatever the sign. Assumes nothing.
use Rattle.std.proofs.Common.{◌≡◌, ◌*◌, ◌%◌, Bool, not, ◌&&◌, ◌||◌, eqb, ltb, pos, nat_abs, ap, to_z-of_z, w64, to_z, of_z}
use lib.Signed.{rem_z}
use Rattle.rule.specs.Averages.{next_taken}
use Rattle.rule.proofs.Rounding.{even_bits}
use Rattle.rule.proofs.averages.next_taken.Goals as goal

pub returns : goal.returns
unfolding next_taken
returns c =
    let q = c.args.quotient in
    let even : eqb (of_z w64 (rem_z (to_z w64 (of_z w64 q)) (pos 2))) 0 ≡ eqb (nat_abs q % 2) 0
    = rw (to_z-of_z c.ranges.quotient) (even_bits q) in
    ap (λ (even : Bool). ltb c.args.count (2 * c.args.rest) || (eqb (2 * c.args.rest) c.args.count && not even)) even
