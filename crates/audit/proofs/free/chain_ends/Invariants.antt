-- The chain ends if what is left of it does.
use Rattle.std.proofs.Common.{◌≡◌, ◌-◌}
use Rattle.soundness.specs.Counting.{chain_ends}
use Rattle.audit.proofs.free.chain_ends.Given as goal

abbrev pub invariant-loop : goal.invariant-loop
invariant-loop l = chain_ends l.half l.img l.k l.first ≡ chain_ends l.half l.img (l.k - l.counter) l.p
