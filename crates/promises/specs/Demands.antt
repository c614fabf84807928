-- The demands, and how they reach what runs:
-- (a) the status, the answer and every byte that a function for C leaves are its definition's: its contract (`luwhenoka` Promises), and the
--     first clause of its namesake's in `src`, in the definitions' own words;
-- (b) so its call is a step of a list, on the image that it is handed: the other clauses there;
-- (c) the demands hold of every list of such steps, at every capacity: `TheDemands`.
-- The demands that speak of one call's answer alone are told in the words of these promises besides. Assumes nothing.
use Rattle.claims.specs.Demands.{TheDemands}
use Rattle.claims.specs.Neighbours.{NeighboursJoined}
use Rattle.promises.specs.Refusing.{Refusing}
use Rattle.promises.specs.Tables.{ByStatus}
use Rattle.promises.specs.Changes.{EveryChangePromised}
use Rattle.promises.specs.SameAnswers.{SameAnswers}
use Rattle.promises.specs.Until.{UntilPromised}
use Rattle.promises.specs.Rounding.{RoundingPromised}
use Rattle.promises.specs.Rebuilt.{RebuildPromised}
use Rattle.promises.specs.Header.{HeaderRuns, HeaderScratch, HeaderTarget}

pub record DemandsMet : Type 0 where
  pub demands : TheDemands
  pub neighbours_joined : NeighboursJoined
  pub refusing : Refusing
  pub by_status : ByStatus
  pub every_change : EveryChangePromised
  pub same_answers : SameAnswers
  pub until_promised : UntilPromised
  pub rounding_promised : RoundingPromised
  pub rebuild_promised : RebuildPromised
  pub header_runs : HeaderRuns
  pub header_scratch : HeaderScratch
  pub header_target : HeaderTarget
