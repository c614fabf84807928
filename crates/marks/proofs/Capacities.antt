-- The cases of capacities hold: each is computed. Assumes nothing.
use mathlib.Core.Path.{refl}
use Rattle.marks.specs.Capacities.{of_four, with_field, of_before, of_six, counted, statuses, CapacityCases}
use Rattle.marks.proofs.Opened.{all_definitions}

pub capacity_cases : CapacityCases
unfolding all_definitions of_four with_field of_before of_six counted statuses
capacity_cases =
    record {
      ok = refl;
      bad = refl;
      stored = refl;
      sized = refl;
      arrays = refl;
      format_14 = refl;
      format_16 = refl;
      format_kind = refl;
      format_ff = refl;
      lengths = refl;
      bad_ahead = refl;
      wide_field = refl;
      length_behind = refl;
      bad_scratch = refl;
      bad_audit = refl;
      bad_instant = refl;
      bad_average = refl;
      bad_listing = refl;
      other_length = refl;
      before = refl;
      before_reads = (refl, refl);
      before_kept = refl;
      before_answers = refl;
      field_kept = refl;
      before_length = refl;
      height_10 = refl;
      height_11 = refl;
      height_24 = refl;
      four = refl;
      five = refl;
      six_keeps = refl;
      six_moves = refl;
      six_gives = refl;
      six_fewest = refl;
      before_alone = refl;
    }
