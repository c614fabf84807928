-- The cases of a rebuild hold: each is computed. Assumes nothing.
use mathlib.Core.Path.{refl}
use Rattle.calls.specs.RebuildCases.{worn_cell, worn_by, worn, worn_five, hurt, target, RebuildCases}
use Rattle.calls.proofs.Opened.{every_call}

pub rebuild_cases : RebuildCases
unfolding every_call worn_cell worn_by worn worn_five hurt target
rebuild_cases =
    record {
      worn_sound = (refl, refl);
      worn_changed = refl;
      worn_audited = refl;
      worn_answers = (refl, refl, refl);
      worn_mended = refl;
      five_sound = (refl, refl);
      worn_runs = refl;
      worn_status = (refl, refl);
      worn_head = refl;
      worn_leaf = refl;
      worn_longer = (refl, refl, refl);
      small = refl;
      small_leaves = refl;
      target_16 = refl;
      target_empty = refl;
      source_21 = refl;
      target_unread = refl;
      source_17 = refl;
      source_17_kept = refl;
      source_none = refl;
      source_16 = refl;
      bad_capacity = refl;
      bytewise = refl;
      before = refl;
      before_16 = refl;
    }
