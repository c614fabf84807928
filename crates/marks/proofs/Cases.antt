-- The further cases hold: each is computed. Assumes nothing.
use mathlib.Core.Path.{refl}
use Rattle.marks.specs.Cases.{Cases}
use Rattle.marks.proofs.Opened.{all_definitions}

pub cases : Cases
unfolding all_definitions
cases =
    record {
      clip = refl;
      clip_3 = refl;
      pages_2 = refl;
      height_2 = refl;
      starts = refl;
      ends = refl;
      told_12 = refl;
      told_16 = refl;
      told_21 = refl;
      pages_hurt_leaf = refl;
      left_leaf_unhurt = refl;
      pages_hurt_root = refl;
      pages_end = refl;
      b_starts_hurt = refl;
      b_past_hurt = refl;
      out_31 = refl;
      out_33 = refl;
      scratch_13 = refl;
      scratch_22 = refl;
      scratch_0 = refl;
      scratch_17 = refl;
      borrows = refl;
      eight_pages = refl;
      nine_short = refl;
      nine_pages = refl;
      nine_bytewise = refl;
      order_21_22 = refl;
      order_22_23 = refl;
      order_23 = refl;
      cap = refl;
      cap_itself = refl;
      zero_counts = refl;
      zero_greatest = refl;
      neg_greatest = refl;
      neg_zero = refl;
      least = refl;
      halves = refl;
      beside_halves = refl;
      halves_printed = refl;
      changes = refl;
      length_exact = refl;
      length_over = refl;
      length_under = refl;
      length_1025 = refl;
      unhealed_sound = refl;
      unhealed_left = refl;
      unhealed_after = refl;
      chain_length = refl;
      grown_head = refl;
      grown_entries = refl;
      head_bytes = refl;
      leaf_bytes = refl;
      entry_bytes = refl;
      free_bytes = refl;
      free_page = refl;
      free_last = refl;
      chain_first = refl;
      chain_root = refl;
      path_bound = refl;
      path_within = refl;
      other_entry = refl;
      parent_pair_3 = refl;
      parent_pair_4 = refl;
      pairs_combined = refl;
      redistribute_left_3 = refl;
      redistribute_left_1 = refl;
      redistribute_left_2 = refl;
      given_right_3 = refl;
      given_right_1 = refl;
      redistribute_right_1 = refl;
      merge_right_3 = refl;
      merge_right_1 = refl;
      the_example = refl;
      other_lines = refl;
    }
