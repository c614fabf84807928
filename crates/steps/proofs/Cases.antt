-- The cases hold: each is computed. Assumes nothing.
use mathlib.Core.Path.{refl}
use Rattle.steps.specs.Cases.{Cases}
use Rattle.rule.specs.Time.{span_ok, value_ok, kind_ok, window_ok, effect_end, covers, overlaps}
use Rattle.rule.specs.Pairs.{same_number, same_pair, added, greater, lesser, better, combine}
use Rattle.page.specs.Entries.{last_from, index_of, inserted, push}
use Rattle.lists.specs.Lists.{splice}
use Rattle.image.specs.Images.{page_at, pages_in, length_ok, entries_in, next_in, cell_of, cell_bytes, image_of, image_bytes, fresh_page}
use Rattle.image.specs.Images.{fresh}
use Rattle.steps.specs.Supply.{entries, put, with_supply, spare, taken, given_back, spares, pages_taken, with_root, count_change}
use Rattle.steps.specs.Cut.{cut_leaf_entry, not_split, split, split_if_full, cut_entry, root_entry, grow_root, grow_if_split, cut}
use Rattle.steps.specs.Combine.{inside, next_start, took, sent, combine_entries, combine_over, combine_page, combine_span}
use Rattle.steps.specs.Heal.{heals, short, sibling, left_of, pushed, joint, redistribute, merge, collapse_root, collapse_if_single}
use Rattle.steps.specs.Heal.{starts_leaf, total_from, joins_edge, carried, carry}
use Rattle.steps.specs.Heal.{rebalance, heal_page, heal}
use Rattle.steps.specs.Change.{cuts, lacks_pages, path_from, path, change, cut_names, combine_names, siblings_used, heal_names}
use Rattle.steps.specs.Change.{change_names}
use Rattle.steps.specs.Cases.{enter_in, enter, withdraw, enter_names, withdraw_names, one, grown as grown', collapsed as collapsed'}
use Rattle.steps.specs.Cases.{split_below, redistributed_left, before_merge, merged, four_entries, end_apart, giver_left, no_giver}
use Rattle.steps.specs.Cases.{giver_right, three_levels, apart, edge, equal_sums, equal_pairs, equal_totals, edge_giver, edge_no_giver}
use Rattle.steps.specs.Cases.{spread, joined_right, carried_twice, least_filled, edge_giver_right, equal_below}

pub cases : Cases
unfolding span_ok value_ok kind_ok window_ok effect_end covers same_number same_pair added greater lesser better combine last_from index_of splice inserted push page_at pages_in length_ok entries_in next_in cell_of cell_bytes image_of image_bytes fresh_page fresh entries put with_supply spare taken given_back spares pages_taken with_root count_change cut_leaf_entry not_split split split_if_full cut_entry root_entry grow_root grow_if_split cut inside overlaps next_start took sent combine_entries combine_over combine_page combine_span heals starts_leaf total_from joins_edge carried carry short sibling left_of pushed joint redistribute merge collapse_root collapse_if_single rebalance heal_page heal cuts lacks_pages path_from path change cut_names combine_names siblings_used heal_names change_names enter_in enter withdraw enter_names withdraw_names one grown' collapsed' split_below redistributed_left before_merge merged four_entries end_apart giver_left no_giver giver_right three_levels apart edge equal_sums equal_pairs equal_totals edge_giver edge_no_giver spread joined_right carried_twice least_filled edge_giver_right equal_below
cases =
    record {
      grown_left = refl;
      grown_right = refl;
      grown_root = refl;
      grown_changes = refl;
      lacks_two = refl;
      has_two = refl;
      collapsed_root = refl;
      collapsed_free = refl;
      collapsed_next = refl;
      collapsed_leaf = refl;
      split_parent = refl;
      split_right = refl;
      redistributed_parent = refl;
      redistributed_right = refl;
      merged_parent = refl;
      merged_left = refl;
      zero_counts = refl;
      names_taken = refl;
      names_chain = refl;
      names_split_first = refl;
      names_moved_end = refl;
      names_redistributed_left = refl;
      redistributed_left_before = refl;
      redistributed_left_after = refl;
      names_redistributed_right = refl;
      redistributed_right_before = refl;
      redistributed_right_after = refl;
      names_merged_right = refl;
      names_merged_left = refl;
      merged_left_after = refl;
      names_both_levels = refl;
      both_levels_after = refl;
      names_collapsed = refl;
      names_to_end = refl;
      kept_at_end = refl;
      edge_left = refl;
      edge_right = refl;
      edge_root = refl;
      names_edge = refl;
      edge_of_greatest = refl;
      edge_of_greatest_root = refl;
      edge_of_least = refl;
      equal_sums_stay = refl;
      equal_pairs_stay = refl;
      equal_pairs_root = refl;
      equal_below_stay = refl;
      equal_below_root = refl;
      equal_totals_left = refl;
      equal_totals_right = refl;
      equal_totals_root = refl;
      edge_at_zero = refl;
      edge_gives_left = refl;
      edge_gives_right = refl;
      edge_gives_root = refl;
      names_edge_gives = refl;
      edge_joins_left = refl;
      edge_joins_root = refl;
      edge_joins_free = refl;
      names_edge_joins = refl;
      edge_collapses_leaf = refl;
      edge_collapses_height = refl;
      edge_collapses_free = refl;
      names_edge_collapses = refl;
      edge_below = refl;
      edge_below_leaf = refl;
      edge_below_root = refl;
      carried_leaf = refl;
      carried_parent = refl;
      carried_root = refl;
      names_carried = refl;
      edge_gives_back = refl;
      edge_gives_parent = refl;
      names_edge_gives_back = refl;
      edge_joins_back = refl;
      edge_joins_parent = refl;
      edge_joins_top = refl;
      names_edge_joins_back = refl;
      edge_at_end = refl;
      names_edge_at_end = refl;
      edge_all_root = refl;
      edge_all_leaf = refl;
      edge_all_free = refl;
      names_edge_all = refl;
    }
