-- The cases hold: each is computed. Assumes nothing.
use mathlib.Core.Path.{refl}
use Rattle.lists.specs.Lists.{listed, concat_map, times, all_of, sum, total}
use Rattle.rule.specs.Time.{value_ok, kind_ok, window_ok, overlaps}
use Rattle.rule.specs.Pairs.{added, combine, same_number, same_pair}
use Rattle.fields.specs.Bytes.{part, unused, all_are, every}
use Rattle.fields.specs.Numbers.{num, digits, u32_at, i32_at, i64_at, u32_bytes, i32_bytes, i64_bytes}
use Rattle.page.specs.Layout.{capacity_ok, capacity_named, level_of, entry_count, start_at, pair_at, child_at, entry_at, entries_of, unused_ok, entry_bytes, tree_bytes}
use Rattle.page.specs.Layout.{next_of, free_ok, never_used_ok, head_of, head_bytes}
use Rattle.page.specs.Fit.{root_context, end_at, context_below, fewest, entry_count_ok, starts_ok, child_ok, children_ok, pair_ok, pairs_ok}
use Rattle.page.specs.Fit.{page_fit, ranges_ok, field_ok, head_fit}
use Rattle.image.specs.Images.{page_at, pages_in, length_ok, cell_bytes, image_bytes, fresh_page, fresh}
use Rattle.image.specs.Sound.{tree_fit, tree_pages, chain_pages, each_once, sound_before, sound}
use Rattle.image.specs.Neighbours.{neighbours_apart}
use Rattle.image.specs.Listing.{differ_after, neighbours_differ, nothing, stopped, then, in_turn, under, leaf_run, walk_page, walk, walk_over}
use Rattle.tight.specs.Tight.{pages_for, page_entries, entries_before, in_page, level_cells, entries_above, level_sizes, sizes, pages_used, cells}
use Rattle.tight.specs.Tight.{leaf_entry, tight_cells, tight, too_small}
use Rattle.tight.specs.Counts.{pages_on, runs_walked}
use Rattle.tight.specs.Cases.{nth_run, runs, held, image, TightCases}

pub tight_cases : TightCases
unfolding listed concat_map times all_of sum total value_ok kind_ok window_ok overlaps added combine part unused all_are every num digits u32_at i32_at i64_at u32_bytes i32_bytes i64_bytes capacity_ok capacity_named level_of entry_count start_at pair_at child_at entry_at entries_of unused_ok entry_bytes tree_bytes next_of free_ok never_used_ok head_of head_bytes root_context end_at context_below fewest entry_count_ok starts_ok child_ok children_ok pair_ok pairs_ok page_fit ranges_ok field_ok head_fit page_at pages_in length_ok cell_bytes image_bytes fresh_page fresh tree_fit tree_pages chain_pages each_once sound_before neighbours_apart differ_after neighbours_differ same_number same_pair sound nothing stopped then in_turn under leaf_run walk_page walk walk_over pages_for page_entries entries_before in_page level_cells entries_above level_sizes sizes pages_used cells leaf_entry tight_cells tight too_small pages_on runs_walked nth_run runs held image
tight_cases =
    record {
      levels = refl;
      sixty_five = (refl, refl);
      levels_of_six = refl;
      larger_first = (refl, refl, refl, refl, refl);
      five = refl;
      four = refl;
      seventeen = (refl, refl, refl, refl);
      head = refl;
      head_of_six = refl;
      unused = (refl, refl);
      one = refl;
      small = refl;
      small_at_full = refl;
      sound_five = (refl, refl);
      counted = (refl, refl);
      not_joined = refl;
    }
