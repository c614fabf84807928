-- Every definition that a call computes with, to be opened by one name. Assumes nothing.
use Prim.Native.Nat.{ℕ}
use Rattle.rule.specs.Time.{span_ok, value_ok, kind_ok, window_ok, effect_end, covers, overlaps}
use Rattle.rule.specs.Pairs.{same_number, same_pair, added, greater, lesser, better, combine}
use Rattle.rule.specs.Bounds.{value_or_none}
use Rattle.rule.specs.Averages.{next_taken, nearest, hundredths, signed_as, average}
use Rattle.fields.specs.Bytes.{part, patch, unused, all_are, every}
use Rattle.fields.specs.Numbers.{num, digits, u32_at, i32_at, i64_at, u32_bytes, i32_bytes, i64_bytes}
use Rattle.page.specs.Entries.{last_from, index_of, inserted, push}
use Rattle.lists.specs.Lists.{splice}
use Rattle.page.specs.Layout.{level_of, entry_count, start_at, pair_at, child_at, entry_at, entries_of, unused_ok, entry_bytes, tree_bytes}
use Rattle.page.specs.Layout.{capacity_ok, capacity_named, next_of, free_bytes, free_ok, never_used_ok, head_of, head_bytes}
use Rattle.lists.specs.Lists.{listed, concat_map}
use Rattle.page.specs.Fit.{root_context, end_at, context_below, fewest, entry_count_ok, starts_ok, child_ok, children_ok, pair_ok, pairs_ok}
use Rattle.page.specs.Fit.{page_fit, ranges_ok, field_ok, head_fit}
use Rattle.image.specs.Images.{page_at, pages_in, length_ok, entries_in, next_in, cell_of, cell_bytes, image_of, image_bytes, fresh_page}
use Rattle.image.specs.Images.{capacity_field, half_of, fresh}
use Rattle.image.specs.Sound.{tree_fit, tree_pages, chain_pages, each_once, sound_before, sound}
use Rattle.image.specs.Neighbours.{neighbours_apart}
use Rattle.lists.specs.Lists.{times, all_of, sum, total}
use Rattle.image.specs.Instant.{stopped, leaf_answer, above, look_by, look_up}
use Rattle.image.specs.Listing.{run_bytes, nothing, stopped as stopped', then, in_turn, under, leaf_run, walk_page, walk, join_after, join}
use Rattle.image.specs.Listing.{differ_after, neighbours_differ, walk_over}
use Rattle.tight.specs.Tight.{pages_for, page_entries, entries_before, in_page, level_cells, entries_above, level_sizes, sizes, pages_used, cells}
use Rattle.tight.specs.Tight.{leaf_entry, tight_cells, tight, too_small}
use Rattle.steps.specs.Supply.{entries, put, with_supply, spare, taken, given_back, spares, pages_taken, with_root, count_change}
use Rattle.steps.specs.Cut.{cut_leaf_entry, not_split, split, split_if_full, cut_entry, root_entry, grow_root, grow_if_split, cut}
use Rattle.steps.specs.Combine.{inside, next_start, took, sent, combine_entries, combine_over, combine_page, combine_span}
use Rattle.steps.specs.Heal.{heals, short, sibling, left_of, pushed, joint, redistribute, merge, collapse_root, collapse_if_single}
use Rattle.steps.specs.Heal.{starts_leaf, total_from, joins_edge, carried, carry, rebalance, heal_page, heal}
use Rattle.steps.specs.Change.{cuts, lacks_pages, path_from, path, change, cut_names, combine_names, siblings_used, heal_names}
use Rattle.steps.specs.Change.{change_names}
use Rattle.calls.specs.Changes.{withdraws, effect}
use Rattle.calls.specs.Refusals.{first, borrowed, scratch_ok, cleared, scratch_after}
use Rattle.calls.specs.Calls.{head, head_ok, format_status, format, book_input_rows, book_status, changed, book, instant_status}
use Rattle.calls.specs.Calls.{instant, average_at, runs_over, too_short, written, listing_status, listing, audit_input_rows, audit}
use Rattle.calls.specs.Calls.{full_runs, rebuilt_bytes, rebuild_status, rebuild}
use Rattle.calls.specs.Index.{names_capacity, judge, judged, index_format, format_before, index_book, index_instant, index_average}
use Rattle.calls.specs.Index.{index_listing, index_audit, index_rebuild}
use Rattle.calls.specs.Index.{index_book_bytewise, index_audit_bytewise, index_rebuild_bytewise}

-- To name this on an `unfolding` line is to open them all.
unfoldable pub every_call : ℕ
unfolding span_ok value_ok kind_ok window_ok effect_end covers same_number same_pair added greater lesser better combine value_or_none next_taken nearest hundredths signed_as average part patch unused all_are every num digits u32_at i32_at i64_at u32_bytes i32_bytes i64_bytes last_from index_of splice inserted push level_of entry_count listed start_at pair_at child_at entry_at entries_of unused_ok concat_map entry_bytes tree_bytes next_of free_bytes free_ok never_used_ok head_of head_bytes root_context end_at context_below fewest entry_count_ok starts_ok child_ok children_ok pair_ok pairs_ok page_fit ranges_ok field_ok head_fit page_at pages_in length_ok entries_in next_in cell_of cell_bytes image_of image_bytes fresh_page fresh tree_fit tree_pages chain_pages times all_of each_once sound_before neighbours_apart differ_after neighbours_differ sound stopped leaf_answer above look_by look_up run_bytes nothing stopped' then in_turn under leaf_run overlaps walk_page walk join_after join walk_over entries put with_supply spare taken given_back spares pages_taken with_root count_change cut_leaf_entry not_split split split_if_full cut_entry root_entry grow_root grow_if_split cut inside next_start took sent combine_entries combine_over combine_page combine_span heals starts_leaf total_from joins_edge carried carry short sibling left_of pushed joint redistribute merge collapse_root collapse_if_single rebalance heal_page heal cuts lacks_pages path_from path change cut_names combine_names siblings_used heal_names change_names withdraws effect first borrowed scratch_ok cleared scratch_after head head_ok format_status format book_input_rows book_status changed book instant_status instant average_at runs_over too_short written listing_status listing audit_input_rows audit capacity_ok capacity_named capacity_field half_of names_capacity judge judged index_format format_before index_book index_instant index_average index_listing index_audit index_book_bytewise index_audit_bytewise sum total pages_for page_entries entries_before in_page level_cells entries_above level_sizes sizes pages_used cells leaf_entry tight_cells tight too_small full_runs rebuilt_bytes rebuild_status rebuild index_rebuild index_rebuild_bytewise
every_call = 0
