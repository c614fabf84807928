-- The cases hold: each is computed, but for the laws of a rule. Assumes nothing.
use mathlib.Core.Path.{◌≡◌, refl}
use mathlib.Core.Bool.{Bool, true, false, cond}
use Rattle.rule.specs.Time.{value_ok, kind_ok, window_ok, overlaps}
use Rattle.rule.specs.declared.Pair.{Pair}
use Rattle.rule.specs.Pairs.{none, greater, better, same_number, same_pair, added, combine}
use Rattle.rule.specs.Bounds.{value_or_none}
use Rattle.fields.specs.Bytes.{part, patch, unused, all_are, every}
use Rattle.fields.specs.Numbers.{num, digits, u32_at, i32_at, i64_at, u32_bytes, i32_bytes, i64_bytes}
use Rattle.page.specs.Entries.{last_from, index_of}
use Rattle.page.specs.Layout.{capacity_ok, capacity_named, level_of, entry_count, start_at, pair_at, child_at, entry_at, entries_of, unused_ok, entry_bytes, tree_bytes}
use Rattle.page.specs.Layout.{next_of, free_bytes, free_ok, never_used_ok, head_of, head_bytes}
use Rattle.lists.specs.Lists.{listed, concat_map}
use Rattle.page.specs.Fit.{root_context, end_at, context_below, fewest, entry_count_ok, starts_ok, child_ok, children_ok, pair_ok, pairs_ok}
use Rattle.page.specs.Fit.{page_fit, ranges_ok, field_ok, head_fit}
use Rattle.image.specs.Images.{page_at, pages_in, length_ok, cell_bytes, image_bytes}
use Rattle.image.specs.Sound.{tree_fit, tree_pages, chain_pages, each_once, sound_before, sound}
use Rattle.lists.specs.Lists.{times, all_of, total}
use Rattle.image.specs.Trail.{each_in_turn, finds_fit, all_fit, up_to_unfit, visits, trail, entry_of, entries_over, every_entry}
use Rattle.image.specs.Trail.{instant_trail, listing_trail, audit_trail}
use Rattle.image.specs.Instant.{stopped, leaf_answer, above, look_by, look_up}
use Rattle.image.specs.Descent.{descend, Associative}
use Rattle.image.specs.Listing.{differ_after, neighbours_differ, nothing, then, in_turn, under, leaf_run, walk_page, walk, walk_over}
use Rattle.image.specs.Neighbours.{neighbours_apart, entries_below, leaf_entries}
use Rattle.image.specs.Looks.{pages_of, found_fit, chain_looks, audit_looks}
use Rattle.image.specs.Cases.{cell, pages, both, whole, hurt, tall_cell, tall, upper, paired, back, down, differing, meeting, edge, alike_in, Cases}

upper_laws : Associative upper
unfolding upper same_number same_pair
upper_laws =
    record { assoc = λ p q r. go p q r (same_pair p none) refl; unit = λ p. refl }
  where
    go : (p q r : Pair) (b : Bool) → same_pair p none ≡ b
        → cond (same_pair (cond b q p) none) r (cond b q p) ≡ cond b (cond (same_pair q none) r q) p
    go p q r true e = refl
    go p q r false e = rw e refl

pub cases : Cases
unfolding value_ok kind_ok window_ok same_number same_pair part patch unused all_are every num digits u32_at i32_at i64_at u32_bytes i32_bytes i64_bytes last_from index_of level_of entry_count listed start_at pair_at child_at entry_at entries_of unused_ok concat_map entry_bytes tree_bytes next_of free_bytes free_ok never_used_ok head_of head_bytes root_context end_at context_below fewest entry_count_ok starts_ok child_ok children_ok pair_ok pairs_ok page_fit capacity_ok capacity_named ranges_ok field_ok head_fit page_at pages_in length_ok cell_bytes image_bytes tree_fit tree_pages chain_pages times all_of each_once sound_before sound overlaps each_in_turn finds_fit all_fit up_to_unfit visits trail entry_of entries_over every_entry instant_trail listing_trail audit_trail pages_of found_fit chain_looks audit_looks added combine stopped leaf_answer above look_by look_up cell pages both whole hurt tall_cell tall greater better descend upper value_or_none paired back down differ_after neighbours_differ differing nothing then in_turn under leaf_run walk_page walk walk_over neighbours_apart entries_below leaf_entries total meeting edge alike_in
cases =
    record {
      whole_sound = refl;
      whole_audit = refl;
      left_hurt = refl;
      right_hurt = refl;
      root_hurt = refl;
      below_hurt = refl;
      page_twice = refl;
      fit_once = refl;
      circle = refl;
      as_many = refl;
      mark_high = refl;
      chain_long = refl;
      chain_to_tree = refl;
      chain_short = refl;
      chain_out = refl;
      upper_rule = upper_laws;
      upper_first = (refl, refl);
      greatest = refl;
      starts = refl;
      ends = refl;
      tall_ends = (refl, refl);
      not_told = refl;
      listing_both = refl;
      listing_left = refl;
      listing_right = refl;
      listing_hurt = refl;
      instant_left = refl;
      instant_right = refl;
      instant_root = refl;
      apart = refl;
      alike = (refl, refl);
      edges_alike = (refl, refl, refl, refl);
      edges_apart = refl;
      edge_entries = refl;
      edges_sound = refl;
      alike_before = refl;
      alike_sound = refl;
    }
