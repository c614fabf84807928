-- Every definition that a case computes with, to be opened by one name. Assumes nothing.
use Prim.Native.Nat.{ℕ}
use Rattle.calls.specs.Program.{onto_first, cut_at, without_empty_last, lines_of, all_digits, number_read, number_from, instant_read}
use Rattle.calls.specs.Program.{value_read, value_from, line_with, signed_line, line_from, decimal_in, decimal, integer, two_decimals}
use Rattle.calls.specs.Program.{average_text, refused_text, unread_text, run_text, runs_text, ran_line, ran_lines, program}
use Rattle.calls.proofs.Opened.{every_call}
use Rattle.marks.specs.Marks.{formatted, status, after, pair_of, status_and_pair, full_listing, root_entries, one_booking, withdrawn}
use Rattle.marks.specs.Marks.{greatest_booking, in_a_row, example}
use Rattle.marks.specs.Cases.{with_byte, step, small, grown_root, collapsed_again, again, hurt_leaf, unhealed, hurt_root, split_below}
use Rattle.marks.specs.Cases.{redistributed_left, given_right, redistributed_right, merged_right}

-- To name this on an `unfolding` line is to open them all.
unfoldable pub all_definitions : ℕ
unfolding every_call formatted status after pair_of status_and_pair full_listing root_entries one_booking withdrawn greatest_booking in_a_row example with_byte step small grown_root collapsed_again again hurt_leaf unhealed hurt_root split_below redistributed_left given_right redistributed_right merged_right onto_first cut_at without_empty_last lines_of all_digits number_read number_from instant_read value_read value_from line_with signed_line line_from decimal_in decimal integer two_decimals average_text refused_text unread_text run_text runs_text ran_line ran_lines program
all_definitions = 0
