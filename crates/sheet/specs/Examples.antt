-- Worked examples, as one table with one claim: stores, expansions and lines.
use Rattle.std.specs.Prelude.{◌≡◌, refl, List, ◌++◌, map}
use Rattle.refusals.specs.Answers.{every, in_front, past_front, ends_after, all_after}
use Rattle.wire.specs.Taking.{past_dels, found_at, byte_at, pair_at}
use Rattle.numbers.specs.Integers.{integer_from}
use Rattle.numbers.specs.Counts.{count_in}
use Rattle.points.specs.Reading.{by_kind, ends_at, last_at, after_lo_y, after_upper, after_hi_y, point_from, point_at}
use Rattle.table.specs.Table.{kind_of, begins}
use Rattle.parameters.specs.Entries.{entry_at, run_at}
use Rattle.parameters.specs.Looking.{part_at, fixed_at, tail_at, parameters_at}
use Rattle.parameters.specs.Behind.{after_values}
use Rattle.commands.specs.Behind.{mode_by, after_letters}
use Rattle.commands.specs.Reading.{letter_here, second_at, head_at, body_at, command_at}
use Rattle.stream.specs.Items.{passed_from, is_filler, command_item, item_at, told_item, item_of, next_start, next_kept}
use Rattle.lines.specs.Decimals.{digits_of, decimal, field, fields}
use Rattle.lines.specs.Lines.{listed, opening, text_line, del_line, letters, command_head, parameters_words, command_line, pair, refused_line, line_of, last_line}
use Rattle.listing.specs.Listing.{entries_of, line_then, lines_from, lines_of, listing_with, listing_of}
use Rattle.macros.specs.Store.{is_store_entry, three_bytes, encoded, well_formed, keep, body_of, body_in_either, look_refusal, find_refusal, looked_up, placed}
use Rattle.macros.specs.Store.{front_entries}
use Rattle.defining.specs.Defining.{may_define, before_room, define_refusal, store_after}
use Rattle.pieces.specs.Pieces.{command_piece, item_piece, piece_at}
use Rattle.expansion.specs.Expansion.{walked, entering, call_stretch, started, start_refusal, expand_refusal, expand_told, expand_out}
use Rattle.sheet.specs.Rows.{SheetRow, given-of, paper-of}
use Rattle.sheet.specs.MacroRows.{store-examples, expansion_examples}
use Rattle.sheet.specs.LineRows.{line_examples}

abbrev pub examples : List SheetRow
examples = store-examples ++ expansion_examples ++ line_examples

-- the one claim
pub all_as_shown : map given-of examples ≡ map paper-of examples
unfolding every in_front past_front ends_after all_after past_dels found_at byte_at pair_at integer_from count_in by_kind ends_at last_at after_lo_y after_upper after_hi_y point_from point_at kind_of begins entry_at run_at part_at fixed_at tail_at parameters_at after_values mode_by after_letters letter_here second_at head_at body_at command_at passed_from is_filler command_item item_at told_item item_of digits_of decimal field fields listed opening text_line del_line letters command_head parameters_words command_line pair refused_line line_of last_line next_start next_kept entries_of line_then lines_from lines_of listing_with listing_of three_bytes encoded is_store_entry front_entries well_formed keep body_of may_define before_room define_refusal store_after body_in_either look_refusal find_refusal looked_up placed command_piece item_piece piece_at walked entering call_stretch started start_refusal expand_refusal expand_told expand_out
all_as_shown = refl
