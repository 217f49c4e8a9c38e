-- Wrong answers, as one table with one claim: no row's wrong answer is what the definition gives. Since each call's promise equates its answer, and
-- all that is lent, with the definition, no program that keeps its promises gives one of them.
use Rattle.std.specs.Prelude.{◌≡◌, refl, true, List, [], ◌∷◌}
use Rattle.refusals.specs.Answers.{every, in_front, past_front, number, value_or, place_of, ends_after, all_after}
use Rattle.wire.specs.Taking.{past_dels, found_at, byte_at, pair_at, most_itself, is_itself}
use Rattle.wire.specs.Sending.{sent_in, sent, plain_in, is_plain, room_for, write_at, write_if, after_write, poured}
use Rattle.numbers.specs.Integers.{integer_from, highs_of, spell_of}
use Rattle.numbers.specs.Counts.{count_in}
use Rattle.points.specs.Reading.{by_kind, ends_at, last_at, after_lo_y, after_upper, after_hi_y, point_from, point_at}
use Rattle.points.specs.Writing.{spell_bytes}
use Rattle.coordinates.specs.Coordinates.{coordinate_of}
use Rattle.coordinates.specs.Remembering.{mode_number, slots_of, kept_in}
use Rattle.reports.specs.Reading.{byte_within, report_from, report_at, string_at, after_string}
use Rattle.reports.specs.Writing.{spell_string, is_string}
use Rattle.table.specs.Table.{begins, kind_of}
use Rattle.parameters.specs.Entries.{entry_at, run_at, handed}
use Rattle.parameters.specs.Looking.{part_at, fixed_at, tail_at, parameters_at, after_look}
use Rattle.parameters.specs.Behind.{after_values}
use Rattle.commands.specs.Behind.{mode_by, after_letters}
use Rattle.commands.specs.Reading.{letter_here, second_at, head_at, body_at, command_at, told, after_entries}
use Rattle.writable.specs.Writable.{is_kind, is_tail, fits, is_command}
use Rattle.writing.specs.Writing.{spell_entry, spell_entries, spell_values, spell_tail, spell_parameters, spell_command}
use Rattle.stream.specs.Items.{passed_from, is_filler, command_item, item_at, told_item, item_of, after_item, next_kept, next_start}
use Rattle.lines.specs.Decimals.{digits_of, decimal, field, fields}
use Rattle.lines.specs.Lines.{listed, opening, text_line, del_line, letters, command_head, parameters_words, command_line, pair, refused_line, line_of, last_line}
use Rattle.listing.specs.Listing.{entries_of, line_then, lines_from, lines_of, listing_with, listing_of}
use Rattle.beam.specs.Validity.{is_size, is_bits, on_surface, in_viewport, is_valid}
use Rattle.beam.specs.Settings.{settled, make_fresh, bits_from, set_bits, corners_on, framed, set_viewport, set_beam, stepped, make_step}
use Rattle.pixels.specs.Marks.{place, laid, moved, row_end}
use Rattle.pixels.specs.Writes.{pixels, character_marks, left_after, raster_marks, run_marks, run_total, written, surface_after, draw_raster, raster_surface, draw_runs, runs_surface}
use Rattle.pixel_refusals.specs.Tests.{is_surface, pixel_characters, raster_numbers, raster_characters, run_numbers, write_refusal, raster_refusal, run_refusal}
use Rattle.balance.specs.Balance.{after, returned, ran}
use Rattle.macros.specs.Store.{is_store_entry, three_bytes, encoded, well_formed, keep, body_of, body_in_either, look_refusal, find_refusal, looked_up, placed, body_pointer, has_body, part_by_headers, placed_by_headers, looked_by_headers}
use Rattle.macros.specs.Store.{front_entries}
use Rattle.defining.specs.Defining.{may_define, before_room, define_refusal, store_after}
use Rattle.pieces.specs.Pieces.{command_piece, item_piece, piece_at}
use Rattle.expansion.specs.Expansion.{walked, entering, call_stretch, started, start_refusal, expand_refusal, expand_told, expand_out}
use Rattle.pixel_calls.specs.Fields.{beam_in, fields_of}
use Rattle.parameters.specs.Numbers.{four_of}
use Rattle.stream_calls.specs.Slots.{item_number, kind_slot, item_fields, item_values, remembered_after}
use Rattle.stream_calls.specs.Given.{of_kind, of_tabled, command_given, slots_after}
use Rattle.macro_calls.specs.Slots.{place_fields, count_fields, slots_behind}
use Rattle.sheet.specs.Rows.{Wrong, differs, joined}
use Rattle.sheet.specs.WrongBytes.{column_of_bytes}
use Rattle.sheet.specs.WrongNumbers.{column_of_numbers}
use Rattle.sheet.specs.WrongReports.{column_of_reports}
use Rattle.sheet.specs.WrongCommands.{column_of_commands}
use Rattle.sheet.specs.WrongItems.{column_of_items}
use Rattle.sheet.specs.WrongPixels.{column_of_pixels}
use Rattle.sheet.specs.WrongMacros.{column_of_macros}

abbrev pub wrongs : List Wrong
wrongs =
    joined (column_of_bytes ∷ column_of_numbers ∷ column_of_reports ∷ column_of_commands ∷ column_of_items ∷ column_of_pixels ∷ column_of_macros ∷ [])

-- the one claim
pub none_as_wrong : every differs wrongs ≡ true
unfolding every in_front past_front number value_or place_of ends_after all_after past_dels found_at byte_at pair_at most_itself is_itself sent_in sent plain_in is_plain room_for write_at write_if after_write poured
    integer_from highs_of spell_of count_in by_kind ends_at last_at after_lo_y after_upper after_hi_y point_from point_at spell_bytes coordinate_of byte_within
    report_from report_at string_at after_string spell_string is_string begins kind_of entry_at run_at handed part_at fixed_at tail_at parameters_at
    after_look mode_by after_letters letter_here second_at head_at body_at command_at told after_entries is_kind is_tail fits is_command spell_entry spell_entries spell_values
    after_values spell_tail spell_parameters spell_command passed_from is_filler command_item item_at told_item item_of after_item digits_of decimal field fields listed
    opening text_line del_line letters command_head parameters_words command_line pair refused_line line_of last_line next_start next_kept entries_of line_then lines_from lines_of listing_with listing_of is_size is_bits on_surface in_viewport
    is_valid settled make_fresh bits_from set_bits corners_on framed set_viewport set_beam stepped make_step place laid moved row_end pixels
    character_marks left_after raster_marks run_marks run_total is_surface pixel_characters raster_numbers raster_characters run_numbers write_refusal
    raster_refusal run_refusal written surface_after draw_raster raster_surface draw_runs runs_surface after returned ran three_bytes encoded is_store_entry
    front_entries well_formed keep body_of may_define before_room define_refusal store_after body_in_either look_refusal find_refusal looked_up placed body_pointer
    has_body part_by_headers placed_by_headers looked_by_headers command_piece item_piece piece_at walked entering call_stretch started start_refusal expand_refusal expand_told expand_out
    beam_in fields_of mode_number slots_of kept_in item_number kind_slot item_fields four_of item_values remembered_after of_kind of_tabled command_given
    slots_after place_fields count_fields slots_behind
none_as_wrong = refl
