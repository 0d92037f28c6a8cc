-- The example is read and printed by computing.
use Rattle.std.proofs.Common.{refl}
use Rattle.enc_base.specs.Order.{first_below}
use Rattle.enc_meta.specs.Heaps.{part, heaps_of, counted_strings, text_entry, text_at, blob_entry, blob_at, sixteen_at, nil_guid}
use Rattle.enc_base.specs.Numbers.{padded}
use Rattle.enc_meta.specs.Root.{root_of, root_in, root_or_fault, root_with, span_of, has_one_table_stream, fault_at, fault_of, has_stream, known, streams, version_len, headers, header_at, name_at, stream_fault}
use Rattle.enc_schema.specs.Schema.{columns_in}
use Rattle.enc_schema.specs.Names.{names_in}
use Rattle.enc_schema.specs.Coding.{tables_of, tag_bits, table_with, decoded}
use Rattle.enc_schema.specs.Widths.{heap_width, index_width, coded_width, row_width, column_start}
use Rattle.enc_rows.specs.Sums.{below, sum_below}
use Rattle.enc_rows.specs.Layout.{stream_tables}
use Rattle.enc_rows.specs.Layout.{count_in, tables_below, width_count, rows_begin, table_start, form_allows, laid_out, whole_layout, layout_of, cell_place, raw_cell}
use Rattle.enc_rows.specs.Runs.{named_at, children_of, all_children, times_named}
use Rattle.enc_rows.specs.Fault.{index_fault_at, owner_fault, index_fault_in_row, index_fault_in, index_fault}
use Rattle.enc_plain.specs.Module.{has_row, row_of, cell_of, kids_of, owner_of}
use Rattle.enc_plain.specs.Reading.{cell_read, cell_with}
use Rattle.enc_image.specs.Base.{cell_in, offset_fault_at, offset_fault_in_row, offset_fault_in, offset_fault, signature_fault_at, signature_fault_in, signature_fault, body_fault_at, body_fault, field_fault, module_in, no_counts, layout_for, source_of, cells_fault, chain_of_base, base_of}
use Rattle.enc_meta.specs.Joined.{entry_in, joined_entry, first_guid}
use Rattle.enc_plain.specs.Apply.{put, put_at, apply, change_row, attach, attach_all}
use Rattle.enc_pe.specs.Container.{container_of}
use Rattle.enc_pe.specs.Loaded.{regions_of}
use Rattle.enc_delta.specs.Delta.{entry_at, map_token, log_in, map_in, listed, place_in, delta_layout, delta_of}
use Rattle.enc_delta.specs.Rules.{own_guid, other_module, not_next, other_base, id_taken, strings_break, users_break, blobs_break, guids_break, heap_fault, late_fault, uneven_at, uneven_table, is_insert, inserts, insert_fault_of, insert_fault_at, insert_fault, counted, changed, set_fault, rows_with, has_parent, follows, log_fault_of, log_fault_at, log_fault, child_fault_at, child_fault_in, child_fault, closed_at, closed_table, reading_after, cell_fault as delta_cell_fault, row_fault as delta_row_fault, table_fault as delta_table_fault, bad_index, bad_offset, too_many_in, too_many, broken_body_at, broken_body, lost_body_at, lost_body}
use Rattle.enc_delta.specs.Judged.{late_token, skipped_row, unmatched_token, bad_entry, unowned_child, first_meta}
use Rattle.enc_delta.specs.Changes.{altered_at, altered_in, altered_cell, field_out_of_layout, method_without_slot, twin_member, bad_signature_at, bad_signature_in, bad_signature, bad_locals_in, bad_locals}
use Rattle.enc_delta.specs.Twins.{has_twin, twin_fault}
use Rattle.enc_plain.specs.Signatures.{signature_column}
use Rattle.enc_agg.specs.Extend.{changes_of, extended, chain_with}
use Rattle.enc_delta.specs.Rows.{cell_after}
use Rattle.enc_delta.specs.Pairs.{attached_of}
use Rattle.enc_agg.specs.Place.{place_of}
use Rattle.enc_text.specs.Text.{digits, token_text, quoted, bracketed, guid_text}
use Rattle.enc_command_line.specs.Lines.{absent_line}
use Rattle.enc_command_line.specs.Listing.{counts_text, base_text, head_text, token_line, delta_text, lines_upto, listing_of}
use Rattle.enc_text.specs.RowText.{joined_below, cell_text, row_place_text, line_text, owner_text, kids_text, code_text, debug_text, row_text_of}
use Rattle.enc_checker.specs.Check.{with_pdb}
use Rattle.enc_commands.specs.Verdict.{judge_deltas, judge_all, base_pdb}
use Rattle.enc_commands.specs.Done.{row_or_absent, shown, listed_as}
use Rattle.enc_commands.specs.Example.{ExampleIsShown, ExampleIsExtended, ExampleIsListed}
use Rattle.hex.specs.Hex.{encode_with}
use Rattle.std.specs.Fmt.{digits as decimal_digits}

pub example_shown : ExampleIsShown
unfolding shown chain_with place_of judge_deltas judge_all base_pdb with_pdb decimal_digits stream_tables base_of source_of root_of root_in root_or_fault root_with span_of has_one_table_stream fault_at fault_of has_stream known streams version_len headers header_at name_at padded stream_fault layout_for no_counts part heaps_of counted_strings text_entry text_at blob_entry blob_at sixteen_at columns_in names_in tables_of tag_bits table_with decoded heap_width index_width coded_width row_width column_start below sum_below count_in tables_below width_count rows_begin table_start form_allows laid_out whole_layout layout_of cell_place raw_cell chain_of_base has_row row_of cell_of cell_read cell_in module_in cells_fault digits token_text quoted bracketed guid_text absent_line joined_below cell_text row_place_text row_text_of row_or_absent encode_with first_below offset_fault_at offset_fault_in_row offset_fault_in offset_fault signature_column signature_fault_at signature_fault_in signature_fault body_fault_at body_fault named_at children_of all_children times_named index_fault_at owner_fault index_fault_in_row index_fault_in index_fault kids_of owner_of cell_with line_text owner_text kids_text container_of regions_of field_fault code_text debug_text
example_shown = refl

pub example_extended : ExampleIsExtended
unfolding shown decimal_digits stream_tables base_of source_of root_of root_in root_or_fault root_with span_of has_one_table_stream fault_at fault_of has_stream known streams version_len headers header_at name_at padded stream_fault layout_for no_counts part heaps_of counted_strings text_entry text_at blob_entry blob_at sixteen_at columns_in names_in tables_of tag_bits table_with decoded heap_width index_width coded_width row_width column_start below sum_below count_in tables_below width_count rows_begin table_start form_allows laid_out whole_layout layout_of cell_place raw_cell chain_of_base has_row row_of cell_of cell_read cell_in module_in cells_fault digits token_text quoted bracketed guid_text absent_line joined_below cell_text row_place_text row_text_of row_or_absent encode_with first_below entry_in joined_entry first_guid nil_guid put put_at apply entry_at map_token log_in map_in listed place_in delta_layout delta_of own_guid other_module not_next other_base id_taken strings_break users_break blobs_break guids_break heap_fault late_fault uneven_at uneven_table is_insert inserts insert_fault_of insert_fault_at insert_fault counted changed set_fault rows_with has_parent follows log_fault_of log_fault_at log_fault child_fault_at child_fault_in child_fault closed_at closed_table reading_after delta_cell_fault delta_row_fault delta_table_fault bad_index bad_offset too_many_in too_many broken_body_at broken_body lost_body_at lost_body altered_at altered_in altered_cell field_out_of_layout method_without_slot twin_member bad_signature_at bad_signature_in bad_signature bad_locals_in bad_locals has_twin twin_fault container_of regions_of field_fault code_text debug_text late_token skipped_row unmatched_token bad_entry unowned_child first_meta cell_after changes_of extended chain_with place_of judge_deltas judge_all base_pdb with_pdb offset_fault_at offset_fault_in_row offset_fault_in offset_fault signature_column signature_fault_at signature_fault_in signature_fault body_fault_at body_fault named_at children_of all_children times_named index_fault_at owner_fault index_fault_in_row index_fault_in index_fault kids_of owner_of cell_with line_text owner_text kids_text attach change_row attach_all attached_of
example_extended = refl

pub example_listed : ExampleIsListed
unfolding listed_as listing_of lines_upto base_text delta_text head_text token_line counts_text shown decimal_digits stream_tables base_of source_of root_of root_in root_or_fault root_with span_of has_one_table_stream fault_at fault_of has_stream known streams version_len headers header_at name_at padded stream_fault layout_for no_counts part heaps_of counted_strings text_entry text_at blob_entry blob_at sixteen_at columns_in names_in tables_of tag_bits table_with decoded heap_width index_width coded_width row_width column_start below sum_below count_in tables_below width_count rows_begin table_start form_allows laid_out whole_layout layout_of cell_place raw_cell chain_of_base has_row row_of cell_of cell_read cell_in module_in cells_fault digits token_text quoted bracketed absent_line joined_below cell_text row_place_text row_text_of row_or_absent encode_with first_below entry_in joined_entry first_guid nil_guid put put_at apply entry_at map_token log_in map_in listed place_in delta_layout delta_of own_guid other_module not_next other_base id_taken strings_break users_break blobs_break guids_break heap_fault late_fault uneven_at uneven_table is_insert inserts insert_fault_of insert_fault_at insert_fault counted changed set_fault rows_with has_parent follows log_fault_of log_fault_at log_fault child_fault_at child_fault_in child_fault closed_at closed_table reading_after delta_cell_fault delta_row_fault delta_table_fault bad_index bad_offset too_many_in too_many broken_body_at broken_body lost_body_at lost_body altered_at altered_in altered_cell field_out_of_layout method_without_slot twin_member bad_signature_at bad_signature_in bad_signature bad_locals_in bad_locals has_twin twin_fault container_of regions_of field_fault code_text debug_text late_token skipped_row unmatched_token bad_entry unowned_child first_meta cell_after changes_of extended chain_with place_of judge_deltas judge_all base_pdb with_pdb offset_fault_at offset_fault_in_row offset_fault_in offset_fault signature_column signature_fault_at signature_fault_in signature_fault body_fault_at body_fault named_at children_of all_children times_named index_fault_at owner_fault index_fault_in_row index_fault_in index_fault kids_of owner_of cell_with line_text owner_text kids_text attach change_row attach_all attached_of
example_listed = refl
