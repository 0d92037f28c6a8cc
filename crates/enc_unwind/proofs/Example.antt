-- The searches of the example are worked out by computing.
use Rattle.std.proofs.Common.{refl}
use Rattle.enc_base.specs.Order.{first_below}
use Rattle.enc_plain.specs.ClassPath.{class_base, climb}
use Rattle.enc_opcodes.specs.Clause.{section_of_kind, section_in, sections_in, data_sections, clause_in, clauses_in, clauses_of}
use Rattle.enc_opcodes.specs.Instruction.{range_at}
use Rattle.enc_plain.specs.Alike.{are_rows, type_refs_alike, assembly_refs_alike, module_refs_alike, refs_alike, type_specs_alike, tokens_alike}
use Rattle.enc_plain.specs.Module.{row_of, has_row}
use Rattle.enc_plain.specs.Rows.{number_at, bytes_at, token_at}
use Rattle.enc_unwind.specs.Example.{ExampleCatches, ExampleRuns}
use Rattle.enc_unwind.specs.Search.{first_clause, catch_among, next_among}
use Rattle.enc_unwind.specs.Thrown.{types_of, is_caught_by}
use Rattle.enc_plain.specs.System.{is_of_system}

pub example_catches : ExampleCatches
unfolding first_below class_base climb section_of_kind section_in sections_in data_sections clause_in clauses_in clauses_of range_at are_rows type_refs_alike assembly_refs_alike module_refs_alike refs_alike type_specs_alike tokens_alike row_of has_row number_at bytes_at token_at first_clause catch_among is_of_system types_of is_caught_by
example_catches = (refl, refl, refl, refl, refl, refl)

pub example_runs : ExampleRuns
unfolding first_below section_of_kind section_in sections_in data_sections clause_in clauses_in clauses_of range_at first_clause next_among
example_runs = (refl, refl, refl, refl, refl, refl)
