-- The numbers of columns in their tables, in the names of the standard (ECMA-335 II.22; Portable PDB).
use Rattle.std.specs.Prelude.{ℕ}

-- Module
abbrev pub module_generation : ℕ
module_generation = 0

abbrev pub module_name : ℕ
module_name = 1

abbrev pub module_mvid : ℕ
module_mvid = 2

abbrev pub module_enc_id : ℕ
module_enc_id = 3

abbrev pub module_enc_base_id : ℕ
module_enc_base_id = 4

-- TypeRef
abbrev pub type_ref_resolution_scope : ℕ
type_ref_resolution_scope = 0

abbrev pub type_ref_type_name : ℕ
type_ref_type_name = 1

abbrev pub type_ref_type_namespace : ℕ
type_ref_type_namespace = 2

-- TypeDef
abbrev pub type_def_flags : ℕ
type_def_flags = 0

abbrev pub type_def_type_name : ℕ
type_def_type_name = 1

abbrev pub type_def_type_namespace : ℕ
type_def_type_namespace = 2

abbrev pub type_def_extends : ℕ
type_def_extends = 3

abbrev pub type_def_field_list : ℕ
type_def_field_list = 4

abbrev pub type_def_method_list : ℕ
type_def_method_list = 5

-- Field
abbrev pub field_flags : ℕ
field_flags = 0

abbrev pub field_name : ℕ
field_name = 1

abbrev pub field_signature : ℕ
field_signature = 2

-- MethodDef
abbrev pub method_def_rva : ℕ
method_def_rva = 0

abbrev pub method_def_impl_flags : ℕ
method_def_impl_flags = 1

abbrev pub method_def_flags : ℕ
method_def_flags = 2

abbrev pub method_def_name : ℕ
method_def_name = 3

abbrev pub method_def_signature : ℕ
method_def_signature = 4

abbrev pub method_def_param_list : ℕ
method_def_param_list = 5

-- Param
abbrev pub param_flags : ℕ
param_flags = 0

abbrev pub param_sequence : ℕ
param_sequence = 1

abbrev pub param_name : ℕ
param_name = 2

-- MemberRef
abbrev pub member_ref_class : ℕ
member_ref_class = 0

abbrev pub member_ref_name : ℕ
member_ref_name = 1

abbrev pub member_ref_signature : ℕ
member_ref_signature = 2

-- CustomAttribute
abbrev pub custom_attribute_parent : ℕ
custom_attribute_parent = 0

abbrev pub custom_attribute_type : ℕ
custom_attribute_type = 1

abbrev pub custom_attribute_value : ℕ
custom_attribute_value = 2

-- ClassLayout
abbrev pub class_layout_packing_size : ℕ
class_layout_packing_size = 0

abbrev pub class_layout_class_size : ℕ
class_layout_class_size = 1

abbrev pub class_layout_parent : ℕ
class_layout_parent = 2

-- StandAloneSig
abbrev pub stand_alone_sig_signature : ℕ
stand_alone_sig_signature = 0

-- EventMap
abbrev pub event_map_parent : ℕ
event_map_parent = 0

abbrev pub event_map_event_list : ℕ
event_map_event_list = 1

-- Event
abbrev pub event_event_flags : ℕ
event_event_flags = 0

abbrev pub event_name : ℕ
event_name = 1

abbrev pub event_event_type : ℕ
event_event_type = 2

-- PropertyMap
abbrev pub property_map_parent : ℕ
property_map_parent = 0

abbrev pub property_map_property_list : ℕ
property_map_property_list = 1

-- Property
abbrev pub property_flags : ℕ
property_flags = 0

abbrev pub property_name : ℕ
property_name = 1

abbrev pub property_type : ℕ
property_type = 2

-- ModuleRef
abbrev pub module_ref_name : ℕ
module_ref_name = 0

-- TypeSpec
abbrev pub type_spec_signature : ℕ
type_spec_signature = 0

-- FieldRVA
abbrev pub field_rva_rva : ℕ
field_rva_rva = 0

abbrev pub field_rva_field : ℕ
field_rva_field = 1

-- EncLog
abbrev pub enc_log_token : ℕ
enc_log_token = 0

abbrev pub enc_log_func_code : ℕ
enc_log_func_code = 1

-- EncMap
abbrev pub enc_map_token : ℕ
enc_map_token = 0

-- Assembly
abbrev pub assembly_hash_alg_id : ℕ
assembly_hash_alg_id = 0

abbrev pub assembly_major_version : ℕ
assembly_major_version = 1

abbrev pub assembly_minor_version : ℕ
assembly_minor_version = 2

abbrev pub assembly_build_number : ℕ
assembly_build_number = 3

abbrev pub assembly_revision_number : ℕ
assembly_revision_number = 4

abbrev pub assembly_flags : ℕ
assembly_flags = 5

abbrev pub assembly_public_key : ℕ
assembly_public_key = 6

abbrev pub assembly_name : ℕ
assembly_name = 7

abbrev pub assembly_culture : ℕ
assembly_culture = 8

-- AssemblyRef
abbrev pub assembly_ref_major_version : ℕ
assembly_ref_major_version = 0

abbrev pub assembly_ref_minor_version : ℕ
assembly_ref_minor_version = 1

abbrev pub assembly_ref_build_number : ℕ
assembly_ref_build_number = 2

abbrev pub assembly_ref_revision_number : ℕ
assembly_ref_revision_number = 3

abbrev pub assembly_ref_flags : ℕ
assembly_ref_flags = 4

abbrev pub assembly_ref_public_key_or_token : ℕ
assembly_ref_public_key_or_token = 5

abbrev pub assembly_ref_name : ℕ
assembly_ref_name = 6

abbrev pub assembly_ref_culture : ℕ
assembly_ref_culture = 7

abbrev pub assembly_ref_hash_value : ℕ
assembly_ref_hash_value = 8

-- MethodSpec
abbrev pub method_spec_method : ℕ
method_spec_method = 0

abbrev pub method_spec_instantiation : ℕ
method_spec_instantiation = 1

-- Document
abbrev pub document_name : ℕ
document_name = 0

abbrev pub document_hash_algorithm : ℕ
document_hash_algorithm = 1

abbrev pub document_hash : ℕ
document_hash = 2

abbrev pub document_language : ℕ
document_language = 3

-- MethodDebugInformation
abbrev pub method_debug_information_document : ℕ
method_debug_information_document = 0

abbrev pub method_debug_information_sequence_points : ℕ
method_debug_information_sequence_points = 1

-- LocalScope
abbrev pub local_scope_method : ℕ
local_scope_method = 0

abbrev pub local_scope_import_scope : ℕ
local_scope_import_scope = 1

abbrev pub local_scope_variable_list : ℕ
local_scope_variable_list = 2

abbrev pub local_scope_constant_list : ℕ
local_scope_constant_list = 3

abbrev pub local_scope_start_offset : ℕ
local_scope_start_offset = 4

abbrev pub local_scope_length : ℕ
local_scope_length = 5

-- LocalVariable
abbrev pub local_variable_attributes : ℕ
local_variable_attributes = 0

abbrev pub local_variable_index : ℕ
local_variable_index = 1

abbrev pub local_variable_name : ℕ
local_variable_name = 2

-- LocalConstant
abbrev pub local_constant_name : ℕ
local_constant_name = 0

abbrev pub local_constant_signature : ℕ
local_constant_signature = 1

-- ImportScope
abbrev pub import_scope_parent : ℕ
import_scope_parent = 0

abbrev pub import_scope_imports : ℕ
import_scope_imports = 1

-- StateMachineMethod
abbrev pub state_machine_method_move_next_method : ℕ
state_machine_method_move_next_method = 0

abbrev pub state_machine_method_kickoff_method : ℕ
state_machine_method_kickoff_method = 1

-- CustomDebugInformation
abbrev pub custom_debug_information_parent : ℕ
custom_debug_information_parent = 0

abbrev pub custom_debug_information_kind : ℕ
custom_debug_information_kind = 1

abbrev pub custom_debug_information_value : ℕ
custom_debug_information_value = 2
