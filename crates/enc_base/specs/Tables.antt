-- The numbers of the tables, in the names of the standard (ECMA-335 II.22; Portable PDB from 30 on).
use Rattle.std.specs.Prelude.{ℕ}

-- how many tables a module can have
abbrev pub table_count : ℕ
table_count = 0x2D

-- the tables of a module, by their numbers
abbrev pub «module» : ℕ
«module» = 0x00

abbrev pub type_ref : ℕ
type_ref = 0x01

abbrev pub type_def : ℕ
type_def = 0x02

abbrev pub field_ptr : ℕ
field_ptr = 0x03

abbrev pub field : ℕ
field = 0x04

abbrev pub method_ptr : ℕ
method_ptr = 0x05

abbrev pub method_def : ℕ
method_def = 0x06

abbrev pub param_ptr : ℕ
param_ptr = 0x07

abbrev pub param : ℕ
param = 0x08

abbrev pub interface_impl : ℕ
interface_impl = 0x09

abbrev pub member_ref : ℕ
member_ref = 0x0A

abbrev pub constant : ℕ
constant = 0x0B

abbrev pub custom_attribute : ℕ
custom_attribute = 0x0C

abbrev pub field_marshal : ℕ
field_marshal = 0x0D

abbrev pub decl_security : ℕ
decl_security = 0x0E

abbrev pub class_layout : ℕ
class_layout = 0x0F

abbrev pub field_layout : ℕ
field_layout = 0x10

abbrev pub stand_alone_sig : ℕ
stand_alone_sig = 0x11

abbrev pub event_map : ℕ
event_map = 0x12

abbrev pub event_ptr : ℕ
event_ptr = 0x13

abbrev pub event : ℕ
event = 0x14

abbrev pub property_map : ℕ
property_map = 0x15

abbrev pub property_ptr : ℕ
property_ptr = 0x16

abbrev pub property : ℕ
property = 0x17

abbrev pub method_semantics : ℕ
method_semantics = 0x18

abbrev pub method_impl : ℕ
method_impl = 0x19

abbrev pub module_ref : ℕ
module_ref = 0x1A

abbrev pub type_spec : ℕ
type_spec = 0x1B

abbrev pub impl_map : ℕ
impl_map = 0x1C

abbrev pub field_rva : ℕ
field_rva = 0x1D

abbrev pub enc_log : ℕ
enc_log = 0x1E

abbrev pub enc_map : ℕ
enc_map = 0x1F

abbrev pub assembly : ℕ
assembly = 0x20

abbrev pub assembly_processor : ℕ
assembly_processor = 0x21

abbrev pub assembly_os : ℕ
assembly_os = 0x22

abbrev pub assembly_ref : ℕ
assembly_ref = 0x23

abbrev pub assembly_ref_processor : ℕ
assembly_ref_processor = 0x24

abbrev pub assembly_ref_os : ℕ
assembly_ref_os = 0x25

abbrev pub file : ℕ
file = 0x26

abbrev pub exported_type : ℕ
exported_type = 0x27

abbrev pub manifest_resource : ℕ
manifest_resource = 0x28

abbrev pub nested_class : ℕ
nested_class = 0x29

abbrev pub generic_param : ℕ
generic_param = 0x2A

abbrev pub method_spec : ℕ
method_spec = 0x2B

abbrev pub generic_param_constraint : ℕ
generic_param_constraint = 0x2C

-- the tables of a PDB
abbrev pub document : ℕ
document = 0x30

abbrev pub method_debug_information : ℕ
method_debug_information = 0x31

abbrev pub local_scope : ℕ
local_scope = 0x32

abbrev pub local_variable : ℕ
local_variable = 0x33

abbrev pub local_constant : ℕ
local_constant = 0x34

abbrev pub import_scope : ℕ
import_scope = 0x35

abbrev pub state_machine_method : ℕ
state_machine_method = 0x36

abbrev pub custom_debug_information : ℕ
custom_debug_information = 0x37
