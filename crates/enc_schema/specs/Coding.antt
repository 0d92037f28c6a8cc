-- The coded indices (ECMA-335 II.24.2.6; the last one is Portable PDB's).
use Rattle.std.specs.Prelude.{ℕ, ◌/◌, ◌%◌, ◌^◌, Bool, true, List, [], ◌∷◌, ◌++◌, map, Option, Some, None, option_map, option_and_then, ◌==◌, if◌then◌else◌, slice_get}
use Rattle.std.specs.List.{list_all}
use Rattle.std.specs.Option.{option_map_or}
use Rattle.enc_base.specs.declared.token.Token.{Token}
use Rattle.enc_base.specs.Token.{nil}
use Rattle.enc_base.specs.Tables.{«module», type_ref, type_def, field, method_def, param, interface_impl, member_ref, decl_security, stand_alone_sig, event, property, module_ref, type_spec, assembly, assembly_ref, file, exported_type, manifest_resource, generic_param, method_spec, generic_param_constraint, document, local_scope, local_variable, local_constant, import_scope}
use Rattle.enc_schema.specs.declared.column.Coding.{Coding}
use Rattle.enc_schema.specs.declared.column.Coding.TheVariants.{TypeDefOrRef, HasConstant, HasCustomAttribute, HasFieldMarshal, HasDeclSecurity, MemberRefParent, HasSemantics, MethodDefOrRef, MemberForwarded, Implementation, CustomAttributeType, ResolutionScope, TypeOrMethodDef, HasCustomDebugInformation}

-- what can have custom attributes, by tag
abbrev pub attributed : List ℕ
attributed =
    method_def ∷ field ∷ type_ref ∷ type_def ∷ param ∷ interface_impl ∷ member_ref ∷ «module»
    ∷ decl_security ∷ property ∷ event ∷ stand_alone_sig ∷ module_ref ∷ type_spec ∷ assembly ∷ assembly_ref
    ∷ file ∷ exported_type ∷ manifest_resource ∷ generic_param ∷ generic_param_constraint ∷ method_spec ∷ []

-- the tables of a coding by tag; a tag with none is of no table
unfoldable pub tables_of : Coding → List (Option ℕ)
tables_of TypeDefOrRef = map Some (type_def ∷ type_ref ∷ type_spec ∷ [])
tables_of HasConstant = map Some (field ∷ param ∷ property ∷ [])
tables_of HasCustomAttribute = map Some attributed
tables_of HasFieldMarshal = map Some (field ∷ param ∷ [])
tables_of HasDeclSecurity = map Some (type_def ∷ method_def ∷ assembly ∷ [])
tables_of MemberRefParent = map Some (type_def ∷ type_ref ∷ module_ref ∷ method_def ∷ type_spec ∷ [])
tables_of HasSemantics = map Some (event ∷ property ∷ [])
tables_of MethodDefOrRef = map Some (method_def ∷ member_ref ∷ [])
tables_of MemberForwarded = map Some (field ∷ method_def ∷ [])
tables_of Implementation = map Some (file ∷ assembly_ref ∷ exported_type ∷ [])
tables_of CustomAttributeType = None ∷ None ∷ Some method_def ∷ Some member_ref ∷ []
tables_of ResolutionScope = map Some («module» ∷ module_ref ∷ assembly_ref ∷ type_ref ∷ [])
tables_of TypeOrMethodDef = map Some (type_def ∷ method_def ∷ [])
tables_of HasCustomDebugInformation =
    map Some (attributed ++ document ∷ local_scope ∷ local_variable ∷ local_constant ∷ import_scope ∷ [])

-- whether all of the tables pass the test
abbrev pub each_table : (ℕ → Bool) → List (Option ℕ) → Bool
each_table test tables = list_all (λ (t : Option ℕ). option_map_or test t true) tables

-- how many low bits hold the tag
unfoldable pub tag_bits : Coding → ℕ
tag_bits TypeDefOrRef = 2
tag_bits HasConstant = 2
tag_bits HasCustomAttribute = 5
tag_bits HasFieldMarshal = 1
tag_bits HasDeclSecurity = 2
tag_bits MemberRefParent = 3
tag_bits HasSemantics = 1
tag_bits MethodDefOrRef = 1
tag_bits MemberForwarded = 1
tag_bits Implementation = 2
tag_bits CustomAttributeType = 3
tag_bits ResolutionScope = 2
tag_bits TypeOrMethodDef = 1
tag_bits HasCustomDebugInformation = 5

-- the table with this tag
unfoldable pub table_with : Coding → ℕ → Option ℕ
table_with kind tag = option_and_then (λ (t : Option ℕ). t) (slice_get (tables_of kind) tag)

-- the token that a coded index stands for: row 0 is nil whatever the tag, else the tag's table has to be there
unfoldable pub decoded : Coding → ℕ → Option Token
decoded kind value =
    if value / 2 ^ tag_bits kind == 0 then Some nil
    else option_map (λ (t : ℕ). record { table = t; row = value / 2 ^ tag_bits kind })
    (table_with kind (value % 2 ^ tag_bits kind))

-- the row that a token names: with row 0 it is nil, whatever its table
abbrev pub named : Token → Token
named token = if token.row == 0 then nil else token
