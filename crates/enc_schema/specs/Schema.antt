-- The columns of every table in the order of the standard (ECMA-335 II.22; Portable PDB from 30 on).
use Rattle.std.specs.Prelude.{ℕ, List, [], ◌∷◌, Option, unwrap_or, slice_get, Bool, true, false}
use Rattle.enc_base.specs.Tables.{type_def, field, method_def, param, event, property, module_ref, assembly_ref, generic_param, document, local_variable, local_constant, import_scope}
use Rattle.enc_schema.specs.declared.column.Column.{Column}
use Rattle.enc_schema.specs.declared.column.Column.TheVariants.{Num8, Num16, Num32, Text, Guid, Blob, Index, Coded, Run}
use Rattle.enc_schema.specs.declared.column.Coding.TheVariants as coding

-- the list at a place, or the empty one past the end
abbrev pub list_at : {A : Type 0} → List (List A) → ℕ → List A
list_at lists i = unwrap_or (slice_get lists i) []

-- by table number
abbrev pub schema : List (List Column)
schema =
    -- 00 Module
    (Num16 ∷ Text ∷ Guid ∷ Guid ∷ Guid ∷ []) ∷
    -- 01 TypeRef
    ((Coded coding.ResolutionScope) ∷ Text ∷ Text ∷ []) ∷
    -- 02 TypeDef
    (Num32 ∷ Text ∷ Text ∷ (Coded coding.TypeDefOrRef) ∷ (Run field) ∷ (Run method_def) ∷ []) ∷
    -- 03 FieldPtr
    ((Index field) ∷ []) ∷
    -- 04 Field
    (Num16 ∷ Text ∷ Blob ∷ []) ∷
    -- 05 MethodPtr
    ((Index method_def) ∷ []) ∷
    -- 06 MethodDef
    (Num32 ∷ Num16 ∷ Num16 ∷ Text ∷ Blob ∷ (Run param) ∷ []) ∷
    -- 07 ParamPtr
    ((Index param) ∷ []) ∷
    -- 08 Param
    (Num16 ∷ Num16 ∷ Text ∷ []) ∷
    -- 09 InterfaceImpl
    ((Index type_def) ∷ (Coded coding.TypeDefOrRef) ∷ []) ∷
    -- 0A MemberRef
    ((Coded coding.MemberRefParent) ∷ Text ∷ Blob ∷ []) ∷
    -- 0B Constant
    (Num8 ∷ (Coded coding.HasConstant) ∷ Blob ∷ []) ∷
    -- 0C CustomAttribute
    ((Coded coding.HasCustomAttribute) ∷ (Coded coding.CustomAttributeType) ∷ Blob ∷ []) ∷
    -- 0D FieldMarshal
    ((Coded coding.HasFieldMarshal) ∷ Blob ∷ []) ∷
    -- 0E DeclSecurity
    (Num16 ∷ (Coded coding.HasDeclSecurity) ∷ Blob ∷ []) ∷
    -- 0F ClassLayout
    (Num16 ∷ Num32 ∷ (Index type_def) ∷ []) ∷
    -- 10 FieldLayout
    (Num32 ∷ (Index field) ∷ []) ∷
    -- 11 StandAloneSig
    (Blob ∷ []) ∷
    -- 12 EventMap
    ((Index type_def) ∷ (Run event) ∷ []) ∷
    -- 13 EventPtr
    ((Index event) ∷ []) ∷
    -- 14 Event
    (Num16 ∷ Text ∷ (Coded coding.TypeDefOrRef) ∷ []) ∷
    -- 15 PropertyMap
    ((Index type_def) ∷ (Run property) ∷ []) ∷
    -- 16 PropertyPtr
    ((Index property) ∷ []) ∷
    -- 17 Property
    (Num16 ∷ Text ∷ Blob ∷ []) ∷
    -- 18 MethodSemantics
    (Num16 ∷ (Index method_def) ∷ (Coded coding.HasSemantics) ∷ []) ∷
    -- 19 MethodImpl
    ((Index type_def) ∷ (Coded coding.MethodDefOrRef) ∷ (Coded coding.MethodDefOrRef) ∷ []) ∷
    -- 1A ModuleRef
    (Text ∷ []) ∷
    -- 1B TypeSpec
    (Blob ∷ []) ∷
    -- 1C ImplMap
    (Num16 ∷ (Coded coding.MemberForwarded) ∷ Text ∷ (Index module_ref) ∷ []) ∷
    -- 1D FieldRVA
    (Num32 ∷ (Index field) ∷ []) ∷
    -- 1E EncLog
    (Num32 ∷ Num32 ∷ []) ∷
    -- 1F EncMap
    (Num32 ∷ []) ∷
    -- 20 Assembly
    (Num32 ∷ Num16 ∷ Num16 ∷ Num16 ∷ Num16 ∷ Num32 ∷ Blob ∷ Text ∷ Text ∷ []) ∷
    -- 21 AssemblyProcessor
    (Num32 ∷ []) ∷
    -- 22 AssemblyOS
    (Num32 ∷ Num32 ∷ Num32 ∷ []) ∷
    -- 23 AssemblyRef
    (Num16 ∷ Num16 ∷ Num16 ∷ Num16 ∷ Num32 ∷ Blob ∷ Text ∷ Text ∷ Blob ∷ []) ∷
    -- 24 AssemblyRefProcessor
    (Num32 ∷ (Index assembly_ref) ∷ []) ∷
    -- 25 AssemblyRefOS
    (Num32 ∷ Num32 ∷ Num32 ∷ (Index assembly_ref) ∷ []) ∷
    -- 26 File
    (Num32 ∷ Text ∷ Blob ∷ []) ∷
    -- 27 ExportedType
    (Num32 ∷ Num32 ∷ Text ∷ Text ∷ (Coded coding.Implementation) ∷ []) ∷
    -- 28 ManifestResource
    (Num32 ∷ Num32 ∷ Text ∷ (Coded coding.Implementation) ∷ []) ∷
    -- 29 NestedClass
    ((Index type_def) ∷ (Index type_def) ∷ []) ∷
    -- 2A GenericParam
    (Num16 ∷ Num16 ∷ (Coded coding.TypeOrMethodDef) ∷ Text ∷ []) ∷
    -- 2B MethodSpec
    ((Coded coding.MethodDefOrRef) ∷ Blob ∷ []) ∷
    -- 2C GenericParamConstraint
    ((Index generic_param) ∷ (Coded coding.TypeDefOrRef) ∷ []) ∷
    -- 2D
    [] ∷
    -- 2E
    [] ∷
    -- 2F
    [] ∷
    -- 30 Document
    (Blob ∷ Guid ∷ Blob ∷ Guid ∷ []) ∷
    -- 31 MethodDebugInformation
    ((Index document) ∷ Blob ∷ []) ∷
    -- 32 LocalScope
    ((Index method_def) ∷ (Index import_scope) ∷ (Index local_variable) ∷ (Index local_constant) ∷ Num32 ∷ Num32 ∷ []) ∷
    -- 33 LocalVariable
    (Num16 ∷ Num16 ∷ Text ∷ []) ∷
    -- 34 LocalConstant
    (Text ∷ Blob ∷ []) ∷
    -- 35 ImportScope
    ((Index import_scope) ∷ Blob ∷ []) ∷
    -- 36 StateMachineMethod
    ((Index method_def) ∷ (Index method_def) ∷ []) ∷
    -- 37 CustomDebugInformation
    ((Coded coding.HasCustomDebugInformation) ∷ Guid ∷ Blob ∷ []) ∷
    []

-- the columns of a table, none where there is no such table
unfoldable pub columns_in : ℕ → List Column
columns_in table = list_at schema table

-- a table's column, from 0
abbrev pub column_in : ℕ → ℕ → Option Column
column_in table i = slice_get (columns_in table) i

-- a column whose number is an offset in `#Strings` or `#Blob`, or the number of a GUID
abbrev pub is_offset : Column → Bool
is_offset Text = true
is_offset Guid = true
is_offset Blob = true
is_offset _ = false
