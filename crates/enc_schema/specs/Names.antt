-- The names of every table and its columns in the spelling of the standard (ECMA-335 II.22; Portable PDB from 30 on).
use Rattle.std.specs.Prelude.{ℕ, ◌+◌, List, [], ◌∷◌, Option, slice_get, codes}
use Rattle.enc_schema.specs.Schema.{list_at}

-- by table number: the table's name, and its columns'
abbrev pub names : List (List (List ℕ))
names =
    (codes "Module" ∷ codes "Generation" ∷ codes "Name" ∷ codes "Mvid" ∷ codes "EncId" ∷ codes "EncBaseId" ∷ []) ∷
    (codes "TypeRef" ∷ codes "ResolutionScope" ∷ codes "TypeName" ∷ codes "TypeNamespace" ∷ []) ∷
    (codes "TypeDef" ∷ codes "Flags" ∷ codes "TypeName" ∷ codes "TypeNamespace" ∷ codes "Extends" ∷ codes "FieldList"
    ∷ codes "MethodList" ∷ []) ∷
    (codes "FieldPtr" ∷ codes "Field" ∷ []) ∷
    (codes "Field" ∷ codes "Flags" ∷ codes "Name" ∷ codes "Signature" ∷ []) ∷
    (codes "MethodPtr" ∷ codes "Method" ∷ []) ∷
    (codes "MethodDef" ∷ codes "RVA" ∷ codes "ImplFlags" ∷ codes "Flags" ∷ codes "Name" ∷ codes "Signature"
    ∷ codes "ParamList" ∷ []) ∷
    (codes "ParamPtr" ∷ codes "Param" ∷ []) ∷
    (codes "Param" ∷ codes "Flags" ∷ codes "Sequence" ∷ codes "Name" ∷ []) ∷
    (codes "InterfaceImpl" ∷ codes "Class" ∷ codes "Interface" ∷ []) ∷
    (codes "MemberRef" ∷ codes "Class" ∷ codes "Name" ∷ codes "Signature" ∷ []) ∷
    (codes "Constant" ∷ codes "Type" ∷ codes "Parent" ∷ codes "Value" ∷ []) ∷
    (codes "CustomAttribute" ∷ codes "Parent" ∷ codes "Type" ∷ codes "Value" ∷ []) ∷
    (codes "FieldMarshal" ∷ codes "Parent" ∷ codes "NativeType" ∷ []) ∷
    (codes "DeclSecurity" ∷ codes "Action" ∷ codes "Parent" ∷ codes "PermissionSet" ∷ []) ∷
    (codes "ClassLayout" ∷ codes "PackingSize" ∷ codes "ClassSize" ∷ codes "Parent" ∷ []) ∷
    (codes "FieldLayout" ∷ codes "Offset" ∷ codes "Field" ∷ []) ∷
    (codes "StandAloneSig" ∷ codes "Signature" ∷ []) ∷
    (codes "EventMap" ∷ codes "Parent" ∷ codes "EventList" ∷ []) ∷
    (codes "EventPtr" ∷ codes "Event" ∷ []) ∷
    (codes "Event" ∷ codes "EventFlags" ∷ codes "Name" ∷ codes "EventType" ∷ []) ∷
    (codes "PropertyMap" ∷ codes "Parent" ∷ codes "PropertyList" ∷ []) ∷
    (codes "PropertyPtr" ∷ codes "Property" ∷ []) ∷
    (codes "Property" ∷ codes "Flags" ∷ codes "Name" ∷ codes "Type" ∷ []) ∷
    (codes "MethodSemantics" ∷ codes "Semantics" ∷ codes "Method" ∷ codes "Association" ∷ []) ∷
    (codes "MethodImpl" ∷ codes "Class" ∷ codes "MethodBody" ∷ codes "MethodDeclaration" ∷ []) ∷
    (codes "ModuleRef" ∷ codes "Name" ∷ []) ∷
    (codes "TypeSpec" ∷ codes "Signature" ∷ []) ∷
    (codes "ImplMap" ∷ codes "MappingFlags" ∷ codes "MemberForwarded" ∷ codes "ImportName" ∷ codes "ImportScope" ∷ []) ∷
    (codes "FieldRVA" ∷ codes "RVA" ∷ codes "Field" ∷ []) ∷
    (codes "EncLog" ∷ codes "Token" ∷ codes "FuncCode" ∷ []) ∷
    (codes "EncMap" ∷ codes "Token" ∷ []) ∷
    (codes "Assembly" ∷ codes "HashAlgId" ∷ codes "MajorVersion" ∷ codes "MinorVersion" ∷ codes "BuildNumber"
    ∷ codes "RevisionNumber" ∷ codes "Flags"
    ∷ codes "PublicKey" ∷ codes "Name" ∷ codes "Culture" ∷ []) ∷
    (codes "AssemblyProcessor" ∷ codes "Processor" ∷ []) ∷
    (codes "AssemblyOS" ∷ codes "OSPlatformId" ∷ codes "OSMajorVersion" ∷ codes "OSMinorVersion" ∷ []) ∷
    (codes "AssemblyRef" ∷ codes "MajorVersion" ∷ codes "MinorVersion" ∷ codes "BuildNumber" ∷ codes "RevisionNumber"
    ∷ codes "Flags"
    ∷ codes "PublicKeyOrToken" ∷ codes "Name" ∷ codes "Culture" ∷ codes "HashValue" ∷ []) ∷
    (codes "AssemblyRefProcessor" ∷ codes "Processor" ∷ codes "AssemblyRef" ∷ []) ∷
    (codes "AssemblyRefOS" ∷ codes "OSPlatformId" ∷ codes "OSMajorVersion" ∷ codes "OSMinorVersion"
    ∷ codes "AssemblyRef" ∷ []) ∷
    (codes "File" ∷ codes "Flags" ∷ codes "Name" ∷ codes "HashValue" ∷ []) ∷
    (codes "ExportedType" ∷ codes "Flags" ∷ codes "TypeDefId" ∷ codes "TypeName" ∷ codes "TypeNamespace"
    ∷ codes "Implementation" ∷ []) ∷
    (codes "ManifestResource" ∷ codes "Offset" ∷ codes "Flags" ∷ codes "Name" ∷ codes "Implementation" ∷ []) ∷
    (codes "NestedClass" ∷ codes "NestedClass" ∷ codes "EnclosingClass" ∷ []) ∷
    (codes "GenericParam" ∷ codes "Number" ∷ codes "Flags" ∷ codes "Owner" ∷ codes "Name" ∷ []) ∷
    (codes "MethodSpec" ∷ codes "Method" ∷ codes "Instantiation" ∷ []) ∷
    (codes "GenericParamConstraint" ∷ codes "Owner" ∷ codes "Constraint" ∷ []) ∷
    [] ∷
    [] ∷
    [] ∷
    (codes "Document" ∷ codes "Name" ∷ codes "HashAlgorithm" ∷ codes "Hash" ∷ codes "Language" ∷ []) ∷
    (codes "MethodDebugInformation" ∷ codes "Document" ∷ codes "SequencePoints" ∷ []) ∷
    (codes "LocalScope" ∷ codes "Method" ∷ codes "ImportScope" ∷ codes "VariableList" ∷ codes "ConstantList"
    ∷ codes "StartOffset" ∷ codes "Length" ∷ []) ∷
    (codes "LocalVariable" ∷ codes "Attributes" ∷ codes "Index" ∷ codes "Name" ∷ []) ∷
    (codes "LocalConstant" ∷ codes "Name" ∷ codes "Signature" ∷ []) ∷
    (codes "ImportScope" ∷ codes "Parent" ∷ codes "Imports" ∷ []) ∷
    (codes "StateMachineMethod" ∷ codes "MoveNextMethod" ∷ codes "KickoffMethod" ∷ []) ∷
    (codes "CustomDebugInformation" ∷ codes "Parent" ∷ codes "Kind" ∷ codes "Value" ∷ []) ∷
    []

-- the name of a table and those of its columns, none where there is no such table
unfoldable pub names_in : ℕ → List (List ℕ)
names_in table = list_at names table

abbrev pub table_name_in : ℕ → Option (List ℕ)
table_name_in table = slice_get (names_in table) 0

abbrev pub column_name_in : ℕ → ℕ → Option (List ℕ)
column_name_in table i = slice_get (names_in table) (i + 1)
