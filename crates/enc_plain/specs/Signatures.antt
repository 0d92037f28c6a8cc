-- Which columns hold signatures, and of which kind (ECMA-335 II.22, II.23.2).
use Rattle.std.specs.Prelude.{ℕ, Bool, List, [], ◌∷◌, Option, Some, None, is_some, ◌||◌, ◌==◌, if◌then◌else◌}
use Rattle.enc_sigs.specs.declared.kind.SigKind.{SigKind}
use Rattle.enc_sigs.specs.declared.kind.SigKind.TheVariants as kind
use Rattle.enc_sigs.specs.Grammar.{sig_in, is_counted}
use Rattle.enc_base.specs.Tables as tables

-- the column of a table that holds a signature: of Field, MethodDef, MemberRef, StandAloneSig, Property, TypeSpec
-- and MethodSpec (II.22.15, 26, 25, 36, 34,
-- 39, 29)
unfoldable pub signature_column : ℕ → Option ℕ
signature_column table =
    if table == tables.field || table == tables.member_ref || table == tables.property then Some 2
    else if table == tables.method_def then Some 4
    else if table == tables.stand_alone_sig || table == tables.type_spec then Some 0
    else if table == tables.method_spec then Some 1
    else None

-- a member's signature is a field's where it begins with 06, and else a method's (II.23.2.4)
abbrev pub member_kind : List ℕ → SigKind
member_kind [] = kind.Method
member_kind (b ∷ rest) = if b == 0x06 then kind.Field else kind.Method

-- one that stands alone is of locals where it begins with 07 (II.23.2.6), and else as a member's
abbrev pub alone_kind : List ℕ → SigKind
alone_kind [] = kind.Method
alone_kind (b ∷ rest) = if b == 0x07 then kind.Locals else member_kind (b ∷ rest)

-- the kind of a table's signature
unfoldable pub kind_in_table : ℕ → List ℕ → SigKind
kind_in_table table blob =
    if table == tables.field then kind.Field
    else if table == tables.method_def then kind.Method
    else if table == tables.member_ref then member_kind blob
    else if table == tables.stand_alone_sig then alone_kind blob
    else if table == tables.property then kind.Property
    else if table == tables.type_spec then kind.TypeSpec
    else kind.MethodSpec

-- the blob is a signature of its table's kind, by the numbers of rows
unfoldable pub is_signature : (ℕ → ℕ) → ℕ → List ℕ → Bool
is_signature count table blob = is_some (sig_in (is_counted count) (kind_in_table table blob) blob)
