-- The members outside of the module that the interpreter knows, by the names and the signature, whatever the assembly.
use Rattle.std.specs.Prelude.{ℕ, Bool, ◌&&◌, List, [], ◌∷◌, Option, Some, None, bytes_eq, codes, ◌==◌, if◌then◌else◌}
use Rattle.enc_base.specs.declared.token.Token.{Token}
use Rattle.enc_plain.specs.Module.{Module, cells_of}
use Rattle.enc_plain.specs.Rows.{bytes_at, token_at}
use Rattle.enc_schema.specs.Columns as columns
use Rattle.enc_base.specs.Tables as tables
use Rattle.enc_plain.specs.System.{is_of_system}
use Rattle.enc_machine_types.specs.declared.outside.Outside.{Outside}
use Rattle.enc_machine_types.specs.declared.outside.Outside.TheVariants.{NewObject, NewException, WriteLine, WriteLineText, WriteLineNumber, WriteText, ConcatTwo, ConcatThree, AreEqual, TextLength, TextUnit}

-- a member of a type of the namespace System
pub record SystemMember : Type 0 where
  pub type : List ℕ
  pub name : List ℕ
  pub signature : List ℕ
  pub member : Outside

abbrev pub system_member : List ℕ → List ℕ → List ℕ → Outside → SystemMember
system_member type name signature member = record { type = type; name = name; signature = signature; member = member }

abbrev pub system_members : List SystemMember
system_members =
    system_member (codes "Object") (codes ".ctor") (0x20 ∷ 0x00 ∷ 0x01 ∷ []) NewObject
    ∷ system_member (codes "Exception") (codes ".ctor") (0x20 ∷ 0x00 ∷ 0x01 ∷ []) NewException
    ∷ system_member (codes "Console") (codes "WriteLine") (0x00 ∷ 0x00 ∷ 0x01 ∷ []) WriteLine
    ∷ system_member (codes "Console") (codes "WriteLine") (0x00 ∷ 0x01 ∷ 0x01 ∷ 0x0E ∷ []) WriteLineText
    ∷ system_member (codes "Console") (codes "WriteLine") (0x00 ∷ 0x01 ∷ 0x01 ∷ 0x08 ∷ []) WriteLineNumber
    ∷ system_member (codes "Console") (codes "Write") (0x00 ∷ 0x01 ∷ 0x01 ∷ 0x0E ∷ []) WriteText
    ∷ system_member (codes "String") (codes "Concat") (0x00 ∷ 0x02 ∷ 0x0E ∷ 0x0E ∷ 0x0E ∷ []) ConcatTwo
    ∷ system_member (codes "String") (codes "Concat") (0x00 ∷ 0x03 ∷ 0x0E ∷ 0x0E ∷ 0x0E ∷ 0x0E ∷ []) ConcatThree
    ∷ system_member (codes "String") (codes "op_Equality") (0x00 ∷ 0x02 ∷ 0x02 ∷ 0x0E ∷ 0x0E ∷ []) AreEqual
    ∷ system_member (codes "String") (codes "get_Length") (0x20 ∷ 0x00 ∷ 0x08 ∷ []) TextLength
    ∷ system_member (codes "String") (codes "get_Chars") (0x20 ∷ 0x01 ∷ 0x03 ∷ 0x08 ∷ []) TextUnit
    ∷ []

-- a row of MemberRef is this member: by its parent's names, its name and its signature (II.22.25)
unfoldable pub is_system_member : Module → Token → SystemMember → Bool
is_system_member m t s =
    is_of_system m s.type (token_at (cells_of m) t columns.member_ref_class)
    && bytes_eq (bytes_at (cells_of m) t columns.member_ref_name) s.name
    && bytes_eq (bytes_at (cells_of m) t columns.member_ref_signature) s.signature

abbrev pub first_member : Module → Token → List SystemMember → Option Outside
first_member m t [] = None
first_member m t (s ∷ rest) = if is_system_member m t s then Some s.member else first_member m t rest

-- the member that a token names, where it is one of these
unfoldable pub outside_of : Module → Token → Option Outside
outside_of m t = if t.table == tables.member_ref then first_member m t system_members else None
