-- What an edit list states of the points of its methods, and the plain PDB with its edits made directly (Portable
-- PDB v1.0).
use Rattle.std.specs.Prelude.{◌≡◌, ℕ, zero, suc, ◌+◌, ◌^◌, ◌<◌, ◌≤◌, Bool, true, false, not, ◌&&◌, ◌||◌, List, [], ◌∷◌, length, map, sum_by, Option, Some, None, option_map, is_ok, nat_lt, nat_le, if◌then◌else◌, slice_get}
use Rattle.std.specs.List.{list_any, list_all}
use Rattle.sha2.specs.Sha256.{sha256}
use Rattle.enc_base.specs.Token.{is_token}
use Rattle.enc_base.specs.declared.token.Token.{Token}
use Rattle.enc_base.specs.Tables as tables
use Rattle.enc_seqpoints.specs.declared.point.Point.{Point}
use Rattle.enc_seqpoints.specs.Spelling.{blob_of}
use Rattle.enc_plain.specs.Debug.{Document, MethodDebug, PlainPdb, unknown, plain_point}
use Rattle.enc_edit_list.specs.declared.body.BodyValue.{BodyValue}
use Rattle.enc_edit_list.specs.declared.edit.DocumentValue.{DocumentValue}
use Rattle.enc_edit_list.specs.declared.edit.Edit.{Edit}
use Rattle.enc_edit_list.specs.declared.edit.EditList.{EditList}
use Rattle.enc_edit_list.specs.Sizes.{length_of_code}
use Rattle.enc_rules.specs.Listed.{body_given, points_given}
use Rattle.enc_rules.specs.Rules.{gives_body, has_document, has_points, room_of_points, room_of_document}

-- the GUID of SHA-256 in the order in which `#GUID` stores it, 8829d00f-11b8-4213-878b-770e8597ac16 (Document Table)
abbrev pub sha_256_id : List ℕ
sha_256_id = 0x0f ∷ 0xd0 ∷ 0x29 ∷ 0x88 ∷ 0xb8 ∷ 0x11 ∷ 0x13 ∷ 0x42 ∷ 0x87 ∷ 0x8b ∷ 0x77 ∷ 0x0e ∷ 0x85 ∷ 0x97 ∷ 0xac
    ∷ 0x16 ∷ []

-- a document as a list states it, with the hash of its source (Document Table)
abbrev pub document_stated : DocumentValue → Document
document_stated d = record { name = d.name; algorithm = sha_256_id; hash = sha256 d.source; language = d.language }

-- the document that points count so, from 1
abbrev pub document_numbered : List DocumentValue → ℕ → Option Document
document_numbered documents zero = None
document_numbered documents (suc n) = option_map document_stated (slice_get documents n)

-- the row of a body's local signature, 0 where it has none
abbrev pub locals_row : Option BodyValue → ℕ
locals_row None = 0
locals_row (Some b) = b.locals.row

-- what is known of a method by the edit that gives it its body: with a point its points and the row of its local
-- signature, and else nothing
unfoldable pub debug_stated : List DocumentValue → Edit → MethodDebug
debug_stated documents e =
    if has_points e
    then record {
      locals = locals_row (body_given e);
      points = map (plain_point (document_numbered documents)) (points_given e);
    }
    else unknown

-- of edits, each with the token of its method, the one that gives a method its body
unfoldable pub edit_giving : List Token → List Edit → Token → Option Edit
edit_giving (t ∷ methods) (e ∷ edits) method =
    if gives_body e && is_token t method then Some e else edit_giving methods edits method
edit_giving _ _ method = None

abbrev pub debug_or_kept : List DocumentValue → Option Edit → MethodDebug → MethodDebug
debug_or_kept documents None before = before
debug_or_kept documents (Some e) before = debug_stated documents e

-- the plain PDB with all edits made directly: a method that an edit gives its body has the points of that edit, and
-- all others keep theirs
unfoldable pub pdb_edited : PlainPdb → List Token → EditList → PlainPdb
pdb_edited before methods l method = debug_or_kept l.documents (edit_giving methods l.edits method) (before method)

-- the points of an edit can be spelled, and each has its document (Sequence Points Blob)
abbrev pub edit_points_stand : ℕ → Edit → Bool
edit_points_stand documents e =
    not (has_points e) || (is_ok (blob_of 0 0 (points_given e)) && list_all (has_document documents) (points_given e))

-- so it is of all edits, and where one has points, the PDB has at most 2^29 bytes with all of them
unfoldable pub points_stand : EditList → Bool
points_stand l =
    list_all (edit_points_stand (length l.documents)) l.edits
    && (not (list_any has_points l.edits)
    || nat_le (0x10000 + sum_by room_of_points l.edits + sum_by room_of_document l.documents) (2 ^ 29))

-- the tokens of the methods of edits: one with points has a row of MethodDef, and its local signature one of three
-- bytes; no two edits give one method its body
pub record AreMethods (methods : List Token) (edits : List Edit) : Type 0 where
  pub many : length methods ≡ length edits
  pub each : (k : ℕ) (e : Edit) (t : Token) → slice_get edits k ≡ Some e → slice_get methods k ≡ Some t
      → has_points e ≡ true
      → (t.table ≡ tables.method_def) × (1 ≤ t.row) × (t.row < 2 ^ 24) × (locals_row (body_given e) < 2 ^ 24)
  pub once : (i k : ℕ) (d e : Edit) (t : Token) → i < k → slice_get edits i ≡ Some d → slice_get edits k ≡ Some e
      → gives_body d ≡ true
      → gives_body e ≡ true → slice_get methods i ≡ Some t → slice_get methods k ≡ Some t → ⊥

-- each point of an edit stands in the code of its body
abbrev pub stands_within : Option BodyValue → Point → Bool
stands_within None p = false
stands_within (Some b) p = nat_lt p.offset (length_of_code b.code)

abbrev pub points_lie_within : Edit → Bool
points_lie_within e = list_all (stands_within (body_given e)) (points_given e)
