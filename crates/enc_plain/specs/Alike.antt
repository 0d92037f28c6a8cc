-- Likeness: which tokens and signatures say the same though they are different. A compiler writes its references
-- anew in each delta.
use Rattle.std.specs.Prelude.{ℕ, zero, suc, Bool, ◌&&◌, ◌||◌, ◌==◌, List, is_some, bytes_eq, if◌then◌else◌}
use Rattle.enc_base.specs.Token.{is_token}
use Rattle.enc_base.specs.declared.token.Token.{Token}
use Rattle.enc_sigs.specs.Agree.{sigs_agree}
use Rattle.enc_plain.specs.Rows.{Rows, number_at, bytes_at, token_at}
use Rattle.enc_plain.specs.Signatures.{kind_in_table}
use Rattle.enc_base.specs.Tables as tables
use Rattle.enc_schema.specs.Columns as columns

-- both are rows of a table
unfoldable pub are_rows : Rows → ℕ → Token → Token → Bool
are_rows rows table a b = a.table == table && b.table == table && is_some (rows a) && is_some (rows b)

-- they have the same number, or the same text or blob, in a column
abbrev pub same_number : Rows → Token → Token → ℕ → Bool
same_number rows a b i = number_at rows a i == number_at rows b i

abbrev pub same_bytes : Rows → Token → Token → ℕ → Bool
same_bytes rows a b i = bytes_eq (bytes_at rows a i) (bytes_at rows b i)

-- TypeRefs with equal names, in alike scopes (II.22.38)
unfoldable pub type_refs_alike : Rows → (Token → Token → Bool) → Token → Token → Bool
type_refs_alike rows scopes a b =
    are_rows rows tables.type_ref a b
    && same_bytes rows a b columns.type_ref_type_name
    && same_bytes rows a b columns.type_ref_type_namespace
    && scopes (token_at rows a columns.type_ref_resolution_scope) (token_at rows b columns.type_ref_resolution_scope)

-- AssemblyRefs that are equal in all columns: the version's four numbers, flags, key, name, culture, hash (II.22.5)
unfoldable pub assembly_refs_alike : Rows → Token → Token → Bool
assembly_refs_alike rows a b =
    are_rows rows tables.assembly_ref a b
    && same_number rows a b 0 && same_number rows a b 1 && same_number rows a b 2 && same_number rows a b 3
    && same_number rows a b 4
    && same_bytes rows a b 5 && same_bytes rows a b 6 && same_bytes rows a b 7 && same_bytes rows a b 8

-- ModuleRefs with equal names (II.22.31)
unfoldable pub module_refs_alike : Rows → Token → Token → Bool
module_refs_alike rows a b = are_rows rows tables.module_ref a b && same_bytes rows a b columns.module_ref_name

-- equal tokens, and references alike by at most so many scopes one in the other; past that equal ones alone
unfoldable pub refs_alike : Rows → ℕ → Token → Token → Bool
refs_alike rows zero a b = is_token a b
refs_alike rows (suc depth) a b = is_token a b || type_refs_alike rows (refs_alike rows depth) a b
    || assembly_refs_alike rows a b || module_refs_alike rows a b

-- what is alike inside the signature of a TypeSpec, where a TypeSpec is alike itself alone
abbrev pub inner_alike : Rows → Token → Token → Bool
inner_alike rows = refs_alike rows 99

-- two blobs of a table: the same bytes, or signatures that are equal but for alike tokens
abbrev pub blobs_alike : (Token → Token → Bool) → ℕ → List ℕ → List ℕ → Bool
blobs_alike same table a b = bytes_eq a b || sigs_agree same (kind_in_table table a) a b

-- TypeSpecs with alike signatures (II.22.39)
unfoldable pub type_specs_alike : Rows → Token → Token → Bool
type_specs_alike rows a b =
    are_rows rows tables.type_spec a b
    && blobs_alike (inner_alike rows) tables.type_spec (bytes_at rows a columns.type_spec_signature)
    (bytes_at rows b columns.type_spec_signature)

-- tokens are alike: equal, or references or TypeSpecs that are alike. Likeness ends at a depth of 100, where a
-- scope, and a token in a TypeSpec, is one deeper
unfoldable pub tokens_alike : Rows → Token → Token → Bool
tokens_alike rows a b = refs_alike rows 100 a b || type_specs_alike rows a b

-- what is alike in the signatures of a table
abbrev pub alike_in_table : Rows → ℕ → Token → Token → Bool
alike_in_table rows table = if table == tables.type_spec then inner_alike rows else tokens_alike rows

-- the signatures of a table's rows are alike
unfoldable pub signatures_alike : Rows → ℕ → List ℕ → List ℕ → Bool
signatures_alike rows table a b = blobs_alike (alike_in_table rows table) table a b
