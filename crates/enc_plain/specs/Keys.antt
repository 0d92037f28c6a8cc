-- Keys of tokens and signatures: mixes that alike ones have in common. They tell which are worth comparing; that
-- keys are equal says nothing.
use Rattle.std.specs.Prelude.{◌≡◌, ℕ, zero, suc, ◌+◌, ◌*◌, ◌^◌, is_some, ◌==◌, List, Option, Some, unwrap_or, if◌then◌else◌}
use Rattle.enc_base.specs.declared.token.Token.{Token}
use Rattle.enc_sigs.specs.Mix.{mix_of, mixed, mixed_both, mixed_ends, finished}
use Rattle.enc_sigs.specs.declared.mix.Mix.{Mix}
use Rattle.enc_sigs.specs.Shape.{sig_shape}
use Rattle.enc_sigs.specs.declared.kind.SigKind.TheVariants.{TypeSpec}
use Rattle.enc_key_map.specs.declared.index.Index.{Index}
use Rattle.enc_key_map.specs.declared.key.Key.{Key}
use Rattle.enc_key_map.specs.Index.{value_at}
use Rattle.enc_plain.specs.Rows.{Rows, number_at, bytes_at, token_at}
use Rattle.enc_plain.specs.declared.near.Near.{Near}
use Rattle.enc_plain.specs.Signatures.{kind_in_table, signature_column}
use Rattle.enc_base.specs.Tables as tables
use Rattle.enc_schema.specs.Columns as columns

-- of a token that is alike itself alone
unfoldable pub token_key : Token → Mix
token_key t = mixed (mix_of t.table) t.row

-- of a name by itself
unfoldable pub name_mix : List ℕ → Mix
name_mix bytes = mixed_ends 0x800 (mix_of 0) bytes

-- of a TypeRef's two names
unfoldable pub names_key : Rows → Token → Mix
names_key rows t = mixed_both (name_mix (bytes_at rows t columns.type_ref_type_name))
    (name_mix (bytes_at rows t columns.type_ref_type_namespace))

-- of an AssemblyRef: the version's four numbers and the flags
unfoldable pub version_key : Rows → Token → Mix
version_key rows t = mixed (mixed (mixed (mixed (mixed (mix_of tables.assembly_ref) (number_at rows t 0))
    (number_at rows t 1)) (number_at rows t 2)) (number_at rows t 3)) (number_at rows t 4)

-- all its columns
unfoldable pub assembly_ref_key : Rows → Token → Mix
assembly_ref_key rows t = mixed_ends 0x800 (mixed_ends 0x800 (mixed_ends 0x800 (mixed_ends 0x800 (version_key rows t)
    (bytes_at rows t 5)) (bytes_at rows t 6)) (bytes_at rows t 7)) (bytes_at rows t 8)

-- of a ModuleRef: its name
unfoldable pub module_ref_key : Rows → Token → Mix
module_ref_key rows t = mixed_ends 0x800 (mix_of tables.module_ref) (bytes_at rows t columns.module_ref_name)

-- of a row by itself, without its scope
unfoldable pub reference_key : Rows → Token → Mix
reference_key rows t =
    if t.table == tables.type_ref then names_key rows t
    else if t.table == tables.assembly_ref then assembly_ref_key rows t
    else if t.table == tables.module_ref then module_ref_key rows t
    else token_key t

-- of a token by itself: one that names no row is alike itself alone
unfoldable pub single_key : Rows → Token → Mix
single_key rows t = if is_some (rows t) then reference_key rows t else token_key t

-- the scope of a TypeRef; of any other token itself
unfoldable pub scope_of : Rows → Token → Token
scope_of rows t = if t.table == tables.type_ref then token_at rows t columns.type_ref_resolution_scope else t

-- one key behind another, and where the second ends
abbrev pub scopes_joined : Near → Near → Near
scopes_joined a b = record { mix = mixed_both a.mix b.mix; end = b.end }

-- the keys of a token and of the scopes around it, 2 ^ level in all, and the scope behind them
unfoldable pub near : Rows → ℕ → Token → Near
near rows zero t = record { mix = single_key rows t; end = scope_of rows t }
near rows (suc level) t = scopes_joined (near rows level t) (near rows level (near rows level t).end)

-- so many scopes more
abbrev pub scope_onward : Rows → Near → ℕ → Near
scope_onward rows a level = scopes_joined a (near rows level a.end)

-- of a token and 99 scopes around it, as likeness follows them, and inside the signature of a TypeSpec of 98
unfoldable pub outer : Rows → Token → Near
outer rows t = scope_onward rows (scope_onward rows (near rows 6 t) 5) 2

unfoldable pub inner : Rows → Token → Near
inner rows t = scope_onward rows (scope_onward rows (scope_onward rows (near rows 6 t) 5) 1) 0

-- of the scope where likeness ends: a TypeRef is alike itself alone there
unfoldable pub end_key : Rows → Token → Mix
end_key rows t = if t.table == tables.type_ref then token_key t else single_key rows t

-- with the scope behind them
abbrev pub scope_ended : Rows → Near → Mix
scope_ended rows a = mixed_both a.mix (end_key rows a.end)

-- of a token that is no TypeSpec
unfoldable pub ref_key : Rows → Token → Mix
ref_key rows t = if t.table == tables.type_ref then scope_ended rows (outer rows t) else single_key rows t

-- of any token in the signature of a TypeSpec, where a TypeSpec is alike itself alone
unfoldable pub inner_key : Rows → Token → Mix
inner_key rows t = if t.table == tables.type_ref then scope_ended rows (inner rows t) else single_key rows t

-- of the signature of a TypeSpec: its shape
unfoldable pub spec_shape : Rows → List ℕ → Mix
spec_shape rows blob = sig_shape (inner_key rows) TypeSpec blob

-- of a TypeSpec: that of its signature
unfoldable pub spec_key : Rows → Token → Mix
spec_key rows t = if is_some (rows t) then spec_shape rows (bytes_at rows t columns.type_spec_signature)
    else token_key t

-- of any token
unfoldable pub key_of : Rows → Token → Mix
key_of rows t = if t.table == tables.type_spec then spec_key rows t else ref_key rows t

-- of a signature of a table, in 64 bits
unfoldable pub signature_key : Rows → ℕ → List ℕ → ℕ
signature_key rows table blob = finished (sig_shape (key_of rows) (kind_in_table table blob) blob)

-- of a member's signature; an event has none
unfoldable pub member_key : Rows → Token → ℕ
member_key rows t = if t.table == tables.event then 0
    else signature_key rows t.table (bytes_at rows t (unwrap_or (signature_column t.table) 0))

-- an index has none but what a function gives blobs: each by the table of its rows and by its place
abbrev pub AreOfBlobs : {K : Type 0} → (ℕ → List ℕ → K) → (ℕ → Option (List ℕ)) → Index K → Type 0
AreOfBlobs key stored index =
    (q : Key) (k : _) (blob : List ℕ) → value_at index q ≡ Some k → stored (q.place * 2 ^ 32 + q.row) ≡ Some blob
    → k ≡ key q.table blob

-- the keys of signatures, and the shapes of those of TypeSpecs
abbrev pub AreSignatureKeys : Rows → (ℕ → Option (List ℕ)) → Index ℕ → Type 0
AreSignatureKeys rows = AreOfBlobs (signature_key rows)

abbrev pub AreSpecShapes : Rows → (ℕ → Option (List ℕ)) → Index Mix → Type 0
AreSpecShapes rows = AreOfBlobs (λ (table : ℕ). spec_shape rows)

-- an index has none but what a function gives tokens
abbrev pub AreMixes : (Token → Mix) → Index Mix → Type 0
AreMixes mix index = (q : Key) (k : Mix) → value_at index q ≡ Some k → k ≡ mix (record { table = q.table; row = q.row })

-- the keys of tokens
abbrev pub AreKeys : Rows → Index Mix → Type 0
AreKeys rows = AreMixes (key_of rows)

-- an index has none but the keys of tokens and of scopes around them, by the token and the level
abbrev pub AreScopesNear : Rows → Index Near → Type 0
AreScopesNear rows index = (q : Key) (a : Near) → value_at index q ≡ Some a
    → a ≡ near rows q.place (record { table = q.table; row = q.row })
