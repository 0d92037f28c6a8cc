-- How deep references lie in one another: the scopes of TypeRefs, and the tokens in the signatures of TypeSpecs
-- (ECMA-335 II.22.38, II.22.39).
use Rattle.std.specs.Prelude.{◌≡◌, ℕ, zero, suc, ◌+◌, ◌==◌, max, Option, Some, None, nat_lt, if◌then◌else◌}
use Rattle.enc_base.specs.Order.{or_else, first_below}
use Rattle.enc_base.specs.Token.{nth_row}
use Rattle.enc_base.specs.declared.token.Token.{Token}
use Rattle.enc_sigs.specs.declared.kind.SigKind.TheVariants.{TypeSpec}
use Rattle.enc_sigs.specs.Grammar.{is_coded, sig_in}
use Rattle.enc_sigs.specs.Tree.{Forest, none, more, SigTree, forest_of}
use Rattle.enc_plain.specs.Module.{Module, cells_of}
use Rattle.enc_plain.specs.Rows.{Rows, bytes_at, token_at}
use Rattle.enc_plain.specs.Sound.{row_count}
use Rattle.enc_base.specs.Tables as tables
use Rattle.enc_schema.specs.Columns as columns

-- the greatest depth of a token in types; one that names no type has the nil token
abbrev pub deepest : (Token → ℕ) → Forest → ℕ
deepest depth none = 0
deepest depth (more e t n k r) = max (depth t) (max (deepest depth k) (deepest depth r))

-- the same of a signature
abbrev pub deepest_in : (Token → ℕ) → Option SigTree → ℕ
deepest_in depth None = 0
deepest_in depth (Some s) = deepest depth (forest_of s.parts)

-- the depth of a token, counted by a walk of at most so many steps: one more than its scope has for a TypeRef, one
-- more than the deepest token of its
-- signature for a TypeSpec, and 0 for all else
unfoldable pub depth_within : Rows → ℕ → Token → ℕ
depth_within rows zero t = 0
depth_within rows (suc n) t =
    if t.row == 0 then 0
    else if t.table == tables.type_ref then 1 + depth_within rows n (token_at rows t columns.type_ref_resolution_scope)
    else if t.table == tables.type_spec then 1 + deepest_in (depth_within rows n)
    (sig_in is_coded TypeSpec (bytes_at rows t columns.type_spec_signature))
    else 0

-- a walk that has counted 100 ends there
abbrev pub most_depth : ℕ
most_depth = 100

-- the n-th row of a table, n from 0, where it is that deep
unfoldable pub deep_at : Module → ℕ → ℕ → Option Token
deep_at m table n = if nat_lt (depth_within (cells_of m) most_depth (nth_row table n)) most_depth then None
    else Some (nth_row table n)

-- the first TypeRef that is that deep, and else the first TypeSpec
unfoldable pub first_deep : Module → Option Token
first_deep m = or_else (first_below (deep_at m tables.type_ref) (row_count m tables.type_ref))
    (first_below (deep_at m tables.type_spec) (row_count m tables.type_spec))

-- none is: so the depth at which likeness ends is never met
abbrev pub IsShallow : Module → Type 0
IsShallow m = first_deep m ≡ None
