-- For the contracts of private functions: what of a delta was judged already and is good, so that it isn't judged
-- again.
use Rattle.std.specs.Prelude.{ℕ, Bool, unwrap_or, []}
use Rattle.std.specs.BTreeSet.{BTreeSet}
use Rattle.enc_base.specs.Passed.{AllPass}
use Rattle.enc_meta.specs.Joined.{joined_blob}
use Rattle.enc_plain.specs.Signatures.{is_signature}
use Rattle.enc_plain.specs.Bodies.{code_is_good, code_loaded}
use Rattle.enc_delta.specs.declared.signatures.Signatures.{Signatures}
use Rattle.enc_delta.specs.Context.{Joined, joined_rows}
use Rattle.enc_delta.specs.Delta.{listed}
use Rattle.enc_delta.specs.Rules.{rows_with, users_after, heaps_after}
use Rattle.enc_delta.specs.Changes.{locals_begin}

-- a signature of a table stands at an offset of the joined `#Blob`
abbrev pub is_joined_signature : Joined → ℕ → ℕ → Bool
is_joined_signature j table offset = is_signature (rows_with j.chain (listed j.delta)) table
    (unwrap_or (joined_blob (heaps_after j.chain j.delta) offset) [])

-- a good body stands at a place of the delta's code
abbrev pub is_delta_body : Joined → ℕ → Bool
is_delta_body j place = code_is_good (rows_with j.chain (listed j.delta)) (users_after j.chain j.delta)
    (code_loaded j.delta.loaded place)

-- the local signature of the body there, if one is there, is one
abbrev pub has_locals_at : Joined → ℕ → Bool
has_locals_at j place = locals_begin (joined_rows j) (code_loaded j.delta.loaded place)

-- the offsets of signatures of a table
abbrev pub AreJoinedSignatures : Joined → Signatures → Type 0
AreJoinedSignatures j known = AllPass (is_joined_signature j known.table) known.offsets

-- the places of good bodies
abbrev pub AreDeltaBodies : Joined → BTreeSet ℕ → Type 0
AreDeltaBodies j known = AllPass (is_delta_body j) known

-- the places of bodies whose local signatures are ones
abbrev pub HaveLocals : Joined → BTreeSet ℕ → Type 0
HaveLocals j known = AllPass (has_locals_at j) known
