-- For the contracts of private functions: what was judged already and is good, so that it isn't judged again.
use Rattle.std.specs.Prelude.{ℕ, Bool, ◌&&◌}
use Rattle.std.specs.BTreeSet.{BTreeSet}
use Rattle.enc_base.specs.Passed.{AllPass}
use Rattle.enc_rows.specs.Layout.{rows_of}
use Rattle.enc_rows.specs.Source.{Source}
use Rattle.enc_plain.specs.Signatures.{is_signature}
use Rattle.enc_plain.specs.Bodies.{code_is_good, code_loaded}
use Rattle.enc_image.specs.Base.{users_of, blob_or_none, has_locals}

-- a signature of a table stands at an offset
abbrev pub is_signature_at : Source → ℕ → ℕ → Bool
is_signature_at s table offset = is_signature (rows_of s.layout) table (blob_or_none s offset)

-- a good body stands at an RVA, and its local signature is one
abbrev pub is_body_at : Source → ℕ → Bool
is_body_at s rva = code_is_good (rows_of s.layout) (users_of s) (code_loaded s.loaded rva)
    && has_locals s (code_loaded s.loaded rva)

-- the offsets of signatures of a table
abbrev pub AreSignatures : Source → ℕ → BTreeSet ℕ → Type 0
AreSignatures s table known = AllPass (is_signature_at s table) known

-- the RVAs of good bodies
abbrev pub AreBodies : Source → BTreeSet ℕ → Type 0
AreBodies s known = AllPass (is_body_at s) known
