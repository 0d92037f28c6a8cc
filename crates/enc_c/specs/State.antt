-- What an open handle means: a base, the deltas that follow it, and what their PDBs say.
use Rattle.std.specs.Prelude.{ℕ, Bool, true, ◌&&◌, nat_le, List, [], ◌∷◌, length, Option, Some, None, Result, Ok, Err}
use Rattle.enc_base.specs.declared.refusal.Refusal.{Refusal}
use Rattle.enc_base.specs.Tables as tables
use Rattle.enc_rows.specs.Source.{Source}
use Rattle.enc_plain.specs.Module.{Module, rows_in}
use Rattle.enc_plain.specs.Chain.{Chain}
use Rattle.enc_plain.specs.Debug.{PlainPdb}
use Rattle.enc_image.specs.Base.{base_of, chain_of_base}
use Rattle.enc_delta.specs.Delta.{delta_of}
use Rattle.enc_ppdb.specs.Fault.{pdb_of}
use Rattle.enc_checker.specs.Check.{Accepted, judged}
use Rattle.enc_checker.specs.Followed.{Followed, debug_after, followed_by}
use Rattle.enc_chain.specs.Kept.{chain_of}
use Rattle.enc_chain.specs.Opened.{chain_begun}

-- a base with its PDB and the deltas that follow it, and whether all deltas are short enough to be merged
pub record State : Type 0 where
  pub followed : Followed
  pub short : Bool

-- the chain, the plain module and the plain PDB after all deltas
abbrev pub chain_after : State → Chain
chain_after s = chain_of s.followed

abbrev pub module_after : State → Module
module_after s = (chain_after s).plain

abbrev pub pdb_after : State → PlainPdb
pdb_after s = debug_after s.followed

-- bytes that may be absent: where there are none
abbrev pub given_bytes : List ℕ → Option (List ℕ)
given_bytes [] = None
given_bytes (b ∷ bytes) = Some (b ∷ bytes)

-- a base without deltas
abbrev pub begun_state : Source → Option Source → State
begun_state base pdb = record { followed = chain_begun base pdb; short = true }

abbrev pub begun_state_with : Source → Result Source Refusal → Result State Refusal
begun_state_with base (Ok pdb) = Ok (begun_state base (Some pdb))
begun_state_with base (Err e) = Err e

-- a base with its PDB, which is read with as many methods as the base has
abbrev pub state_with_pdb : Source → Option (List ℕ) → Result State Refusal
state_with_pdb base None = Ok (begun_state base None)
state_with_pdb base (Some bytes) =
    begun_state_with base (pdb_of bytes (length (rows_in (chain_of_base base).plain tables.method_def)))

abbrev pub opened_state_with : Result Source Refusal → Option (List ℕ) → Result State Refusal
opened_state_with (Ok base) pdb = state_with_pdb base pdb
opened_state_with (Err e) pdb = Err e

-- what the files of a base come to
unfoldable pub opened_state : List ℕ → Option (List ℕ) → Result State Refusal
opened_state bytes pdb = opened_state_with (base_of bytes) pdb

-- the most bytes of the metadata and of the code of a delta that may be merged, and whether a delta has no more
abbrev pub most_to_merge : ℕ
most_to_merge = 67108864

unfoldable pub is_short_delta : List ℕ → List ℕ → Bool
is_short_delta meta il = nat_le (length meta) most_to_merge && nat_le (length il) most_to_merge

-- with a delta that is accepted, and may be short
abbrev pub followed_state : State → Bool → Accepted → State
followed_state s short a = record { followed = followed_by s.followed a; short = s.short && short }

abbrev pub followed_state_if : State → Bool → Result Accepted Refusal → Result State Refusal
followed_state_if s short (Ok a) = Ok (followed_state s short a)
followed_state_if s short (Err e) = Err e

-- what the files of a delta come to, after those before it
unfoldable pub applied_state : State → List ℕ → List ℕ → Option (List ℕ) → Result State Refusal
applied_state s meta il pdb = followed_state_if s (is_short_delta meta il)
    (judged (chain_after s) (delta_of meta il) pdb)
