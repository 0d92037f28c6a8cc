-- What the files of a base come to.
use Rattle.std.specs.Prelude.{◌≡◌, ℕ, List, [], Option, Some, None, Result, Ok, Err}
use Rattle.enc_base.specs.declared.refusal.Refusal.{Refusal}
use Rattle.enc_rows.specs.Source.{Source}
use Rattle.enc_image.specs.Base.{base_of, chain_of_base}
use Rattle.enc_ppdb.specs.Fault.{pdb_of}
use Rattle.enc_checker.specs.Followed.{Followed}
use Rattle.enc_checker.specs.Within.{method_count}
use Rattle.enc_chain.specs.Kept.{Kept, followed}
use Rattle.enc_chain.specs.declared.chain.OpenFault.{OpenFault}
use Rattle.enc_chain.specs.declared.chain.OpenFault.TheVariants.{Memory, Base, Pdb}

-- a base and its PDB, where it has one, without deltas
abbrev pub chain_begun : Source → Option Source → Followed
chain_begun base pdb = record { base = base; deltas = []; debug = pdb; debugs = [] }

-- with a PDB, which is read with as many methods as the base has
abbrev pub chain_begun_with : Source → Result Source Refusal → Result Followed OpenFault
chain_begun_with base (Ok pdb) = Ok (chain_begun base (Some pdb))
chain_begun_with base (Err e) = Err (Pdb e)

abbrev pub chain_opened_with : Result Source Refusal → Option (List ℕ) → Result Followed OpenFault
chain_opened_with (Err e) pdb = Err (Base e)
chain_opened_with (Ok base) None = Ok (chain_begun base None)
chain_opened_with (Ok base) (Some bytes) = chain_begun_with base (pdb_of bytes (method_count (chain_of_base base)))

-- what the files of a base come to: a chain without deltas, or the first rule that the base breaks, or else its PDB
unfoldable pub chain_opened : List ℕ → Option (List ℕ) → Result Followed OpenFault
chain_opened bytes pdb = chain_opened_with (base_of bytes) pdb

-- the base was read, or refused
abbrev pub OpensBase : Result Source OpenFault → Result Source Refusal → Type 0
OpensBase (Ok s) said = said ≡ Ok s
OpensBase (Err (Base e)) said = said ≡ Err e
OpensBase (Err (Pdb e)) said = ⊥
OpensBase (Err Memory) said = Unit {0}

-- and so its PDB
abbrev pub OpensPdb : Result Source OpenFault → Result Source Refusal → Type 0
OpensPdb (Ok s) said = said ≡ Ok s
OpensPdb (Err (Pdb e)) said = said ≡ Err e
OpensPdb (Err (Base e)) said = ⊥
OpensPdb (Err Memory) said = Unit {0}

-- so it is; want of memory tells nothing
abbrev pub OpensChain : Result Kept OpenFault → Result Followed OpenFault → Type 0
OpensChain (Ok k) said = said ≡ Ok (followed k)
OpensChain (Err Memory) said = Unit {0}
OpensChain (Err e) said = said ≡ Err e
