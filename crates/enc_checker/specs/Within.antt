-- The plain PDB of a base and its deltas knows only methods that the module has.
use Rattle.std.specs.Prelude.{◌≡◌, ℕ, List, ◌∷◌, length, Option, Some, None, Result, Ok}
use Rattle.enc_base.specs.declared.refusal.Refusal.{Refusal}
use Rattle.enc_rows.specs.Source.{Source}
use Rattle.enc_base.specs.Tables as tables
use Rattle.enc_plain.specs.Chain.{Chain}
use Rattle.enc_plain.specs.Module.{rows_in}
use Rattle.enc_plain.specs.SoundDebug.{KnowsWithin}
use Rattle.enc_plain.specs.Sound.{row_count}
use Rattle.enc_image.specs.Base.{chain_of_base}
use Rattle.enc_delta.specs.Seen.{WasRead}
use Rattle.enc_agg.specs.Extend.{chain_with}
use Rattle.enc_ppdb.specs.Fault.{pdb_of}
use Rattle.enc_ppdb.specs.PdbChain.{DebugDelta, pdb_begun, pdb_with}
use Rattle.enc_checker.specs.Check.{Accepted, judged, new_bodies}

-- how many methods a chain's module has
abbrev pub method_count : Chain → ℕ
method_count c = row_count c.plain tables.method_def

-- what an accepted delta says of the methods
abbrev pub debug_of_accepted : Accepted → DebugDelta
debug_of_accepted a = record { pdb = a.pdb; changed = new_bodies a.delta }

-- the PDB of a base knows methods of the base alone; where there is none, nothing is known
abbrev pub BaseKnowsWithin : Type 0
BaseKnowsWithin =
    ((base : Source) (bytes : List ℕ) (p : Source)
    → pdb_of bytes (length (rows_in (chain_of_base base).plain tables.method_def)) ≡ Ok p
    → KnowsWithin (pdb_begun (Some p)) (method_count (chain_of_base base)))
    × ((methods : ℕ) → KnowsWithin (pdb_begun None) methods)

-- with a delta that was read from two files and is accepted after a chain, methods of the chain with the delta alone
-- are known, where only those of the
-- chain were known before
abbrev pub DeltaKnowsWithin : Type 0
DeltaKnowsWithin =
    (base : Source) (deltas : List Source) (d : Result Source Refusal) (bytes : Option (List ℕ)) (a : Accepted)
    → WasRead a.delta → judged (chain_with base deltas) d bytes ≡ Ok a
    → (debug : Option Source) (debugs : List DebugDelta)
    → KnowsWithin (pdb_with debug debugs) (method_count (chain_with base deltas))
    → KnowsWithin (pdb_with debug (debug_of_accepted a ∷ debugs)) (method_count (chain_with base (a.delta ∷ deltas)))
