-- What the definitions of this crate mean for those below it.
use Rattle.std.specs.Prelude.{◌≡◌, ℕ, true, List, None}
use Rattle.enc_base.specs.declared.token.Token.{Token}
use Rattle.enc_rows.specs.Source.{Source}
use Rattle.enc_plain.specs.Module.{cells_of, kids_of}
use Rattle.enc_plain.specs.Chain.{Chain}
use Rattle.enc_plain.specs.Fits.{HasRuns}
use Rattle.enc_plain.specs.Sound.{HasTables, IsSound}
use Rattle.enc_delta.specs.Seen.{WasRead}
use Rattle.enc_delta.specs.Judged.{first_meta}
use Rattle.enc_delta.specs.Rows.{rows_after}
use Rattle.enc_agg.specs.Extend.{extended, chain_with}
use Rattle.enc_schema.specs.Children.{is_child_table}
use Rattle.enc_delta.specs.Pairs.{attached_of}
use Rattle.enc_delta.specs.Twins.{members}
use Rattle.enc_agg.specs.Follows.{Lands, AllFollow}

-- where a delta's lists, tables, indices and offsets break no rule, the rows by which its updates, members and
-- signatures are judged are those of the plain
-- module that is edited by it
abbrev pub RowsAreTheModules : Type 0
RowsAreTheModules = (c : Chain) (s : Source) (t : Token) → HasTables c.plain → Lands c s
    → rows_after c s t ≡ cells_of (extended c s).plain t

-- and the members of an owner, among which siblings are looked for, are that module's children of it
abbrev pub MembersAreTheModules : Type 0
MembersAreTheModules =
    (c : Chain) (s : Source) (u : Token) (table : ℕ) → HasTables c.plain → HasRuns c.plain → Lands c s
    → is_child_table table ≡ true
    → members c.plain (attached_of s) u table ≡ kids_of (extended c s).plain u table

-- a delta that was read from two files and breaks no rule after a chain leaves a sound module sound
abbrev pub DeltaKeepsSound : Type 0
DeltaKeepsSound = (c : Chain) (s : Source) → WasRead s → first_meta c s ≡ None → IsSound c.plain
    → IsSound (extended c s).plain

-- so does each of deltas that follow one another
abbrev pub ChainsAreSound : Type 0
ChainsAreSound = (base : Source) (deltas : List Source) → AllFollow base deltas → IsSound (chain_with base deltas).plain
