-- The bodies that a delta brings, with their sequence points.
use Rattle.std.specs.Prelude.{◌≡◌, ℕ, false, List, [], map, Option, None, Ok, unwrap_or, IsTrue}
use Rattle.std.specs.List.{list_any}
use Rattle.enc_agg.specs.Extend.{extended}
use Rattle.enc_base.specs.Token.{is_token}
use Rattle.enc_base.specs.declared.token.Token.{Token}
use Rattle.enc_checker.specs.Check.{new_code, new_bodies, accepted, judged}
use Rattle.enc_delta.specs.Delta.{listed}
use Rattle.enc_delta.specs.Judged.{first_meta}
use Rattle.enc_delta.specs.Seen.{WasRead}
use Rattle.enc_dispatch.specs.Changed.{IsChangedBy}
use Rattle.enc_meta.specs.Joined.{joined_user}
use Rattle.enc_opcodes.specs.Body.{Code}
use Rattle.enc_plain.specs.Chain.{Chain}
use Rattle.enc_plain.specs.Debug.{PlainPdb}
use Rattle.enc_plain.specs.Module.{has_row}
use Rattle.enc_plain.specs.Sound.{IsSound}
use Rattle.enc_ppdb.specs.PdbChain.{delta_row, points_at, pdb_changed}
use Rattle.enc_remap.specs.Remap.{newest_code}
use Rattle.enc_rows.specs.Source.{Source}
use Rattle.enc_base.specs.Tables.{method_def}
use Rattle.enc_versions.specs.Commit.{NewVersion}
use Rattle.enc_versions.specs.Laws.{Meant, AreNewIn}

-- a body without code, which no method has
abbrev pub no_code : Code
no_code = record { max = 0; init = false; locals = record { table = 0; row = 0 }; code = []; sections = [] }

-- what a delta and its PDB bring a method: its body there, and the points of its row there, none where it has no row
abbrev pub new_version : Source → Option Source → Token → NewVersion
new_version d pdb method = record {
  method = method;
  version = record { code = unwrap_or (new_code d method) no_code; points = points_at (delta_row pdb method) };
}

-- and all methods that have a new body
unfoldable pub new_versions : Source → Option Source → List NewVersion
new_versions d pdb = map (new_version d pdb) (new_bodies d)

-- a chain with a plain PDB, as the newest bodies stand for it
abbrev pub meant_by : Chain → PlainPdb → Meant
meant_by c debug = record { users = joined_user c.heaps; plain = c.plain; pdb = debug }

-- those of an accepted delta are the new bodies of the module and the PDB with it
abbrev pub AcceptedBodiesAreNew : Type 0
AcceptedBodiesAreNew =
    (c : Chain) (d : Source) (pdb : Option Source) (bytes : Option (List ℕ)) (debug : PlainPdb)
    → WasRead d → judged c (Ok d) bytes ≡ Ok (accepted d pdb) → IsSound c.plain
    → AreNewIn (new_versions d pdb) (meant_by c debug)
    (meant_by (extended c d) (pdb_changed debug (record { pdb = pdb; changed = new_bodies d })))

-- and its module comes of the one before by the rows that the delta lists
abbrev pub AcceptedRowsAreChanged : Type 0
AcceptedRowsAreChanged =
    (c : Chain) (d : Source) → WasRead d → first_meta c d ≡ None → IsSound c.plain
    → IsChangedBy c.plain (extended c d).plain (listed d)

-- a delta that brings a method no body leaves the body and the points that it has now: so the newest generation that
-- brought it one says which body it has
abbrev pub OtherBodiesStay : Type 0
OtherBodiesStay =
    (c : Chain) (d : Source) (pdb : Option Source) (bytes : Option (List ℕ)) (debug : PlainPdb) (method : Token)
    → WasRead d → judged c (Ok d) bytes ≡ Ok (accepted d pdb) → IsSound c.plain
    → method.table ≡ method_def → IsTrue (has_row c.plain method) → list_any (is_token method) (new_bodies d) ≡ false
    → newest_code (extended c d).plain (pdb_changed debug (record { pdb = pdb; changed = new_bodies d })) method
    ≡ newest_code c.plain debug method
