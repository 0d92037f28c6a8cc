-- The law of committed bodies, as a fact of all modules.
use Rattle.std.specs.Prelude.{◌≡◌, ℕ, ◌≤◌, false, List, length, Option, Some, None, IsTrue}
use Rattle.enc_base.specs.declared.token.Token.{Token}
use Rattle.enc_opcodes.specs.Body.{Body, KeepsTexts}
use Rattle.enc_plain.specs.Cell.{body}
use Rattle.enc_plain.specs.Debug.{PlainPdb}
use Rattle.enc_plain.specs.Module.{Module, rows_in, has_row, cell_of}
use Rattle.enc_base.specs.Tables.{method_def}
use Rattle.enc_versions.specs.Commit.{NewVersion, brought, last_row, AreCommitted}
use Rattle.enc_versions.specs.StandFor.{IsVersionOf, AreVersionsOf}
use Rattle.enc_versions.specs.Version.{Version}

-- a module, its PDB and its user texts, by which code means a body
pub record Meant : Type 0 where
  pub users : ℕ → Option (List ℕ)
  pub plain : Module
  pub pdb : PlainPdb

-- the token names a method
abbrev pub IsMethodOf : Meant → Token → Type 0
IsMethodOf m method = (method.table ≡ method_def) × IsTrue (has_row m.plain method)

-- new bodies are those of a change: each that is brought is its method's; other methods keep body and points where
-- they were there, and have no body where
-- they are new
pub record AreNewIn (new : List NewVersion) (m n : Meant) : Type 0 where
  pub rows : length (rows_in m.plain method_def) ≤ length (rows_in n.plain method_def)
  pub within : last_row new ≤ length (rows_in n.plain method_def)
  pub changed : (method : Token) → IsMethodOf n method → (v : Version) → brought new method ≡ Some v
      → IsVersionOf n.users n.plain n.pdb method (Some v)
  pub kept : (method : Token) → IsMethodOf m method → brought new method ≡ None
      → cell_of n.plain method 0 ≡ cell_of m.plain method 0
  pub known : (method : Token) (b : Body) → IsMethodOf m method → cell_of m.plain method 0 ≡ Some (body (Some b))
      → brought new method ≡ None
      → n.pdb method ≡ m.pdb method
  pub added : (method : Token) → IsMethodOf n method → has_row m.plain method ≡ false → brought new method ≡ None
      → cell_of n.plain method 0 ≡ Some (body None)

-- newest bodies that stand for a module, after such new ones were committed, stand for the next
abbrev pub CommitStands : Type 0
CommitStands = (m n : Meant) (new : List NewVersion) (before after : List (Option Version))
    → AreVersionsOf m.users m.plain m.pdb before
    → AreNewIn new m n
    → KeepsTexts m.users n.users
    → AreCommitted new before after
    → AreVersionsOf n.users n.plain n.pdb after
