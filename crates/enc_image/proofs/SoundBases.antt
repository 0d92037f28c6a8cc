-- The module of a base that isn't refused is sound.
use Rattle.std.proofs.Common.{◌≡◌, ℕ, List, None, Ok}
use Rattle.enc_base.specs.Numbers.{AreBytes}
use Rattle.enc_rows.specs.Source.{Source}
use Rattle.enc_plain.specs.Sound.{HasOwners, IsSound}
use Rattle.enc_image.specs.Base.{cells_fault, base_of, chain_of_base, module_in}
use Rattle.enc_image.proofs.Opens.{IsBase, opens}
use Rattle.enc_image.proofs.SoundTables.{base_tables, base_counts, base_kinds}
use Rattle.enc_image.proofs.SoundCells.{base_cells}
use Rattle.enc_image.proofs.SoundOwners.{begun_runs, begun_owned}
use Rattle.enc_image.proofs.SoundSignatures.{base_signatures}

-- its rows have owners and children, whatever else is refused
pub begun_owners : (s : Source) → cells_fault s ≡ None → HasOwners (module_in s)
begun_owners s sound = record { tables = base_tables s; runs = begun_runs s; owned = begun_owned s sound }

pub sound_in : (s : Source) → IsBase s → IsSound (module_in s)
sound_in s base = record { owners = begun_owners s base.cells; counts = base_counts s base; kinds = base_kinds s base.cells; cells = base_cells s base; signatures = base_signatures s base.cells }

pub base_is_sound : (bytes : List ℕ) (s : Source) → AreBytes bytes → base_of bytes ≡ Ok s → IsSound (chain_of_base s).plain
unfolding chain_of_base
base_is_sound bytes s all h = sound_in s (opens bytes s all h)
