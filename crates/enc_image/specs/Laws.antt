-- What the definitions of this crate mean.
use Rattle.std.specs.Prelude.{◌≡◌, ℕ, List, Ok}
use Rattle.enc_base.specs.Numbers.{AreBytes}
use Rattle.enc_rows.specs.Source.{Source}
use Rattle.enc_plain.specs.Sound.{IsSound}
use Rattle.enc_image.specs.Base.{base_of, chain_of_base}

-- the module of a file that isn't refused is sound
abbrev pub BaseIsSound : Type 0
BaseIsSound = (bytes : List ℕ) (s : Source) → AreBytes bytes → base_of bytes ≡ Ok s → IsSound (chain_of_base s).plain
