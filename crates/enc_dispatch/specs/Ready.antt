-- What is made ready for an index, so that it follows its module.
use Rattle.std.specs.Prelude.{IsTrue}
use Rattle.enc_plain.specs.Module.{Module}
use Rattle.enc_plain.specs.Sound.{IsSound}
use Rattle.enc_dispatch.specs.declared.growth.Growth.{Growth}
use Rattle.enc_dispatch.specs.declared.new_dispatch.Change.{Change}
use Rattle.enc_dispatch.specs.declared.new_dispatch.Change.TheVariants.{Whole, More}
use Rattle.enc_dispatch.specs.declared.new_dispatch.NewDispatch.{NewDispatch}
use Rattle.enc_dispatch.specs.declared.rows_read.RowsRead.{RowsRead}
use Rattle.enc_dispatch.specs.Growth.{StandsUpTo, IsGrowth, has_room_for}
use Rattle.enc_dispatch.specs.Index.{StandsForModule}
use Rattle.enc_dispatch.specs.Stored.{DispatchParts}

-- what comes fits into the index, which stands for the rows that were read
pub record IsGrowthFor (d : DispatchParts) (g : Growth) (m : Module) : Type 0 where
  pub room : IsTrue (has_room_for d g)
  pub read : RowsRead
  pub stands : StandsUpTo d m read
  pub comes : IsGrowth d g m read
  pub sound : IsSound m

-- a whole index stands for the module; what comes to this one makes it so
abbrev pub IsChangeFor : DispatchParts → Change → Module → Type 0
IsChangeFor d (Whole whole) m = StandsForModule whole m
IsChangeFor d (More growth) m = IsGrowthFor d growth m

-- put in place in this index, it makes one that stands for the module
unfoldable pub IsPreparedFor : DispatchParts → NewDispatch → Module → Type 0
IsPreparedFor d new m = IsChangeFor d new.change m
