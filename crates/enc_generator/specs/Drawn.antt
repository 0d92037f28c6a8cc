-- For the contracts of private functions: a turn by what it does.
use Rattle.enc_generator.specs.Generated.{Turn, adds, replaces}
use Rattle.enc_generator.specs.declared.draw.Act.{Act}
use Rattle.enc_generator.specs.declared.draw.Act.TheVariants as act

abbrev pub turn_of : Act → Turn
turn_of (act.Adds n) = adds n
turn_of (act.Replaces row n) = replaces row n
