-- For the contracts of private functions: the walk that is asked of a view.
use Rattle.std.specs.Prelude.{Bool, List}
use Rattle.enc_base.specs.declared.token.Token.{Token}
use Rattle.enc_plain.specs.Module.{Module}
use Rattle.enc_dispatch.specs.declared.climb.Climb.{Climb}
use Rattle.enc_dispatch.specs.declared.wanted.Wanted.{Wanted}
use Rattle.enc_dispatch.specs.declared.wanted.Wanted.TheVariants.{Virtual, Public}
use Rattle.enc_plain.specs.ClassPath.{climb}
use Rattle.enc_dispatch.specs.Walks.{takes_slot, meets}

-- the classes that a climb still meets
abbrev pub left_of : Module → Climb → List Token
left_of m c = climb m c.left c.class

-- the test that a wanted method passes in the place of a declared one
abbrev pub is_wanted : Module → Wanted → Token → Token → Bool
is_wanted m Virtual declared = takes_slot m declared
is_wanted m Public declared = meets m declared
