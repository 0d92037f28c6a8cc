-- What a root that is built becomes, once its heaps or its tables were changed.
use Rattle.std.specs.Prelude.{ℕ, List}
use Rattle.std.specs.Borrow.{Lends, MutBor, Fml}
use Rattle.enc_meta.specs.Built.{Built}
use Rattle.enc_meta.specs.contracts.builder.HeapBuilder.{the_row as heaps_row}
use Rattle.enc_rows.specs.contracts.builder.TableBuilder.{the_row as tables_row}
use Rattle.enc_emit.specs.Written.{Parts}
use Rattle.enc_emit.specs.contracts.root.RootBuilder.{the_row}

-- the heaps that are left
abbrev pub LendsHeaps : MutBor Parts → MutBor Built → Fml
LendsHeaps b r = Lends the_row heaps_row b r (λ w. record { heaps = w; rows = b.now.rows })

-- the rows that are left
abbrev pub LendsTables : MutBor Parts → MutBor (List (List (List ℕ))) → Fml
LendsTables b r = Lends the_row tables_row b r (λ w. record { heaps = b.now.heaps; rows = w })
