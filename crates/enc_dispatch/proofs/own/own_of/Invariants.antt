use Rattle.std.proofs.Common.{◌≡◌, ◌++◌, ℕ, take}
use Rattle.enc_key_map.specs.Index.{value_at}
use Rattle.enc_dispatch.specs.Entries.{earliest, where_none}
use Rattle.enc_dispatch.specs.Growth.{later_kids}
use Rattle.enc_dispatch.specs.Own.{own_among}
use Rattle.enc_dispatch.specs.Stored.{own_key}
use Rattle.enc_dispatch.proofs.Owns.{in_listed}
use Rattle.enc_dispatch.proofs.own.own_of.Given as goal

abbrev pub invariant-loop-i : goal.invariant-loop-i
invariant-loop-i g l =
    (c s : ℕ)
    → earliest l.own.items (own_key c s)
    ≡ where_none (value_at l.index (own_key c s)) (in_listed (take l.i l.owners) c (own_among (g.V.ModuleView.meaning l.view) (l.methods.first.now ++ l.methods.more.now) l.wanted s (later_kids (g.V.ModuleView.meaning l.view) l.read c)))
