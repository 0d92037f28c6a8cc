use Rattle.std.proofs.Common.{◌≡◌, ◌++◌, ℕ, take}
use Rattle.enc_base.specs.Order.{or_else}
use Rattle.enc_key_map.specs.Index.{value_at}
use Rattle.enc_dispatch.specs.Entries.{earliest, where_none}
use Rattle.enc_dispatch.specs.Own.{own_among, in_class}
use Rattle.enc_dispatch.specs.Stored.{own_key}
use Rattle.enc_dispatch.proofs.own.push_kids.Given as goal

abbrev pub invariant-loop-i : goal.invariant-loop-i
invariant-loop-i g l =
    (c s : ℕ)
    → earliest l.own.items (own_key c s)
    ≡ or_else (earliest l.fn.own.items (own_key c s)) (where_none (value_at l.index (own_key c s)) (in_class l.class c (own_among (g.V.ModuleView.meaning l.view) (l.methods.first.now ++ l.methods.more.now) l.wanted s (take l.i l.kids))))
