use Rattle.std.proofs.Common.{◌≡◌, take}
use Rattle.enc_commands.specs.Ending.{after_saves}
use Rattle.enc_commands.specs.Plans.{saves_of}
use Rattle.enc_commands.proofs.finish.save_all.Given as goal

-- the saves so far are made, without a fault
abbrev pub invariant-loop-save : goal.invariant-loop-save
invariant-loop-save g l =
    (g.S.Store.told l.store ≡ after_saves (saves_of (take l.save-index l.saves)) (g.S.Store.told l.fn.store)) × (g.S.Store.faults l.store ≡ g.S.Store.faults l.fn.store)
