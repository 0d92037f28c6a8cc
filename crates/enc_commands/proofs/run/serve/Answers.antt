use Rattle.std.proofs.Common.{refl}
use Rattle.enc_commands.specs.Served.{IsServed}
use Rattle.enc_commands.proofs.Served.{as_number, carried_out, out_of_memory, store_failed, stood}
use Rattle.enc_commands.proofs.run.serve.Goals as goal

pub returns-in-Ok : goal.returns-in-Ok
unfolding IsServed
returns-in-Ok g c =
    let same = stood (g.S.Store.faults c.args.store.now) (g.S.Store.faults c.plan_of.new.store) (λ is. cc) c.in-Ok.ensures.cause in
    as_number _ _ _ _ _ _ c.number.ensures
    (carried_out _ _ c.in-Ok.plan c.finish.result (g.S.Store.told c.args.store.now) (g.S.Store.told c.finish.new.store) (g.S.Store.faults c.args.store.now) (g.S.Store.faults c.finish.new.store) _
    c.in-Ok.ensures.plan c.in-Ok.ensures.usage c.in-Ok.ensures.words c.in-Ok.ensures.kept
    (rw same at c.finish.ensures.store) c.finish.ensures.sink c.finish.ensures.ending (rw c.in-Ok.ensures.stays at c.finish.ensures.files) c.finish.ensures.prints)

pub returns-in-Err-Plan : goal.returns-in-Err-Plan
unfolding IsServed
returns-in-Err-Plan g c =
    let same = stood (g.S.Store.faults c.args.store.now) (g.S.Store.faults c.plan_of.new.store) (λ is. cc) (rw c.in-Err-Plan.field-0-is at c.in-Err-Plan.ensures.cause) in
    as_number _ _ _ _ _ _ c.number-in-Err-Plan.ensures
    (carried_out _ _ c.in-Err-Plan.plan c.finish-in-Err-Plan.result (g.S.Store.told c.args.store.now) (g.S.Store.told c.finish-in-Err-Plan.new.store) (g.S.Store.faults c.args.store.now) (g.S.Store.faults c.finish-in-Err-Plan.new.store) _
    (rw c.in-Err-Plan.field-0-is at c.in-Err-Plan.ensures.plan) (rw c.in-Err-Plan.field-0-is at c.in-Err-Plan.ensures.usage)
    (rw c.in-Err-Plan.field-0-is at c.in-Err-Plan.ensures.words) (rw c.in-Err-Plan.field-0-is at c.in-Err-Plan.ensures.kept)
    (rw same at c.finish-in-Err-Plan.ensures.store) c.finish-in-Err-Plan.ensures.sink c.finish-in-Err-Plan.ensures.ending
    (rw c.in-Err-Plan.ensures.stays at c.finish-in-Err-Plan.ensures.files) c.finish-in-Err-Plan.ensures.prints)

pub returns-in-Err-Memory : goal.returns-in-Err-Memory
unfolding IsServed
returns-in-Err-Memory g c =
    let same = stood (g.S.Store.faults c.args.store.now) (g.S.Store.faults c.plan_of.new.store) (λ is. cc) (rw c.in-Err-Memory.field-0-is at c.in-Err-Memory.ensures.cause) in
    as_number _ _ _ _ _ _ c.number-in-Err-Memory.ensures
    (out_of_memory _ _ (g.S.Store.told c.args.store.now) (g.S.Store.told c.plan_of.new.store) (g.S.Store.faults c.args.store.now) (g.S.Store.faults c.plan_of.new.store) (g.K.Sink.told c.args.out.now) (g.K.Sink.faults c.args.out.now) c.in-Err-Memory.ensures.stays same)

pub returns-in-Err-Failed : goal.returns-in-Err-Failed
unfolding IsServed
returns-in-Err-Failed g c =
    let told = rw c.in-Err-Failed.field-0-is at c.in-Err-Failed.ensures.cause in
    let asked = rw c.in-Err-Failed.field-0-is at c.in-Err-Failed.ensures.asked in
    as_number _ _ _ _ _ _ c.number-in-Err-Failed.ensures
    (store_failed _ _ (g.S.Store.told c.args.store.now) (g.S.Store.told c.plan_of.new.store) (g.S.Store.faults c.args.store.now) (g.S.Store.faults c.plan_of.new.store) (g.K.Sink.told c.args.out.now) (g.K.Sink.faults c.args.out.now) c.in-Err-Failed.ensures.stays told.later (told.rose refl) (asked refl))
