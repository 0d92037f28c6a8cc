use Rattle.std.proofs.Common.{◌≡◌, ◌+◌, ◌∙◌, ap, length, map, arith, Ok, Err}
use Rattle.enc_script.specs.Run.{named_delta}
use Rattle.enc_commands.proofs.Loading.{if_both, from_nothing}
use Rattle.enc_commands.proofs.Running.{if_gone, if_three, stops_at_script, stops_at_deltas, run_is}
use Rattle.enc_commands.specs.Loads.{base_seen, base_followed}
use Rattle.enc_commands.specs.Stops.{OnPlan, StopsWith}
use Rattle.enc_commands.specs.Verdict.{base_size, load_base, load_one, load_named}
use Rattle.enc_commands.proofs.commands.run.run.Goals as goal

pub returns-in_err-commands-clause-plan : goal.returns-in_err-commands-clause-plan
returns-in_err-commands-clause-plan g c =
    let f = base_seen c.in_ok-file.file in
    let many : c.load_base.new.loaded ≡ base_size f = from_nothing _ _ _ c.nothing-loaded.ensures c.in_ok-file.ensures.counted in
    let gone : c.from_residual-in_err-commands.result ≡ Err c.in_err-commands.field-0.0 = grind arith in
    if_gone (g.S.Store.told c.args.store.now) c.from_residual-in_err-commands.result c.in_err-commands.field-0.0 _ gone
    (if_both (g.S.Store.told c.args.store.now) (λ files. load_base files c.args.base.now 0 ≡ Ok f)
    (λ files. load_one files c.args.script.now (base_size f) ≡ Ok c.in_ok-text.text.items) _
    (rw c.nothing-loaded.ensures at c.in_ok-file.ensures.step) (rw (many, c.load_base.ensures.stays) at c.in_ok-text.ensures.step)
    (λ files one two. stops_at_script _ files c.args.base.now c.args.script.now f c.in_ok-text.text.items (base_followed c.in_ok-judged.judged)
    c.in_err-commands.field-0.0 one two c.in_ok-judged.ensures.step (rw c.deref.ensures.value at c.in_err-commands.ensures.step)))

pub returns-in_err-deltas-clause-plan : goal.returns-in_err-deltas-clause-plan
returns-in_err-deltas-clause-plan g c =
    let f = base_seen c.in_ok-file.file in
    let many : c.load_base.new.loaded ≡ base_size f = from_nothing _ _ _ c.nothing-loaded.ensures c.in_ok-file.ensures.counted in
    let all : c.load.new.self ≡ base_size f + length c.in_ok-text.text.items = c.in_ok-text.ensures.counted ∙ ap (λ n. n + length c.in_ok-text.text.items) many in
    let told : g.S.Store.told c.load.new.store ≡ g.S.Store.told c.args.store.now = c.load.ensures.stays ∙ c.load_base.ensures.stays in
    let gone : c.from_residual-in_err-deltas.result ≡ Err c.in_err-deltas.field-0.0 = grind arith in
    if_gone (g.S.Store.told c.args.store.now) c.from_residual-in_err-deltas.result c.in_err-deltas.field-0.0 _ gone
    (if_three (g.S.Store.told c.args.store.now) (λ files. load_base files c.args.base.now 0 ≡ Ok f)
    (λ files. load_one files c.args.script.now (base_size f) ≡ Ok c.in_ok-text.text.items)
    (λ files. OnPlan c.in_err-deltas.field-0.0 (StopsWith (load_named files c.in_ok-commands.commands (base_size f + length c.in_ok-text.text.items)))) _
    (rw c.nothing-loaded.ensures at c.in_ok-file.ensures.step) (rw (many, c.load_base.ensures.stays) at c.in_ok-text.ensures.step)
    (rw (all, told) at c.in_err-deltas.ensures.step)
    (λ files one two three. stops_at_deltas _ files c.args.base.now c.args.script.now f c.in_ok-text.text.items (base_followed c.in_ok-judged.judged)
    c.in_ok-commands.commands c.in_err-deltas.field-0.0 one two c.in_ok-judged.ensures.step (rw c.deref.ensures.value at c.in_ok-commands.ensures.step) three))

pub returns-clause-plan : goal.returns-clause-plan
returns-clause-plan g c =
    let f = base_seen c.in_ok-file.file in
    let many : c.load_base.new.loaded ≡ base_size f = from_nothing _ _ _ c.nothing-loaded.ensures c.in_ok-file.ensures.counted in
    let all : c.load.new.self ≡ base_size f + length c.in_ok-text.text.items = c.in_ok-text.ensures.counted ∙ ap (λ n. n + length c.in_ok-text.text.items) many in
    let told : g.S.Store.told c.load.new.store ≡ g.S.Store.told c.args.store.now = c.load.ensures.stays ∙ c.load_base.ensures.stays in
    if_three (g.S.Store.told c.args.store.now) (λ files. load_base files c.args.base.now 0 ≡ Ok f)
    (λ files. load_one files c.args.script.now (base_size f) ≡ Ok c.in_ok-text.text.items)
    (λ files. load_named files c.in_ok-commands.commands (base_size f + length c.in_ok-text.text.items) ≡ Ok (map named_delta c.in_ok-deltas.deltas.items)) _
    (rw c.nothing-loaded.ensures at c.in_ok-file.ensures.step) (rw (many, c.load_base.ensures.stays) at c.in_ok-text.ensures.step)
    (rw (all, told) at c.in_ok-deltas.ensures.step)
    (λ files one two three. run_is _ files c.args.base.now c.args.script.now f c.in_ok-text.text.items (base_followed c.in_ok-judged.judged)
    c.in_ok-commands.commands (map named_delta c.in_ok-deltas.deltas.items) one two c.in_ok-judged.ensures.step
    (rw c.deref.ensures.value at c.in_ok-commands.ensures.step) three _ (rw c.deref-2.ensures.value at c.in_ok-ran.ensures.plan))
