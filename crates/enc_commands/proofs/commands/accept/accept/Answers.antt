use Rattle.std.proofs.Common.{◌≡◌, map, sym, subst, arith, Ok, Err}
use Rattle.std.specs.Prelude.{IfSome}
use Rattle.enc_command_line.specs.Words.{texts}
use Rattle.enc_commands.specs.Verdict.{base_size, load_base, load_deltas, accept}
use Rattle.enc_commands.specs.Stops.{Comes, OnPlan, StopsWith}
use Rattle.enc_commands.specs.Loads.{base_seen, file_seen, followed}
use Rattle.enc_commands.proofs.Loading.{if_both, from_nothing, accept_stops, accept_judged}
use Rattle.enc_commands.proofs.Merging.{gone_so}
use Rattle.enc_commands.proofs.commands.accept.accept.Goals as goal

pub returns-in_err-files-clause-step : goal.returns-in_err-files-clause-step
returns-in_err-files-clause-step g c =
    let many : c.load_base.new.loaded ≡ base_size (base_seen c.in_ok-file.file) = from_nothing _ _ _ c.nothing-loaded.ensures c.in_ok-file.ensures.counted in
    let gone : c.from_residual-in_err-files.result ≡ Err c.in_err-files.field-0.0 = grind arith in
    subst (λ r. IfSome (g.S.Store.told c.args.store.now) (λ files. Comes followed r (accept files c.args.base.now (texts c.args.deltas.now)))) (sym gone) (if_both (g.S.Store.told c.args.store.now) (λ files. load_base files c.args.base.now 0 ≡ Ok (base_seen c.in_ok-file.file)) (λ files. OnPlan c.in_err-files.field-0.0 (StopsWith (load_deltas files (texts c.args.deltas.now) (base_size (base_seen c.in_ok-file.file))))) _ (rw c.nothing-loaded.ensures at c.in_ok-file.ensures.step) (rw (many, c.load_base.ensures.stays) at c.in_err-files.ensures.step) (λ files one all. accept_stops files c.args.base.now (texts c.args.deltas.now) (base_seen c.in_ok-file.file) c.in_err-files.field-0.0 one all))

pub returns-clause-step : goal.returns-clause-step
returns-clause-step g c =
    let many : c.load_base.new.loaded ≡ base_size (base_seen c.in_ok-file.file) = from_nothing _ _ _ c.nothing-loaded.ensures c.in_ok-file.ensures.counted in
    if_both (g.S.Store.told c.args.store.now) (λ files. load_base files c.args.base.now 0 ≡ Ok (base_seen c.in_ok-file.file)) (λ files. load_deltas files (texts c.args.deltas.now) (base_size (base_seen c.in_ok-file.file)) ≡ Ok (map file_seen c.in_ok-files.files.items)) _ (rw c.nothing-loaded.ensures at c.in_ok-file.ensures.step) (rw (many, c.load_base.ensures.stays) at c.in_ok-files.ensures.step) (λ files one all. rw (accept_judged files c.args.base.now (texts c.args.deltas.now) (base_seen c.in_ok-file.file) (map file_seen c.in_ok-files.files.items) one all) c.judge_all.ensures.step)

pub returns-clause-gone : goal.returns-clause-gone
returns-clause-gone g c =
    gone_so c.args.base.now (base_seen c.in_ok-file.file) c.in_ok-files.files.items _ c.judge_all.result c.in_ok-files.ensures.short c.in_ok-files.ensures.many c.judge_all.ensures.step
