use Rattle.std.proofs.Common.{◌≡◌, Err, sym, ap, map, subst, arith}
use Rattle.enc_generator.specs.Generated.{generated_base}
use Rattle.enc_commands.specs.Generating.{no_points}
use Rattle.enc_commands.specs.Loads.{base_seen, file_seen, followed}
use Rattle.enc_commands.specs.Series.{NothingSaid}
use Rattle.enc_commands.proofs.Cases.{nothing_said, came, base_judged_as, series_begins, first_saves}
use Rattle.enc_commands.proofs.commands.generate.begun.Goals as goal

pub returns-in_err-held-clause-said : goal.returns-in_err-held-clause-said
returns-in_err-held-clause-said c =
    let gone : c.from_residual-in_err-held.result ≡ Err c.in_err-held.field-0.0 = grind arith in
    subst (λ r. NothingSaid r) (sym gone) (nothing_said c.in_err-held.field-0.0 _ _
    (base_judged_as generated_base no_points c.args.out.now c.args.written.image c.args.written.pdb c.requires.image_is c.requires.pdb_is.means (base_seen c.in_ok-file.file) _ c.in_ok-file.ensures (ap (map file_seen) c.new.ensures.items))
    c.in_err-held.ensures.step)

pub returns-clause-series : goal.returns-clause-series
returns-clause-series c =
    series_begins c.args.out.now c.args.written.image c.args.written.pdb _ c.requires c.case_laws.ensures.base
    (came _ _ (followed c.in_ok-held.held)
    (base_judged_as generated_base no_points c.args.out.now c.args.written.image c.args.written.pdb c.requires.image_is c.requires.pdb_is.means (base_seen c.in_ok-file.file) _ c.in_ok-file.ensures (ap (map file_seen) c.new.ensures.items))
    c.in_ok-held.ensures.step)
    (first_saves c.new-saves.result.items c.push_module.new.saves.items _ c.new-saves.ensures.items c.in_ok-push_module.ensures)
