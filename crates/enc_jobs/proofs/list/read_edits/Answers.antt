use Rattle.std.proofs.Common.{sym}
use Rattle.serde_json.specs.View.{view}
use Rattle.enc_jobs.proofs.EditForms.{of_text, given_fits}
use Rattle.enc_jobs.proofs.PointForms.{given_lie}
use Rattle.enc_jobs.proofs.list.read_edits.Goals as goal

pub returns-clause-fits : goal.returns-clause-fits
returns-clause-fits c =
    let same = of_text c.args.text.now (view c.in_ok-value.value) c.in_ok-value.ensures in
    given_fits c.form_law.ensures c.args.text.now c.list_of.result (rw (sym same) at c.list_of.ensures)

pub returns-clause-points : goal.returns-clause-points
returns-clause-points c =
    let same = of_text c.args.text.now (view c.in_ok-value.value) c.in_ok-value.ensures in
    given_lie c.points_law.ensures c.args.text.now c.list_of.result (rw (sym same) at c.list_of.ensures)
