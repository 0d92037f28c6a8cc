use Rattle.std.specs.Prelude.{slice_index}
use Rattle.enc_opcodes.specs.Body.{code_seen}
use Rattle.enc_delta.specs.Delta.{listed}
use Rattle.enc_delta.specs.Rules.{rows_with, users_after}
use Rattle.enc_delta.proofs.Methods.{whole_body}
use Rattle.enc_delta.proofs.bodies.is_whole.Goals as goal

pub returns : goal.returns
returns g c = whole_body (slice_index c.counts.result.now.rows) (rows_with c.args.context.now.chain (listed c.args.context.now.delta)) (users_after c.args.context.now.chain c.args.context.now.delta) (code_seen c.args.code.now) c.is_good_body.result c.counts.ensures c.is_good_body.ensures
