use Rattle.std.proofs.Common.{arith}
use Rattle.enc_opcodes.specs.Body.{code_seen}
use Rattle.enc_rewriter.proofs.Gathers.{row_there}
use Rattle.enc_rewriter.proofs.Weights.{body_is}
use Rattle.enc_rewriter.proofs.weight.body_weight.Goals as goal

pub code-requires-clause-row : goal.code-requires-clause-row
code-requires-clause-row g c = row_there (g.V.ModuleView.meaning c.args.view.now) 0x06 c.args.n c.requires.row

pub returns-in-Some : goal.returns-in-Some
returns-in-Some g c =
    omega (arith, body_is (g.V.ModuleView.meaning c.args.view.now) c.args.n (g.V.ModuleView.users c.args.view.now) (code_seen c.in-Some.body) c.in-Some.ensures.body, c.clauses_of_body.ensures, c.capped.ensures.capped)
