use Rattle.std.proofs.Common.{sym}
use Rattle.enc_base.specs.declared.token.Token.{Token}
use Rattle.enc_ppdb.specs.Fault.{named_tokens}
use Rattle.enc_ppdb.specs.Misplaced.{misplaced_row}
use Rattle.enc_ppdb.proofs.PointsEnd.{end_empty, end_step}
use Rattle.enc_ppdb.proofs.RowsBroken.{least_none, least_step, token_at}
use Rattle.enc_ppdb.proofs.pdb.PdbDelta.first_broken.Goals as goal

pub loop-k-init : goal.loop-k-init
loop-k-init c = record {
  least = sym (least_none (misplaced_row c.args.self.now c.args.sizes.now));
  bound = sym (end_empty (λ (t : Token). t.row));
}

pub loop-k-preserved : goal.loop-k-preserved
loop-k-preserved c =
    let s = c.args.self.now in
    let token = token_at s c.self.inside.named c.loop-k.k c.token.result (rw c.self.view_is at c.self.invariant.named) c.token.ensures in
    record {
      least = least_step (misplaced_row s c.args.sizes.now) c.loop-k.k c.loop-k.least c.misplaced_row.result c.lesser-least.result c.loop-k.invariant.least c.misplaced_row.ensures c.lesser-least.ensures;
      bound = end_step (λ (t : Token). t.row) (named_tokens s) c.loop-k.k c.token.result c.loop-k.bound c.from.result c.max-bound.result token c.loop-k.invariant.bound c.from.ensures c.max-bound.ensures;
    }
