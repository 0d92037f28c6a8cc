use Rattle.std.proofs.Common.{sym, subst}
use Rattle.enc_il.specs.Seen.{instr_seen}
use Rattle.enc_il.proofs.Starts.{behind, fewer_left}
use Rattle.enc_token_map.specs.Copied.{IsMovedFrom}
use Rattle.enc_token_map.proofs.CodeMoved.{moved_all}
use Rattle.enc_token_map.proofs.code.moved_code.Goals as goal

pub loop-read-smaller : goal.loop-read-smaller
loop-read-smaller g c = fewer_left c.args.code.now.code.now c.loop-read.at c.in-Some.read.1 (instr_seen c.in-Some.read).0 c.in-Some.ensures.instr

pub loop-read-preserved : goal.loop-read-preserved
loop-read-preserved g c =
    (c.in-Ok.ensures, (behind c.args.code.now.code.now c.loop-read.at c.in-Some.read.1 (instr_seen c.in-Some.read).0 c.in-Some.ensures.instr).1)

pub returns-in-Ok-push_plain-clause-moved : goal.returns-in-Ok-push_plain-clause-moved
returns-in-Ok-push_plain-clause-moved g c =
    let f = g.M.Moves.to c.args.moves.now in
    let code = c.args.code.now.code.now in
    subst (λ xs. IsMovedFrom f code xs 0) (sym c.in-Ok-push_plain.ensures)
    (moved_all f code c.loop-read.out.items c.loop-read.at c.in_default.ensures.instr c.loop-read.invariant.1 c.loop-read.invariant.0).0
