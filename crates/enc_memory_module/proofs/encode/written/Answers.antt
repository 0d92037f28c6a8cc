use Rattle.std.proofs.Common.{◌≡◌, Some, ap, arith}
use Rattle.std.specs.Prelude.{is_some}
use Rattle.enc_il.specs.Written.{code_again, IsWritable}
use Rattle.enc_opcodes.specs.Body.{body_at}
use Rattle.enc_memory_module.specs.Encoded.{code_for}
use Rattle.enc_memory_module.proofs.Assembling.{below_of, written_read}
use Rattle.enc_memory_module.proofs.encode.written.Goals as goal

read : (c : goal.In-Ok) → body_at c.write_body.new.out.items 0 0 ≡ Some (code_again (code_for c.args.body.now c.args.code.now) c.args.body.now.clauses)
read c =
    let can : IsWritable (code_for c.args.body.now c.args.code.now) c.args.body.now.clauses = record {
      max = below_of _ _ c.held_law.ensures.max;
      table = below_of _ _ c.held_law.ensures.table;
      row = c.requires.row;
      size = omega (arith, c.requires.size);
      sections = omega (arith, c.requires.size);
    } in
    written_read c.written_body_law.ensures (code_for c.args.body.now c.args.code.now) c.args.body.now.clauses c.write_body.new.out.items can (rw (c.new-bytes.ensures.items, c.as_slice.ensures) at c.in-Ok.ensures.written)

pub invariant_of-result : goal.invariant_of-result
invariant_of-result c = ap is_some (read c)

pub returns-in-Ok : goal.returns-in-Ok
returns-in-Ok c = read c
