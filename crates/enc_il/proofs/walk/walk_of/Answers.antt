use Rattle.std.proofs.Common.{◌≡◌, ℕ, ◌&&◌, sym, refl, ◌∙◌, arith}
use Rattle.std.specs.Prelude.{slice_index}
use Rattle.std.proofs.lemmas.List.{length-set}
use Rattle.enc_opcodes.specs.Instruction.{Instruction}
use Rattle.enc_opcodes.proofs.Instructions.{rest_end_none, rest_end_more}
use Rattle.enc_il.specs.Judged.{names_a_row}
use Rattle.enc_il.specs.Seen.{instr_seen}
use Rattle.enc_il.proofs.Starts.{behind, fewer_left, one_marked, all_marked}
use Rattle.enc_il.proofs.Walks.{one_found, all_found, one_named, all_named}
use Rattle.enc_il.proofs.walk.walk_of.Goals as goal
use Rattle.enc_il.proofs.walk.walk_of.Goals.{then-rows, else-rows}

pub index_mut-requires : goal.index_mut-requires
index_mut-requires c =
    let h = behind c.args.code.now.code.now c.loop-instr.at c.in-Some.end (instr_seen (c.in-Some.instr, c.in-Some.end)).0 c.in-Some.ensures.instr in
    omega (arith, h.0, h.1, c.loop-instr.invariant.many, c.loop-instr.marks.ok.0)

pub loop-instr-smaller : goal.loop-instr-smaller
loop-instr-smaller c = fewer_left c.args.code.now.code.now c.loop-instr.at c.in-Some.end (instr_seen (c.in-Some.instr, c.in-Some.end)).0 c.in-Some.ensures.instr

pub loop-instr-preserved : goal.loop-instr-preserved
loop-instr-preserved c =
    let code = c.args.code.now.code.now in
    let count = slice_index c.args.counts.now.rows in
    let i : Instruction ℕ = (instr_seen (c.in-Some.instr, c.in-Some.end)).0 in
    let h = behind code c.loop-instr.at c.in-Some.end i c.in-Some.ensures.instr in
    let is_more : c.if-rows.rows ≡ (c.loop-instr.rows && names_a_row count i.op.operand i.arg) = elim c.if-rows.branch [
      | then-rows w ↦ w.rows-is ∙ w.names_a_row-rows.ensures c.in-Some.end ∙ rw w.if-rows.true refl
      | else-rows w ↦ w.rows-is ∙ rw w.if-rows.false refl
    ] in
    record {
      many = length-set c.loop-instr.marks.items c.loop-instr.at _ ∙ c.loop-instr.invariant.many;
      marked = one_marked code c.loop-instr.at c.in-Some.end i c.loop-instr.marks.items c.in-Some.ensures.instr (omega (arith, h.0, h.1, c.loop-instr.invariant.many)) c.loop-instr.invariant.marked;
      end = sym (rest_end_more code c.loop-instr.at c.in-Some.end i (sym c.in-Some.ensures.instr)) ∙ c.loop-instr.invariant.end;
      good = one_found count code c.loop-instr.at c.in-Some.end i c.loop-instr.rows c.if-rows.rows c.loop-instr.targets.items c.push_arg.new.targets.items c.in-Some.ensures.instr c.loop-instr.invariant.good is_more c.in_ok-push_arg.ensures.targets;
      users = one_named code c.loop-instr.at c.in-Some.end i c.loop-instr.users.items c.push_arg.new.users.items c.in-Some.ensures.instr c.loop-instr.invariant.users c.in_ok-push_arg.ensures.users;
    }

pub returns-clause-marks : goal.returns-clause-marks
returns-clause-marks c = all_marked c.args.code.now.code.now c.loop-instr.at c.loop-instr.marks.items c.in_default.ensures.instr c.loop-instr.invariant.marked

pub returns-clause-end : goal.returns-clause-end
returns-clause-end c = sym (rest_end_none c.args.code.now.code.now c.loop-instr.at (sym c.in_default.ensures.instr)) ∙ c.loop-instr.invariant.end

pub returns-clause-good : goal.returns-clause-good
returns-clause-good c = all_found (slice_index c.args.counts.now.rows) c.args.code.now.code.now c.loop-instr.at c.loop-instr.rows c.loop-instr.targets.items c.in_default.ensures.instr c.loop-instr.invariant.good

pub returns-clause-users : goal.returns-clause-users
returns-clause-users c = all_named c.args.code.now.code.now c.loop-instr.at c.loop-instr.users.items c.in_default.ensures.instr c.loop-instr.invariant.users
