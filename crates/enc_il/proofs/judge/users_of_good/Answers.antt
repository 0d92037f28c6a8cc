use Rattle.std.proofs.Common.{true, false}
use Rattle.std.specs.Prelude.{slice_index}
use Rattle.enc_opcodes.specs.Body.{code_seen}
use Rattle.enc_il.proofs.Goods.{not_whole, not_rows, whole_parts}
use Rattle.enc_il.proofs.judge.users_of_good.Goals as goal

pub returns-then-walk-code-clause-good : goal.returns-then-walk-code-clause-good
returns-then-walk-code-clause-good c = not_whole (slice_index c.args.counts.now.rows) (code_seen c.args.code.now) c.in_ok-walk.walk.end c.in_ok-walk.ensures.end c.if-walk-code.true

pub returns-then-not-walk-clause-good : goal.returns-then-not-walk-clause-good
returns-then-not-walk-clause-good c = not_rows (slice_index c.args.counts.now.rows) (code_seen c.args.code.now) c.in_ok-walk.walk.rows c.in_ok-walk.walk.targets.items c.in_ok-walk.ensures.good c.if-not-walk.true

pub returns-then-not-are_parts_good-clause-good : goal.returns-then-not-are_parts_good-clause-good
returns-then-not-are_parts_good-clause-good c = whole_parts (slice_index c.args.counts.now.rows) (code_seen c.args.code.now) c.in_ok-walk.walk.marks.items c.in_ok-walk.walk.end c.in_ok-walk.walk.rows c.in_ok-walk.walk.targets.items false c.in_ok-walk.ensures.marks c.in_ok-walk.ensures.end c.in_ok-walk.ensures.good c.if-walk-code.false c.if-not-walk.false (rw (c.as_slice.ensures.value, c.as_slice-2.ensures.value) at c.if-not-are_parts_good.ensures)

pub returns-clause-good : goal.returns-clause-good
returns-clause-good c = whole_parts (slice_index c.args.counts.now.rows) (code_seen c.args.code.now) c.in_ok-walk.walk.marks.items c.in_ok-walk.walk.end c.in_ok-walk.walk.rows c.in_ok-walk.walk.targets.items true c.in_ok-walk.ensures.marks c.in_ok-walk.ensures.end c.in_ok-walk.ensures.good c.if-walk-code.false c.if-not-walk.false (rw (c.as_slice.ensures.value, c.as_slice-2.ensures.value) at c.if-not-are_parts_good.ensures)
