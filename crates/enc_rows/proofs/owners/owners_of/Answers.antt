use Rattle.std.proofs.Common.{sym, ◌∙◌}
use Rattle.enc_rows.proofs.Owned.{bound_limit, bound_some}
use Rattle.enc_rows.proofs.Silent.{good_runs}
use Rattle.enc_rows.proofs.Tells.{tells_from, tells_counted, owned}
use Rattle.enc_rows.proofs.owners.owners_of.Goals as goal

pub returns-then-count-eq0 : goal.returns-then-count-eq0
returns-then-count-eq0 c =
    let child = owned c.args.table _ c.ptr_table-through.ensures.ptr c.if-through-eq0.false in
    tells_from _ c.args.table _ child c.requires.good (rw (← c.ptr_table-through.ensures.ptr) (sym c.count.ensures.count ∙ c.if-count-eq0.true)) c.first_start-first.ensures

pub times_of-requires-clause-some : goal.times_of-requires-clause-some
times_of-requires-clause-some c =
    let child = owned c.args.table _ c.ptr_table-through.ensures.ptr c.if-through-eq0.false in
    rw c.first_start-first.ensures (bound_some _ c.args.table (good_runs _ c.args.table child c.requires.good))

pub times_of-requires-clause-limit : goal.times_of-requires-clause-limit
times_of-requires-clause-limit c =
    let child = owned c.args.table _ c.ptr_table-through.ensures.ptr c.if-through-eq0.false in
    rw c.first_start-first.ensures (bound_limit _ c.args.table 0 (good_runs _ c.args.table child c.requires.good))

pub returns : goal.returns
returns c =
    let child = owned c.args.table _ c.ptr_table-through.ensures.ptr c.if-through-eq0.false in
    tells_counted _ c.args.table _ c.in_ok-times.times child c.requires.good c.first_start-first.ensures c.in_ok-times.ensures
