use Rattle.std.proofs.Common.{◌∙◌, ap, arith}
use Rattle.enc_plain.specs.Module.{Row}
use Rattle.enc_memory_module.proofs.PutInPlace.{put_within, put_next, put_past}
use Rattle.enc_memory_module.proofs.plain.PlainTable.put_row.Goals as goal

pub returns-then-n-len : goal.returns-then-n-len
returns-then-n-len c =
    rw (← c.self.view_is) (put_within c.args.table c.self.inside.rows.items c.args.n c.args.cells.items c.replace.new.self c.index_mut-row.result.now (omega (arith, c.self.inside.rows.ok.0)) (c.replace.ensures ∙ ap (λ (r : Row). record { cells = c.args.cells.items; kids = r.kids }) c.index_mut-row.ensures.value))

pub returns-in_ok-push : goal.returns-in_ok-push
returns-in_ok-push c =
    rw (← c.self.view_is, c.in_ok-push.ensures.items) (put_next c.args.table c.self.inside.rows.items c.args.n c.args.cells.items c.in_ok-row.row (omega (arith, c.self.inside.rows.ok.0)) c.in_ok-row.ensures)

pub returns-else-n-len-2 : goal.returns-else-n-len-2
returns-else-n-len-2 c =
    rw (← c.self.view_is) (put_past c.args.table c.self.inside.rows.items c.args.n c.args.cells.items (omega (arith, c.self.inside.rows.ok.0)))
