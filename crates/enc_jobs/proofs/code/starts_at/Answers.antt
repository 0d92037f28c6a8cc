use Rattle.std.proofs.Common.{◌+◌, ◌∙◌, sym, get_or, drop, arith}
use Rattle.std.proofs.lemmas.List.{at_drop_more, drop_all}
use Rattle.std.specs.Prelude.{slice_get}
use Rattle.enc_jobs.proofs.Loops.{one_more, one_refused, none_left}
use Rattle.enc_jobs.proofs.code.starts_at.Goals as goal

pub returns-in_err-start_at : goal.returns-in_err-start_at
returns-in_err-start_at c =
    let i = c.loop-index.index-index in
    let xs = c.args.indices.now in
    let s = c.in_err-start_at.ensures in
    grind (arith, one_refused (slice_get c.args.starts.now) (drop i xs) (drop (i + 1) xs) (get_or xs i 0) c.loop-index.list c.in_err-start_at.field-0.0 _ (at_drop_more (λ l. l) xs i 0 c.loop-index-test.true) c.in_err-start_at.ensures c.loop-index.invariant)

pub loop-index-preserved : goal.loop-index-preserved
loop-index-preserved c =
    let i = c.loop-index.index-index in
    let xs = c.args.indices.now in
    rw c.in_ok-push.ensures.ok (sym (one_more (slice_get c.args.starts.now) (drop i xs) (drop (i + 1) xs) (get_or xs i 0) c.in_ok-start_at.field-0 c.loop-index.list (at_drop_more (λ l. l) xs i 0 c.loop-index-test.true) c.in_ok-start_at.ensures) ∙ c.loop-index.invariant)

pub returns : goal.returns
returns c =
    none_left (slice_get c.args.starts.now) (drop c.loop-index.index-index c.args.indices.now) c.loop-index.list _ (drop_all c.loop-index.index-index c.args.indices.now (omega arith)) c.loop-index.invariant
