use Rattle.std.proofs.Common.{◌<◌, ◌-◌, ◌∷◌, [], subst, sym, refl, get_or}
use Rattle.std.specs.Prelude.{◌^◌}
use Rattle.enc_rows.specs.Written.{rows_at, count_at}
use Rattle.enc_schema.specs.Children.{ptr_of}
use Rattle.enc_rewriter.proofs.KidsListed.{none_of_one, more_of_one, ptr_few}
use Rattle.enc_rewriter.proofs.RowsPushed.{Pushes, here_pushed, keep_others, others_more}
use Rattle.enc_rewriter.proofs.ptrs.push_kids.Goals as goal

pub loop-i-init : goal.loop-i-init
loop-i-init c = record {
  rows = none_of_one c.args.kids.now _ c.requires.none;
  others = λ k other. refl;
}

pub push-requires-clause-few : goal.push-requires-clause-few
push-requires-clause-few c =
    subst (λ t. count_at c.loop-i.tables t < 2 ^ 24 - 1) (sym c.ptr_table-table.ensures.ptr)
    (ptr_few c.args.child c.loop-i.tables c.args.kids.now c.loop-i.i c.loop-i-test.true c.requires.few c.loop-i.invariant.rows)

pub loop-i-preserved : goal.loop-i-preserved
loop-i-preserved c =
    let pushed = subst (λ t. Pushes t (get_or c.args.kids.now c.loop-i.i 0 ∷ []) c.loop-i.tables c.push.new.self) c.ptr_table-table.ensures.ptr c.in_ok-push.ensures.pushed in
    record {
      rows = more_of_one c.args.kids.now c.loop-i.i 0 (rows_at c.loop-i.tables (ptr_of c.args.child)) (rows_at c.push.new.self (ptr_of c.args.child)) c.loop-i-test.true c.loop-i.invariant.rows (here_pushed (ptr_of c.args.child) _ c.loop-i.tables c.push.new.self pushed);
      others = others_more (ptr_of c.args.child) c.args.tables.now c.loop-i.tables c.push.new.self c.loop-i.invariant.others (keep_others (ptr_of c.args.child) _ c.loop-i.tables c.push.new.self pushed);
    }
