use Rattle.std.proofs.Common.{sym, ◌∙◌, arith}
use Rattle.enc_plain.specs.Module.{kids_of}
use Rattle.enc_base.specs.Tables as tables
use Rattle.enc_dispatch.specs.Asked.{is_wanted}
use Rattle.enc_dispatch.specs.Walks.{first_method}
use Rattle.enc_dispatch.proofs.WalkSteps.{first_of_rows, method_here, method_next, method_end, no_methods}
use Rattle.enc_dispatch.proofs.free_walk.first_method.Goals as goal

pub returns-then-not-is_class-clause-first : goal.returns-then-not-is_class-clause-first
returns-then-not-is_class-clause-first g c =
    let m = g.V.ModuleView.meaning c.args.view.now in
    sym (no_methods m (is_wanted m c.args.wanted c.args.declared) c.args.class (sym c.is_class.ensures ∙ c.if-not-is_class.true))

pub returns-then-is_wanted-clause-first : goal.returns-then-is_wanted-clause-first
unfolding first_method
returns-then-is_wanted-clause-first g c =
    let m = g.V.ModuleView.meaning c.args.view.now in
    method_here (is_wanted m c.args.wanted c.args.declared) (kids_of m c.args.class tables.method_def) c.loop-i.i c.kid-method.result (first_of_rows (is_wanted m c.args.wanted c.args.declared) (kids_of m c.args.class tables.method_def))
    c.kid-method.ensures.table c.kid-method.ensures.row (sym c.is_wanted.ensures ∙ c.if-is_wanted.true) c.loop-i.invariant

pub loop-i-preserved : goal.loop-i-preserved
loop-i-preserved g c =
    let m = g.V.ModuleView.meaning c.args.view.now in
    method_next (is_wanted m c.args.wanted c.args.declared) (kids_of m c.args.class tables.method_def) c.loop-i.i c.kid-method.result (first_of_rows (is_wanted m c.args.wanted c.args.declared) (kids_of m c.args.class tables.method_def))
    c.kid-method.ensures.table c.kid-method.ensures.row (sym c.is_wanted.ensures ∙ c.if-is_wanted.false) c.loop-i.invariant

pub returns-clause-first : goal.returns-clause-first
unfolding first_method
returns-clause-first g c =
    let m = g.V.ModuleView.meaning c.args.view.now in
    method_end (is_wanted m c.args.wanted c.args.declared) (kids_of m c.args.class tables.method_def) c.loop-i.i (first_of_rows (is_wanted m c.args.wanted c.args.declared) (kids_of m c.args.class tables.method_def))
    (rw (← c.kids-i-end.ensures) (omega (arith, c.loop-i-test.false))) c.loop-i.invariant
