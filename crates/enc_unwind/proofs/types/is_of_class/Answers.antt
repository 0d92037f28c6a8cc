use Rattle.std.proofs.Common.{◌≡◌, ◌+◌, ◌-◌, Bool, sym, ap, ◌∙◌, arith}
use Rattle.std.specs.List.{list_any}
use Rattle.enc_base.specs.declared.token.Token.{Token}
use Rattle.enc_plain.specs.Alike.{tokens_alike}
use Rattle.enc_plain.specs.Module.{Module, cells_of}
use Rattle.enc_plain.specs.Sound.{row_count}
use Rattle.enc_base.specs.Tables.{type_def}
use Rattle.enc_unwind.specs.Thrown.{types_of}
use Rattle.enc_unwind.proofs.Climbed.{types_in, found_here, found_behind, found_last, found_at_end}
use Rattle.enc_unwind.proofs.types.is_of_class.Goals as goal

-- what the climb looks for
abbrev is_caught : Module → Token → Token → Bool
is_caught m caught t = tokens_alike (cells_of m) t caught

pub returns-then-not-is_class : goal.returns-then-not-is_class
returns-then-not-is_class g c =
    let m = g.V.ModuleView.meaning c.args.view.now in
    c.is_type_ref_alike.ensures
    ∙ sym (found_last (is_caught m c.args.caught) m (row_count m type_def - c.loop-step._step) c.loop-step.current (sym c.is_class.ensures.class ∙ c.if-not-is_class.true))
    ∙ c.loop-step.invariant

pub returns-then-alike : goal.returns-then-alike
returns-then-alike g c =
    let m = g.V.ModuleView.meaning c.args.view.now in
    let count : c.count-step-end.result ≡ row_count m type_def = c.count-step-end.ensures.count in
    sym (found_here (is_caught m c.args.caught) m (row_count m type_def - c.loop-step._step) (row_count m type_def - (c.loop-step._step + 1)) c.loop-step.current (omega (arith, count, c.loop-step-test.true)) (sym c.is_class.ensures.class ∙ c.if-not-is_class.false) (sym c.alike.ensures ∙ c.if-alike.true))
    ∙ c.loop-step.invariant

pub loop-step-preserved : goal.loop-step-preserved
loop-step-preserved g c =
    let m = g.V.ModuleView.meaning c.args.view.now in
    let count : c.count-step-end.result ≡ row_count m type_def = c.count-step-end.ensures.count in
    sym (found_behind (is_caught m c.args.caught) m (row_count m type_def - c.loop-step._step) (row_count m type_def - (c.loop-step._step + 1)) c.loop-step.current c.class_base-current.result (omega (arith, count, c.loop-step-test.true)) (sym c.is_class.ensures.class ∙ c.if-not-is_class.false) (sym c.alike.ensures ∙ c.if-alike.false) c.class_base-current.ensures)
    ∙ c.loop-step.invariant

pub returns : goal.returns
returns g c =
    let m = g.V.ModuleView.meaning c.args.view.now in
    let count : c.count-step-end.result ≡ row_count m type_def = c.count-step-end.ensures.count in
    c.is_type_ref_alike-2.ensures
    ∙ sym (found_at_end (is_caught m c.args.caught) m (row_count m type_def - c.loop-step._step) c.loop-step.current (omega (arith, count, c.loop-step-test.false, c.loop-step.auto._step-end)))
    ∙ c.loop-step.invariant

pub loop-step-init : goal.loop-step-init
unfolding types_of
loop-step-init g c =
    let m = g.V.ModuleView.meaning c.args.view.now in
    let e : row_count m type_def - 0 ≡ row_count m type_def = omega arith in
    ap (λ n. list_any (is_caught m c.args.caught) (types_in m n c.args.class)) e
