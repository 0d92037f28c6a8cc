use Rattle.std.proofs.Common.{ℕ, Bool, Some, arith, sym, ap, refl}
use Rattle.enc_plain.specs.Module.{kids_of}
use Rattle.enc_machine_types.specs.Members.{is_type_constructor, method_of_row, type_constructor}
use Rattle.enc_machine_types.proofs.FirstKid.{found, passed, none_found, by_row}
use Rattle.enc_machine_types.proofs.members.type_constructor.Goals as goal

pub returns-then-is_type_constructor : goal.returns-then-is_type_constructor
unfolding type_constructor
returns-then-is_type_constructor g c =
    let m = g.V.ModuleView.meaning c.args.view.now in
    let p : ℕ → Bool = λ row. is_type_constructor m (method_of_row row) in
    let row = by_row c.kid-method.result c.kid-method.ensures.table in
    rw (found p (kids_of m c.args.owner 0x06) c.loop-i.i c.kid-method.result.row c.loop-i.invariant c.kid-method.ensures.row (rw row (sym c.if-is_type_constructor.ensures)))
    (ap Some (sym row))

pub loop-i-preserved : goal.loop-i-preserved
loop-i-preserved g c =
    let m = g.V.ModuleView.meaning c.args.view.now in
    let p : ℕ → Bool = λ row. is_type_constructor m (method_of_row row) in
    passed p (kids_of m c.args.owner 0x06) c.loop-i.i c.kid-method.result.row c.loop-i.invariant c.kid-method.ensures.row (rw (by_row c.kid-method.result c.kid-method.ensures.table) (sym c.if-is_type_constructor.ensures))

pub returns : goal.returns
unfolding type_constructor
returns g c =
    let m = g.V.ModuleView.meaning c.args.view.now in
    let p : ℕ → Bool = λ row. is_type_constructor m (method_of_row row) in
    rw (none_found p (kids_of m c.args.owner 0x06) c.loop-i.i c.loop-i.invariant (omega (arith, c.kids-i-end.ensures, c.loop-i-test.false))) refl
