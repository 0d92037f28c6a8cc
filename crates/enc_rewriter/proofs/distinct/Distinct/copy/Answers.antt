use Rattle.std.proofs.Common.{◌≡◌, ◌∙◌, ap, subst, Err}
use Rattle.enc_meta.specs.declared.builder.BuildFault.TheVariants.{TooLarge}
use Rattle.enc_rewriter.specs.Values.{with_all, IsPast}
use Rattle.enc_rewriter.specs.Distinct.{borrowed}
use Rattle.enc_rewriter.proofs.Copying.{copied_are, never_past}
use Rattle.enc_rewriter.proofs.distinct.Distinct.copy.Goals as goal

pub returns-in-Ok : goal.returns-in-Ok
returns-in-Ok c =
    let none = rw (← c.self.view_is) at c.requires.none in
    let all : c.copy_all.new.heaps ≡ with_all c.self.inside.pass c.args.heaps.now (borrowed c.self.inside.values.keys) =
    c.in-Ok.ensures.filled ∙ ap (λ keys. with_all c.self.inside.pass c.args.heaps.now (borrowed keys)) c.as_slice.ensures.keys in
    rw (← c.self.view_is) (copied_are c.self.inside.pass c.args.heaps.now c.copy_all.new.heaps c.self.inside.bytes (borrowed c.self.inside.values.keys) c.self.invariant none all)

pub unreachable-requires : goal.unreachable-requires
unreachable-requires c =
    let none = rw (← c.self.view_is) at c.requires.none in
    let past = rw (c.in-Err-TooLarge.field-0-is) at c.in-Err-TooLarge.ensures.past in
    never_past c.in-Err-TooLarge.field-0-0 c.self.inside.pass c.args.heaps.now c.self.inside.bytes (borrowed c.self.inside.values.keys) c.self.invariant c.requires.starts none
    (subst (λ keys. IsPast (Err (TooLarge c.in-Err-TooLarge.field-0-0)) c.self.inside.pass (with_all c.self.inside.pass c.args.heaps.now (borrowed keys))) c.as_slice.ensures.keys past)
