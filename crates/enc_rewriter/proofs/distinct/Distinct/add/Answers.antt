use Rattle.std.proofs.Common.{◌∙◌, sym, arith}
use Rattle.std.proofs.lemmas.Bool.Decides.{nat_tests}
use Rattle.enc_rewriter.specs.Distinct.{borrowed}
use Rattle.enc_rewriter.proofs.Listing.{kept_is, empty_kept, kept_stays, kept_passes, passes_in}
use Rattle.enc_rewriter.proofs.distinct.Distinct.add.Goals as goal

pub returns-then-is_empty-clause-added : goal.returns-then-is_empty-clause-added
returns-then-is_empty-clause-added c =
    kept_stays c.args.self.now c.args.value.now (empty_kept c.args.self.now.values c.args.value.now (grind (arith, nat_tests, c.if-is_empty.ensures)))

pub returns-then-is_empty-clause-refused : goal.returns-then-is_empty-clause-refused
returns-then-is_empty-clause-refused c =
    kept_passes c.args.self.now.pass c.args.self.now.values c.args.value.now (empty_kept c.args.self.now.values c.args.value.now (grind (arith, nat_tests, c.if-is_empty.ensures)))

pub returns-then-contains-clause-added : goal.returns-then-contains-clause-added
returns-then-contains-clause-added c = rw (← c.self.view_is) (kept_stays (record { pass = c.self.inside.pass; values = borrowed c.self.inside.values.keys }) c.args.value.now (kept_is c.self.inside.values.keys c.args.value.now (grind (arith, nat_tests, c.if-is_empty.ensures)) ∙ sym c.if-contains.ensures))

pub returns-then-contains-clause-refused : goal.returns-then-contains-clause-refused
returns-then-contains-clause-refused c =
    rw (← c.self.view_is) (kept_passes c.self.inside.pass (borrowed c.self.inside.values.keys) c.args.value.now (kept_is c.self.inside.values.keys c.args.value.now (grind (arith, nat_tests, c.if-is_empty.ensures)) ∙ sym c.if-contains.ensures))

pub returns-clause-refused : goal.returns-clause-refused
returns-clause-refused c =
    let new = kept_is c.self.inside.values.keys c.args.value.now (grind (arith, nat_tests, c.if-is_empty.ensures)) ∙ sym c.if-contains.ensures in
    rw (← c.self.view_is) (c.stream.ensures, passes_in c.self.inside.pass (borrowed c.self.inside.values.keys) c.args.value.now new (omega (arith, c.self.invariant.counted, c.size_of.ensures, c.limit.ensures, c.if-bytes-limit.false)))
