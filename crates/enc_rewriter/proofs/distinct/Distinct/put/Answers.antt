use Rattle.std.proofs.Common.{◌≡◌, ◌+◌, ◌<◌, ◌∙◌, ap, sym, refl, subst, length}
use Rattle.enc_rewriter.specs.Values.{heap_limit}
use Rattle.enc_rewriter.specs.Distinct.{written_in}
use Rattle.enc_rewriter.specs.Distinct.{borrowed}
use Rattle.enc_rewriter.proofs.Listing.{new_key, inserted_are, listed_more, fits_in}
use Rattle.enc_rewriter.proofs.distinct.Distinct.put.Goals as goal

pub invariant_of-self-then-branch : goal.invariant_of-self-then-branch
invariant_of-self-then-branch c =
    let values = borrowed c.self.inside.values.keys in
    let fit = rw (← c.self.view_is) at c.requires.fit in
    let bytes : c.args.bytes ≡ c.self.inside.bytes + length (written_in c.self.inside.pass c.args.value.now) =
    rw (← c.self.view_is) at c.requires.bytes ∙ ap (λ n. n + length (written_in c.self.inside.pass c.args.value.now)) (sym c.self.invariant.counted) in
    let within : c.args.bytes < heap_limit c.self.inside.pass = rw (← c.self.view_is) at c.requires.within in
    let new = new_key c.self.inside.values.keys c.args.value.now c.in_ok-insert.field-0 c.requires.some c.in_ok-insert.ensures.added c.if-branch.true in
    let e = inserted_are c.self.inside.values.keys c.insert.new.self.keys c.args.value c.requires.some c.in_ok-insert.ensures.keys in
    let few = subst (λ n. n < heap_limit c.self.inside.pass) bytes within in
    rw (bytes, e) (listed_more c.self.inside.pass c.self.inside.bytes values c.args.value.now c.self.invariant new fit few)

pub returns-then-branch-clause-added : goal.returns-then-branch-clause-added
returns-then-branch-clause-added c =
    rw (← c.self.view_is, inserted_are c.self.inside.values.keys c.insert.new.self.keys c.args.value c.requires.some c.in_ok-insert.ensures.keys) refl

pub returns-then-branch-clause-refused : goal.returns-then-branch-clause-refused
returns-then-branch-clause-refused c =
    fits_in c.args.self.now.pass c.args.self.now.values c.args.value.now (subst (λ n. n < heap_limit c.args.self.now.pass) c.requires.bytes c.requires.within)

pub returns-else-branch-clause-added : goal.returns-else-branch-clause-added
returns-else-branch-clause-added c =
    rw (← c.self.view_is, inserted_are c.self.inside.values.keys c.insert.new.self.keys c.args.value c.requires.some c.in_ok-insert.ensures.keys) refl

pub returns-else-branch-clause-refused : goal.returns-else-branch-clause-refused
returns-else-branch-clause-refused c =
    fits_in c.args.self.now.pass c.args.self.now.values c.args.value.now (subst (λ n. n < heap_limit c.args.self.now.pass) c.requires.bytes c.requires.within)
