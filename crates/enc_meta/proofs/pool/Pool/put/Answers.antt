use Rattle.std.proofs.Common.{◌≡◌, refl, arith}
use Rattle.std.proofs.lemmas.Bool.Decides.{nat_tests}
use Rattle.enc_meta.specs.Pools.{encoded, limit_of}
use Rattle.enc_meta.proofs.Places.{new_last, with_new, offset_new, seen_more}
use Rattle.enc_meta.proofs.Tied.{tied_more, passes_new}
use Rattle.enc_meta.proofs.pool.Pool.put.Goals as goal

pub invariant_of-self-2 : goal.invariant_of-self-2
invariant_of-self-2 c =
    let k : c.in_ok-key.key.items ≡ c.args.value.now = c.in_ok-key.ensures.items_if_clones_equal (λ x y e. e) in
    let new = rw (← c.self.view_is) at c.requires.new in
    let fit = rw (← c.self.view_is) at c.requires.fit in
    let e = new_last _ c.self.inside.offsets c.in_ok-key.key c.args.value.now c.self.inside.end c.insert.new.self.entries k new c.in_ok-insert.ensures.entries in
    rw (e, c.size_of.ensures) (tied_more _ c.self.inside.form c.self.inside.start c.self.inside.end c.self.inside.offsets.entries c.in_ok-key.key c.args.value.now c.self.invariant k (omega (arith, c.size_of.ensures, c.limit.ensures, c.if-limit-end.false)) new fit)

pub returns-then-limit-end-clause-refused : goal.returns-then-limit-end-clause-refused
returns-then-limit-end-clause-refused c =
    let new = rw (← c.self.view_is) at c.requires.new in
    let p = passes_new (encoded c.self.inside.form) (limit_of c.self.inside.form) c.self.inside.start c.self.inside.end _ c.args.value.now new c.self.invariant.ends in
    rw (← c.self.view_is) (c.stream.ensures, rw p (grind (arith, nat_tests, c.size_of.ensures, c.limit.ensures, c.if-limit-end.true)))

pub returns-clause-refused : goal.returns-clause-refused
returns-clause-refused c =
    let new = rw (← c.self.view_is) at c.requires.new in
    let p = passes_new (encoded c.self.inside.form) (limit_of c.self.inside.form) c.self.inside.start c.self.inside.end _ c.args.value.now new c.self.invariant.ends in
    rw (← c.self.view_is, p) (grind (arith, nat_tests, c.size_of.ensures, c.limit.ensures, c.if-limit-end.false))

pub returns-clause-offset : goal.returns-clause-offset
returns-clause-offset c =
    let new = rw (← c.self.view_is) at c.requires.new in
    rw (← c.self.view_is, offset_new (encoded c.self.inside.form) c.self.inside.start _ c.args.value.now new) c.self.invariant.ends

pub returns-clause-values : goal.returns-clause-values
returns-clause-values c =
    let k : c.in_ok-key.key.items ≡ c.args.value.now = c.in_ok-key.ensures.items_if_clones_equal (λ x y e. e) in
    let new = rw (← c.self.view_is) at c.requires.new in
    let e = new_last _ c.self.inside.offsets c.in_ok-key.key c.args.value.now c.self.inside.end c.insert.new.self.entries k new c.in_ok-insert.ensures.entries in
    rw (← c.self.view_is, with_new _ c.args.value.now new, e, seen_more _ c.self.inside.offsets.entries c.in_ok-key.key c.self.inside.end, k) refl
