use Rattle.std.proofs.Common.{◌≡◌, ◌∷◌, ap, ◌∙◌, arith}
use Rattle.std.proofs.lemmas.List.{nil_from_length}
use Rattle.enc_base.specs.Order.{or_else}
use Rattle.enc_versions.specs.Commit.{brought}
use Rattle.enc_versions.specs.Version.{newest_of}
use Rattle.enc_versions.proofs.Committed.{methods_step, rows_step, newest_step, newest_end}
use Rattle.enc_versions.proofs.commit.put_all.Goals as goal

pub put-requires-clause-row : goal.put-requires-clause-row
put-requires-clause-row c = (rows_step c.in-Some.new c.next.new.self.rest.items c.loop-new.new-iterator.rest.items _ c.in-Some.ensures.steps.0 c.loop-new.invariant.rows).0

pub loop-new-preserved : goal.loop-new-preserved
loop-new-preserved c =
    let new = c.in-Some.new in
    let rest = c.next.new.self.rest.items in
    let all = c.loop-new.new-iterator.rest.items in
    let items : all ≡ new ∷ rest = c.in-Some.ensures.steps.0 in
    record {
      methods = (methods_step new rest all items c.loop-new.invariant.methods).1;
      rows = rw c.put.ensures.count (rows_step new rest all _ items c.loop-new.invariant.rows).1;
      count = c.put.ensures.count ∙ c.loop-new.invariant.count;
      newest = λ m. ap (or_else (brought rest m)) (c.put.ensures.newest m) ∙ newest_step new rest all m (newest_of c.loop-new.slots.items m) items ∙ c.loop-new.invariant.newest m;
      capacity = c.put.ensures.capacity ∙ c.loop-new.invariant.capacity;
    }

pub returns-clause-newest : goal.returns-clause-newest
returns-clause-newest c = λ m.
    let rest = c.loop-new.new-iterator.rest in
    newest_end rest.items m _ _ (nil_from_length rest.items (omega (arith, rest.ok.0, c.in-None.ensures.steps.0))) (c.loop-new.invariant.newest m)
