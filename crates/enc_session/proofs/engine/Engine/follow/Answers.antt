use Rattle.enc_agg.specs.Seen.{users_of_all}
use Rattle.enc_session.proofs.Committed.{same_engine, same_view, engine_follows, on_err}
use Rattle.enc_session.proofs.engine.Engine.follow.Goals as goal

pub invariant_of-self : goal.invariant_of-self
invariant_of-self c = same_engine c.prepare.new.self c.self.inside.parts c.self.inside.machine c.prepare.ensures.same c.self.invariant

pub returns-in_err-prepared-clause-err : goal.returns-in_err-prepared-clause-err
returns-in_err-prepared-clause-err c =
    on_err c.from_residual.result _ (rw (← c.self.view_is) (same_view c.prepare.new.self c.self.inside.parts c.self.inside.machine c.prepare.ensures.same))

pub commit-requires-clause-parts : goal.commit-requires-clause-parts
commit-requires-clause-parts c = (same_engine c.prepare.new.self c.self.inside.parts c.self.inside.machine c.prepare.ensures.same c.self.invariant).parts

pub invariant_of-self-2 : goal.invariant_of-self-2
invariant_of-self-2 c =
    let kept = same_engine c.prepare.new.self c.self.inside.parts c.self.inside.machine c.prepare.ensures.same c.self.invariant in
    record {
      parts = c.commit.ensures.parts;
      texts =
          (c.text_law.ensures (users_of_all c.prepare.new.self.joined.rows) (users_of_all c.commit.new.self.joined.rows) c.self.inside.machine c.commit.ensures.texts kept.texts).1;
    }

pub returns-clause-ok : goal.returns-clause-ok
returns-clause-ok c =
    let kept = same_engine c.prepare.new.self c.self.inside.parts c.self.inside.machine c.prepare.ensures.same c.self.invariant in
    rw (← c.self.view_is)
    (engine_follows c.commit.new.self c.prepare.new.self c.self.inside.parts c.self.inside.machine c.args.checked.delta c.in_ok-prepared.prepared.delta.rows.delta
    c.args.checked.pdb c.in_ok-prepared.prepared.delta.pdb c.prepare.ensures.same c.commit.ensures.followed c.in_ok-prepared.ensures.ready.delta
    c.in_ok-prepared.ensures.ready.debug
    (c.text_law.ensures (users_of_all c.prepare.new.self.joined.rows) (users_of_all c.commit.new.self.joined.rows) c.self.inside.machine c.commit.ensures.texts kept.texts).0)
