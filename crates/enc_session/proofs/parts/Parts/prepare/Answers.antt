use Rattle.std.proofs.Common.{◌∙◌, ap}
use Rattle.enc_checker.specs.Check.{Accepted}
use Rattle.enc_checker.specs.Followed.{Followed}
use Rattle.enc_agg.specs.Seen.{chain_of_all, module_of_all}
use Rattle.enc_session.proofs.Changed.{bodies_are_methods}
use Rattle.enc_session.proofs.Committed.{changed_ready, stands_same}
use Rattle.enc_session.proofs.parts.Parts.prepare.Goals as goal

pub new_codes-requires : goal.new_codes-requires
new_codes-requires c = bodies_are_methods (chain_of_all c.args.self.now.joined.rows) c.args.checked.delta c.requires.follows.read c.requires.follows.rules (rw c.rows.ensures at c.sound.ensures)

pub index_ready-requires-clause-changed : goal.index_ready-requires-clause-changed
index_ready-requires-clause-changed c =
    changed_ready c.prepare-2.new.self.rows c.args.self.now.joined.rows c.args.checked.delta c.in_ok-delta.delta.rows.delta c.deref.result.now c.changed_law.ensures
    (ap (λ (f : Followed). f.base) c.prepare-2.ensures.same) (ap (λ (f : Followed). f.deltas) c.prepare-2.ensures.same)
    (ap (λ (a : Accepted). a.delta) c.in_ok-delta.ensures.delta) (c.deref.ensures.value ∙ c.in_ok-tokens.ensures.tokens)
    c.requires.follows.read c.requires.follows.rules (rw c.rows.ensures at c.sound.ensures)

pub returns-in_err-dispatch-clause-same : goal.returns-in_err-dispatch-clause-same
returns-in_err-dispatch-clause-same c = record {
  chain = c.prepare-2.ensures.same;
  methods = c.prepare.ensures.methods;
  index = λ stands. stands_same c.index_ready.new.dispatch c.args.self.now.dispatch _ (module_of_all c.args.self.now.joined.rows) c.index_ready.ensures.kept stands;
}

pub returns-clause-same : goal.returns-clause-same
returns-clause-same c = record {
  chain = c.prepare-2.ensures.same;
  methods = c.prepare.ensures.methods;
  index = λ stands. stands_same c.index_ready.new.dispatch c.args.self.now.dispatch _ (module_of_all c.args.self.now.joined.rows) c.index_ready.ensures.kept stands;
}
