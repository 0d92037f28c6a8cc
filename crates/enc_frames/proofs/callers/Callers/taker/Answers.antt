use Rattle.std.proofs.Common.{◌∙◌, ◌-◌, ℕ, sym, ap, arith, reverse, take}
use Rattle.enc_opcodes.specs.Body.{body_of}
use Rattle.enc_unwind.specs.Search.{catch_among}
use Rattle.enc_frames.proofs.Takers.{outer_step, taken_there, ended_there, goes_on, none_left}
use Rattle.enc_frames.specs.Handlers.{outer_taker}
use Rattle.enc_frames.specs.HandlersSeen.{own_clauses}
use Rattle.enc_frames.specs.Machine.{Frame, version_world}
use Rattle.enc_versions.specs.Version.{Version}
use Rattle.enc_frames.proofs.callers.Callers.taker.Goals as goal

-- src/catching.rt:46:17
pub returns-in-Some : goal.returns-in-Some
unfolding version_world body_of
returns-in-Some g c = λ users methods.
    let w : _ = version_world users (g.V.ModuleView.meaning c.args.view.now) methods in
    let f : _ = c.index-frame.result.now in
    let items : _ = c.self.inside.items.items in
    let asked : _ = c.catching-clause.ensures
    ∙ ap (λ (n : ℕ). catch_among (g.V.ModuleView.meaning c.args.view.now) f.code.code.max (own_clauses f) n c.args.thrown)
    (c.saturating_sub.ensures ∙ ap (λ (x : Frame Version). x.offset - 1) c.frame.view_is) in
    sym (sym (c.loop-left.invariant.rest users methods ∙ ap (outer_taker w c.args.thrown) c.self.view_is)
    ∙ outer_step w c.args.thrown items c.loop-left.left f f c.loop-left-test.true c.loop-left.invariant.few c.index-frame.ensures
    ∙ taken_there w c.args.thrown f (c.loop-left.left - 1) c.in-Some.clause (reverse (take (c.loop-left.left - 1) items)) c.catching-clause.result asked c.in-Some.is)

pub returns-then-ends_search : goal.returns-then-ends_search
unfolding version_world body_of
returns-then-ends_search g c = λ users methods.
    let w : _ = version_world users (g.V.ModuleView.meaning c.args.view.now) methods in
    let f : _ = c.index-frame.result.now in
    let items : _ = c.self.inside.items.items in
    let asked : _ = c.catching-clause.ensures
    ∙ ap (λ (n : ℕ). catch_among (g.V.ModuleView.meaning c.args.view.now) f.code.code.max (own_clauses f) n c.args.thrown)
    (c.saturating_sub.ensures ∙ ap (λ (x : Frame Version). x.offset - 1) c.frame.view_is) in
    sym (sym (c.loop-left.invariant.rest users methods ∙ ap (outer_taker w c.args.thrown) c.self.view_is)
    ∙ outer_step w c.args.thrown items c.loop-left.left f f c.loop-left-test.true c.loop-left.invariant.few c.index-frame.ensures
    ∙ ended_there w c.args.thrown f (c.loop-left.left - 1) (reverse (take (c.loop-left.left - 1) items)) c.catching-clause.result asked c.in_default.is (sym c.if-ends_search.ensures))

pub loop-left-preserved : goal.loop-left-preserved
unfolding version_world body_of
loop-left-preserved g c = record {
  few = omega arith;
  rest = λ users methods.
      let w : _ = version_world users (g.V.ModuleView.meaning c.args.view.now) methods in
      let f : _ = c.index-frame.result.now in
      let items : _ = c.self.inside.items.items in
      let asked : _ = c.catching-clause.ensures
      ∙ ap (λ (n : ℕ). catch_among (g.V.ModuleView.meaning c.args.view.now) f.code.code.max (own_clauses f) n c.args.thrown)
      (c.saturating_sub.ensures ∙ ap (λ (x : Frame Version). x.offset - 1) c.frame.view_is) in
      sym (outer_step w c.args.thrown items c.loop-left.left f f c.loop-left-test.true c.loop-left.invariant.few c.index-frame.ensures
      ∙ goes_on w c.args.thrown f (c.loop-left.left - 1) (reverse (take (c.loop-left.left - 1) items)) c.catching-clause.result asked c.in_default.is (sym c.if-ends_search.ensures))
      ∙ c.loop-left.invariant.rest users methods;
}

pub returns : goal.returns
returns g c = λ users methods.
    sym (sym (c.loop-left.invariant.rest users methods ∙ ap (outer_taker (version_world users (g.V.ModuleView.meaning c.args.view.now) methods) c.args.thrown) c.self.view_is)
    ∙ none_left (version_world users (g.V.ModuleView.meaning c.args.view.now) methods) c.args.thrown c.self.inside.items.items c.loop-left.left (omega arith))
