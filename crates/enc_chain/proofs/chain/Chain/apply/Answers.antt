use Rattle.std.proofs.Common.{ap, ◌∙◌}
use Rattle.enc_checker.specs.Check.{Accepted, accepted}
use Rattle.enc_checker.specs.Followed.{Followed, followed_by}
use Rattle.enc_chain.specs.Kept.{followed}
use Rattle.enc_chain.proofs.Chains.{followed_knows}
use Rattle.enc_chain.proofs.chain.Chain.apply.Goals as goal

pub invariant_of-self-2 : goal.invariant_of-self-2
invariant_of-self-2 c =
    let k = c.self.inside.joined in
    let p = c.in_ok-prepared.prepared in
    let same = c.commit.ensures.followed ∙ ap (λ (f : Followed). followed_by f (accepted p.rows.delta p.pdb)) c.prepare.ensures.same
    ∙ ap (λ (a : Accepted). followed_by (followed k) a) c.in_ok-prepared.ensures.delta in
    followed_knows k c.commit.new.self c.in_ok-checked.checked.delta c.in_ok-checked.checked.pdb c.within_law.ensures.delta same
    c.in_ok-checked.ensures.accepted c.self.invariant
