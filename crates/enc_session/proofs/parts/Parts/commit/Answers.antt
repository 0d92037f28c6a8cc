use Rattle.enc_session.proofs.Committed.{parts_follow}
use Rattle.enc_session.proofs.parts.Parts.commit.Goals as goal

pub returns-clause-parts : goal.returns-clause-parts
returns-clause-parts c =
    parts_follow (record { joined = c.commit.new.self; versions = c.commit-2.new.self; dispatch = c.commit-3.new.self }) c.args.self.now
    c.args.prepared.delta.rows.delta c.args.prepared.delta.pdb c.args.prepared.versions c.commit_law.ensures c.codes_law.ensures
    c.requires.parts c.requires.ready.ready.follows (rw c.rows.ensures at c.sound.ensures) c.commit.ensures.chain c.commit.ensures.texts c.commit.ensures.followed
    c.requires.ready.codes c.commit-2.ensures.committed (c.commit-3.ensures _ c.requires.ready.index)
