use Rattle.std.proofs.Common.{◌∙◌, ap, sym}
use Rattle.enc_agg.specs.Seen.{chain_of_all}
use Rattle.enc_checker.specs.Followed.{Followed}
use Rattle.enc_c.specs.Outcomes.{bytes_held}
use Rattle.enc_c.proofs.Kept.{and_both, more_short, not_both}
use Rattle.enc_c.proofs.held.Held.apply.Goals.{then-self, else-self}
use Rattle.enc_c.proofs.held.Held.apply.Goals as goal

pub invariant_of-self-2 : goal.invariant_of-self-2
invariant_of-self-2 c =
    let a = c.in_ok-apply.ensures in
    λ is. elim c.if-self.branch [
      | then-self w ↦ more_short (chain_of_all c.self.inside.chain.rows) c.args.files.meta.items c.args.files.il.items (bytes_held c.args.files.pdb) a.0 c.self.inside.short c.self.inside.chain.rows.deltas
          c.apply.new.self.rows.deltas c.short_law.ensures a.1 c.self.invariant (ap (λ (f : Followed). f.deltas) a.2) (and_both c.self.inside.short _ w.if-self.true (sym c.is_short-short.ensures ∙ sym w.self-is ∙ is))
      | else-self w ↦ absurd (not_both c.self.inside.short w.if-self.false (sym w.self-is ∙ is))
    ]
