use Rattle.std.proofs.Common.{ap, sym, ◌∙◌}
use Rattle.enc_dispatch.specs.Entries.{earliest}
use Rattle.enc_key_map.specs.Index.{value_at, either}
use Rattle.enc_dispatch.proofs.Put.{put_before}
use Rattle.enc_dispatch.proofs.first.put_from_behind.Goals as goal

pub loop-entry-preserved : goal.loop-entry-preserved
loop-entry-preserved g c = λ q.
    ap (either (earliest c.pop.new.self.items q)) (c.put.ensures q)
    ∙ sym (put_before c.loop-entry.rest.items c.pop.new.self.items c.in-Some.entry (value_at c.loop-entry.index q) q c.in-Some.ensures.items)
    ∙ c.loop-entry.invariant q
