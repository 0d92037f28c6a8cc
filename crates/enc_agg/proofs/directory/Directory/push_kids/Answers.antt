use Rattle.std.proofs.Common.{sym, ◌∙◌, arith}
use Rattle.enc_key_map.specs.Index.{value_at}
use Rattle.enc_agg.specs.Directory.{kids_key}
use Rattle.enc_agg.proofs.Directories.{none_kept, none_more, one_kept}
use Rattle.enc_agg.proofs.directory.Directory.push_kids.Goals as goal

pub returns-in_default : goal.returns-in_default
returns-in_default c = none_kept _ _ _ (sym c.count.ensures ∙ c.in_default.is)

pub loop-i-init : goal.loop-i-init
loop-i-init c = record
    { rows = none_more _ _ c.len-i.result (omega (arith, c.len-i.ensures)); low = omega (arith, c.len-i.ensures); high = omega (arith, c.len-i.ensures) }

pub loop-i-preserved : goal.loop-i-preserved
loop-i-preserved c =
    let inv = c.loop-i.invariant in
    record {
      rows = one_kept _ _ _ _ (λ j. value_at c.args.self.now.kids (kids_key c.args.table c.args.owner j)) c.loop-i.i inv.low c.kid.ensures inv.rows
          c.in_ok-push_kept.ensures;
      low = omega (arith, inv.low);
      high = omega (arith, inv.low, inv.high, c.loop-i-test.true);
    }
