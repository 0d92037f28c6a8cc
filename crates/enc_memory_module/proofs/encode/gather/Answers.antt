use Rattle.std.proofs.Common.{ap, ◌∙◌}
use Rattle.enc_meta.specs.Built.{Built}
use Rattle.enc_rewriter.specs.Values.{with_all}
use Rattle.enc_rewriter.specs.declared.pass.Pass.TheVariants.{Users}
use Rattle.enc_memory_module.specs.Encoded.{users_of_rows}
use Rattle.enc_memory_module.proofs.Gathering.{begun_none, not_past}
use Rattle.enc_memory_module.proofs.encode.gather.Goals as goal

pub unreachable-requires : goal.unreachable-requires
unreachable-requires c =
    not_past c.in_ok-heaps.heaps c.in-Err-TooLarge.field-0 c.in-Err-TooLarge.field-0-0 (users_of_rows c.args.rows.now) c.in-Err-TooLarge.field-0-is c.in_ok-heaps.ensures c.in-Err-TooLarge.ensures.past c.requires

pub returns-in-Ok : goal.returns-in-Ok
returns-in-Ok c = c.in-Ok.ensures.filled ∙ ap (λ (h : Built). with_all Users h (users_of_rows c.args.rows.now)) (begun_none c.in_ok-heaps.heaps c.in_ok-heaps.ensures)
