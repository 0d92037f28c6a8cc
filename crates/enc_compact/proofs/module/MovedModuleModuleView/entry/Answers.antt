use Rattle.std.proofs.Common.{◌≡◌, false, true, sym, ◌∙◌}
use Rattle.enc_plain.specs.Module.{has_row}
use Rattle.enc_compact.proofs.SeenMoved.{entry_row, entry_none}
use Rattle.enc_compact.proofs.module.MovedModuleModuleView.entry.Goals as goal

pub returns-then-not-is_row : goal.returns-then-not-is_row
returns-then-not-is_row g c =
    let m = g.V.ModuleView.meaning c.args.self.now in
    let none : has_row m c.of-token.result ≡ false = sym (rw c.lent-2.ensures.lent at c.is_row.ensures) ∙ c.if-not-is_row.true in
    entry_none m c.of-token.result c.entry-entry.result (rw c.lent.ensures.lent at c.entry-entry.ensures) c.of-token.ensures.token none

pub returns : goal.returns
returns g c =
    let m = g.V.ModuleView.meaning c.args.self.now in
    let there : has_row m c.of-token.result ≡ true = sym (rw c.lent-2.ensures.lent at c.is_row.ensures) ∙ c.if-not-is_row.false in
    c.number.ensures
    ∙ entry_row m c.of-token.result c.moved.result c.entry-entry.result (rw c.lent.ensures.lent at c.entry-entry.ensures) c.of-token.ensures.token there
    c.moved.ensures.moved
