use Rattle.enc_delta.specs.declared.shared.Keyed.{Keyed}
use Rattle.enc_delta.specs.Members.{no_keyed}
use Rattle.enc_delta.proofs.CutBy.{none_past, one_there}
use Rattle.enc_delta.proofs.shared.has_key.Goals as goal

pub returns-then-i-entries : goal.returns-then-i-entries
returns-then-i-entries c = none_past (λ (e : Keyed). e.key) no_keyed c.args.entries.now c.args.key c.cut-i.result c.cut-i.ensures c.if-i-entries.true

pub returns : goal.returns
returns c = one_there (λ (e : Keyed). e.key) no_keyed c.args.entries.now c.args.key c.cut-i.result c.requires c.cut-i.ensures c.if-i-entries.false
