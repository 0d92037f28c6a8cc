use Rattle.std.proofs.Common.{sym, ap, ◌∙◌}
use Rattle.enc_plain.specs.Sound.{can_name}
use Rattle.enc_rules.proofs.TokensNamed.{coded_names}
use Rattle.enc_rules.proofs.cells.can_name.Goals as goal

pub returns-in-Coded : goal.returns-in-Coded
returns-in-Coded c =
    c.is_some.ensures
    ∙ coded_names c.in-Coded.kind c.args.token c.encode_coded.result c.requires.row c.encode_coded.ensures.some c.encode_coded.ensures.none
    ∙ ap (λ column. can_name column c.args.token.table) (sym c.in-Coded.is)
