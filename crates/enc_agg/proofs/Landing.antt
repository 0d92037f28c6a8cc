-- A delta that breaks no rule follows its chain.
use Rattle.std.proofs.Common.{◌≡◌, None}
use Rattle.std.specs.Prelude.{IsTrue, nat_lt}
use Rattle.std.specs.List.{list_all}
use Rattle.enc_base.specs.declared.token.Token.{Token}
use Rattle.enc_rows.specs.Source.{Source}
use Rattle.enc_plain.specs.Chain.{Chain}
use Rattle.enc_delta.specs.Delta.{listed}
use Rattle.enc_delta.specs.Judged.{first_meta}
use Rattle.enc_delta.proofs.Unbroken.{first_rules}
use Rattle.enc_agg.specs.Follows.{Follows}

pub follows_chain : (c : Chain) (s : Source) → first_meta c s ≡ None → IsTrue (list_all (λ (t : Token). nat_lt t.table 0x100) (listed s)) → IsTrue (list_all (λ (t : Token). nat_lt t.row 0x1000000) (listed s)) → Follows c s
follows_chain c s none tables rows = record { lands = record { early = first_rules 14 c s none; tables = tables; rows = rows }; rules = none }
