use Rattle.std.proofs.Common.{refl}
use Rattle.enc_lookup.proofs.NameColumns.{enclosing_class, nested_class}
use Rattle.enc_lookup.proofs.types.nested_at.Goals as goal

pub token-requires : goal.token-requires
token-requires g c = enclosing_class 0x29 refl

pub token-nested-requires : goal.token-nested-requires
token-nested-requires g c = nested_class 0x29 refl
