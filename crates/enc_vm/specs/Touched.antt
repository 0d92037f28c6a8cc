-- For the contracts of private functions: types in the order of their rows.
use Rattle.std.specs.Prelude.{◌≡◌, ◌≤◌, ◌+◌, ℕ, List, [], ◌∷◌}
use Rattle.enc_base.specs.declared.token.Token.{Token}
use Rattle.enc_base.specs.Tables as tables

-- rows of TypeDef, each past those before it, and the first at least here
abbrev pub AreTypesFrom : ℕ → List Token → Type 0
AreTypesFrom least [] = Unit {0}
AreTypesFrom least (t ∷ types) = (t.table ≡ tables.type_def) × (least ≤ t.row) × AreTypesFrom (t.row + 1) types
