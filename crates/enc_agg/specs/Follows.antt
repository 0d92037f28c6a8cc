-- When a delta may follow a chain.
use Rattle.std.specs.Prelude.{◌≡◌, List, [], ◌∷◌, None, IsTrue, nat_lt}
use Rattle.std.specs.List.{list_all}
use Rattle.enc_base.specs.declared.token.Token.{Token}
use Rattle.enc_rows.specs.Source.{Source}
use Rattle.enc_plain.specs.Chain.{Chain}
use Rattle.enc_delta.specs.Delta.{listed}
use Rattle.enc_delta.specs.Judged.{rules, upto, first_of, first_meta}
use Rattle.enc_delta.specs.Seen.{WasRead}
use Rattle.enc_plain.specs.Sound.{IsSound}
use Rattle.enc_agg.specs.Extend.{chain_with}

-- the delta's lists, tables, indices and offsets break no rule, and its tokens are such by their numbers: so its
-- rows and children land in the module
pub record Lands (c : Chain) (s : Source) : Type 0 where
  pub early : first_of (upto 14 rules) c s ≡ None
  pub tables : IsTrue (list_all (λ (t : Token). nat_lt t.table 0x100) (listed s))
  pub rows : IsTrue (list_all (λ (t : Token). nat_lt t.row 0x1000000) (listed s))

-- and no other rule is broken
pub record Follows (c : Chain) (s : Source) : Type 0 where
  pub lands : Lands c s
  pub rules : first_meta c s ≡ None

-- a sound base, and deltas, the newest first, of which each was read from two files and follows those before it
unfoldable pub AllFollow : Source → List Source → Type 0
AllFollow base [] = IsSound (chain_with base []).plain
AllFollow base (d ∷ older) = WasRead d × (Follows (chain_with base older) d × AllFollow base older)
