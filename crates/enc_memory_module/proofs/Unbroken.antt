-- What a list has that breaks none of the rules that speak of what its rows say.
use Rattle.std.proofs.Common.{◌≡◌, ℕ, false}
use Rattle.enc_plain.specs.Chain.{Chain}
use Rattle.enc_edit_list.specs.declared.edit.EditList.{EditList}
use Rattle.enc_rules.specs.Rules.{row_is_edited_twice, owner_is_missing, table_is_closed, token_is_missing, body_is_broken, signature_is_bad, locals_are_bad}

-- no edit breaks a rule that speaks of what its row says
pub record BreakNothing (c : Chain) (l : EditList) : Type 0 where
  pub rows : (k : ℕ) → row_is_edited_twice c l k ≡ false
  pub owners : (k : ℕ) → owner_is_missing c l k ≡ false
  pub tables : (k : ℕ) → table_is_closed c l k ≡ false
  pub tokens : (k : ℕ) → token_is_missing c l k ≡ false
  pub bodies : (k : ℕ) → body_is_broken c l k ≡ false
  pub signatures : (k : ℕ) → signature_is_bad c l k ≡ false
  pub locals : (k : ℕ) → locals_are_bad c l k ≡ false
