-- When an edit list can be applied to a module that no file holds: it breaks no rule but those on its EncId, on
-- heaps and on the number of deltas.
use Rattle.std.specs.Prelude.{◌≡◌, ℕ, false, not, ◌==◌, List, [], length, filter, None}
use Rattle.enc_base.specs.Order.{first_below}
use Rattle.enc_plain.specs.Chain.{Chain}
use Rattle.enc_plain.specs.Module.{Module}
use Rattle.enc_edit_list.specs.declared.edit.EditList.{EditList}
use Rattle.enc_rules.specs.Edited.{edited}
use Rattle.enc_rules.specs.First.{EditRule, edit_rules, first_at}
use Rattle.enc_rules.specs.Rules.{there_are_too_many}
use Rattle.enc_rewriter.specs.Values.{passes_limit}
use Rattle.enc_rewriter.specs.declared.pass.Pass.TheVariants.{Users}

-- a module alone: no deltas, and no heaps
abbrev pub alone : Module → Chain
alone m = record { plain = m; ids = []; heaps = [] }

-- the rules of edits but E5, which speaks of heaps
abbrev pub rules_of_rows : List (ℕ × EditRule)
rules_of_rows = filter (λ (r : ℕ × EditRule). not (r.0 == 5)) edit_rules

-- the list breaks no rule on rows, bodies and points, and the user texts of the bodies afterwards have room in one
-- `#US`
pub record MayApply (m : Module) (l : EditList) : Type 0 where
  pub few : there_are_too_many (alone m) l ≡ false
  pub rules : first_below (first_at rules_of_rows (alone m) l) (length l.edits) ≡ None
  pub texts : passes_limit Users (edited m l.edits) ≡ false
