use Rattle.std.proofs.Common.{sym, ap, ◌∙◌, subst, length, map, List}
use Rattle.std.specs.Prelude.{◌==◌, filter}
use Rattle.enc_base.specs.declared.token.Token.{Token}
use Rattle.enc_plain.specs.Apply.{Attached}
use Rattle.enc_delta.specs.declared.pairs.Pair.{Pair}
use Rattle.enc_delta.specs.Members.{ArePairs, pair_seen}
use Rattle.enc_delta.specs.Changes.{asked_of}
use Rattle.enc_delta.specs.Twins.{twin_fault}
use Rattle.enc_rules.specs.Known.{listed_rows}
use Rattle.enc_rules.specs.Listed.{AfterList}
use Rattle.enc_rules.specs.First.{first_such}
use Rattle.enc_rules.specs.Told.{adds_child}
use Rattle.enc_rules.proofs.TwinsByTable.{first_named, none_named}
use Rattle.enc_rules.proofs.members.first_in.Goals as goal

pub returns-in-Ok-Some : goal.returns-in-Ok-Some
returns-in-Ok-Some g c = record {
  first =
      c.edit_of.ensures.first
      ∙ ap (λ (t : Token). first_such (adds_child t c.args.context.now.chain c.args.context.now.list) (length c.args.context.now.list.edits)) c.row_of_place.ensures
      ∙ first_named c.args.table c.args.context.now.chain c.args.context.now.list c.deref.result.now c.in-Ok-Some.place
      (ap (map pair_seen) c.deref.ensures.value ∙ c.in_ok-pairs.ensures.pairs ∙ ap (filter (λ (a : Attached). a.child.table == c.args.table)) c.pairs.ensures.pairs)
      (subst (λ (l : List Pair). ArePairs l) (sym c.deref.ensures.value) c.in_ok-pairs.ensures.rows)
      (sym c.in-Ok-Some.field-0-is ∙ c.in-Ok-Some.ensures ∙ ap (λ (j : AfterList). twin_fault (asked_of (listed_rows c.args.context.now)) j.chain.plain (map pair_seen c.deref.result.now)) c.context.view_is);
  few = c.edit_of.ensures.few;
}

pub returns-clause-first : goal.returns-clause-first
returns-clause-first g c =
    none_named c.args.table c.args.context.now.chain c.args.context.now.list c.deref.result.now
    (ap (map pair_seen) c.deref.ensures.value ∙ c.in_ok-pairs.ensures.pairs ∙ ap (filter (λ (a : Attached). a.child.table == c.args.table)) c.pairs.ensures.pairs)
    (sym c.in-Ok-None.field-0-is ∙ c.in-Ok-None.ensures ∙ ap (λ (j : AfterList). twin_fault (asked_of (listed_rows c.args.context.now)) j.chain.plain (map pair_seen c.deref.result.now)) c.context.view_is)
