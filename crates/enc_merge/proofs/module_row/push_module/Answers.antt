use Rattle.std.proofs.Common.{ℕ, List, [], ◌∷◌, ◌++◌, ap, ◌∙◌}
use Rattle.enc_rows.specs.Source.{raw_in}
use Rattle.enc_schema.specs.Columns as columns
use Rattle.enc_delta.specs.Rules.{module_token}
use Rattle.enc_merge.specs.Writing.{Both}
use Rattle.enc_merge.proofs.ModuleNumbers.{module_held, read_number}
use Rattle.enc_merge.proofs.module_row.push_module.Goals as goal

pub returns-clause-single : goal.returns-clause-single
returns-clause-single c =
    let row : List ℕ = c.cell-generation.result ∷ 0 ∷ c.guid_number-mvid.result ∷ c.guid_number-enc_id.result ∷ c.guid_number-base.result ∷ [] in (
      row,
      (
        c.in_ok-push.ensures.pushed 0 ∙ ap (λ rows. rows ++ row ∷ []) c.requires.none,
        module_held c.aggregate.result.now c.args.last.now c.cell-generation.result c.guid_number-mvid.result c.guid_number-enc_id.result c.guid_number-base.result c.aggregate.ensures
            (c.cell-generation.ensures ∙ ap (λ (x : Both). raw_in x.first module_token columns.module_generation) c.last.view_is)
            (c.guid_number-mvid.ensures ∙ ap (λ (x : Both). read_number x.first columns.module_mvid) c.last.view_is)
            (c.guid_number-enc_id.ensures ∙ ap (λ (x : Both). read_number x.second columns.module_enc_id) c.last.view_is)
            (c.guid_number-base.ensures ∙ ap (λ (x : Both). read_number x.first columns.module_enc_base_id) c.last.view_is),
      ),
    )
