use Rattle.enc_delta.proofs.context.Context.blob_or_none.Goals as goal

pub returns : goal.returns
returns g c = c.entry_or_none.ensures
