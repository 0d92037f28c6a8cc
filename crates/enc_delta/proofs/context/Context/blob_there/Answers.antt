use Rattle.enc_delta.proofs.context.Context.blob_there.Goals as goal

pub returns : goal.returns
returns g c = c.entry.ensures
