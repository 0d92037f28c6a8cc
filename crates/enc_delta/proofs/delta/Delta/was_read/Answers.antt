use Rattle.enc_delta.proofs.delta.Delta.was_read.Goals as goal

pub returns : goal.returns
returns c =
    let made = c.self.invariant in
    rw (← c.self.view_is) (record { metadata = c.self.inside.meta.items; il = c.self.inside.il.items; bytes = made.file; code = made.code; read = made.read })
