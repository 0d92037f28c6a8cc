use Rattle.std.proofs.Common.{refl, sym, ap, ◌∙◌}
use Rattle.enc_schema.specs.Schema.{columns_in}
use Rattle.enc_plain.specs.Bodies.{code_loaded}
use Rattle.enc_image.proofs.image.Image.body.Goals as goal

pub number-requires-clause-column : goal.number-requires-clause-column
unfolding columns_in
number-requires-clause-column c = rw c.requires.table refl

pub returns-clause-code : goal.returns-clause-code
returns-clause-code c = c.code_at.ensures.code ∙ ap (λ regions. code_loaded regions c.number.result) c.loaded.ensures ∙ ap (code_loaded c.args.self.now.loaded) (sym c.number.ensures.raw)
