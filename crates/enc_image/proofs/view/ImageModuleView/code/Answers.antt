use Rattle.std.proofs.Common.{refl}
use Rattle.enc_image.proofs.Codes.{code_cell}
use Rattle.enc_image.proofs.Texts.{read_texts}
use Rattle.enc_image.proofs.view.ImageModuleView.code.Goals as goal

pub returns-clause-body : goal.returns-clause-body
returns-clause-body c = code_cell _ c.args.method _ c.body.result c.requires.row c.requires.table refl c.body.ensures.code

pub returns-clause-texts : goal.returns-clause-texts
returns-clause-texts c = read_texts _ c.args.method c.body.result c.body.ensures.sound c.requires.row c.requires.table c.body.ensures.code
