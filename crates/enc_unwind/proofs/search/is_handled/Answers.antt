use Rattle.std.proofs.Common.{◌∙◌, ap}
use Rattle.std.specs.Prelude.{is_some}
use Rattle.enc_unwind.specs.Search.{handlers_of, is_in_handler}
use Rattle.enc_unwind.proofs.Handled.{some_handles}
use Rattle.enc_unwind.proofs.search.is_handled.Goals as goal

pub returns : goal.returns
returns c = c.is_some.ensures ∙ ap is_some c.first_clause.ensures ∙ some_handles (is_in_handler c.args.offset) (handlers_of c.args.code.now.sections.now)
