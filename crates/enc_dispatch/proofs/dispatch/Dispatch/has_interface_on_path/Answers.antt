use Rattle.std.proofs.Common.{option_map, sym, ◌∙◌}
use Rattle.enc_dispatch.specs.Walked.{left_in, path_in}
use Rattle.enc_dispatch.proofs.Climbs.{interface_there, mapped_there}
use Rattle.enc_dispatch.proofs.dispatch.Dispatch.has_interface_on_path.Goals as goal

pub returns : goal.returns
returns c =
    c.is_some.ensures
    ∙ sym (mapped_there (left_in c.args.self.now) c.behind.result)
    ∙ interface_there c.args.self.now c.args.interface (path_in c.args.self.now c.args.class) c.from_interface.result.class (option_map (left_in c.args.self.now) c.behind.result) (sym c.from_interface.ensures ∙ c.behind.ensures.path)
