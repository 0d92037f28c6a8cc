use Rattle.std.proofs.Common.{◌∙◌, ◌&&◌, ◌∷◌, ◌++◌, [], ap}
use Rattle.enc_ppdb.specs.Seen.{is_next}
use Rattle.enc_ppdb.proofs.Halves.{rises_more}
use Rattle.enc_ppdb.proofs.methods.MethodList.push.Goals as goal

pub invariant_of-self-2 : goal.invariant_of-self-2
invariant_of-self-2 c =
    let still = c.rises_with-rises.ensures ∙ ap (λ l. c.self.inside.rises && is_next l c.args.method) c.deref.ensures.value in
    rises_more c.self.inside.rises c.self.inside.tokens.items c.push_reserved.new.self.items c.args.method c.rises_with-rises.result c.self.invariant still (c.push_reserved.ensures.items ∙ ap (λ l. l ++ c.args.method ∷ []) c.in_ok-reserve.ensures.items)
