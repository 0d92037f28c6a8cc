use Rattle.std.proofs.Common.{◌*◌, ◌∙◌, sym, ap, drop, Some}
use Rattle.enc_opcodes.specs.Clause.{clause_in}
use Rattle.enc_il.proofs.Sections.{nth_clause}
use Rattle.enc_il.proofs.clauses.nth.Goals as goal

pub returns : goal.returns
returns c =
    let here = nth_clause c.args.fat c.args.count c.args.bytes.now c.args.i c.requires in
    let at = c.rest_at.ensures ∙ ap (λ n. drop (n * c.args.i) c.args.bytes.now) c.clause_size.ensures.size in
    ap Some (c.clause_front.ensures ∙ ap (clause_in c.args.fat) at) ∙ sym here
