use Rattle.std.proofs.Common.{◌≡◌, sym, subst, ◌∙◌}
use Rattle.enc_opcodes.specs.Body.{code_seen}
use Rattle.enc_token_map.specs.Body.{MeansMoved}
use Rattle.enc_token_map.proofs.Means.{with_parts, means_moved, means_own}
use Rattle.enc_token_map.proofs.moved_body.MovedBody.of.Goals as goal

pub returns-then-are_same-2 : goal.returns-then-are_same-2
returns-then-are_same-2 g c =
    let code = c.in_ok-code.code.items in
    let sections = c.in_ok-sections.sections.items in
    let same : code ≡ c.args.body.now.code.now = sym c.deref.ensures.value ∙ c.are_same.ensures c.if-are_same.true in
    let alike : sections ≡ c.args.body.now.sections.now = sym c.deref-then-are_same.ensures.value ∙ c.are_same-then-are_same.ensures c.if-are_same-2.true in
    means_own (g.M.Moves.to c.args.moves.now) (code_seen c.args.body.now) code sections c.in_ok-code.ensures.moved c.in_ok-sections.ensures.moved same alike

pub returns : goal.returns
returns g c =
    let f = g.M.Moves.to c.args.moves.now in
    let own = code_seen c.args.body.now in
    let code = c.in_ok-code.code.items in
    let sections = c.in_ok-sections.sections.items in
    let moved : MeansMoved f own (with_parts own (f own.locals) code sections) =
    means_moved f own code sections c.in_ok-code.ensures.moved c.in_ok-sections.ensures.moved c.in_ok-code.ensures.size c.in_ok-sections.ensures.size in
    subst (λ xs. MeansMoved f own (with_parts own (f own.locals) c.from_vec.result xs)) (sym c.from_vec-2.ensures)
    (subst (λ xs. MeansMoved f own (with_parts own (f own.locals) xs sections)) (sym c.from_vec.ensures) moved)
