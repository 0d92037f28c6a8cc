use Rattle.std.proofs.Common.{◌≡◌, ◌+◌, ◌*◌, ◌∙◌, sym, ap, subst, length, arith}
use Rattle.std.specs.Prelude.{nat_lt}
use Rattle.enc_base.specs.Token.{nth_row}
use Rattle.enc_seqpoints.specs.Grammar.{MethodPoints}
use Rattle.enc_ppdb.specs.Written.{documents_of, most_pdb_weight}
use Rattle.enc_ppdb.specs.Holding.{heaps_size, pdb_weight_of, AreNumbered}
use Rattle.enc_ppdb.proofs.ValuesAdded.{refused_so}
use Rattle.enc_ppdb.proofs.RowsOfPoints.{lengths_same, locals_same}
use Rattle.enc_ppdb.proofs.MethodsHeld.{method_past, method_begun, method_spelled, method_written, row_past}
use Rattle.enc_ppdb.proofs.parts.add_method.Goals as goal

pub returns-in-Err-clause-refused : goal.returns-in-Err-clause-refused
returns-in-Err-clause-refused g c =
    let s = c.args.source.now in
    let p = g.P.PointSource.debug s in
    let m = nth_row 0x06 c.args.n in
    let said = c.in_ok-points.ensures ∙ ap (λ t. g.P.PointSource.said s t) c.nth_row-method.ensures in
    let many : c.len.result ≡ length (p m).points = c.len.ensures ∙ ap (λ (x : MethodPoints). length x.points) said ∙ sym (lengths_same (g.P.PointSource.documents s m) (g.P.PointSource.said s m) (p m) (g.met.P.PointSource.knows s m)) in
    refused_so c.in-Err.fault (nat_lt most_pdb_weight (c.args.writer.now.weight + (64 + 32 * c.len.result))) (nat_lt most_pdb_weight (pdb_weight_of p (c.args.n + 1) (documents_of p (c.args.n + 1))))
    (method_past p c.args.n c.len.result c.args.writer.now.weight c.requires.so_far.weight many) c.in-Err.ensures.refused

pub numbered-requires-clause-so_far : goal.numbered-requires-clause-so_far
numbered-requires-clause-so_far g c =
    let s = c.args.source.now in
    let p = g.P.PointSource.debug s in
    let m = nth_row 0x06 c.args.n in
    let said = c.in_ok-points.ensures ∙ ap (λ t. g.P.PointSource.said s t) c.nth_row-method.ensures in
    let many : c.len.result ≡ length (p m).points = c.len.ensures ∙ ap (λ (x : MethodPoints). length x.points) said ∙ sym (lengths_same (g.P.PointSource.documents s m) (g.P.PointSource.said s m) (p m) (g.met.P.PointSource.knows s m)) in
    method_begun p (g.P.PointSource.placed s) c.args.n c.len.result c.in-Ok.weight c.args.writer.now c.requires.so_far c.in-Ok.ensures.sum c.in-Ok.ensures.few many

pub push_method-requires-clause-locals : goal.push_method-requires-clause-locals
push_method-requires-clause-locals g c =
    let s = c.args.source.now in
    let p = g.P.PointSource.debug s in
    let m = nth_row 0x06 c.args.n in
    let said = c.in_ok-points.ensures ∙ ap (λ t. g.P.PointSource.said s t) c.nth_row-method.ensures in
    let own : c.locals.result ≡ (p m).locals = c.locals.ensures ∙ ap (λ (x : MethodPoints). x.locals) said ∙ sym (locals_same (g.P.PointSource.documents s m) (g.P.PointSource.said s m) (p m) (g.met.P.PointSource.knows s m)) in
    omega (arith, own, (c.requires.sound.each m).locals)

pub push_method-requires-clause-spelled : goal.push_method-requires-clause-spelled
push_method-requires-clause-spelled g c =
    let s = c.args.source.now in
    let p = g.P.PointSource.debug s in
    let m = nth_row 0x06 c.args.n in
    let k = length c.in_ok-points.points.points in
    let said = c.in_ok-points.ensures ∙ ap (λ t. g.P.PointSource.said s t) c.nth_row-method.ensures in
    let many : k ≡ length (p m).points = ap (λ (x : MethodPoints). length x.points) said ∙ sym (lengths_same (g.P.PointSource.documents s m) (g.P.PointSource.said s m) (p m) (g.met.P.PointSource.knows s m)) in
    method_spelled p (g.P.PointSource.placed s) c.args.n k c.locals.result c.deref.result.now c.numbered.new.writer c.requires.sound c.in-Ok-numbered.ensures.so_far
    (subst (λ xs. AreNumbered p c.args.n k xs) (sym c.deref.ensures.value) c.in-Ok-numbered.ensures.rows) (omega (arith, many))

pub returns-in-Ok-push_method-clause-so_far : goal.returns-in-Ok-push_method-clause-so_far
returns-in-Ok-push_method-clause-so_far g c =
    let s = c.args.source.now in
    let p = g.P.PointSource.debug s in
    let m = nth_row 0x06 c.args.n in
    let k = length c.in_ok-points.points.points in
    let said = c.in_ok-points.ensures ∙ ap (λ t. g.P.PointSource.said s t) c.nth_row-method.ensures in
    let many : k ≡ length (p m).points = ap (λ (x : MethodPoints). length x.points) said ∙ sym (lengths_same (g.P.PointSource.documents s m) (g.P.PointSource.said s m) (p m) (g.met.P.PointSource.knows s m)) in
    let own : c.locals.result ≡ (p m).locals = c.locals.ensures ∙ ap (λ (x : MethodPoints). x.locals) said ∙ sym (locals_same (g.P.PointSource.documents s m) (g.P.PointSource.said s m) (p m) (g.met.P.PointSource.knows s m)) in
    method_written p (g.P.PointSource.placed s) c.args.n k c.locals.result c.deref.result.now c.numbered.new.writer c.push_method.new.writer c.in-Ok-numbered.ensures.so_far
    (subst (λ xs. AreNumbered p c.args.n k xs) (sym c.deref.ensures.value) c.in-Ok-numbered.ensures.rows) (omega (arith, many)) own c.in-Ok-push_method.ensures.given
    (omega (arith, c.in-Ok-push_method.ensures.given.weight, c.in-Ok-numbered.ensures.so_far.light))

pub returns-clause-refused : goal.returns-clause-refused
returns-clause-refused g c =
    let s = c.args.source.now in
    let p = g.P.PointSource.debug s in
    let m = nth_row 0x06 c.args.n in
    let k = length c.in_ok-points.points.points in
    let said = c.in_ok-points.ensures ∙ ap (λ t. g.P.PointSource.said s t) c.nth_row-method.ensures in
    let many : k ≡ length (p m).points = ap (λ (x : MethodPoints). length x.points) said ∙ sym (lengths_same (g.P.PointSource.documents s m) (g.P.PointSource.said s m) (p m) (g.met.P.PointSource.knows s m)) in
    refused_so c.in-Err-push_method.fault (nat_lt most_pdb_weight (heaps_size c.numbered.new.writer.heaps + (12 + 28 * length c.deref.result.now))) (nat_lt most_pdb_weight (pdb_weight_of p (c.args.n + 1) (documents_of p (c.args.n + 1))))
    (row_past p (g.P.PointSource.placed s) c.args.n k c.deref.result.now c.numbered.new.writer c.in-Ok-numbered.ensures.so_far (subst (λ xs. AreNumbered p c.args.n k xs) (sym c.deref.ensures.value) c.in-Ok-numbered.ensures.rows) (omega (arith, many)))
    c.in-Err-push_method.ensures.refused
