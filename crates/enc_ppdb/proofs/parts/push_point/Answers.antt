use Rattle.std.proofs.Common.{◌+◌, ◌∙◌, sym, ap}
use Rattle.std.specs.Prelude.{nat_lt, slice_get}
use Rattle.enc_base.specs.Token.{nth_row}
use Rattle.enc_plain.specs.Debug.{plain_point}
use Rattle.enc_seqpoints.specs.Grammar.{MethodPoints}
use Rattle.enc_ppdb.specs.Written.{most_pdb_weight, documents_of}
use Rattle.enc_ppdb.specs.Holding.{pdb_weight_of, documents_upto}
use Rattle.enc_ppdb.proofs.ValuesAdded.{refused_so}
use Rattle.enc_ppdb.proofs.RowsOfPoints.{point_there}
use Rattle.enc_ppdb.proofs.MethodsHeld.{numbered_more, point_past}
use Rattle.enc_ppdb.proofs.parts.push_point.Goals as goal

pub returns-in-Err-clause-refused : goal.returns-in-Err-clause-refused
returns-in-Err-clause-refused g c =
    let p = g.P.PointSource.debug c.args.source.now in
    refused_so c.in-Err.fault (nat_lt most_pdb_weight (pdb_weight_of p (c.args.n + 1) (documents_upto p c.args.n (c.args.i + 1)))) (nat_lt most_pdb_weight (pdb_weight_of p (c.args.n + 1) (documents_of p (c.args.n + 1))))
    (point_past p c.args.n (c.args.i + 1)) c.in-Err.ensures.refused

pub returns-clause-rows : goal.returns-clause-rows
returns-clause-rows g c =
    let s = c.args.source.now in
    let p = g.P.PointSource.debug s in
    let m = nth_row 0x06 c.args.n in
    let documents = g.P.PointSource.documents s m in
    let q = plain_point documents c.point-point.result in
    let at = point_there documents (g.P.PointSource.said s m) (p m) c.args.i c.point-point.result (g.met.P.PointSource.knows s m) (ap (λ (x : MethodPoints). slice_get x.points c.args.i) (sym c.requires.points) ∙ c.point-point.ensures) in
    numbered_more p c.args.n c.args.i c.in-Ok.row q c.args.rows.now.items c.push.new.self.items c.requires.rows at c.in-Ok.ensures.row c.in_ok-push.ensures.items
