use Rattle.std.proofs.Common.{◌≡◌, ◌+◌, ◌&&◌, ◌∙◌, sym, ap, Some, None}
use Rattle.std.specs.Prelude.{nat_lt, option_map, slice_get}
use Rattle.enc_base.specs.Token.{nth_row}
use Rattle.enc_plain.specs.Debug.{plain_point}
use Rattle.enc_plain.specs.DebugSeen.{document_seen}
use Rattle.enc_seqpoints.specs.Grammar.{MethodPoints}
use Rattle.enc_ppdb.specs.Written.{document_weight, most_pdb_weight, method_weight, nth_method}
use Rattle.enc_ppdb.specs.Holding.{is_unknown, pdb_weight_of, documents_upto}
use Rattle.enc_ppdb.proofs.ValuesAdded.{refused_so}
use Rattle.enc_ppdb.proofs.RowsOfPoints.{point_there, document_there, place_known, rows_few, document_past, row_placed}
use Rattle.enc_ppdb.proofs.parts.document_row.Goals as goal

pub returns-in-Some-clause-so_far : goal.returns-in-Some-clause-so_far
returns-in-Some-clause-so_far g c =
    let s = c.args.source.now in
    let p = g.P.PointSource.debug s in
    let m = nth_row 0x06 c.args.n in
    let documents = g.P.PointSource.documents s m in
    let q = plain_point documents c.point-number.result in
    let at = point_there documents (g.P.PointSource.said s m) (p m) c.args.i c.point-number.result (g.met.P.PointSource.knows s m) (ap (λ (x : MethodPoints). slice_get x.points c.args.i) (sym c.requires.points) ∙ c.point-number.ensures) in
    let stands = c.document_place-place.ensures ∙ ap (λ t. g.P.PointSource.documents s t c.point-number.result.document) c.nth_row-method.ensures in
    (place_known p (g.P.PointSource.placed s) c.args.n c.args.i c.document_place-place.result c.in-Some.row.now q c.args.writer.now c.requires.so_far at stands c.in-Some.ensures.value).0

pub returns-in-Some-clause-row : goal.returns-in-Some-clause-row
returns-in-Some-clause-row g c =
    let s = c.args.source.now in
    let p = g.P.PointSource.debug s in
    let m = nth_row 0x06 c.args.n in
    let documents = g.P.PointSource.documents s m in
    let q = plain_point documents c.point-number.result in
    let at = point_there documents (g.P.PointSource.said s m) (p m) c.args.i c.point-number.result (g.met.P.PointSource.knows s m) (ap (λ (x : MethodPoints). slice_get x.points c.args.i) (sym c.requires.points) ∙ c.point-number.ensures) in
    let stands = c.document_place-place.ensures ∙ ap (λ t. g.P.PointSource.documents s t c.point-number.result.document) c.nth_row-method.ensures in
    (place_known p (g.P.PointSource.placed s) c.args.n c.args.i c.document_place-place.result c.in-Some.row.now q c.args.writer.now c.requires.so_far at stands c.in-Some.ensures.value).1

pub unreachable-requires : goal.unreachable-requires
unreachable-requires g c =
    let s = c.args.source.now in
    let p = g.P.PointSource.debug s in
    let m = nth_row 0x06 c.args.n in
    let documents = g.P.PointSource.documents s m in
    let q = plain_point documents c.point-number.result in
    let at = point_there documents (g.P.PointSource.said s m) (p m) c.args.i c.point-number.result (g.met.P.PointSource.knows s m) (ap (λ (x : MethodPoints). slice_get x.points c.args.i) (sym c.requires.points) ∙ c.point-number.ensures) in
    let none : documents c.point-number.result.document ≡ None = ap (λ t. g.P.PointSource.documents s t c.point-number.result.document) (sym c.nth_row-method.ensures) ∙ sym c.document.ensures ∙ ap (λ o. option_map document_seen o) c.in_default-document.is in
    let e = document_there (p m).points c.args.i q (c.requires.sound.each m).documents at none in
    absurd cc

pub row_of-requires-clause-few : goal.row_of-requires-clause-few
row_of-requires-clause-few g c =
    let p = g.P.PointSource.debug c.args.source.now in
    rows_few p c.args.n (c.args.n + 1) (method_weight (nth_method p c.args.n)) (g.P.PointSource.placed c.args.source.now) (documents_upto p c.args.n c.args.i) c.args.writer.now c.requires.so_far

pub returns-in-Err-clause-refused : goal.returns-in-Err-clause-refused
returns-in-Err-clause-refused g c =
    let s = c.args.source.now in
    let p = g.P.PointSource.debug s in
    let m = nth_row 0x06 c.args.n in
    let documents = g.P.PointSource.documents s m in
    let q = plain_point documents c.point-number.result in
    let w = c.args.writer.now in
    let d = document_seen c.in-Some-document.document in
    let at = point_there documents (g.P.PointSource.said s m) (p m) c.args.i c.point-number.result (g.met.P.PointSource.knows s m) (ap (λ (x : MethodPoints). slice_get x.points c.args.i) (sym c.requires.points) ∙ c.point-number.ensures) in
    let is : q.document ≡ Some d = ap (λ t. g.P.PointSource.documents s t c.point-number.result.document) (sym c.nth_row-method.ensures) ∙ sym c.document.ensures ∙ ap (λ o. option_map document_seen o) c.in-Some-document.is in
    refused_so c.in-Err.fault (is_unknown w d && nat_lt most_pdb_weight (w.weight + document_weight d)) (nat_lt most_pdb_weight (pdb_weight_of p (c.args.n + 1) (documents_upto p c.args.n (c.args.i + 1))))
    (document_past p (g.P.PointSource.placed s) c.args.n c.args.i q d w c.requires.so_far at is) c.in-Err.ensures.refused

pub returns-in-Ok-insert-clause-so_far : goal.returns-in-Ok-insert-clause-so_far
returns-in-Ok-insert-clause-so_far g c =
    let s = c.args.source.now in
    let p = g.P.PointSource.debug s in
    let m = nth_row 0x06 c.args.n in
    let documents = g.P.PointSource.documents s m in
    let q = plain_point documents c.point-number.result in
    let d = document_seen c.in-Some-document.document in
    let at = point_there documents (g.P.PointSource.said s m) (p m) c.args.i c.point-number.result (g.met.P.PointSource.knows s m) (ap (λ (x : MethodPoints). slice_get x.points c.args.i) (sym c.requires.points) ∙ c.point-number.ensures) in
    let stands = c.document_place-place.ensures ∙ ap (λ t. g.P.PointSource.documents s t c.point-number.result.document) c.nth_row-method.ensures in
    let is : q.document ≡ Some d = ap (λ t. g.P.PointSource.documents s t c.point-number.result.document) (sym c.nth_row-method.ensures) ∙ sym c.document.ensures ∙ ap (λ o. option_map document_seen o) c.in-Some-document.is in
    (row_placed p (g.P.PointSource.placed s) c.args.n c.args.i c.document_place-place.result c.in-Ok.row q d c.args.writer.now c.row_of.new.self c.insert.new.self c.requires.so_far at is stands c.in-Ok.ensures.given c.in-Ok.ensures.light c.in-Ok-insert.ensures.updates).0

pub returns-in-Ok-insert-clause-row : goal.returns-in-Ok-insert-clause-row
returns-in-Ok-insert-clause-row g c =
    let s = c.args.source.now in
    let p = g.P.PointSource.debug s in
    let m = nth_row 0x06 c.args.n in
    let documents = g.P.PointSource.documents s m in
    let q = plain_point documents c.point-number.result in
    let d = document_seen c.in-Some-document.document in
    let at = point_there documents (g.P.PointSource.said s m) (p m) c.args.i c.point-number.result (g.met.P.PointSource.knows s m) (ap (λ (x : MethodPoints). slice_get x.points c.args.i) (sym c.requires.points) ∙ c.point-number.ensures) in
    let stands = c.document_place-place.ensures ∙ ap (λ t. g.P.PointSource.documents s t c.point-number.result.document) c.nth_row-method.ensures in
    let is : q.document ≡ Some d = ap (λ t. g.P.PointSource.documents s t c.point-number.result.document) (sym c.nth_row-method.ensures) ∙ sym c.document.ensures ∙ ap (λ o. option_map document_seen o) c.in-Some-document.is in
    (row_placed p (g.P.PointSource.placed s) c.args.n c.args.i c.document_place-place.result c.in-Ok.row q d c.args.writer.now c.row_of.new.self c.insert.new.self c.requires.so_far at is stands c.in-Ok.ensures.given c.in-Ok.ensures.light c.in-Ok-insert.ensures.updates).1
