use Rattle.std.proofs.Common.{◌+◌, ◌∙◌, sym, ap, length, arith}
use Rattle.enc_meta.specs.Built.{is_kept, is_guid_kept, blob_offset}
use Rattle.enc_plain.specs.DebugSeen.{document_seen}
use Rattle.enc_ppdb.specs.Holding.{keeps_values, passes_with}
use Rattle.enc_ppdb.proofs.HeapsGrown.{grown_twice}
use Rattle.enc_ppdb.proofs.DocumentKeys.{parts_kept}
use Rattle.enc_ppdb.proofs.ValuesAdded.{refused_so, passes_so, parts_later, all_kept, all_numbers, all_same}
use Rattle.enc_ppdb.proofs.writer.numbers_of.Goals as goal

pub returns-in-Err-clause-refused : goal.returns-in-Err-clause-refused
returns-in-Err-clause-refused c =
    let h = c.args.heaps.now in
    let d = document_seen c.args.document.now in
    let total = 40 + length c.args.name.now + length c.args.document.now.hash.now in
    let kept = is_kept h.blobs c.args.name.now in
    refused_so c.in-Err.fault (passes_with h kept (length c.args.name.now + 4)) (passes_with h (keeps_values h d) total)
    (passes_so h h kept (keeps_values h d) (length c.args.name.now + 4) total (omega arith) (λ k. ap (λ v. is_kept h.blobs v) c.requires.name ∙ (parts_kept h d k).name)) c.in-Err.ensures.refused

pub returns-in-Err-add_guid-clause-refused : goal.returns-in-Err-add_guid-clause-refused
returns-in-Err-add_guid-clause-refused c =
    let h = c.args.heaps.now in
    let a = c.add_blob.new.heaps in
    let d = document_seen c.args.document.now in
    let total = 40 + length c.args.name.now + length c.args.document.now.hash.now in
    let kept = is_guid_kept a.guids c.args.document.now.algorithm in
    refused_so c.in-Err-add_guid.fault (passes_with a kept 16) (passes_with h (keeps_values h d) total)
    (passes_so h a kept (keeps_values h d) 16 total (omega (arith, c.in-Ok.ensures.size)) (λ k. (parts_later h a d c.in-Ok.ensures.grown k).algorithm)) c.in-Err-add_guid.ensures.refused

pub returns-in-Err-add_blob-clause-refused : goal.returns-in-Err-add_blob-clause-refused
returns-in-Err-add_blob-clause-refused c =
    let h = c.args.heaps.now in
    let a = c.add_blob.new.heaps in
    let b = c.add_guid.new.heaps in
    let d = document_seen c.args.document.now in
    let total = 40 + length c.args.name.now + length c.args.document.now.hash.now in
    let kept = is_kept b.blobs c.args.document.now.hash.now in
    let more = length c.args.document.now.hash.now + 4 in
    refused_so c.in-Err-add_blob.fault (passes_with b kept more) (passes_with h (keeps_values h d) total)
    (passes_so h b kept (keeps_values h d) more total (omega (arith, c.in-Ok.ensures.size, c.in-Ok-add_guid.ensures.size))
    (λ k. (parts_later h b d (grown_twice h a b c.in-Ok.ensures.grown c.in-Ok-add_guid.ensures.grown) k).hash)) c.in-Err-add_blob.ensures.refused

pub returns-in-Err-add_guid-2-clause-refused : goal.returns-in-Err-add_guid-2-clause-refused
returns-in-Err-add_guid-2-clause-refused c =
    let h = c.args.heaps.now in
    let a = c.add_blob.new.heaps in
    let b = c.add_guid.new.heaps in
    let e = c.add_blob-2.new.heaps in
    let d = document_seen c.args.document.now in
    let total = 40 + length c.args.name.now + length c.args.document.now.hash.now in
    let kept = is_guid_kept e.guids c.args.document.now.language in
    refused_so c.in-Err-add_guid-2.fault (passes_with e kept 16) (passes_with h (keeps_values h d) total)
    (passes_so h e kept (keeps_values h d) 16 total (omega (arith, c.in-Ok.ensures.size, c.in-Ok-add_guid.ensures.size, c.in-Ok-add_blob.ensures.size))
    (λ k. (parts_later h e d (grown_twice h b e (grown_twice h a b c.in-Ok.ensures.grown c.in-Ok-add_guid.ensures.grown) c.in-Ok-add_blob.ensures.grown) k).language)) c.in-Err-add_guid-2.ensures.refused

pub returns-clause-kept : goal.returns-clause-kept
returns-clause-kept c =
    all_kept c.add_blob.new.heaps c.add_guid.new.heaps c.add_blob-2.new.heaps c.add_guid-2.new.heaps (document_seen c.args.document.now)
    (ap (λ v. is_kept c.add_blob.new.heaps.blobs v) (sym c.requires.name) ∙ c.in-Ok.ensures.kept) c.in-Ok-add_guid.ensures.grown c.in-Ok-add_guid.ensures.kept c.in-Ok-add_blob.ensures.grown c.in-Ok-add_blob.ensures.kept
    c.in-Ok-add_guid-2.ensures.grown c.in-Ok-add_guid-2.ensures.kept

pub returns-clause-numbers : goal.returns-clause-numbers
returns-clause-numbers c =
    all_numbers c.add_blob.new.heaps c.add_guid.new.heaps c.add_blob-2.new.heaps c.add_guid-2.new.heaps (document_seen c.args.document.now)
    c.in-Ok.offset c.in-Ok-add_guid.number c.in-Ok-add_blob.offset c.in-Ok-add_guid-2.number
    (ap (λ v. is_kept c.add_blob.new.heaps.blobs v) (sym c.requires.name) ∙ c.in-Ok.ensures.kept) c.in-Ok-add_guid.ensures.grown c.in-Ok-add_guid.ensures.kept c.in-Ok-add_blob.ensures.grown c.in-Ok-add_blob.ensures.kept
    c.in-Ok-add_guid-2.ensures.grown (c.in-Ok.ensures.offset ∙ ap (λ v. blob_offset c.add_blob.new.heaps v) c.requires.name) c.in-Ok-add_guid.ensures.number c.in-Ok-add_blob.ensures.offset c.in-Ok-add_guid-2.ensures.number

pub returns-clause-same : goal.returns-clause-same
returns-clause-same c = λ kept.
    let h = c.args.heaps.now in
    let a = c.add_blob.new.heaps in
    let b = c.add_guid.new.heaps in
    let e = c.add_blob-2.new.heaps in
    let oa = c.in-Ok.ensures.grown in
    let ob = grown_twice h a b oa c.in-Ok-add_guid.ensures.grown in
    all_same h a b e c.add_guid-2.new.heaps (document_seen c.args.document.now) (λ k. c.in-Ok.ensures.same (ap (λ v. is_kept h.blobs v) c.requires.name ∙ k)) c.in-Ok-add_guid.ensures.same c.in-Ok-add_blob.ensures.same c.in-Ok-add_guid-2.ensures.same
    oa ob (grown_twice h b e ob c.in-Ok-add_blob.ensures.grown) kept
