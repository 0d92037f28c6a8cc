use Rattle.std.proofs.Common.{◌+◌, ◌&&◌, ◌∙◌, sym, ap, refl, length, arith}
use Rattle.std.specs.Prelude.{◌^◌, nat_lt}
use Rattle.enc_plain.specs.DebugSeen.{document_seen}
use Rattle.enc_ppdb.specs.Written.{document_weight, most_pdb_weight}
use Rattle.enc_ppdb.specs.Holding.{heaps_size, keeps_values, passes_with, row_known, is_unknown}
use Rattle.enc_ppdb.proofs.ValuesAdded.{refused_so}
use Rattle.enc_ppdb.proofs.RowsGiven.{name_is, values_refused, weight_refused, found_given, added_given, first_low}
use Rattle.enc_ppdb.proofs.writer.Writer.row_of.Goals as goal

pub returns-in-Err-clause-refused : goal.returns-in-Err-clause-refused
returns-in-Err-clause-refused c =
    let w = c.args.self.now in
    let d = document_seen c.args.document.now in
    refused_so c.in-Err.fault (passes_with w.heaps (keeps_values w.heaps d) (40 + length c.deref.result.now + length d.hash)) (is_unknown w d && nat_lt most_pdb_weight (w.weight + document_weight d))
    (values_refused w d c.deref.result.now (name_is c.deref.result.now c.push_to.new.out.items c.new-name.result.items d.name c.deref.ensures.value c.in_ok-push_to.ensures c.new-name.ensures.items) c.requires.size) c.in-Err.ensures.refused

pub returns-in-Some-clause-given : goal.returns-in-Some-clause-given
unfolding row_known
returns-in-Some-clause-given c =
    let w = c.args.self.now in
    let d = document_seen c.args.document.now in
    found_given w c.numbers_of.new.heaps d c.in-Some.row.now c.in-Ok.ensures.grown c.in-Ok.ensures.kept c.in-Ok.ensures.same (c.in-Some.ensures.value ∙ ap (λ x. row_known w x) c.in-Ok.ensures.numbers)

pub returns-in-Err-weighed_document-clause-refused : goal.returns-in-Err-weighed_document-clause-refused
unfolding row_known
returns-in-Err-weighed_document-clause-refused c =
    let w = c.args.self.now in
    let d = document_seen c.args.document.now in
    let name = ap length (name_is c.deref.result.now c.push_to.new.out.items c.new-name.result.items d.name c.deref.ensures.value c.in_ok-push_to.ensures c.new-name.ensures.items) in
    refused_so c.in-Err-weighed_document.fault (nat_lt most_pdb_weight (w.weight + (96 + c.len.result + length d.hash))) (is_unknown w d && nat_lt most_pdb_weight (w.weight + document_weight d))
    (weight_refused w c.numbers_of.new.heaps d c.len.result (length d.hash) (w.weight + (96 + c.len.result + length d.hash)) (omega (arith, c.len.ensures, c.deref.ensures.len, name)) refl
    c.in-Ok.ensures.grown (ap (λ x. row_known w x) (sym c.in-Ok.ensures.numbers) ∙ sym c.in_default.ensures.value) (omega arith)) c.in-Err-weighed_document.ensures.refused

pub push_document-requires-clause-name : goal.push_document-requires-clause-name
push_document-requires-clause-name c =
    let w = c.args.self.now in
    let d = document_seen c.args.document.now in
    let name = ap length (name_is c.deref.result.now c.push_to.new.out.items c.new-name.result.items d.name c.deref.ensures.value c.in_ok-push_to.ensures c.new-name.ensures.items) in
    first_low c.numbers_of.new.heaps d c.in-Ok.numbers (2 ^ 29) c.in-Ok.ensures.numbers c.in-Ok.ensures.kept
    (omega (arith, c.in-Ok.ensures.size, c.requires.size, c.in-Ok-weighed_document.ensures.sum, c.in-Ok-weighed_document.ensures.few, c.len.ensures, c.deref.ensures.len))

pub returns-in-Ok-insert-clause-given : goal.returns-in-Ok-insert-clause-given
unfolding row_known
returns-in-Ok-insert-clause-given c =
    let w = c.args.self.now in
    let d = document_seen c.args.document.now in
    let name = ap length (name_is c.deref.result.now c.push_to.new.out.items c.new-name.result.items d.name c.deref.ensures.value c.in_ok-push_to.ensures c.new-name.ensures.items) in
    added_given w c.numbers_of.new.heaps c.push_document.new.heaps d c.in-Ok.numbers c.push_document.new.tables c.insert.new.self c.len.result (length d.hash) c.in-Ok-weighed_document.weight c.in-Ok-push_document.row
    (omega (arith, c.len.ensures, c.deref.ensures.len, name)) refl c.in-Ok.ensures.grown c.in-Ok-push_document.ensures.grown c.in-Ok.ensures.kept c.in-Ok.ensures.numbers (sym c.in_default.ensures.value)
    c.in-Ok-push_document.ensures.kept c.in-Ok-push_document.ensures.rows c.in-Ok-push_document.ensures.number c.in-Ok-insert.ensures.updates c.in-Ok-weighed_document.ensures.sum
    (omega (arith, c.in-Ok.ensures.size, c.len.ensures, c.deref.ensures.len)) c.in-Ok-push_document.ensures.size

pub returns-in-Err-push_document-clause-refused : goal.returns-in-Err-push_document-clause-refused
unfolding row_known
returns-in-Err-push_document-clause-refused c =
    let w = c.args.self.now in
    let d = document_seen c.args.document.now in
    let name = ap length (name_is c.deref.result.now c.push_to.new.out.items c.new-name.result.items d.name c.deref.ensures.value c.in_ok-push_to.ensures c.new-name.ensures.items) in
    let size = heaps_size c.numbers_of.new.heaps + 9 in
    refused_so c.in-Err-push_document.fault (nat_lt most_pdb_weight size) (is_unknown w d && nat_lt most_pdb_weight (w.weight + document_weight d))
    (weight_refused w c.numbers_of.new.heaps d c.len.result (length d.hash) size (omega (arith, c.len.ensures, c.deref.ensures.len, name)) refl
    c.in-Ok.ensures.grown (ap (λ x. row_known w x) (sym c.in-Ok.ensures.numbers) ∙ sym c.in_default.ensures.value) (omega (arith, c.in-Ok.ensures.size, c.requires.size, c.len.ensures, c.deref.ensures.len))) c.in-Err-push_document.ensures.refused
