use Rattle.std.proofs.Common.{◌+◌, ◌*◌, ◌≤◌, ◌∙◌, sym, ap, subst, refl, length, arith, [], ◌∷◌}
use Rattle.std.specs.Prelude.{nat_lt}
use Rattle.enc_meta.specs.Built.{is_kept}
use Rattle.enc_schema.specs.Schema.{columns_in}
use Rattle.enc_seqpoints.specs.Grammar.{points_in}
use Rattle.enc_ppdb.specs.Method.{one_document}
use Rattle.enc_ppdb.specs.Written.{most_pdb_weight}
use Rattle.enc_ppdb.specs.Holding.{heaps_size, passes_with, OneMethod}
use Rattle.enc_ppdb.proofs.ValuesAdded.{refused_so}
use Rattle.enc_ppdb.proofs.RowsGiven.{passes_past}
use Rattle.enc_ppdb.proofs.parts.push_method.Goals as goal

pub returns-in-Err-clause-refused : goal.returns-in-Err-clause-refused
returns-in-Err-clause-refused c =
    let h = c.args.writer.now.heaps in
    let kept = is_kept h.blobs c.deref.result.now in
    let more = length c.deref.result.now + 4 in
    let few : length c.deref.result.now ≤ 8 + 28 * length c.args.points.now = rw c.deref.ensures.value c.in_ok-blob.ensures.few in
    let size = heaps_size h + (12 + 28 * length c.args.points.now) in
    refused_so c.in-Err.fault (passes_with h kept more) (nat_lt most_pdb_weight size) (passes_past h kept more size (omega (arith, few))) c.in-Err.ensures.refused

pub push-requires-clause-table : goal.push-requires-clause-table
unfolding columns_in
push-requires-clause-table c = refl

pub push-requires-clause-cells : goal.push-requires-clause-cells
unfolding columns_in
push-requires-clause-cells c = refl

pub returns-clause-given : goal.returns-clause-given
returns-clause-given c =
    let few : length c.deref.result.now ≤ 8 + 28 * length c.args.points.now = rw c.deref.ensures.value c.in_ok-blob.ensures.few in
    record {
      blob = c.deref.result.now;
      first = one_document c.args.points.now;
      rows = subst (λ n. OneMethod c.args.writer.now.tables c.push.new.self (one_document c.args.points.now ∷ n ∷ [])) c.in-Ok.ensures.offset
          (subst (λ n. OneMethod c.args.writer.now.tables c.push.new.self (n ∷ c.in-Ok.offset ∷ [])) c.document_of-document.ensures c.in_ok-push.ensures.pushed);
      kept = c.in-Ok.ensures.kept;
      reads = ap (λ b. points_in (one_document c.args.points.now) b) c.deref.ensures.value ∙ ap (λ n. points_in n c.in_ok-blob.blob.items) (sym c.document_of-document.ensures) ∙ c.in_ok-blob.ensures.reads;
      document = refl;
      grown = c.in-Ok.ensures.grown;
      size = omega (arith, c.in-Ok.ensures.size, few);
      known = refl;
      places = refl;
      weight = refl;
    }
