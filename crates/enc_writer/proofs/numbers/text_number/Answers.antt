use Rattle.std.proofs.Common.{◌≡◌, List, ℕ, sym, ap, ◌∙◌}
use Rattle.std.specs.Prelude.{◌==◌, not, Some}
use Rattle.std.specs.List.{list_any}
use Rattle.enc_meta.specs.Built.{Built, is_kept}
use Rattle.enc_meta.specs.BuiltLaws.{ArePast, heaps_joined}
use Rattle.enc_meta.specs.Joined.{joined_text}
use Rattle.enc_plain.specs.Rows.{bytes_at}
use Rattle.enc_rules.specs.Listed.{rows_listed}
use Rattle.enc_list_delta.specs.Holds.{heaps_written}
use Rattle.enc_rewriter.proofs.Says.{text_kind}
use Rattle.enc_writer.proofs.HeapsPast.{chain_past}
use Rattle.enc_writer.proofs.CellsKept.{text_is_kept}
use Rattle.enc_writer.proofs.NumbersSay.{text_says, text_clean}
use Rattle.enc_writer.proofs.numbers.text_number.Goals as goal

pub text-requires : goal.text-requires
text-requires g c = text_kind c.args.row.table c.args.i c.requires.column

pub text_offset-requires-clause-clean : goal.text_offset-requires-clause-clean
text_offset-requires-clause-clean g c =
    let j = c.args.context.now in
    ap (λ (v : List ℕ). not (list_any (λ b. b == 0) v)) c.text.ensures ∙ text_clean j.chain j.list c.args.row c.args.i c.requires.may c.requires.row c.requires.column

pub text_offset-requires-clause-kept : goal.text_offset-requires-clause-kept
text_offset-requires-clause-kept g c =
    let j = c.args.context.now in
    ap (λ (v : List ℕ). is_kept c.args.heaps.now.texts v) c.text.ensures
    ∙ ap (λ (h : Built). is_kept h.texts (bytes_at (rows_listed j.chain j.list.edits) c.args.row c.args.i)) c.requires.heaps
    ∙ text_is_kept j.chain j.list c.args.row c.args.i c.requires.may c.requires.row c.requires.column

pub returns-clause-says : goal.returns-clause-says
returns-clause-says g c =
    let j = c.args.context.now in
    let past : ArePast j.chain.heaps c.args.heaps.now.starts = rw c.requires.heaps (chain_past j.chain j.list) in
    let there = c.in_ok-offset.ensures.offset j.chain.heaps past in
    let same : joined_text (heaps_joined j.chain.heaps (heaps_written j.chain j.list)) c.in_ok-offset.offset ≡ Some c.text.result.now = ap (λ (h : Built). joined_text (heaps_joined j.chain.heaps h) c.in_ok-offset.offset) (sym c.requires.heaps) ∙ there in
    text_says j.chain j.list c.args.row c.args.i c.in_ok-offset.offset c.requires.may c.requires.row c.requires.column c.in_ok-offset.ensures.low
    (same ∙ ap (λ (v : List ℕ). Some v) c.text.ensures)
