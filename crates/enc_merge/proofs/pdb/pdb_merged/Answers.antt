use Rattle.std.proofs.Common.{◌≡◌, ◌≤◌, false, ℕ, List, length, map, ap, subst, sym, ◌∙◌, arith}
use Rattle.std.specs.Prelude.{nat_lt}
use Rattle.std.proofs.lemmas.List.{length-map}
use Rattle.enc_base.specs.declared.token.Token.{Token}
use Rattle.enc_ppdb.specs.PdbChain.{pdb_with}
use Rattle.enc_ppdb.specs.Written.{most_pdb_weight, pdb_weight}
use Rattle.enc_merge.specs.Merges.{methods_listed, weight_of_both}
use Rattle.enc_merge.specs.Points.{debug_of_rows}
use Rattle.enc_merge.specs.Writing.{changes_debug}
use Rattle.enc_merge.proofs.MethodsOfBoth.{fewer, methods_few, rows_are_short}
use Rattle.enc_merge.proofs.SomeWeigh.{stays_light, too_heavy}
use Rattle.enc_merge.proofs.pdb.pdb_merged.Goals as goal

abbrev row_of : Token → ℕ
row_of t = t.row

pub write_methods-requires-clause-few : goal.write_methods-requires-clause-few
write_methods-requires-clause-few c =
    let x = c.args.last.now in
    let q = changes_debug x c.args.points.now in
    let rows : length c.deref-3.result.now ≡ length (map row_of c.deref.result.now) = ap length (c.deref-3.ensures.value ∙ c.in_ok-rows.ensures) in
    let some : length c.deref.result.now ≤ length c.args.methods.now = rw (c.deref.ensures.value, c.in_ok-changed.ensures) (fewer q c.args.methods.now) in
    let all : length c.args.methods.now ≡ length (methods_listed x.chain x.first x.second) = ap length c.requires.methods in
    omega (arith, rows, length-map c.deref.result.now row_of, some, all, methods_few c.aggregate.result.now x c.aggregate.ensures)

pub write_methods-requires-clause-short : goal.write_methods-requires-clause-short
write_methods-requires-clause-short c =
    let x = c.args.last.now in
    let q = changes_debug x c.args.points.now in
    rw (c.deref-3.ensures.value, c.in_ok-rows.ensures, c.deref.ensures.value, c.in_ok-changed.ensures, c.requires.methods) (rows_are_short c.aggregate.result.now x q c.aggregate.ensures)

pub unreachable-requires : goal.unreachable-requires
unfolding weight_of_both
unreachable-requires c =
    let p = pdb_with c.args.points.now.base c.args.points.now.deltas in
    let some = c.deref-2.result.now in
    let rows = c.deref-3.result.now in
    let light = subst (λ (ts : List Token). nat_lt most_pdb_weight (pdb_weight (debug_of_rows ts p) (length ts)) ≡ false) (sym c.requires.methods) c.requires.light in
    let same : c.deref.result.now ≡ some = c.deref.ensures.value ∙ sym c.deref-2.ensures.value in
    let many : length rows ≡ length some = ap length (c.deref-3.ensures.value ∙ c.in_ok-rows.ensures) ∙ length-map c.deref.result.now row_of ∙ ap length same in
    stays_light p (changes_debug c.args.last.now c.args.points.now) c.args.methods.now some rows light (c.deref-2.ensures.value ∙ c.in_ok-changed.ensures) many
    (too_heavy c.in-Err-TooLarge.field-0 c.in-Err-TooLarge.field-0-0 (pdb_weight (debug_of_rows some p) (length rows)) c.in-Err-TooLarge.field-0-is c.in-Err-TooLarge.ensures.tells)
