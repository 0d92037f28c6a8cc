use Rattle.std.proofs.Common.{◌-◌, sym, ap, ◌∙◌, take, drop, length}
use Rattle.std.specs.Prelude.{flat_map}
use Rattle.enc_meta.specs.Built.{Built}
use Rattle.enc_rules.specs.Rules.{passes_limits, with_blobs, blobs_in_cell}
use Rattle.enc_rules.proofs.Filling.{fills_later, filled_front, filled_none, passes_blobs, blobs_append, blobs_none}
use Rattle.enc_rules.proofs.heaps.add_cell_blobs.Goals as goal

pub returns-in-Err : goal.returns-in-Err
returns-in-Err c =
    fills_later c.in-Err.fault c.add_cell_blob.new.heaps c.add_cell_blob.new.heaps (with_blobs c.loop-rest.heaps (blobs_in_cell c.cell-item.result)) (with_blobs c.args.heaps.now (flat_map blobs_in_cell c.args.cells.now))
    (λ p. sym (ap passes_limits (c.loop-rest.invariant)) ∙ ap passes_limits (filled_front with_blobs blobs_append blobs_in_cell c.loop-rest.heaps c.loop-rest.rest.now c.cell-item.result c.in-len1-up.len_at_least c.cell-item.is) ∙ passes_blobs (with_blobs c.loop-rest.heaps (blobs_in_cell c.cell-item.result)) (flat_map blobs_in_cell (take (length c.loop-rest.rest.now - 1) (drop 1 c.loop-rest.rest.now))) p)
    c.in-Err.ensures

pub loop-rest-preserved : goal.loop-rest-preserved
loop-rest-preserved c = ap (λ (h : Built). with_blobs h (flat_map blobs_in_cell (take (length c.loop-rest.rest.now - 1) (drop 1 c.loop-rest.rest.now)))) c.in-Ok.ensures ∙ sym (filled_front with_blobs blobs_append blobs_in_cell c.loop-rest.heaps c.loop-rest.rest.now c.cell-item.result c.in-len1-up.len_at_least c.cell-item.is) ∙ c.loop-rest.invariant

pub returns : goal.returns
returns c = sym (filled_none with_blobs blobs_none blobs_in_cell c.loop-rest.heaps c.loop-rest.rest.now c.in_default.len_below) ∙ c.loop-rest.invariant
