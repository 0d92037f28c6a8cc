use Rattle.std.proofs.Common.{◌-◌, sym, ap, ◌∙◌, take, drop, length}
use Rattle.std.specs.Prelude.{flat_map}
use Rattle.enc_meta.specs.Built.{Built}
use Rattle.enc_rules.specs.Rules.{passes_limits, with_texts, texts_in_cell}
use Rattle.enc_rules.proofs.Filling.{fills_later, filled_front, filled_none, passes_texts, texts_append, texts_none, whole_front}
use Rattle.enc_rules.proofs.heaps.add_cell_texts.Goals as goal

pub returns-in-Err : goal.returns-in-Err
returns-in-Err c =
    fills_later c.in-Err.fault c.add_cell_text.new.heaps c.add_cell_text.new.heaps (with_texts c.loop-rest.heaps (texts_in_cell c.cell-item.result)) (with_texts c.args.heaps.now (flat_map texts_in_cell c.args.cells.now))
    (λ p. sym (ap passes_limits (c.loop-rest.invariant.rest)) ∙ ap passes_limits (filled_front with_texts texts_append texts_in_cell c.loop-rest.heaps c.loop-rest.rest.now c.cell-item.result c.in-len1-up.len_at_least c.cell-item.is) ∙ passes_texts (with_texts c.loop-rest.heaps (texts_in_cell c.cell-item.result)) (flat_map texts_in_cell (take (length c.loop-rest.rest.now - 1) (drop 1 c.loop-rest.rest.now))) p)
    c.in-Err.ensures

pub add_cell_text-requires : goal.add_cell_text-requires
add_cell_text-requires c = (whole_front texts_in_cell c.loop-rest.rest.now c.cell-item.result c.in-len1-up.len_at_least c.cell-item.is c.loop-rest.invariant.whole).0

pub loop-rest-preserved : goal.loop-rest-preserved
loop-rest-preserved c = record {
  rest = ap (λ (h : Built). with_texts h (flat_map texts_in_cell (take (length c.loop-rest.rest.now - 1) (drop 1 c.loop-rest.rest.now)))) c.in-Ok.ensures ∙ sym (filled_front with_texts texts_append texts_in_cell c.loop-rest.heaps c.loop-rest.rest.now c.cell-item.result c.in-len1-up.len_at_least c.cell-item.is) ∙ c.loop-rest.invariant.rest;
  whole = (whole_front texts_in_cell c.loop-rest.rest.now c.cell-item.result c.in-len1-up.len_at_least c.cell-item.is c.loop-rest.invariant.whole).1;
}

pub returns : goal.returns
returns c = sym (filled_none with_texts texts_none texts_in_cell c.loop-rest.heaps c.loop-rest.rest.now c.in_default.len_below) ∙ c.loop-rest.invariant.rest
