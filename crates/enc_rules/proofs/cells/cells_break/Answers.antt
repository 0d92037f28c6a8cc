use Rattle.std.proofs.Common.{sym, ◌∙◌, arith}
use Rattle.enc_rules.specs.Known.{listed_counts}
use Rattle.enc_rules.proofs.TokensNamed.{names_skip, names_found, names_more, names_short}
use Rattle.enc_rules.proofs.cells.cells_break.Goals as goal

pub returns-in_default : goal.returns-in_default
returns-in_default g c = sym (names_short (listed_counts c.args.context.now) c.args.columns.now c.args.cells.now c.loop-i.i c.loop-i.stated c.column_at-column.result c.column_at-column.ensures (sym c.is_stated.ensures ∙ c.if-not-is_stated.false) (sym c.in_default.ensures)) ∙ c.loop-i.invariant.same

pub returns-then-value_breaks : goal.returns-then-value_breaks
returns-then-value_breaks g c = sym (names_found (listed_counts c.args.context.now) c.args.columns.now c.args.cells.now c.loop-i.i c.loop-i.stated c.column_at-column.result _ c.column_at-column.ensures (sym c.is_stated.ensures ∙ c.if-not-is_stated.false) (sym c.in-Some.ensures) (sym c.value_breaks.ensures ∙ c.if-value_breaks.true)) ∙ c.loop-i.invariant.same

pub loop-i-preserved : goal.loop-i-preserved
loop-i-preserved g c = record {
  same = sym (names_more (listed_counts c.args.context.now) c.args.columns.now c.args.cells.now c.loop-i.i c.loop-i.stated c.column_at-column.result _ c.column_at-column.ensures (sym c.is_stated.ensures ∙ c.if-not-is_stated.false) (sym c.in-Some.ensures) (sym c.value_breaks.ensures ∙ c.if-value_breaks.false)) ∙ c.loop-i.invariant.same;
  few = omega arith;
}

pub loop-i-preserved-then-not-is_stated : goal.loop-i-preserved-then-not-is_stated
loop-i-preserved-then-not-is_stated g c = record {
  same = sym (names_skip (listed_counts c.args.context.now) c.args.columns.now c.args.cells.now c.loop-i.i c.loop-i.stated c.column_at-column.result c.column_at-column.ensures (sym c.is_stated.ensures ∙ c.if-not-is_stated.true)) ∙ c.loop-i.invariant.same;
  few = omega arith;
}
