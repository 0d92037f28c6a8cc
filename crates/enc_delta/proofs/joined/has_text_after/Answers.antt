use Rattle.std.proofs.Common.{sym, ap, ◌∙◌, arith}
use Rattle.std.specs.Prelude.{is_some}
use Rattle.enc_delta.proofs.OneHeapMore.{zero_entry, text_before, text_behind}
use Rattle.enc_delta.proofs.joined.has_text_after.Goals as goal

pub returns-then-offset-eq0 : goal.returns-then-offset-eq0
returns-then-offset-eq0 g c = ap is_some (zero_entry _ _ c.args.offset c.if-offset-eq0.true)

pub returns-then-offset-strings : goal.returns-then-offset-strings
returns-then-offset-strings g c =
    c.has_text.ensures ∙ ap is_some (sym (text_before (g.C.ChainView.chain c.args.chain.now).heaps c.args.heaps.now c.args.before.now c.args.offset c.requires.tied (omega (arith, c.if-offset-strings.true))))

pub returns : goal.returns
returns g c =
    c.has_text_entry.ensures ∙ ap is_some (sym (text_behind (g.C.ChainView.chain c.args.chain.now).heaps c.args.heaps.now c.args.before.now c.args.offset c.requires.tied c.if-offset-eq0.false (omega (arith, c.if-offset-strings.false))))
