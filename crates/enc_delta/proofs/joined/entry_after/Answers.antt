use Rattle.std.proofs.Common.{sym, ◌∙◌, arith}
use Rattle.enc_delta.proofs.OneHeapMore.{zero_entry, heap_before, heap_behind}
use Rattle.enc_delta.proofs.joined.entry_after.Goals as goal

pub returns-then-offset-eq0 : goal.returns-then-offset-eq0
returns-then-offset-eq0 g c = zero_entry _ _ c.args.offset c.if-offset-eq0.true

pub returns-then-offset-older : goal.returns-then-offset-older
returns-then-offset-older g c =
    c.entry_at.ensures ∙ sym (heap_before c.args.heap (g.C.ChainView.chain c.args.chain.now).heaps c.args.heaps.now c.args.before.now c.args.offset c.requires.tied (omega (arith, c.of-older.ensures, c.if-offset-older.true)))

pub returns : goal.returns
returns g c =
    c.entry.ensures ∙ rw c.of-older.ensures (sym (heap_behind c.args.heap (g.C.ChainView.chain c.args.chain.now).heaps c.args.heaps.now c.args.before.now c.args.offset c.requires.tied c.if-offset-eq0.false (omega (arith, c.of-older.ensures, c.if-offset-older.false))))
