use Rattle.std.proofs.Common.{refl, ap, sym, [], ◌∷◌, ◌++◌, get_or, ◌∙◌, arith}
use Rattle.enc_delta.specs.Rules.{changed}
use Rattle.enc_delta.proofs.ListsChanged.{no_entry, take_end, changed_none, changed_yes, changed_no, tokens_more}
use Rattle.enc_delta.proofs.lists.changed_of.Goals.{then-is_change+in_ok-push, else-is_change}
use Rattle.enc_delta.proofs.lists.changed_of.Goals as goal

pub loop-k-init : goal.loop-k-init
loop-k-init c = record { rows = rw c.new-tokens.ensures.items refl; same = c.new-tokens.ensures.items ∙ changed_none }

pub loop-k-preserved : goal.loop-k-preserved
loop-k-preserved c = elim c.if-is_change.branch [
  | then-is_change+in_ok-push w ↦
      let y = changed_yes c.args.log.now c.loop-k.k c.loop-k-test.true (sym c.is_change.ensures ∙ w.if-is_change.true) in
      let items = w.in_ok-push.ensures.items in
      rw (w.tokens-is, items) (record { rows = tokens_more c.loop-k.tokens.items c.args.log.now c.loop-k.k c.loop-k.invariant.rows c.requires.rows c.loop-k-test.true; same = rw y (ap (λ ts. ts ++ (get_or c.args.log.now c.loop-k.k no_entry).token ∷ []) c.loop-k.invariant.same) })
  | else-is_change w ↦ let n = changed_no c.args.log.now c.loop-k.k c.loop-k-test.true (sym c.is_change.ensures ∙ w.if-is_change.false) in rw w.tokens-is (record { rows = c.loop-k.invariant.rows; same = c.loop-k.invariant.same ∙ sym n })
]

pub returns-clause-tokens : goal.returns-clause-tokens
returns-clause-tokens c = c.loop-k.invariant.same ∙ ap changed (take_end c.args.log.now c.loop-k.k (omega arith))
