use Rattle.enc_base.proofs.SmallNumbers.{are_bytes}
use Rattle.enc_delta.proofs.delta.delta_from.Goals as goal

pub invariant_of-result : goal.invariant_of-result
invariant_of-result c = record {
  file = are_bytes c.args.meta.items c.items_fit;
  code = are_bytes c.args.il.items c.items_fit2;
  read = c.requires.read;
  opened = c.requires.opened;
  rising = c.requires.rising;
  begin = rw (c.deref.ensures.value, c.deref-2.ensures.value) at c.starts_of-starts.ensures;
}
