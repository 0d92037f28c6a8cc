use Rattle.std.proofs.Common.{◌≡◌, ◌≤◌, ◌-◌, max, length, vec_capacity}
use Rattle.enc_base.specs.declared.token.Token.{Token as TheToken}
use Rattle.enc_versions.specs.Version.{newest_of}
use Rattle.enc_versions.proofs.commit.lengthen.Given as goal

abbrev pub invariant-loop-slots : goal.invariant-loop-slots
invariant-loop-slots l = record {
  more : length l.fn.slots.items ≤ length l.slots.items;
  most : length l.slots.items ≤ max (length l.fn.slots.items) l.rows;
  same : (method : TheToken) → newest_of l.slots.items method ≡ newest_of l.fn.slots.items method;
  capacity : vec_capacity l.slots ≡ vec_capacity l.fn.slots;
}

abbrev pub decreases-loop-slots : goal.decreases-loop-slots
decreases-loop-slots l = l.rows - length l.slots.items
