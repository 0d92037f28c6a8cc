use Rattle.std.proofs.Common.{◌≡◌, ◌≤◌, length, vec_capacity, IsTrue}
use Rattle.std.specs.List.{list_all}
use Rattle.enc_base.specs.Order.{or_else}
use Rattle.enc_base.specs.declared.token.Token.{Token as TheToken}
use Rattle.enc_versions.specs.Commit.{NewVersion, is_method_token, brought, last_row}
use Rattle.enc_versions.specs.Version.{newest_of}
use Rattle.enc_versions.proofs.commit.put_all.Given as goal

abbrev pub invariant-loop-new : goal.invariant-loop-new
invariant-loop-new l = record {
  methods : IsTrue (list_all (λ (v : NewVersion). is_method_token v.method) l.new-iterator.rest.items);
  rows : last_row l.new-iterator.rest.items ≤ length l.slots.items;
  count : length l.slots.items ≡ length l.fn.slots.items;
  newest : (method : TheToken) → or_else (brought l.new-iterator.rest.items method) (newest_of l.slots.items method) ≡ or_else (brought l.fn.ready.items method) (newest_of l.fn.slots.items method);
  capacity : vec_capacity l.slots ≡ vec_capacity l.fn.slots;
}
