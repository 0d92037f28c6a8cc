use Rattle.std.proofs.Common.{◌≡◌, ◌++◌, map, IsTrue}
use Rattle.std.specs.List.{list_all}
use Rattle.enc_versions.specs.Commit.{version_in, is_entry}
use Rattle.enc_versions.proofs.commit.all_ready.Given as goal

abbrev pub invariant-loop-entry : goal.invariant-loop-entry
invariant-loop-entry l =
    IsTrue (list_all is_entry l.entry-iterator.rest.items)
    × (l.ready.items ++ map version_in l.entry-iterator.rest.items ≡ map version_in l.fn.entries.items)
