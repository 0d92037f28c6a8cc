use Rattle.std.proofs.Common.{map, arith}
use Rattle.std.proofs.lemmas.List.{nil_from_length}
use Rattle.enc_versions.specs.Commit.{version_in}
use Rattle.enc_versions.proofs.Committed.{ready_methods, none_mapped}
use Rattle.enc_versions.proofs.commit.all_ready.Goals as goal

pub returns-clause-methods : goal.returns-clause-methods
returns-clause-methods c =
    let rest = c.loop-entry.entry-iterator.rest in
    let none = none_mapped rest.items (nil_from_length rest.items (omega (arith, rest.ok.0, c.in-None.ensures.steps.0))) in
    ready_methods c.args.entries.items c.loop-entry.ready.items (map version_in rest.items) c.requires none c.loop-entry.invariant.1
