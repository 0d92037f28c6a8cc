-- For the contracts of private functions: what the rows of tables stand for.
use Rattle.std.specs.Prelude.{ℕ, List}
use Rattle.enc_objects.specs.declared.kind.Kind.{Kind}
use Rattle.enc_machine_types.specs.declared.types.SystemKind.{SystemKind}
use Rattle.enc_machine_types.specs.declared.members_outside.MemberRow.{MemberRow}
use Rattle.enc_machine_types.specs.Outside.{SystemMember}

-- a name and its kind
abbrev pub system_kind_seen : SystemKind → List ℕ × Kind
system_kind_seen row = (row.0.now, row.1)

-- a member by its names and its signature
abbrev pub member_seen : MemberRow → SystemMember
member_seen row = record { type = row.0.now; name = row.1.now; signature = row.2.now; member = row.3 }
