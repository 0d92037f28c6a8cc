-- For the contracts of private functions: which rule is asked of a new child and its owner.
use Rattle.std.specs.Prelude.{ℕ, Bool, ◌||◌, ◌==◌}
use Rattle.enc_plain.specs.Apply.{Attached}
use Rattle.enc_delta.specs.declared.members.Gain.{Gain}
use Rattle.enc_delta.specs.declared.members.Gain.TheVariants as gain
use Rattle.enc_delta.specs.Context.{Joined}
use Rattle.enc_delta.specs.Changes.{breaks_layout, breaks_slots}
use Rattle.enc_base.specs.Tables as tables

abbrev pub breaks : Joined → Gain → Attached → Bool
breaks j gain.Field a = breaks_layout j.chain j.delta a
breaks j gain.Method a = breaks_slots j.chain j.delta a

-- the tables whose members have signatures
abbrev pub has_signature : ℕ → Bool
has_signature table = table == tables.field || table == tables.method_def || table == tables.property
