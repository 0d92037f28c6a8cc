-- Why members with alike signatures have one key, and are of four tables.
use Rattle.std.specs.Prelude.{◌≡◌, ◌%◌, ◌==◌, ◌&&◌, ◌||◌, Bool, true, false, not, refl}
use Rattle.enc_plain.specs.Keys.{member_key}
use Rattle.enc_plain.specs.Rows.{Rows, number_at}
use Rattle.enc_plain.proofs.MemberKeys.{members_one}
use Rattle.enc_delta.specs.Changes.{asked_of, is_member, same_signature}
use Rattle.enc_delta.specs.Members.{AlikeHaveOneKey, AreInMemberTables}
use Rattle.enc_base.specs.Tables as tables
use Rattle.enc_schema.specs.Columns as columns

pub one_key : (rows : Rows) → AlikeHaveOneKey (asked_of rows) (member_key rows)
unfolding is_member same_signature
one_key rows t u counts _ same alike =
    members_one rows t u (not (number_at rows t columns.field_flags % 8 == 0))
    (not (number_at rows t columns.method_def_flags % 8 == 0)) counts same alike

-- a table is one of four, whatever else is asked of two of them
without : (a f b m c d : Bool) → (a && f || b && m || c || d) ≡ true → (a || b || c || d) ≡ true
without true f b m c d h = refl
without false f true m c d h = refl
without false f false m c d h = h

pub in_member_tables : (rows : Rows) → AreInMemberTables (asked_of rows)
unfolding is_member
in_member_tables rows t counts =
    without (t.table == tables.field) (not (number_at rows t columns.field_flags % 8 == 0))
    (t.table == tables.method_def) (not (number_at rows t columns.method_def_flags % 8 == 0))
    (t.table == tables.event) (t.table == tables.property) counts
