-- The laws of slots and paths.
use Rattle.std.proofs.Common.{◌≡◌, ℕ, zero, suc, ◌<◌, ◌≤◌, true, refl, ap, arith}
use Rattle.std.specs.Prelude.{◌==◌, length}
use Rattle.std.proofs.lemmas.Bool.{and_parts}
use Rattle.std.proofs.lemmas.Bool.Decides.{nat_tests}
use Rattle.enc_base.specs.Token.{is_token}
use Rattle.enc_base.specs.declared.token.Token.{Token}
use Rattle.enc_plain.specs.Module.{Module, rows_in, has_row, cells_of}
use Rattle.enc_plain.specs.Sound.{row_count}
use Rattle.enc_base.specs.Tables as tables
use Rattle.enc_dispatch.specs.Laws.{SlotsTellMethods, EachClassExtendsItself}
use Rattle.enc_plain.specs.ClassPath.{is_class, climb, is_on_path}
use Rattle.enc_dispatch.specs.Slots.{shares_slot}
use Rattle.enc_dispatch.specs.Walks.{same_slot}
use Rattle.enc_dispatch.proofs.Sharing.{slots_tell}

pub slots_tell_methods : SlotsTellMethods
unfolding same_slot shares_slot
slots_tell_methods m a b s t ea eb = slots_tell (cells_of m) a b s t ea eb

itself_among : (m : Module) (n : ℕ) (c : Token) → 0 < n → is_class m c ≡ true → is_on_path c (climb m n c) ≡ true
unfolding climb
itself_among m zero c low is = absurd (omega arith)
itself_among m (suc n) c low is = let same : is_token c c ≡ true = grind (arith, nat_tests) in rw (is, same) refl

some_rows : (m : Module) (c : Token) → (c.table == 0x02) ≡ true → has_row m c ≡ true → 0 < row_count m tables.type_def
unfolding has_row
some_rows m c at there =
    let table : c.table ≡ 0x02 = grind (arith, nat_tests) in
    let low : (0 < c.row) × (c.row ≤ length (rows_in m c.table)) = (grind (arith, nat_tests), grind (arith, nat_tests)) in
    omega (arith, low.0, low.1, ap (λ t. length (rows_in m t)) table)

pub each_class_extends_itself : EachClassExtendsItself
each_class_extends_itself m c is =
    let w = and_parts (c.table == 0x02) (has_row m c) is in
    itself_among m (row_count m tables.type_def) c (some_rows m c w.0 w.1) is
