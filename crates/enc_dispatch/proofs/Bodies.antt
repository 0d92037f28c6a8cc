-- Rows of MethodImpl of a sound module give rows of MethodDef.
use Rattle.std.proofs.Common.{◌≡◌, ℕ, zero, suc, ◌+◌, ◌<◌, ◌≤◌, Bool, true, false, Option, Some, None, IsTrue, refl, sym, ap, subst, ◌∙◌, inl, inr, arith}
use Rattle.std.specs.Prelude.{◌&&◌, ◌==◌, nat_lt, nat_le, if◌then◌else◌}
use Rattle.std.proofs.lemmas.Bool.{and_parts, or_cases}
use Rattle.std.proofs.lemmas.Bool.Decides.{nat_tests}
use Rattle.enc_base.specs.Order.{or_else, first_below}
use Rattle.enc_base.specs.Token.{nth_row, nil, is_token}
use Rattle.enc_base.specs.declared.token.Token.{Token}
use Rattle.enc_base.proofs.First.{first_none, first_suc}
use Rattle.enc_key_map.specs.declared.index.Index.{Index}
use Rattle.enc_key_map.specs.Index.{value_at}
use Rattle.enc_plain.specs.Cell.{Cell, number, text, blob, guid, refer, body, field}
use Rattle.enc_plain.specs.Module.{Module, has_row, cells_of, cell_of}
use Rattle.enc_plain.specs.Rows.{token_of_cell, token_at}
use Rattle.enc_plain.specs.Sound.{row_count, can_name, is_reference, cell_is_sound, IsSound}
use Rattle.enc_plain.proofs.CellsOf.{cell_there}
use Rattle.enc_schema.specs.declared.column.Column.TheVariants.{Coded}
use Rattle.enc_schema.specs.declared.column.Coding.TheVariants.{MethodDefOrRef}
use Rattle.enc_schema.specs.Schema.{columns_in, column_in}
use Rattle.enc_base.specs.Tables as tables
use Rattle.enc_dispatch.specs.declared.impl_part.ImplPart.{ImplPart}
use Rattle.enc_dispatch.specs.Stored.{class_at, impl_key, impl_for}
use Rattle.enc_dispatch.specs.Walks.{impl_class, impl_body, impl_declaration, method_at}

body_column : column_in 0x19 1 ≡ Some (Coded MethodDefOrRef)
unfolding columns_in
body_column = refl

is_there : (n k : ℕ) → k < n → (nat_lt 0 (k + 1) && nat_le (k + 1) n) ≡ true
is_there n k low = grind (arith, nat_tests, low)

row_there : (m : Module) (k : ℕ) → k < row_count m tables.method_impl → has_row m (nth_row tables.method_impl k) ≡ true
unfolding has_row
row_there m k low = is_there (row_count m tables.method_impl) k low

not_nil : (t : Token) → t ≡ nil → (t.table == 0x06) ≡ true → ⊥
not_nil t e h = let f : (nil.table == 0x06) ≡ true = rw e at h in absurd cc

reference_there : (m : Module) (t : Token) → is_reference m (Coded MethodDefOrRef) t ≡ true → (t.table == 0x06) ≡ true → has_row m t ≡ true
unfolding is_reference
reference_there m t h at = elim (or_cases (is_token t nil) (can_name (Coded MethodDefOrRef) t.table && has_row m t) h) [
  | inl none ↦ absurd (zero_table t.table (and_parts (t.table == 0) (t.row == 0) none).0 at)
  | inr there ↦ (and_parts (can_name (Coded MethodDefOrRef) t.table) (has_row m t) there).1
]
  where
    zero_table : (n : ℕ) → (n == 0) ≡ true → (n == 0x06) ≡ true → ⊥
    zero_table n a b = let e : n ≡ 0 = grind (arith, nat_tests) in let f : n ≡ 6 = grind (arith, nat_tests) in omega (arith, e, f)

by_cell : (m : Module) (u t : Token) (o : Option Cell) → ((c : Cell) → o ≡ Some c → cell_is_sound m u (Coded MethodDefOrRef) c ≡ true) → t ≡ token_of_cell o → (t.table == 0x06) ≡ true → has_row m t ≡ true
by_cell m u t None sound e at = absurd (not_nil t e at)
by_cell m u t (Some (number n)) sound e at = absurd (not_nil t e at)
by_cell m u t (Some (text b)) sound e at = absurd (not_nil t e at)
by_cell m u t (Some (blob b)) sound e at = absurd (not_nil t e at)
by_cell m u t (Some (guid b)) sound e at = absurd (not_nil t e at)
by_cell m u t (Some (body b)) sound e at = absurd (not_nil t e at)
by_cell m u t (Some (field b)) sound e at = absurd (not_nil t e at)
by_cell m u t (Some (refer v)) sound e at = reference_there m t (subst (λ w. is_reference m (Coded MethodDefOrRef) w ≡ true) (sym e) (sound (refer v) refl)) at

token_is : (m : Module) (u : Token) → token_at (cells_of m) u 1 ≡ token_of_cell (cell_of m u 1)
unfolding token_at
token_is m u = ap token_of_cell (cell_there m u 1)

body_there : (m : Module) (k : ℕ) → IsSound m → k < row_count m tables.method_impl → ((impl_body m k).table == 0x06) ≡ true → has_row m (impl_body m k) ≡ true
body_there m k sound low at =
    let u = nth_row tables.method_impl k in
    by_cell m u (impl_body m k) (cell_of m u 1) (λ c is. sound.cells.each u 1 (Coded MethodDefOrRef) c (row_there m k low) body_column is) (token_is m u) at

impl_there : (m : Module) (class declaration k : ℕ) (p : ImplPart) → IsSound m → k < row_count m tables.method_impl → impl_for m class declaration k ≡ Some p → IsTrue (has_row m (method_at p.body))
unfolding impl_for
impl_there m class declaration k p sound low e = by_tests (is_token (impl_class m k) (class_at class)) ((impl_body m k).table == 0x06) (is_token (impl_declaration m k) (method_at declaration)) refl e
  where
    row_is : (impl_body m k).row ≡ p.body → ((impl_body m k).table == 0x06) ≡ true → IsTrue (has_row m (method_at p.body))
    row_is f at =
        let t : (impl_body m k).table ≡ 0x06 = grind (arith, nat_tests) in
        subst (λ u. has_row m u ≡ true) (ap (λ n. record { table = n; row = (impl_body m k).row }) t ∙ ap method_at f) (body_there m k sound low at)

    by_tests : (a b c : Bool) → ((impl_body m k).table == 0x06) ≡ b → if◌then◌else◌ {A = Option ImplPart} (a && b && c) (Some (record { number = k; body = (impl_body m k).row })) None ≡ Some p → IsTrue (has_row m (method_at p.body))
    by_tests true true true at e = let f : record { number = k; body = (impl_body m k).row } ≡ p = cc in row_is (ap (λ (q : ImplPart). q.body) f) at
    by_tests true true false at e = absurd cc
    by_tests true false c at e = absurd cc
    by_tests false b c at e = absurd cc

first_there : (m : Module) (class declaration n : ℕ) (p : ImplPart) → IsSound m → n ≤ row_count m tables.method_impl → first_below (impl_for m class declaration) n ≡ Some p → IsTrue (has_row m (method_at p.body))
first_there m class declaration zero p sound low e = let f : None ≡ Some p = sym (first_none (impl_for m class declaration)) ∙ e in absurd cc
first_there m class declaration (suc n) p sound low e =
    by_first (first_below (impl_for m class declaration) n) refl (sym (first_suc (impl_for m class declaration) n) ∙ e) (first_there m class declaration n p sound (omega (arith, low)))
  where
    by_first : (o : Option ImplPart) → first_below (impl_for m class declaration) n ≡ o → or_else o (impl_for m class declaration n) ≡ Some p → (first_below (impl_for m class declaration) n ≡ Some p → IsTrue (has_row m (method_at p.body))) → IsTrue (has_row m (method_at p.body))
    by_first None is e earlier = impl_there m class declaration n p sound (omega (arith, low)) e
    by_first (Some q) is e earlier = earlier (is ∙ e)

pub bodies_there : (m : Module) (impls : Index ImplPart) → IsSound m → ((class declaration : ℕ) → value_at impls (impl_key class declaration) ≡ first_below (impl_for m class declaration) (row_count m tables.method_impl))
    → (class declaration : ℕ) (p : ImplPart) → value_at impls (impl_key class declaration) ≡ Some p → IsTrue (has_row m (method_at p.body))
bodies_there m impls sound are class declaration p e = first_there m class declaration (row_count m tables.method_impl) p sound (omega arith) (sym (are class declaration) ∙ e)
