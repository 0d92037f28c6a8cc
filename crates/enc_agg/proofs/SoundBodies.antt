-- The bodies of a module stay sound after a delta, and the delta's own are.
use Rattle.std.proofs.Common.{◌≡◌, ℕ, ◌+◌, ◌-◌, ◌≤◌, Bool, true, false, List, Option, Some, None, refl, sym, ap, subst, ◌∙◌, arith}
use Rattle.std.specs.Prelude.{◌==◌, ◌&&◌, ◌||◌, ◌%◌, not, option_map, slice_get}
use Rattle.std.proofs.lemmas.Bool.{and_parts}
use Rattle.enc_base.specs.declared.refusal.Place.{Place}
use Rattle.enc_base.specs.declared.token.Token.{Token}
use Rattle.enc_base.proofs.First.{silent}
use Rattle.enc_schema.specs.declared.column.Column.{Column}
use Rattle.enc_schema.specs.declared.column.Column.TheVariants.{Blob}
use Rattle.enc_schema.specs.Schema.{columns_in}
use Rattle.enc_opcodes.specs.Body.{Code, Body, body_of, locals_are_good, begins_locals}
use Rattle.enc_opcodes.specs.Sound.{body_is_sound}
use Rattle.enc_opcodes.proofs.Sounds.{Grow, good_is_sound, good_local, sound_kept, sound_locals}
use Rattle.enc_rows.specs.Layout.{rows_of}
use Rattle.enc_rows.specs.Source.{Source, raw_in}
use Rattle.enc_plain.specs.Alike.{signatures_alike}
use Rattle.enc_plain.specs.Bodies.{code_loaded, body_is_good}
use Rattle.enc_plain.specs.Cell.{body}
use Rattle.enc_plain.specs.Chain.{Chain}
use Rattle.enc_plain.specs.Module.{Module, has_row, cells_of}
use Rattle.enc_plain.specs.Rows.{number_at, bytes_at}
use Rattle.enc_plain.specs.Signatures.{signature_column}
use Rattle.enc_plain.specs.Sound.{row_count, locals_are_sound, method_is_sound, cell_is_sound}
use Rattle.enc_plain.proofs.AlikeKept.{locals_alike}
use Rattle.enc_plain.proofs.KindsOf.{row_there}
use Rattle.enc_plain.proofs.LoadedBytes.{AreLoaded, code_bytes}
use Rattle.enc_plain.proofs.NilLocals.{code_nil, nil_sound, sound_begins, sound_nil}
use Rattle.enc_image.proofs.SoundBodies.{there_good}
use Rattle.enc_delta.specs.Delta.{listed, of_table, place_in}
use Rattle.enc_delta.specs.Rules.{broken, users_after, rows_with, body_stands, broken_body_at, broken_body}
use Rattle.enc_delta.specs.Changes.{own_code, locals_begin, bad_locals_in, bad_locals}
use Rattle.enc_delta.specs.Rows.{rows_after}
use Rattle.enc_agg.specs.Extend.{extended}
use Rattle.enc_agg.proofs.KeptRows.{signs, JudgedBy, silent_of, same_bytes, signature_kept, rows_grow}
use Rattle.enc_agg.proofs.SoundSignatures.{Counted}
use Rattle.enc_agg.proofs.Tokens.{PlaceRow}
use Rattle.enc_agg.proofs.Viewing.{other_cells}

all_three : (a b c : Bool) → a ≡ true → b ≡ true → c ≡ true → (a && b && c) ≡ true
all_three a b c e f g = rw (e, f, g) refl

code_after : (c : Chain) (s : Source) → Counted c s → Grow (rows_with c (listed s)) (row_count (extended c s).plain)
code_after c s counts = record { each = λ t h. le _ _ (counts t) }
  where
    le : (a b : ℕ) → b ≡ a → a ≤ b
    le a b h = omega arith

code_grows : (c : Chain) (s : Source) → Counted c s → Grow (row_count c.plain) (row_count (extended c s).plain)
code_grows c s counts = record { each = λ t h. rows_grow c s t counts }

-- a local signature that began as one of locals still does
begins_by : (a : Bool) (x y : List ℕ) → (a || begins_locals x) ≡ true → (a ≡ false → begins_locals x ≡ true → begins_locals y ≡ true) → (a || begins_locals y) ≡ true
begins_by true x y h keeps = refl
begins_by false x y h keeps = keeps refl h

locals_column : signature_column 0x11 ≡ Some 0
unfolding signature_column
locals_column = refl

locals_kept : (c : Chain) (s : Source) (t : Token) → JudgedBy c s → locals_are_good (row_count c.plain) t ≡ true → (t.row == 0 || begins_locals (bytes_at (cells_of c.plain) t 0)) ≡ true → (t.row == 0 || begins_locals (bytes_at (cells_of (extended c s).plain) t 0)) ≡ true
unfolding columns_in
locals_kept c s t j good h = begins_by (t.row == 0) (bytes_at (cells_of c.plain) t 0) (bytes_at (cells_of (extended c s).plain) t 0) h (λ some begins.
    let p = good_local (row_count c.plain) t good some in
    let there : has_row c.plain t ≡ true = row_there c.plain t p.1 (rw p.0 p.2) in
    let alike = signature_kept c s t 0 Blob j there (rw p.0 refl) (rw p.0 refl) (rw p.0 (signs 0x11 0 locals_column)) (rw p.0 refl) in
    locals_alike (rows_after c s) (bytes_at (cells_of c.plain) t 0) (bytes_at (cells_of (extended c s).plain) t 0) (subst (λ (n : ℕ). signatures_alike (rows_after c s) n (bytes_at (cells_of c.plain) t 0) (bytes_at (cells_of (extended c s).plain) t 0) ≡ true) p.0 alike) begins)

same_number : (m q : Module) (t : Token) (i : ℕ) → cells_of m t ≡ cells_of q t → number_at (cells_of m) t i ≡ number_at (cells_of q) t i
unfolding number_at
same_number m q t i e = rw e refl

-- the body of a method that the delta doesn't list
pub method_kept : (c : Chain) (s : Source) (u : Token) (b : Body) → JudgedBy c s → Counted c s → place_in (listed s) u ≡ None → method_is_sound c.plain u b ≡ true → method_is_sound (extended c s).plain u b ≡ true
unfolding method_is_sound
method_kept c s u b j counts none h =
    let a = and_parts (number_at (cells_of c.plain) u 1 % 4 == 0 && body_is_sound (row_count c.plain) b) (locals_are_sound c.plain b.locals) h in
    let d = and_parts (number_at (cells_of c.plain) u 1 % 4 == 0) (body_is_sound (row_count c.plain) b) a.0 in
    let il : (number_at (cells_of (extended c s).plain) u 1 % 4 == 0) ≡ true = rw (same_number (extended c s).plain c.plain u 1 (other_cells c s u j.fit none)) d.0 in
    all_three _ _ _ il (sound_kept (row_count c.plain) (row_count (extended c s).plain) b (code_grows c s counts) d.1) (nil_sound (extended c s).plain b.locals (sound_nil c.plain b.locals a.1) (locals_kept c s b.locals j (sound_locals (row_count c.plain) b d.1) (sound_begins c.plain b.locals a.1)))

-- what the rules say of the body of a method that it lists
unbroken : (b : Bool) (p : Place) → broken (not b) p ≡ None → b ≡ true
unbroken true p h = refl
unbroken false p h = absurd cc

pub listed_good : (c : Chain) (s : Source) (u : Token) (k : ℕ) → broken_body c s ≡ None → PlaceRow s u k → u.table ≡ 0x06 → body_is_good (rows_with c (listed s)) (users_after c s) s.loaded (raw_in s (record { table = u.table; row = k }) 0) (raw_in s (record { table = u.table; row = k }) 1) ≡ true
unfolding broken_body broken_body_at body_stands
listed_good c s u k none at is =
    let e : k - 1 + 1 ≡ k = omega (arith, at.low) in
    let high : k ≤ rows_of s.layout 0x06 = rw is at at.high in
    let token : slice_get (of_table 0x06 (listed s)) (k - 1) ≡ Some u = ap (λ t. slice_get (of_table t (listed s)) (k - 1)) (sym is) ∙ at.token in
    let row = silent (broken_body_at c s) (rows_of s.layout 0x06) (k - 1) none (omega (arith, at.low, high)) in
    let good : body_is_good (rows_with c (listed s)) (users_after c s) s.loaded (raw_in s (record { table = 0x06; row = k - 1 + 1 }) 0) (raw_in s (record { table = 0x06; row = k - 1 + 1 }) 1) ≡ true = unbroken _ _ (rw token at row) in
    rw is (rw e at good)

locals_of : (a b d : Bool) → (a || b && d) ≡ true → (a || d) ≡ true
locals_of true b d h = refl
locals_of false true d h = h
locals_of false false d h = absurd cc

also : (a b : Bool) (p : Place) → broken (a && not b) p ≡ None → a ≡ true → b ≡ true
also true true p h e = refl
also true false p h e = absurd cc
also false b p h e = absurd cc

listed_locals : (c : Chain) (s : Source) (u : Token) (k : ℕ) (code : Code) → JudgedBy c s → bad_locals c s ≡ None → place_in (listed s) u ≡ Some k → u.table ≡ 0x06 → code_loaded s.loaded (raw_in s (record { table = u.table; row = k }) 0) ≡ Some code → (code.locals.row == 0 || begins_locals (bytes_at (cells_of (extended c s).plain) code.locals 0)) ≡ true
unfolding bad_locals bad_locals_in
listed_locals c s u k code j none place is there =
    let row : bad_locals_in c s u ≡ None = silent_of (bad_locals_in c s) s u k none place in
    let method : (u.table == 0x06) ≡ true = rw is refl in
    let begins : locals_begin (rows_after c s) (own_code s u) ≡ true = also (u.table == 0x06) (locals_begin (rows_after c s) (own_code s u)) _ row method in
    let code_is : locals_begin (rows_after c s) (Some code) ≡ true = rw (place, there) at begins in
    rw (← same_bytes (rows_after c s) (cells_of (extended c s).plain) code.locals 0 (j.rows code.locals)) (locals_of (code.locals.row == 0) (code.locals.table == 0x11) (begins_locals (bytes_at (rows_after c s) code.locals 0)) code_is)

-- the body that the delta gives a method
pub method_listed : (c : Chain) (s : Source) (u : Token) (column : Column) (k : ℕ) (o : Option Code) → JudgedBy c s → Counted c s → AreLoaded s.loaded → broken_body c s ≡ None → bad_locals c s ≡ None → PlaceRow s u k → place_in (listed s) u ≡ Some k → u.table ≡ 0x06 → number_at (cells_of (extended c s).plain) u 1 ≡ raw_in s (record { table = u.table; row = k }) 1 → code_loaded s.loaded (raw_in s (record { table = u.table; row = k }) 0) ≡ o → cell_is_sound (extended c s).plain u column (body (option_map (body_of (users_after c s)) o)) ≡ true
unfolding method_is_sound body_of
method_listed c s u column k None j counts bytes bodies locals at place is flags there = refl
method_listed c s u column k (Some code) j counts bytes bodies locals at place is flags there =
    let own : Token = record { table = u.table; row = k } in
    let g = there_good (rows_with c (listed s)) (users_after c s) s.loaded (raw_in s own 0) (raw_in s own 1) code (listed_good c s u k bodies at is) there in
    let il : (number_at (cells_of (extended c s).plain) u 1 % 4 == 0) ≡ true = rw flags g.0 in
    let sound : body_is_sound (row_count (extended c s).plain) (body_of (users_after c s) code) ≡ true = good_is_sound (users_after c s) (rows_with c (listed s)) (row_count (extended c s).plain) code (code_bytes s.loaded (raw_in s own 0) code bytes there) (code_after c s counts) g.1 in
    all_three _ _ _ il sound (nil_sound (extended c s).plain code.locals (code_nil s.loaded (raw_in s own 0) code there) (listed_locals c s u k code j locals place is there))
