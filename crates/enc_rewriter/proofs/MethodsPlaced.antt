-- Methods whose bodies are placed, one behind the other.
use Rattle.std.proofs.Common.{◌≡◌, ℕ, zero, suc, ◌+◌, ◌*◌, ◌%◌, ◌^◌, ◌<◌, ◌≤◌, Bool, true, false, List, [], ◌∷◌, ◌++◌, length, Option, Some, None, refl, sym, ap, subst, ◌∙◌, arith, inl, inr}
use Rattle.std.specs.Prelude.{◌==◌, ◌&&◌, slice_index}
use Rattle.std.specs.List.{list_all}
use Rattle.std.proofs.lemmas.Bool.{cases_lt, and_parts}
use Rattle.std.proofs.lemmas.Bool.Decides.{nat_tests}
use Rattle.std.proofs.lemmas.List.{length-map, get_or_append_left, get_or_push}
use Rattle.enc_base.specs.Token.{nth_row}
use Rattle.enc_base.specs.declared.token.Token.{Token}
use Rattle.enc_meta.specs.Built.{Built, is_kept}
use Rattle.enc_meta.specs.Regions.{Region}
use Rattle.enc_opcodes.specs.Clause.{clauses_of}
use Rattle.enc_opcodes.specs.Body.{Code, Body, nil_or, body_of, handler_meant, locals_are_good}
use Rattle.enc_opcodes.specs.Sound.{body_is_sound}
use Rattle.enc_opcodes.proofs.Sounds.{sound_locals, good_local}
use Rattle.enc_plain.specs.Bodies.{body_loaded, code_loaded, code_is_good, body_is_good}
use Rattle.enc_plain.specs.Cell.{body}
use Rattle.enc_plain.specs.Module.{Module, cells_of, cell_of}
use Rattle.enc_plain.specs.Rows.{number_at}
use Rattle.enc_plain.specs.Sound.{IsSound, row_count, locals_are_sound, method_is_sound}
use Rattle.enc_plain.proofs.NilLocals.{sound_nil}
use Rattle.enc_rows.proofs.Below.{sum_more, sum_part}
use Rattle.enc_schema.specs.Schema.{columns_in, column_in}
use Rattle.enc_schema.specs.declared.column.Column.TheVariants.{Num32}
use Rattle.enc_rewriter.specs.Placed.{loaded_with, IsBodyPlaced}
use Rattle.enc_rewriter.specs.Standing.{StandsAt, weight_of, bodies_before, AreBodiesPlaced, MayBeWritten, ComesNext}
use Rattle.enc_rewriter.specs.Values.{KeepValues, texts_named, values_at, values_if}
use Rattle.enc_rewriter.specs.Weight.{body_weight, bodies_weight}
use Rattle.enc_rewriter.specs.declared.pass.Pass.TheVariants.{Users}
use Rattle.enc_rewriter.proofs.BodyStands.{more_loaded}
use Rattle.enc_rewriter.proofs.Gathers.{row_there}

-- what a body of a sound module is
record IsBodySound (m : Module) (n : ℕ) (b : Body) : Type 0 where
  flags : (number_at (cells_of m) (nth_row 0x06 n) 1 % 4 == 0) ≡ true
  sound : body_is_sound (row_count m) b ≡ true
  nil : nil_or b.locals ≡ b.locals

method_column : column_in 0x06 0 ≡ Some Num32
unfolding columns_in
method_column = refl

some_columns : 0 < length (columns_in 0x06)
unfolding columns_in
some_columns = omega arith

body_sound : (m : Module) (n : ℕ) (b : Body) → IsSound m → n < row_count m 0x06 → cell_of m (nth_row 0x06 n) 0 ≡ Some (body (Some b)) → IsBodySound m n b
unfolding method_is_sound
body_sound m n b sound low is =
    let u = nth_row 0x06 n in
    let cell : method_is_sound m u b ≡ true = sound.cells.each u 0 Num32 (body (Some b)) (row_there m 0x06 n low) method_column is in
    let a = and_parts (number_at (cells_of m) u 1 % 4 == 0 && body_is_sound (row_count m) b) (locals_are_sound m b.locals) cell in
    let d = and_parts (number_at (cells_of m) u 1 % 4 == 0) (body_is_sound (row_count m) b) a.0 in
    record { flags = d.0; sound = d.1; nil = sound_nil m b.locals a.1 }

row_few : (m : Module) (t : Token) (b : Bool) → (t.row == 0) ≡ b → IsSound m → locals_are_good (row_count m) t ≡ true → t.row < 2 ^ 24
row_few m t true is sound good = let e : t.row ≡ 0 = grind (arith, nat_tests) in omega (arith, e)
row_few m t false is sound good = let e = good_local (row_count m) t good is in omega (arith, e.2, sound.counts.few 0x11)

-- its user texts are kept
users_kept : (m : Module) (h : Built) (n : ℕ) (b : Body) → KeepValues m h → n < row_count m 0x06 → cell_of m (nth_row 0x06 n) 0 ≡ Some (body (Some b)) → list_all (is_kept h.users) (texts_named b.code) ≡ true
unfolding values_at
users_kept m h n b keeps low is =
    ap (λ o. list_all (is_kept h.users) (values_if Users o)) (sym is) ∙ keeps.each Users (nth_row 0x06 n) 0 (row_there m 0x06 n low) some_columns

-- its weight comes to that of the bodies before it, and both are within that of all
pub weight_more : (m : Module) (n : ℕ) → bodies_before m (n + 1) ≡ bodies_before m n + body_weight (cell_of m (nth_row 0x06 n) 0)
unfolding bodies_before
weight_more m n = sum_more _ n

weight_within : (m : Module) (n : ℕ) → n < row_count m 0x06 → bodies_before m n + body_weight (cell_of m (nth_row 0x06 n) 0) ≤ bodies_weight m
unfolding bodies_before bodies_weight
weight_within m n low = sum_part _ n (row_count m 0x06) low

pub weight_one : (m : Module) (n : ℕ) (b : Body) → cell_of m (nth_row 0x06 n) 0 ≡ Some (body (Some b)) → bodies_before m (n + 1) ≡ bodies_before m n + weight_of b
weight_one m n b is = weight_more m n ∙ ap (λ o. bodies_before m n + body_weight o) is

pub weight_none : (m : Module) (n : ℕ) → cell_of m (nth_row 0x06 n) 0 ≡ Some (body None) → bodies_before m (n + 1) ≡ bodies_before m n
weight_none m n is = weight_more m n ∙ ap (λ o. bodies_before m n + body_weight o) is ∙ omega arith

weight_of_code : (texts : ℕ → Option (List ℕ)) (c : Code) → weight_of (body_of texts c) ≡ 32 + length c.code + 24 * length (clauses_of c.sections)
unfolding body_of
weight_of_code texts c = ap (λ k. 32 + length c.code + 24 * k) (length-map (clauses_of c.sections) handler_meant)

locals_of : (texts : ℕ → Option (List ℕ)) (c : Code) → (body_of texts c).locals ≡ c.locals
unfolding body_of
locals_of texts c = refl

-- it can be written behind the bodies before it
pub ready : (m : Module) (h : Built) (texts : ℕ → Option (List ℕ)) (n : ℕ) (c : Code) (size : ℕ) → ComesNext m h n size
    → cell_of m (nth_row 0x06 n) 0 ≡ Some (body (Some (body_of texts c))) → MayBeWritten m texts h c size
ready m h texts n c size next is =
    let sound = next.all.sound in
    let low = next.row in
    let b = body_of texts c in
    let s = body_sound m n b sound low is in
    let l = locals_of texts c in
    let good : locals_are_good (row_count m) c.locals ≡ true = ap (locals_are_good (row_count m)) (sym l) ∙ sound_locals (row_count m) b s.sound in
    let within = weight_within m n low in
    let one : body_weight (cell_of m (nth_row 0x06 n) 0) ≡ weight_of b = ap body_weight is in
    let weight = weight_of_code texts c in
    record {
      sound = s.sound;
      nil = ap nil_or (sym l) ∙ s.nil ∙ l;
      rows = row_few m c.locals (c.locals.row == 0) refl sound good;
      starts = next.all.kept.starts;
      kept = users_kept m h n b next.all.kept low is;
      few = omega (arith, next.weighs, within, next.all.light, one, weight);
      near = omega (arith, next.weighs, within, next.all.light);
      room = omega (arith, next.weighs, within, next.all.light, one, weight);
    }

-- it is placed where it stands
good_by : (count : ℕ → ℕ) (users : ℕ → Option (List ℕ)) (regions : List Region) (rva flags : ℕ) → 0 < rva → (flags % 4 == 0) ≡ true → code_is_good count users (code_loaded regions rva) ≡ true
    → body_is_good count users regions rva flags ≡ true
unfolding body_is_good
good_by count users regions zero flags some il good = refl
good_by count users regions (suc k) flags some il good = rw (il, good) refl

pub placed_some : (m : Module) (users : ℕ → Option (List ℕ)) (code : List ℕ) (n rva : ℕ) (b : Body) → IsSound m → n < row_count m 0x06 → cell_of m (nth_row 0x06 n) 0 ≡ Some (body (Some b)) → StandsAt (row_count m) users code rva b
    → IsBodyPlaced m users code n rva
placed_some m users code n rva b sound low is stands = record {
  meant = λ behind. is ∙ ap (λ o. Some (body o)) (sym (stands.meant behind));
  good = λ behind. good_by (row_count m) users (loaded_with code behind) rva (number_at (cells_of m) (nth_row 0x06 n) 1) stands.some (body_sound m n b sound low is).flags (stands.good behind);
}

pub placed_none : (m : Module) (users : ℕ → Option (List ℕ)) (code : List ℕ) (n : ℕ) → cell_of m (nth_row 0x06 n) 0 ≡ Some (body None) → IsBodyPlaced m users code n 0
unfolding body_loaded code_loaded body_is_good
placed_none m users code n is = record { meant = λ behind. is; good = λ behind. refl }

-- and stays placed
pub placed_still : (m : Module) (users : ℕ → Option (List ℕ)) (code more : List ℕ) (n rva : ℕ) → IsBodyPlaced m users code n rva → IsBodyPlaced m users (code ++ more) n rva
placed_still m users code more n rva is = record {
  meant = λ behind. is.meant (more ++ behind) ∙ ap (λ r. Some (body (body_loaded r users rva))) (sym (more_loaded code more behind));
  good = λ behind. ap (λ r. body_is_good (row_count m) users r rva (number_at (cells_of m) (nth_row 0x06 n) 1)) (more_loaded code more behind) ∙ is.good (more ++ behind);
}

pub all_still : (m : Module) (users : ℕ → Option (List ℕ)) (code more rvas : List ℕ) (n : ℕ) → AreBodiesPlaced m users code rvas n → AreBodiesPlaced m users (code ++ more) rvas n
all_still m users code more rvas n all k low = placed_still m users code more k (slice_index rvas k) (all k low)

pub none_placed : (m : Module) (users : ℕ → Option (List ℕ)) (code rvas : List ℕ) → AreBodiesPlaced m users code rvas 0
none_placed m users code rvas k low = absurd (omega (arith, low))

pub one_placed : (m : Module) (users : ℕ → Option (List ℕ)) (code rvas : List ℕ) (n rva : ℕ) → length rvas ≡ n → AreBodiesPlaced m users code rvas n → IsBodyPlaced m users code n rva
    → AreBodiesPlaced m users code (rvas ++ rva ∷ []) (n + 1)
one_placed m users code rvas n rva size all one k low =
    elim (cases_lt k n) [
      | inl lt ↦ subst (λ x. IsBodyPlaced m users code k x) (sym (get_or_append_left rvas (rva ∷ []) 0 k (omega (arith, lt, size)))) (all k lt)
      | inr le ↦
          let e : k ≡ n = omega (arith, le, low) in
          subst (λ j. IsBodyPlaced m users code j (slice_index (rvas ++ rva ∷ []) j)) (sym e) (subst (λ x. IsBodyPlaced m users code n x) (sym (get_or_push rvas rva 0 n size)) one)
    ]

pub all_weigh : (m : Module) (n : ℕ) → n ≡ row_count m 0x06 → bodies_before m n ≡ bodies_weight m
unfolding bodies_before bodies_weight
all_weigh m n all = ap (λ k. bodies_before m k) all

pub il_flags : (m : Module) (n : ℕ) (b : Body) → IsSound m → n < row_count m 0x06 → cell_of m (nth_row 0x06 n) 0 ≡ Some (body (Some b)) → (number_at (cells_of m) (nth_row 0x06 n) 1 % 4 == 0) ≡ true
il_flags m n b sound low is = (body_sound m n b sound low is).flags
