-- The newest version of a method means its body, has its user texts, and its instructions' offsets are places where a frame may go on.
use Rattle.std.proofs.Common.{◌≡◌, ℕ, zero, suc, ◌≤◌, Bool, true, false, ◌&&◌, ◌||◌, List, [], ◌∷◌, map, length, Option, Some, None, IsTrue, IfSome, refl, sym, ap, ◌∙◌, inl, inr, arith, subst, option_map, get_or, if◌then◌else◌, ◌==◌, nat_lt, nat_le}
use Rattle.std.proofs.lemmas.Bool.Decides.{nat_tests}
use Rattle.enc_base.specs.declared.token.Token.{Token}
use Rattle.enc_frames.specs.Machine.{code_meant}
use Rattle.enc_machine_types.specs.Members.{method_body, body_of_cell}
use Rattle.enc_opcodes.specs.Body.{Body, Code, body_of, instruction_told, is_instruction_start, texts_are_there}
use Rattle.enc_opcodes.specs.Instruction.{Instruction, instructions_of}
use Rattle.enc_opcodes.specs.Sound.{begins_at}
use Rattle.enc_plain.proofs.Columns.{part_cases}
use Rattle.enc_plain.specs.Debug.{PlainPdb}
use Rattle.enc_plain.specs.Module.{Module, has_row, rows_in, cell_of}
use Rattle.enc_plain.specs.Sound.{IsSound}
use Rattle.enc_base.specs.Tables.{method_def}
use Rattle.enc_versions.specs.StandFor.{MethodLines, lines_read, lines_known, AreVersionsOf}
use Rattle.enc_versions.specs.Version.{Version, newest_of}
use Rattle.enc_vm.proofs.Anywhere.{sound_same}
use Rattle.enc_vm.proofs.NowMeant.{no_row_cell, other_body, is_table}
use Rattle.enc_vm.proofs.Placed.{AfterSome}
use Rattle.enc_vm.proofs.SoundNow.{method_sound}
use Rattle.enc_vm.specs.CallsSeen.{AreBodiesOf}
use Rattle.enc_vm.specs.Moves.{IsBeginIn}
use Rattle.enc_vm.specs.Placed.{IsSoundCode}
use Rattle.enc_vm.specs.Texts.{version_texts}
use Rattle.enc_remap.specs.Laws.{NewestMayBeMovedTo}
use Rattle.enc_remap.specs.Remap.{newest_code}

abbrev the_none : Option Version
the_none = None

no_either : (b : Bool) → (if b then the_none else the_none) ≡ the_none
no_either true = refl
no_either false = refl

get_past : (xs : List (Option Version)) (i : ℕ) → length xs ≤ i → get_or xs i None ≡ None
get_past [] i h = refl
get_past (x ∷ xs) zero h = absurd (omega (arith, h))
get_past (x ∷ xs) (suc i) h = get_past xs i (omega (arith, h))

past_rows : (i count : ℕ) → (nat_lt 0 (suc i) && nat_le (suc i) count) ≡ false → count ≤ i
past_rows i count h = grind (arith, nat_tests, h)

-- no version is kept past the last method, and none of another table's row
none_at : (m : Module) (methods : List (Option Version)) (table row : ℕ) → length methods ≤ length (rows_in m method_def) → (table == method_def) ≡ true
    → has_row m (record { table = table; row = row }) ≡ false → newest_of methods (record { table = table; row = row }) ≡ None
unfolding newest_of has_row
none_at m methods table zero few is none = no_either (table == method_def)
none_at m methods table (suc i) few is none =
    let e = is_table table method_def is in
    let past : length methods ≤ i = omega (arith, few, past_rows i (length (rows_in m method_def)) (subst (λ (t : ℕ). (nat_lt 0 (suc i) && nat_le (suc i) (length (rows_in m t))) ≡ false) e none)) in
    ap (λ (b : Bool). if b then get_or methods i None else None) is ∙ get_past methods i past

pub none_past : (m : Module) (methods : List (Option Version)) (t : Token) → length methods ≤ length (rows_in m method_def) → (t.table == method_def) ≡ true
    → has_row m t ≡ false → newest_of methods t ≡ None
none_past m methods t few is none = none_at m methods t.table t.row few is none

none_other : (methods : List (Option Version)) (t : Token) → (t.table == method_def) ≡ false → newest_of methods t ≡ None
unfolding newest_of
none_other methods t is = rw is refl

-- a version that stands for a method's body
here : (users : ℕ → Option (List ℕ)) (m : Module) (debug : PlainPdb) (methods : List (Option Version)) (t : Token)
    → AreVersionsOf users m debug methods → t.table ≡ method_def → IsTrue (has_row m t)
    → method_body m t ≡ option_map (λ (v : Version). body_of users v.code) (newest_of methods t)
here users m debug methods t are at row = ap body_of_cell ((are.each t at row).means)

with_points : (users : ℕ → Option (List ℕ)) (lines : MethodLines) (o : Option Version) → IfSome o (λ (v : Version). lines_read v.points ≡ lines)
    → option_map (λ (b : Body). record { body = b; points = lines.points }) (option_map (λ (v : Version). body_of users v.code) o) ≡ option_map (code_meant users) o
with_points users lines None h = refl
with_points users lines (Some v) h = ap (λ (l : MethodLines). Some (record { body = body_of users v.code; points = l.points })) (sym h)

nothing_there : (m : Module) (debug : PlainPdb) (t : Token) → method_body m t ≡ None → newest_code m debug t ≡ None
nothing_there m debug t e = rw e refl

-- the newest version of a token means its newest code
pub newest_meant : (users : ℕ → Option (List ℕ)) (m : Module) (debug : PlainPdb) (methods : List (Option Version)) (t : Token)
    → IsSound m → AreVersionsOf users m debug methods → newest_code m debug t ≡ option_map (code_meant users) (newest_of methods t)
newest_meant users m debug methods t sound are =
    elim (part_cases (t.table == method_def)) [
      | inr apart ↦ elim (part_cases (has_row m t)) [
        | inl row ↦ nothing_there m debug t (other_body m t sound.kinds row apart) ∙ sym (ap (option_map (code_meant users)) (none_other methods t apart))
        | inr other ↦ nothing_there m debug t (ap body_of_cell (no_row_cell m t other)) ∙ sym (ap (option_map (code_meant users)) (none_other methods t apart))
      ]
      | inl same ↦ elim (part_cases (has_row m t)) [
        | inr other ↦ nothing_there m debug t (ap body_of_cell (no_row_cell m t other)) ∙ sym (ap (option_map (code_meant users)) (none_past m methods t are.within same other))
        | inl row ↦
            let at = is_table t.table method_def same in
            ap (option_map (λ (b : Body). record { body = b; points = (lines_known (debug t)).points })) (here users m debug methods t are at row)
            ∙ with_points users (lines_known (debug t)) (newest_of methods t) ((are.each t at row).lines)
      ]
    ]

is_row_of : (m : Module) (methods : List (Option Version)) (t : Token) (v : Version) → length methods ≤ length (rows_in m method_def) → t.table ≡ method_def
    → newest_of methods t ≡ Some v → IsTrue (has_row m t)
is_row_of m methods t v few at is =
    elim (part_cases (has_row m t)) [
      | inl row ↦ row
      | inr other ↦ let none = none_past m methods t few (grind (arith, nat_tests, at)) other in absurd cc
    ]

-- the newest version of a method means its body
pub body_of_newest : (users : ℕ → Option (List ℕ)) (m : Module) (methods : List (Option Version)) (t : Token) (v : Version)
    → AreBodiesOf users m methods → t.table ≡ method_def → newest_of methods t ≡ Some v → method_body m t ≡ Some (body_of users v.code)
body_of_newest users m methods t v are at is =
    here users m are.0 methods t are.1 at (is_row_of m methods t v are.1.within at is) ∙ ap (option_map (λ (w : Version). body_of users w.code)) is

-- its user texts are there
pub texts_of_newest : (users : ℕ → Option (List ℕ)) (m : Module) (methods : List (Option Version)) (t : Token) (v : Version)
    → AreBodiesOf users m methods → t.table ≡ method_def → newest_of methods t ≡ Some v → IsTrue (version_texts users v)
texts_of_newest users m methods t v are at is =
    subst (λ (o : Option Version). IfSome o (λ (w : Version). IsTrue (texts_are_there users w.code.code))) is
    ((are.1.each t at (is_row_of m methods t v are.1.within at is)).texts)

-- an instruction of it begins where one stands in its code
pub begins_told : (users : ℕ → Option (List ℕ)) (all : List (ℕ × Instruction ℕ)) (offset : ℕ)
    → begins_at (map (instruction_told users) all) offset ≡ is_instruction_start all offset
unfolding is_instruction_start
begins_told users [] offset = refl
begins_told users (x ∷ all) offset = ap (λ (b : Bool). (x.0 == offset) || b) (begins_told users all offset)

pub begins_in : (users : ℕ → Option (List ℕ)) (c : Code) (offset : ℕ) → begins_at ((body_of users c).code) offset ≡ is_instruction_start (instructions_of c.code) offset
unfolding body_of
begins_in users c offset = begins_told users (instructions_of c.code) offset

there : {A : Type 0} (P : A → Type 0) (o : Option A) (x : A) → o ≡ Some x → AfterSome P o → P x
there P None x is p = absurd cc
there P (Some y) x is p = let e : y ≡ x = cc in subst P e p

-- a frame may go on there
pub begins_anywhere : (users : ℕ → Option (List ℕ)) (m : Module) (methods : List (Option Version)) (t : Token) (v : Version) (offset : ℕ) → IsSound m
    → AreBodiesOf users m methods → t.table ≡ method_def → newest_of methods t ≡ Some v → is_instruction_start (instructions_of v.code.code) offset ≡ true
    → IsBeginIn v offset
begins_anywhere users m methods t v offset sound are at is begins others =
    let body = body_of_newest users m methods t v are at is in
    let good : IsSoundCode (body_of users v.code) = there IsSoundCode (method_body m t) (body_of users v.code) body (method_sound m t (cell_of m t 0) sound refl) in
    ((good.0, sym (sound_same users others good.0 v.code) ∙ good.1), begins_in others v.code offset ∙ begins)

pub bodies_if_some : {A : Type 0} (users : ℕ → Option (List ℕ)) (m : Module) (methods : List (Option Version)) (t : Token) (o : Option A) (version : A → Version)
    → AreBodiesOf users m methods → t.table ≡ method_def → option_map version o ≡ newest_of methods t
    → IfSome o (λ (a : A). method_body m t ≡ Some (body_of users (version a).code))
bodies_if_some users m methods t None version are at is = tt
bodies_if_some users m methods t (Some a) version are at is = body_of_newest users m methods t (version a) are at (sym is)

pub newest_law : NewestMayBeMovedTo
newest_law users m methods t v offset sound are at is begins = begins_anywhere users m methods t v offset sound are at is begins
