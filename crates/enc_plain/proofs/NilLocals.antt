-- A body that is loaded has the nil token as local signature, or a row.
use Rattle.std.proofs.Common.{◌≡◌, ℕ, zero, suc, ◌+◌, ◌/◌, ◌%◌, Bool, true, false, List, [], Option, Some, None, option_map, refl, sym, ap, ◌∙◌, arith}
use Rattle.std.specs.Prelude.{option_and_then, ◌==◌, ◌&&◌, ◌||◌, if◌then◌else◌}
use Rattle.std.proofs.lemmas.Bool.Decides.{nat_tests}
use Rattle.std.specs.Int.{w8, w16, w32}
use Rattle.enc_base.specs.Numbers.{little_endian_at, padded, has_flag}
use Rattle.enc_base.specs.Token.{token_of, nil, is_token}
use Rattle.enc_base.specs.declared.token.Token.{Token}
use Rattle.enc_meta.specs.Regions.{Region, rest_loaded}
use Rattle.enc_opcodes.specs.Body.{Code, Body, nil_or, tiny_at, sections_behind, fat_at, body_at, body_of, begins_locals}
use Rattle.enc_opcodes.specs.Instruction.{range_at}
use Rattle.enc_plain.specs.Bodies.{code_loaded, body_loaded}
use Rattle.enc_plain.specs.Module.{Module, cells_of}
use Rattle.enc_plain.specs.Rows.{bytes_at}
use Rattle.enc_plain.specs.Sound.{locals_are_sound}

abbrev IsNil : Code → Type 0
IsNil c = nil_or c.locals ≡ c.locals

by_row : (t : Token) (b : Bool) → (t.row == 0) ≡ b → nil_or (if b then nil else t) ≡ (if b then nil else t)
by_row t true is = refl
by_row t false is = rw is refl

nil_twice : (t : Token) → nil_or (nil_or t) ≡ nil_or t
nil_twice t = by_row t (t.row == 0) refl

-- what holds of each value behind holds of the result
behind : {A : Type 0} (o : Option A) (f : A → Option Code) (c : Code) → ((x : A) → f x ≡ Some c → IsNil c) → option_and_then f o ≡ Some c → IsNil c
behind None f c each e = absurd cc
behind (Some x) f c each e = each x e

tiny_nil : (o : Option (List ℕ)) (c : Code) → option_map (λ (code : List ℕ). record { max = 8; init = false; locals = nil; code = code; sections = [] }) o ≡ Some c → IsNil c
tiny_nil None c h = absurd cc
tiny_nil (Some r) c h =
    let is : record { max = 8; init = false; locals = nil; code = r; sections = [] } ≡ c = cc in
    let locals : nil ≡ c.locals = ap (λ (x : Code). x.locals) is in
    rw (← locals) refl

fat_by : (t : Token) (b : Bool) (d c : Code) → d.locals ≡ nil_or t → (if b then Some d else None) ≡ Some c → IsNil c
fat_by t true d c at h =
    let is : d ≡ c = cc in
    let locals : nil_or t ≡ c.locals = sym at ∙ ap (λ (x : Code). x.locals) is in
    rw (← locals) (nil_twice t)
fat_by t false d c at h = absurd cc

fat_nil : (bytes : List ℕ) (at : ℕ) (c : Code) → fat_at bytes at ≡ Some c → IsNil c
unfolding fat_at
fat_nil bytes at c h =
    behind (little_endian_at w16 bytes at) _ c (λ flags. behind (little_endian_at w16 bytes (at + 2)) _ c (λ max. behind (little_endian_at w32 bytes (at + 4)) _ c (λ size. behind (little_endian_at w32 bytes (at + 8)) _ c (λ locals.
    behind (range_at bytes (at + 12) size) _ c (λ code. behind (sections_behind bytes (at + 12 + padded size) (has_flag 8 flags)) _ c (λ sections.
    fat_by (token_of locals) (flags / 0x1000 == 3) (record { max = max; init = has_flag 0x10 flags; locals = nil_or (token_of locals); code = code; sections = sections }) c refl)))))) h

form_nil : (bytes : List ℕ) (at size : ℕ) (b d : Bool) (c : Code) → (if b then tiny_at bytes at size else if d then fat_at bytes at else None) ≡ Some c → IsNil c
form_nil bytes at size true d c h = tiny_nil (range_at bytes (at + 1) size) c h
form_nil bytes at size false true c h = fat_nil bytes at c h
form_nil bytes at size false false c h = absurd cc

body_nil : (bytes : List ℕ) (at place : ℕ) (c : Code) → body_at bytes at place ≡ Some c → IsNil c
unfolding body_at
body_nil bytes at place c h = behind (little_endian_at w8 bytes at) _ c (λ first. form_nil bytes at (first / 4) (first % 4 == 2) (first % 4 == 3 && place % 4 == 0) c) h

-- the parts that are loaded at a place
pub code_nil : (regions : List Region) (n : ℕ) (c : Code) → code_loaded regions n ≡ Some c → nil_or c.locals ≡ c.locals
unfolding code_loaded
code_nil regions zero c h = absurd cc
code_nil regions (suc n) c h = behind (rest_loaded regions (suc n)) (λ (bytes : List ℕ). body_at bytes 0 (suc n)) c (λ bytes. body_nil bytes 0 (suc n) c) h

-- and so the body that they mean
by_code : (texts : ℕ → Option (List ℕ)) (o : Option Code) (b : Body) → ((c : Code) → o ≡ Some c → nil_or c.locals ≡ c.locals) → option_map (body_of texts) o ≡ Some b → nil_or b.locals ≡ b.locals
unfolding body_of
by_code texts None b each h = absurd cc
by_code texts (Some c) b each h =
    let is : body_of texts c ≡ b = cc in
    let locals : c.locals ≡ b.locals = ap (λ (x : Body). x.locals) is in
    rw (← locals) (each c refl)

pub loaded_nil : (regions : List Region) (texts : ℕ → Option (List ℕ)) (n : ℕ) (b : Body) → body_loaded regions texts n ≡ Some b → nil_or b.locals ≡ b.locals
unfolding body_loaded
loaded_nil regions texts n b h = by_code texts (code_loaded regions n) b (code_nil regions n) h

-- such a local signature is sound where it is nil or begins as one of locals
from_by : (m : Module) (t : Token) (b begins : Bool) → (t.row == 0) ≡ b → (if b then nil else t) ≡ t → (b || begins) ≡ true → (if b then is_token t nil else begins) ≡ true
from_by m t true begins is same h = ap (λ (x : Token). is_token x nil) (sym same)
from_by m t false begins is same h = h

pub nil_sound : (m : Module) (t : Token) → nil_or t ≡ t → (t.row == 0 || begins_locals (bytes_at (cells_of m) t 0)) ≡ true → locals_are_sound m t ≡ true
nil_sound m t same h = from_by m t (t.row == 0) (begins_locals (bytes_at (cells_of m) t 0)) refl same h

-- and a sound one is so
begins_by : (t : Token) (b begins : Bool) → (if b then is_token t nil else begins) ≡ true → (b || begins) ≡ true
begins_by t true begins h = refl
begins_by t false begins h = h

pub sound_begins : (m : Module) (t : Token) → locals_are_sound m t ≡ true → (t.row == 0 || begins_locals (bytes_at (cells_of m) t 0)) ≡ true
sound_begins m t h = begins_by t (t.row == 0) (begins_locals (bytes_at (cells_of m) t 0)) h

same_nil : (table row : ℕ) → (table == 0 && row == 0) ≡ true → nil ≡ (record { table = table; row = row })
same_nil table row h =
    let a : table ≡ 0 = grind (arith, nat_tests, h) in
    let b : row ≡ 0 = grind (arith, nat_tests, h) in
    rw (a, b) refl

nil_by : (t : Token) (b begins : Bool) → (t.row == 0) ≡ b → (if b then is_token t nil else begins) ≡ true → (if b then nil else t) ≡ t
nil_by t true begins is h = same_nil t.table t.row h
nil_by t false begins is h = refl

pub sound_nil : (m : Module) (t : Token) → locals_are_sound m t ≡ true → nil_or t ≡ t
sound_nil m t h = nil_by t (t.row == 0) (begins_locals (bytes_at (cells_of m) t 0)) refl h
