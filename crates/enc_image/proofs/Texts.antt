-- The user texts that bodies name are there.
use Rattle.std.proofs.Common.{◌≡◌, ℕ, zero, suc, ◌-◌, ◌≤◌, Bool, true, false, List, Option, Some, None, refl, sym, ap, ◌∙◌, arith}
use Rattle.std.specs.Prelude.{◌&&◌, ◌==◌, ◌%◌, if◌then◌else◌, IsTrue, IfSome, option_map}
use Rattle.enc_base.specs.Token.{nth_row}
use Rattle.enc_base.specs.declared.token.Token.{Token}
use Rattle.enc_base.specs.declared.refusal.Place.{Place}
use Rattle.enc_base.specs.Order.{or_else}
use Rattle.enc_base.proofs.First.{silent}
use Rattle.enc_meta.specs.Regions.{Region}
use Rattle.enc_opcodes.specs.declared.code.CodeRef.{CodeRef}
use Rattle.enc_opcodes.specs.Body.{Code, code_seen, is_good, texts_are_there}
use Rattle.enc_rows.specs.Layout.{rows_of}
use Rattle.enc_rows.specs.Source.{Source, raw_in}
use Rattle.enc_plain.specs.Bodies.{code_loaded, body_is_good}
use Rattle.enc_plain.specs.Module.{has_row}
use Rattle.enc_image.specs.Base.{signature_fault, rule, users_of, has_locals, body_fault_at, body_fault, rule, cells_fault, module_in}
use Rattle.enc_image.proofs.Rows.{row_stands, token_is}

right : (a b : Bool) → (a && b) ≡ true → b ≡ true
right true b h = h
right false b h = absurd cc

left : (a b : Bool) → (a && b) ≡ true → a ≡ true
left true b h = refl
left false b h = h

no_code : (regions : List Region) (c : Code) (A : Type 0) → code_loaded regions 0 ≡ Some c → A
unfolding code_loaded
no_code regions c A is = absurd cc

-- the texts that a good body names are there
pub good_texts : (count : ℕ → ℕ) (texts : ℕ → Option (List ℕ)) (regions : List Region) (n flags : ℕ) (c : Code) → body_is_good count texts regions n flags ≡ true → code_loaded regions n ≡ Some c → texts_are_there texts c.code ≡ true
unfolding body_is_good
good_texts count texts regions zero flags c good is = no_code regions c _ is
good_texts count texts regions (suc n) flags c good is = right (is_good count c) _ (rw is at (right (flags % 4 == 0) _ good))

pub neither : {A : Type 0} (a b : Option A) → or_else a b ≡ None → (a ≡ None) × (b ≡ None)
neither None None h = (refl, refl)
neither (Some x) b h = absurd cc
neither None (Some x) h = absurd cc

pub no_place : (n : ℕ) (p : Option Place) → rule n p ≡ None → p ≡ None
no_place n None h = refl
no_place n (Some x) h = absurd cc

pub no_body_fault : (s : Source) → cells_fault s ≡ None → body_fault s ≡ None
unfolding cells_fault
no_body_fault s h =
    let signatures = (neither _ _ (neither _ _ h).1).1 in
    let bodies = (neither (rule 11 (signature_fault s)) _ signatures).1 in
    no_place 10 _ (neither (rule 10 (body_fault s)) _ bodies).0

pub if_some : {A : Type 0} (b : Bool) (x : A) → (if b then None else Some x) ≡ None → b ≡ true
if_some true x h = refl
if_some false x h = absurd cc

-- the texts that a body of an image names are there
pub image_texts : (s : Source) (u : Token) (c : Code) → cells_fault s ≡ None → IsTrue (has_row (module_in s) u) → u.table ≡ 0x06 → code_loaded s.loaded (raw_in s u 0) ≡ Some c → texts_are_there (users_of s) c.code ≡ true
unfolding body_fault body_fault_at
image_texts s u c sound there table is =
    let row = row_stands s u there in
    let e : nth_row 0x06 (u.row - 1) ≡ u = ap (λ t. nth_row t (u.row - 1)) (sym table) ∙ token_is u row.low in
    let high : u.row ≤ rows_of s.layout 0x06 = rw table at row.high in
    let silent_row = silent (body_fault_at s) (rows_of s.layout 0x06) (u.row - 1) (no_body_fault s sound) (omega (arith, row.low, high)) in
    let row_token = nth_row 0x06 (u.row - 1) in
    let good : body_is_good (rows_of s.layout) (users_of s) s.loaded (raw_in s row_token 0) (raw_in s row_token 1) ≡ true = left (body_is_good (rows_of s.layout) (users_of s) s.loaded (raw_in s row_token 0) (raw_in s row_token 1)) (has_locals s (code_loaded s.loaded (raw_in s row_token 0))) (if_some _ _ silent_row) in
    good_texts (rows_of s.layout) (users_of s) s.loaded (raw_in s u 0) (raw_in s u 1) c (rw e at good) is

-- and those that the parts of a body name that were read
pub read_texts : (s : Source) (u : Token) (r : Option CodeRef) → cells_fault s ≡ None → IsTrue (has_row (module_in s) u) → u.table ≡ 0x06
    → option_map code_seen r ≡ code_loaded s.loaded (raw_in s u 0) → IfSome r (λ (c : CodeRef). IsTrue (texts_are_there (users_of s) c.code.now))
read_texts s u None sound there table is = _
read_texts s u (Some r) sound there table is = image_texts s u (code_seen r) sound there table (sym is)
