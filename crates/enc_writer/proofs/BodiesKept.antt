-- The user texts that an edit brings have a place in the heaps of a delta.
use Rattle.std.proofs.Common.{◌≡◌, ℕ, ◌+◌, ◌<◌, ◌≤◌, Bool, true, false, List, [], ◌∷◌, ◌++◌, length, Option, Some, refl, sym, ap, ◌∙◌, arith}
use Rattle.std.specs.Prelude.{◌^◌, ◌||◌, nat_lt, flat_map, sum_by, bytes_eq, slice_get, if◌then◌else◌}
use Rattle.std.specs.List.{list_all}
use Rattle.std.proofs.lemmas.Bool.{and_parts, and_from}
use Rattle.std.proofs.lemmas.Bool.Decides.{nat_tests}
use Rattle.std.proofs.lemmas.List.{length-append}
use Rattle.std.proofs.lemmas.List.Folds.{list_all-append}
use Rattle.std.proofs.lemmas.List.Sums.{sum_by-cons}
use Rattle.enc_base.specs.Numbers.{spelled}
use Rattle.enc_meta.specs.Built.{Built, is_among, is_kept, blob_bytes, mark_of, user_bytes, place_among, offset_in, user_offset, joined_end, unit_bytes}
use Rattle.enc_meta.proofs.Reading.{spelled_some}
use Rattle.enc_plain.specs.Chain.{Chain}
use Rattle.enc_edit_list.specs.declared.body.ArgValue.{ArgValue}
use Rattle.enc_edit_list.specs.declared.body.ArgValue.TheVariants as arg
use Rattle.enc_edit_list.specs.declared.body.BodyValue.{BodyValue}
use Rattle.enc_edit_list.specs.declared.body.InstrValue.{InstrValue}
use Rattle.enc_edit_list.specs.declared.edit.Edit.{Edit}
use Rattle.enc_edit_list.specs.declared.edit.EditList.{EditList}
use Rattle.enc_assembly.specs.Assembly.{text_is_kept}
use Rattle.enc_rules.specs.Listed.{body_given}
use Rattle.enc_rules.specs.Rules.{users_of_edit, users_in_argument, users_in_body, heaps_with, passes_limits}
use Rattle.enc_list_delta.specs.Holds.{MayFollow, heaps_written}
use Rattle.enc_list_delta.proofs.TokensUnbroken.{heaps_have_room}
use Rattle.enc_writer.proofs.ValuesKept.{user_brought, is_itself, among_front, among_behind}

-- a value that is kept wherever it is among some is kept for each of these
all_of : (p : List ℕ → Bool) (xs : List (List ℕ)) → ((v : List ℕ) → is_among xs v ≡ true → p v ≡ true) → list_all p xs ≡ true
all_of p [] each = refl
all_of p (x ∷ xs) each = rw (each x (among_front (x ∷ []) xs x (is_itself x))) (all_of p xs (λ v there. each v (among_behind (x ∷ []) xs v there)))

pub texts_kept : (c : Chain) (l : EditList) (k : ℕ) (e : Edit) → slice_get l.edits k ≡ Some e → list_all (is_kept (heaps_written c l).users) (users_of_edit e) ≡ true
texts_kept c l k e there = all_of (is_kept (heaps_written c l).users) (users_of_edit e) (λ v among. user_brought c l k e v there among)

-- so each text that an instruction of a body names
argument_kept : (h : Built) (a : ArgValue) → list_all (is_kept h.users) (users_in_argument a) ≡ true → text_is_kept h a ≡ true
argument_kept h arg.None kept = refl
argument_kept h (arg.Num n) kept = refl
argument_kept h (arg.Target t) kept = refl
argument_kept h (arg.Targets ts) kept = refl
argument_kept h (arg.Token t) kept = refl
argument_kept h (arg.User units) kept = (and_parts (is_kept h.users (unit_bytes units)) true kept).0
argument_kept h (arg.Raw bytes) kept = refl

code_kept : (h : Built) (code : List InstrValue) → list_all (is_kept h.users) (flat_map (λ (i : InstrValue). users_in_argument i.arg) code) ≡ true → list_all (λ (i : InstrValue). text_is_kept h i.arg) code ≡ true
code_kept h [] kept = refl
code_kept h (i ∷ code) kept =
    let behind = flat_map (λ (j : InstrValue). users_in_argument j.arg) code in
    let a = and_parts (list_all (is_kept h.users) (users_in_argument i.arg)) (list_all (is_kept h.users) behind) (sym (list_all-append (is_kept h.users) (users_in_argument i.arg) behind) ∙ kept) in
    and_from _ _ (argument_kept h i.arg a.0) (code_kept h code a.1)

pub body_kept : (c : Chain) (l : EditList) (k : ℕ) (e : Edit) (b : BodyValue) → slice_get l.edits k ≡ Some e → body_given e ≡ Some b → list_all (λ (i : InstrValue). text_is_kept (heaps_written c l) i.arg) b.code ≡ true
body_kept c l k e b there given =
    code_kept (heaps_written c l) b.code (ap (λ (o : Option BodyValue). list_all (is_kept (heaps_written c l).users) (users_in_body o)) (sym given) ∙ texts_kept c l k e there)

-- a value that is there begins before the end
place_low : (encode : List ℕ → List ℕ) (at : ℕ) (values : List (List ℕ)) (v : List ℕ) → ((x : List ℕ) → 0 < length (encode x)) → is_among values v ≡ true → place_among encode at values v < at + sum_by (λ (w : List ℕ). length (encode w)) values
unfolding place_among
place_low encode at [] v some there = absurd cc
place_low encode at (x ∷ rest) v some there = by (bytes_eq x v) there (place_low encode (at + length (encode x)) rest v some)
  where
    by : (b : Bool) → (b || is_among rest v) ≡ true → (is_among rest v ≡ true → place_among encode (at + length (encode x)) rest v < at + length (encode x) + sum_by (λ (w : List ℕ). length (encode w)) rest)
        → (if b then at else place_among encode (at + length (encode x)) rest v) < at + sum_by (λ (w : List ℕ). length (encode w)) (x ∷ rest)
    by true h more = omega (arith, sum_by-cons (λ (w : List ℕ). length (encode w)) x rest, some x)
    by false h more = omega (arith, sum_by-cons (λ (w : List ℕ). length (encode w)) x rest, more h)

offset_low : (encode : List ℕ → List ℕ) (start : ℕ) (values : List (List ℕ)) (v : List ℕ) → ((x : List ℕ) → 0 < length (encode x)) → is_kept values v ≡ true → offset_in encode start values v < joined_end encode start values
unfolding offset_in joined_end is_kept
offset_low encode start values [] some kept = omega arith
offset_low encode start values (d ∷ v) some kept = place_low encode (start + 1) values (d ∷ v) some kept

blob_some : (v : List ℕ) → 0 < length (blob_bytes v)
blob_some v = omega (arith, length-append (spelled (length v)) v, spelled_some (length v))

user_some : (v : List ℕ) → 0 < length (user_bytes v)
user_some v = blob_some (v ++ mark_of v ∷ [])

-- so the offset of a user text is below 2^24
within : (h : Built) → passes_limits h ≡ false → joined_end user_bytes h.starts.users h.users ≤ 2 ^ 24
unfolding passes_limits
within h room = by _ _ _ refl room
  where
    by : (a b d : Bool) → nat_lt (2 ^ 24) (joined_end user_bytes h.starts.users h.users) ≡ b → (a || b || d) ≡ false → joined_end user_bytes h.starts.users h.users ≤ 2 ^ 24
    by true b d is none = absurd cc
    by false true d is none = absurd cc
    by false false d is none = grind (arith, nat_tests, is)

pub user_low : (c : Chain) (l : EditList) (v : List ℕ) → MayFollow c l → is_kept (heaps_written c l).users v ≡ true → user_offset (heaps_written c l) v < 2 ^ 24
unfolding heaps_written
user_low c l v may kept =
    let h = heaps_with c l.edits l.edits in
    omega (arith, offset_low user_bytes h.starts.users h.users v user_some kept, within h (heaps_have_room c l may))
