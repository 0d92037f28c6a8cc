-- Parts of a name one behind the other: one more, none that stands whole, none left, and what they say.
use Rattle.std.proofs.Common.{◌≡◌, ℕ, zero, suc, ◌<◌, true, false, List, [], ◌∷◌, ◌++◌, length, drop, take, ◌-◌, ◌≤◌, subst, Option, Some, None, refl, sym, ap, ◌∙◌, arith}
use Rattle.std.proofs.lemmas.Bool.{ne_eqb}
use Rattle.std.proofs.lemmas.List.{append-nil}
use Rattle.std.proofs.Math.Seq.{take-length}
use Rattle.std.specs.Prelude.{is_some, unwrap_or, option_map, ◌==◌, slice_index}
use Rattle.enc_plain.specs.DebugSeen.{parts_text, parts_said}
use Rattle.enc_plain.specs.DocumentName.{part_in, name_parts_in, separator_bytes, name_joined, document_name_in}

none_in_none : (blobs : List ℕ) → part_in blobs [] ≡ None
unfolding part_in
none_in_none blobs = refl

mapped : (text : List ℕ) (o : Option (List (List ℕ))) → is_some (option_map (λ (texts : List (List ℕ)). text ∷ texts) o) ≡ is_some o
mapped text None = refl
mapped text (Some texts) = refl

-- one more
pub parts_more : (blobs : List ℕ) (n m : ℕ) (bytes text rest : List ℕ) → n ≡ suc m → part_in blobs bytes ≡ Some (text, rest) → is_some (name_parts_in blobs n bytes) ≡ is_some (name_parts_in blobs m rest)
unfolding name_parts_in
parts_more blobs n m [] text rest e is = absurd (let f = sym (none_in_none blobs) ∙ is in cc)
parts_more blobs n m (x ∷ bytes) text rest e is = rw (e, is) (mapped text (name_parts_in blobs m rest))

-- none that stands whole
pub parts_fail : (blobs : List ℕ) (n m : ℕ) (bytes : List ℕ) → n ≡ suc m → 0 < length bytes → part_in blobs bytes ≡ None → is_some (name_parts_in blobs n bytes) ≡ false
unfolding name_parts_in
parts_fail blobs n m [] e some is = absurd (omega (arith, some))
parts_fail blobs n m (x ∷ bytes) e some is = rw (e, is) refl

-- none left
pub parts_done : (blobs : List ℕ) (n : ℕ) (bytes : List ℕ) → length bytes ≡ 0 → is_some (name_parts_in blobs n bytes) ≡ true
unfolding name_parts_in
parts_done blobs zero [] e = refl
parts_done blobs (suc n) [] e = refl
parts_done blobs n (x ∷ bytes) e = absurd (omega (arith, e))

-- no part may be read any more
pub parts_end : (blobs : List ℕ) (n : ℕ) (bytes : List ℕ) → n ≡ 0 → is_some (name_parts_in blobs n bytes) ≡ (length bytes == 0)
unfolding name_parts_in
parts_end blobs zero [] e = refl
parts_end blobs (suc n) [] e = refl
parts_end blobs n (x ∷ bytes) e = rw e (sym (ne_eqb (length (x ∷ bytes)) 0 (λ f. omega (arith, f))))

-- of parts that stand whole: what they say begins with the first, and those behind it stand whole too
parts_split : (before separator : ℕ) (text : List ℕ) (o : Option (List (List ℕ))) → is_some (option_map (λ (texts : List (List ℕ)). text ∷ texts) o) ≡ true → parts_said before separator (option_map (λ (texts : List (List ℕ)). text ∷ texts) o) ≡ separator_bytes before ++ (text ++ parts_said separator separator o)
parts_split before separator text None e = absurd (cc)
parts_split before separator text (Some texts) e = refl

pub said_more : (before separator : ℕ) (blobs : List ℕ) (n m : ℕ) (bytes text rest : List ℕ) → n ≡ suc m → part_in blobs bytes ≡ Some (text, rest) → is_some (name_parts_in blobs n bytes) ≡ true → parts_said before separator (name_parts_in blobs n bytes) ≡ separator_bytes before ++ (text ++ parts_said separator separator (name_parts_in blobs m rest))
unfolding name_parts_in
said_more before separator blobs n m [] text rest e is some = absurd (let f = sym (none_in_none blobs) ∙ is in cc)
said_more before separator blobs n m (x ∷ bytes) text rest e is some =
    let h : name_parts_in blobs n (x ∷ bytes) ≡ option_map (λ (texts : List (List ℕ)). text ∷ texts) (name_parts_in blobs m rest) = rw (e, is) refl in
    rw h (parts_split before separator text (name_parts_in blobs m rest) (ap is_some (sym h) ∙ some))

some_of : (text : List ℕ) (o : Option (List (List ℕ))) → is_some (option_map (λ (texts : List (List ℕ)). text ∷ texts) o) ≡ true → is_some o ≡ true
some_of text None e = absurd (cc)
some_of text (Some texts) e = refl

pub still_some : (blobs : List ℕ) (n m : ℕ) (bytes text rest : List ℕ) → n ≡ suc m → part_in blobs bytes ≡ Some (text, rest) → is_some (name_parts_in blobs n bytes) ≡ true → is_some (name_parts_in blobs m rest) ≡ true
still_some blobs n m bytes text rest e is some = sym (parts_more blobs n m bytes text rest e is) ∙ some

-- a part that doesn't stand whole
pub said_fail : (blobs : List ℕ) (n m : ℕ) (bytes : List ℕ) → n ≡ suc m → 0 < length bytes → part_in blobs bytes ≡ None → is_some (name_parts_in blobs n bytes) ≡ true → ⊥
said_fail blobs n m bytes e some is t = let f = sym (parts_fail blobs n m bytes e some is) ∙ t in absurd (cc)

-- of no bytes nothing is said
pub said_done : (before separator : ℕ) (blobs : List ℕ) (n : ℕ) (bytes : List ℕ) → length bytes ≡ 0 → parts_said before separator (name_parts_in blobs n bytes) ≡ []
unfolding name_parts_in
said_done before separator blobs zero [] e = refl
said_done before separator blobs (suc n) [] e = refl
said_done before separator blobs n (x ∷ bytes) e = absurd (omega (arith, e))

-- where no part may be read any more, none is left
pub said_end : (blobs : List ℕ) (bytes : List ℕ) (n : ℕ) → n ≡ 0 → is_some (name_parts_in blobs n bytes) ≡ true → length bytes ≡ 0
unfolding name_parts_in
said_end blobs [] n e some = refl
said_end blobs (x ∷ bytes) n e some = absurd (let f : is_some (name_parts_in blobs n (x ∷ bytes)) ≡ false = rw e refl in cc)

-- the texts with the separator between them are the parts one behind the other, with none before the first
joined_said : (separator : ℕ) (text : List ℕ) (texts : List (List ℕ)) → name_joined separator (text ∷ texts) ≡ text ++ parts_text separator separator texts
unfolding name_joined
joined_said separator text [] = sym (append-nil text)
joined_said separator text (next ∷ texts) = ap (λ l. text ++ (separator_bytes separator ++ l)) (joined_said separator next texts)

joined_all : (separator : ℕ) (texts : List (List ℕ)) → name_joined separator texts ≡ parts_text 0 separator texts
unfolding name_joined
joined_all separator [] = refl
joined_all separator (text ∷ texts) = joined_said separator text texts

-- so the name is what they say
pub name_said : (separator : ℕ) (o : Option (List (List ℕ))) → is_some (option_map (name_joined separator) o) ≡ true → unwrap_or (option_map (name_joined separator) o) [] ≡ parts_said 0 separator o
name_said separator None e = absurd (cc)
name_said separator (Some texts) e = joined_all separator texts

-- the name in a blob: what the parts behind the separator say, which stand whole
pub name_of_blob : (blobs bytes : List ℕ) → 1 ≤ length bytes → is_some (document_name_in blobs bytes) ≡ true → unwrap_or (document_name_in blobs bytes) [] ≡ parts_said 0 (slice_index bytes 0) (name_parts_in blobs (length (take (length bytes - 1) (drop 1 bytes))) (take (length bytes - 1) (drop 1 bytes)))
unfolding document_name_in
name_of_blob blobs [] some e = absurd (omega (arith, some))
name_of_blob blobs (x ∷ bytes) some e =
    let less : suc (length bytes) - 1 ≡ length bytes = omega arith in
    rw less (subst (λ (l : List ℕ). unwrap_or (option_map (name_joined x) (name_parts_in blobs (length bytes) bytes)) [] ≡ parts_said 0 x (name_parts_in blobs (length l) l)) (sym (take-length bytes)) (name_said x (name_parts_in blobs (length bytes) bytes) e))

some_mapped : (separator : ℕ) (o : Option (List (List ℕ))) → is_some (option_map (name_joined separator) o) ≡ is_some o
some_mapped separator None = refl
some_mapped separator (Some texts) = refl

pub parts_of_blob : (blobs bytes : List ℕ) → 1 ≤ length bytes → is_some (document_name_in blobs bytes) ≡ true → is_some (name_parts_in blobs (length (take (length bytes - 1) (drop 1 bytes))) (take (length bytes - 1) (drop 1 bytes))) ≡ true
unfolding document_name_in
parts_of_blob blobs [] some e = absurd (omega (arith, some))
parts_of_blob blobs (x ∷ bytes) some e =
    let less : suc (length bytes) - 1 ≡ length bytes = omega arith in
    rw less (subst (λ (l : List ℕ). is_some (name_parts_in blobs (length l) l) ≡ true) (sym (take-length bytes)) (sym (some_mapped x (name_parts_in blobs (length bytes) bytes)) ∙ e))

-- a name has its separator
pub name_has_one : (blobs bytes : List ℕ) → is_some (document_name_in blobs bytes) ≡ true → 1 ≤ length bytes
unfolding document_name_in
name_has_one blobs [] e = absurd (cc)
name_has_one blobs (x ∷ bytes) e = omega arith
