-- How many bytes the parts of a name have, and the byte at a place of them.
use Rattle.std.proofs.Common.{◌≡◌, ℕ, zero, suc, ◌+◌, ◌-◌, ◌≤◌, ◌<◌, Bool, true, false, cond, List, [], ◌∷◌, ◌++◌, length, take, drop, Option, Some, None, refl, sym, ap, ◌∙◌, arith}
use Rattle.std.proofs.lemmas.List.{append_assoc, length-append}
use Rattle.std.specs.Prelude.{◌==◌, is_some, nat_le, slice_get, slice_index, option_map, option_and_then, if◌then◌else◌}
use Rattle.enc_base.specs.Numbers.{compressed, compressed_at}
use Rattle.enc_meta.specs.Heaps.{blob_at, blob_entry}
use Rattle.enc_plain.specs.DebugSeen.{parts_said}
use Rattle.enc_plain.specs.DocumentName.{part_in, name_parts_in, separator_bytes}
use Rattle.enc_plain.proofs.NameParts.{said_more}

take_fewer : (n : ℕ) (xs : List ℕ) → length (take n xs) ≤ length xs
take_fewer zero xs = omega arith
take_fewer (suc n) [] = omega arith
take_fewer (suc n) (x ∷ xs) = omega (arith, take_fewer n xs)

drop_fewer : (n : ℕ) (xs : List ℕ) → length (drop n xs) ≤ length xs
drop_fewer zero xs = omega arith
drop_fewer (suc n) [] = omega arith
drop_fewer (suc n) (x ∷ xs) = omega (arith, drop_fewer n xs)

entry_by : (heap text : List ℕ) (head : ℕ × ℕ) (b : Bool) → cond b (Some (take head.0 (drop head.1 heap))) None ≡ Some text → length text ≤ length heap
entry_by heap text head true h =
    let e : take head.0 (drop head.1 heap) ≡ text = cc in
    rw (← e) (omega (arith, take_fewer head.0 (drop head.1 heap), drop_fewer head.1 heap))
entry_by heap text head false h = absurd cc

entry_from : (heap text : List ℕ) (o : Option (ℕ × ℕ)) → option_and_then (λ (head : ℕ × ℕ). if nat_le (head.1 + head.0) (length heap) then Some (take head.0 (drop head.1 heap)) else None) o ≡ Some text → length text ≤ length heap
entry_from heap text None h = absurd cc
entry_from heap text (Some head) h = entry_by heap text head (nat_le (head.1 + head.0) (length heap)) h

empty_or : (heap text : List ℕ) (b : Bool) (o : Option (List ℕ)) → (o ≡ Some text → length text ≤ length heap) → cond b (Some []) o ≡ Some text → length text ≤ length heap
empty_or heap text true o entry h = let e : [] ≡ text = cc in rw (← e) (omega arith)
empty_or heap text false o entry h = entry h

-- a blob has at most as many bytes as its heap
pub blob_fewer : (heap : List ℕ) (offset : ℕ) (text : List ℕ) → blob_at heap offset ≡ Some text → length text ≤ length heap
unfolding blob_at blob_entry
blob_fewer heap offset text h = empty_or heap text (offset == 0) (blob_entry heap offset) (entry_from heap text (compressed_at heap offset)) h

part_by : (blobs bytes text rest : List ℕ) (offset n : ℕ) (o : Option (List ℕ)) → blob_at blobs offset ≡ o → option_map {U = List ℕ × List ℕ} (λ (t : List ℕ). (t, drop n bytes)) o ≡ Some (text, rest) → length text ≤ length blobs
part_by blobs bytes text rest offset n None is h = absurd cc
part_by blobs bytes text rest offset n (Some t) is h =
    let e : ◌≡◌ {A = List ℕ × List ℕ} (t, drop n bytes) (text, rest) = cc in
    rw (← ap (λ (p : List ℕ × List ℕ). p.0) e) (blob_fewer blobs offset t is)

part_from : (blobs bytes text rest : List ℕ) (o : Option (ℕ × ℕ)) → option_and_then {U = List ℕ × List ℕ} (λ (number : ℕ × ℕ). option_map {U = List ℕ × List ℕ} (λ (t : List ℕ). (t, drop number.1 bytes)) (blob_at blobs number.0)) o ≡ Some (text, rest) → length text ≤ length blobs
part_from blobs bytes text rest None h = absurd cc
part_from blobs bytes text rest (Some number) h = part_by blobs bytes text rest number.0 number.1 (blob_at blobs number.0) refl h

-- and so has a part
pub part_fewer : (blobs bytes text rest : List ℕ) → part_in blobs bytes ≡ Some (text, rest) → length text ≤ length blobs
unfolding part_in
part_fewer blobs bytes text rest h = part_from blobs bytes text rest (compressed bytes) h

-- what the parts say has the bytes of the first, and of those behind it
pub said_length : (before separator : ℕ) (blobs : List ℕ) (n m : ℕ) (bytes text rest : List ℕ) → n ≡ suc m → part_in blobs bytes ≡ Some (text, rest) → is_some (name_parts_in blobs n bytes) ≡ true → length (parts_said before separator (name_parts_in blobs n bytes)) ≡ length (separator_bytes before) + length text + length (parts_said separator separator (name_parts_in blobs m rest))
said_length before separator blobs n m bytes text rest e is some =
    let more = parts_said separator separator (name_parts_in blobs m rest) in
    let h = said_more before separator blobs n m bytes text rest e is some in
    rw h (let p = length-append (separator_bytes before) (text ++ more) in let q = length-append text more in omega (arith, p, q))

get_first : (xs ys : List ℕ) (i b : ℕ) → slice_get xs i ≡ Some b → slice_get (xs ++ ys) i ≡ Some b
get_first [] ys i b h = absurd cc
get_first (x ∷ xs) ys zero b h = h
get_first (x ∷ xs) ys (suc i) b h = get_first xs ys i b h

get_second : (xs ys : List ℕ) (i : ℕ) → slice_get xs i ≡ None → (length xs ≤ i) × (slice_get (xs ++ ys) i ≡ slice_get ys (i - length xs))
get_second [] ys i h = let e : i - 0 ≡ i = omega arith in (omega arith, rw e refl)
get_second (x ∷ xs) ys zero h = absurd cc
get_second (x ∷ xs) ys (suc i) h =
    let more = get_second xs ys i h in
    let e : suc i - suc (length xs) ≡ i - length xs = omega arith in
    (omega (arith, more.0), rw e more.1)

regrouped : (before separator : ℕ) (blobs : List ℕ) (n m : ℕ) (bytes text rest : List ℕ) → n ≡ suc m → part_in blobs bytes ≡ Some (text, rest) → is_some (name_parts_in blobs n bytes) ≡ true → parts_said before separator (name_parts_in blobs n bytes) ≡ (separator_bytes before ++ text) ++ parts_said separator separator (name_parts_in blobs m rest)
regrouped before separator blobs n m bytes text rest e is some = said_more before separator blobs n m bytes text rest e is some ∙ sym (append_assoc (separator_bytes before) text (parts_said separator separator (name_parts_in blobs m rest)))

-- a byte of the first part is one of what the parts say
pub said_here : (before separator : ℕ) (blobs : List ℕ) (n m : ℕ) (bytes text rest : List ℕ) (i b : ℕ) → n ≡ suc m → part_in blobs bytes ≡ Some (text, rest) → is_some (name_parts_in blobs n bytes) ≡ true → slice_get (separator_bytes before ++ text) i ≡ Some b → slice_get (parts_said before separator (name_parts_in blobs n bytes)) i ≡ Some b
said_here before separator blobs n m bytes text rest i b e is some h =
    ap (λ (l : List ℕ). slice_get l i) (regrouped before separator blobs n m bytes text rest e is some) ∙ get_first (separator_bytes before ++ text) _ i b h

-- and one behind it is one of those behind
pub said_behind : (before separator : ℕ) (blobs : List ℕ) (n m : ℕ) (bytes text rest : List ℕ) (i : ℕ) → n ≡ suc m → part_in blobs bytes ≡ Some (text, rest) → is_some (name_parts_in blobs n bytes) ≡ true → slice_get (separator_bytes before ++ text) i ≡ None → (length (separator_bytes before) + length text ≤ i) × (slice_get (parts_said before separator (name_parts_in blobs n bytes)) i ≡ slice_get (parts_said separator separator (name_parts_in blobs m rest)) (i - (length (separator_bytes before) + length text)))
said_behind before separator blobs n m bytes text rest i e is some h =
    let more = get_second (separator_bytes before ++ text) (parts_said separator separator (name_parts_in blobs m rest)) i h in
    rw (← length-append (separator_bytes before) text) (more.0, ap (λ (l : List ℕ). slice_get l i) (regrouped before separator blobs n m bytes text rest e is some) ∙ more.1)

-- a place within a list has its byte
pub get_within : (xs : List ℕ) (i : ℕ) → i < length xs → slice_get xs i ≡ Some (slice_index xs i)
get_within [] i h = absurd (omega (arith, h))
get_within (x ∷ xs) zero h = refl
get_within (x ∷ xs) (suc i) h = get_within xs i (omega (arith, h))
