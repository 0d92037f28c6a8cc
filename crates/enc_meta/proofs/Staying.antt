-- A given offset stays, and different values have different ones.
use Rattle.std.proofs.Common.{◌≡◌, ℕ, ◌+◌, ◌≤◌, ◌<◌, Bool, true, false, ◌||◌, List, [], ◌∷◌, ◌++◌, length, refl, sym, ◌∙◌, arith}
use Rattle.std.specs.Prelude.{bytes_eq, if◌then◌else◌}
use Rattle.enc_meta.specs.Heaps.{nil_guid}
use Rattle.enc_meta.specs.Built.{is_among, is_kept, with_value, place_among, offset_in, is_guid_kept, with_entry, entries_before, guid_number_in}
use Rattle.enc_meta.proofs.Standing.{same_bytes}

place_stays : (encode : List ℕ → List ℕ) (at : ℕ) (values : List (List ℕ)) (v w : List ℕ) → is_among values v ≡ true → place_among encode at (values ++ w ∷ []) v ≡ place_among encode at values v
unfolding place_among
place_stays encode at [] v w there = absurd (cc)
place_stays encode at (x ∷ rest) v w there = by (bytes_eq x v) there (place_stays encode (at + length (encode x)) rest v w)
  where
    by : (b : Bool) → (b || is_among rest v) ≡ true → (is_among rest v ≡ true → place_among encode (at + length (encode x)) (rest ++ w ∷ []) v ≡ place_among encode (at + length (encode x)) rest v) → (if b then at else place_among encode (at + length (encode x)) (rest ++ w ∷ []) v) ≡ (if b then at else place_among encode (at + length (encode x)) rest v)
    by true h more = refl
    by false h more = more h

pub offset_stays : (encode : List ℕ → List ℕ) (start : ℕ) (values : List (List ℕ)) (v w : List ℕ) → is_kept values v ≡ true → offset_in encode start (with_value values w) v ≡ offset_in encode start values v
unfolding offset_in with_value is_kept
offset_stays encode start values [] w kept = refl
offset_stays encode start values (c ∷ v) w kept = by (is_kept values w)
  where
    by : (b : Bool) → place_among encode (start + 1) (if b then values else values ++ w ∷ []) (c ∷ v) ≡ place_among encode (start + 1) values (c ∷ v)
    by true = refl
    by false = place_stays encode (start + 1) values (c ∷ v) w kept

place_least : (encode : List ℕ → List ℕ) (at : ℕ) (values : List (List ℕ)) (v : List ℕ) → at ≤ place_among encode at values v
unfolding place_among
place_least encode at [] v = omega arith
place_least encode at (x ∷ rest) v = by (bytes_eq x v) (place_least encode (at + length (encode x)) rest v)
  where
    by : (b : Bool) → at + length (encode x) ≤ place_among encode (at + length (encode x)) rest v → at ≤ (if b then at else place_among encode (at + length (encode x)) rest v)
    by true h = omega arith
    by false h = omega (arith, h)

place_tells : (encode : List ℕ → List ℕ) → ((x : List ℕ) → 0 < length (encode x)) → (at : ℕ) (values : List (List ℕ)) (v w : List ℕ) → is_among values v ≡ true → is_among values w ≡ true → place_among encode at values v ≡ place_among encode at values w → v ≡ w
unfolding place_among
place_tells encode some at [] v w here there same = absurd (cc)
place_tells encode some at (x ∷ rest) v w here there same = by (bytes_eq x v) (bytes_eq x w) refl refl here there same (place_tells encode some (at + length (encode x)) rest v w)
  where
    by : (b c : Bool) → bytes_eq x v ≡ b → bytes_eq x w ≡ c → (b || is_among rest v) ≡ true → (c || is_among rest w) ≡ true → (if b then at else place_among encode (at + length (encode x)) rest v) ≡ (if c then at else place_among encode (at + length (encode x)) rest w) → (is_among rest v ≡ true → is_among rest w ≡ true → place_among encode (at + length (encode x)) rest v ≡ place_among encode (at + length (encode x)) rest w → v ≡ w) → v ≡ w
    by true true p q h k e more = let a : x ≡ v = same_bytes x v p in let b : x ≡ w = same_bytes x w q in cc
    by true false p q h k e more = absurd (omega (arith, e, some x, place_least encode (at + length (encode x)) rest w))
    by false true p q h k e more = absurd (omega (arith, e, some x, place_least encode (at + length (encode x)) rest v))
    by false false p q h k e more = more h k e

pub offset_tells : (encode : List ℕ → List ℕ) → ((x : List ℕ) → 0 < length (encode x)) → (start : ℕ) (values : List (List ℕ)) (v w : List ℕ) → is_kept values v ≡ true → is_kept values w ≡ true → offset_in encode start values v ≡ offset_in encode start values w → v ≡ w
unfolding offset_in is_kept
offset_tells encode some start values [] [] here there same = refl
offset_tells encode some start values [] (d ∷ w) here there same = absurd (omega (arith, same, place_least encode (start + 1) values (d ∷ w)))
offset_tells encode some start values (c ∷ v) [] here there same = absurd (omega (arith, same, place_least encode (start + 1) values (c ∷ v)))
offset_tells encode some start values (c ∷ v) (d ∷ w) here there same = place_tells encode some (start + 1) values (c ∷ v) (d ∷ w) here there same

before_stays : (guids : List (List ℕ)) (g h : List ℕ) → is_among guids g ≡ true → entries_before (guids ++ h ∷ []) g ≡ entries_before guids g
before_stays [] g h there = absurd (cc)
before_stays (x ∷ rest) g h there = by (bytes_eq x g) there (before_stays rest g h)
  where
    by : (b : Bool) → (b || is_among rest g) ≡ true → (is_among rest g ≡ true → entries_before (rest ++ h ∷ []) g ≡ entries_before rest g) → (if b then 0 else 1 + entries_before (rest ++ h ∷ []) g) ≡ (if b then 0 else 1 + entries_before rest g)
    by true e more = refl
    by false e more = rw (more e) refl

pub number_stays : (start : ℕ) (guids : List (List ℕ)) (g h : List ℕ) → is_guid_kept guids g ≡ true → guid_number_in start (with_entry guids h) g ≡ guid_number_in start guids g
unfolding guid_number_in with_entry is_guid_kept
number_stays start guids g h kept = by (bytes_eq g nil_guid) (is_guid_kept guids h) kept
  where
    by : (nil old : Bool) → (nil || is_among guids g) ≡ true → (if nil then 0 else start + 1 + entries_before (if old then guids else guids ++ h ∷ []) g) ≡ (if nil then 0 else start + 1 + entries_before guids g)
    by true old e = refl
    by false true e = refl
    by false false e = rw (before_stays guids g h e) refl

before_tells : (guids : List (List ℕ)) (g h : List ℕ) → is_among guids g ≡ true → is_among guids h ≡ true → entries_before guids g ≡ entries_before guids h → g ≡ h
before_tells [] g h here there same = absurd (cc)
before_tells (x ∷ rest) g h here there same = by (bytes_eq x g) (bytes_eq x h) refl refl here there same (before_tells rest g h)
  where
    by : (b c : Bool) → bytes_eq x g ≡ b → bytes_eq x h ≡ c → (b || is_among rest g) ≡ true → (c || is_among rest h) ≡ true → (if b then 0 else 1 + entries_before rest g) ≡ (if c then 0 else 1 + entries_before rest h) → (is_among rest g ≡ true → is_among rest h ≡ true → entries_before rest g ≡ entries_before rest h → g ≡ h) → g ≡ h
    by true true p q k l e more = let a : x ≡ g = same_bytes x g p in let b : x ≡ h = same_bytes x h q in cc
    by true false p q k l e more = absurd (omega (arith, e))
    by false true p q k l e more = absurd (omega (arith, e))
    by false false p q k l e more = more k l (omega (arith, e))

pub number_tells : (start : ℕ) (guids : List (List ℕ)) (g h : List ℕ) → is_guid_kept guids g ≡ true → is_guid_kept guids h ≡ true → guid_number_in start guids g ≡ guid_number_in start guids h → g ≡ h
unfolding guid_number_in is_guid_kept
number_tells start guids g h here there same = by (bytes_eq g nil_guid) (bytes_eq h nil_guid) refl refl here there same
  where
    by : (b c : Bool) → bytes_eq g nil_guid ≡ b → bytes_eq h nil_guid ≡ c → (b || is_among guids g) ≡ true → (c || is_among guids h) ≡ true → (if b then 0 else start + 1 + entries_before guids g) ≡ (if c then 0 else start + 1 + entries_before guids h) → g ≡ h
    by true true p q k l e = let a : g ≡ nil_guid = same_bytes g nil_guid p in let b : h ≡ nil_guid = same_bytes h nil_guid q in a ∙ sym b
    by true false p q k l e = absurd (omega (arith, e))
    by false true p q k l e = absurd (omega (arith, e))
    by false false p q k l e = before_tells guids g h k l (omega (arith, e))
