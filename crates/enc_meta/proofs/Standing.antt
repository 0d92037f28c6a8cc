-- A value stands whole at its place.
use Rattle.std.proofs.Common.{◌≡◌, ℕ, ◌+◌, Bool, true, false, ◌||◌, List, [], ◌∷◌, ◌++◌, length, drop, refl, arith}
use Rattle.std.specs.Prelude.{bytes_eq, flat_map, ◌&&◌, IsTrue}
use Rattle.std.specs.List.{list_all}
use Rattle.std.specs.Cmp.Lexicographic.{bytes_decides}
use Rattle.std.proofs.lemmas.List.{drop-drop, drop_at}
use Rattle.enc_meta.specs.Built.{is_among, place_among}

-- what is compared as the same is the same
pub same_bytes : (xs ys : List ℕ) → bytes_eq xs ys ≡ true → xs ≡ ys
same_bytes xs ys e = (bytes_decides xs ys).0 e

pub drop_past : (a b : List ℕ) (n : ℕ) → drop (length a + n) (a ++ b) ≡ drop n b
drop_past a b n = rw (← drop-drop n (length a) (a ++ b), drop_at a b (length a) refl) refl

-- so far behind the first place, with what follows
pub record Stands (encode : List ℕ → List ℕ) (at : ℕ) (values : List (List ℕ)) (v : List ℕ) : Type 0 where
  pub far : ℕ
  pub rest : List ℕ
  pub place : place_among encode at values v ≡ at + far
  pub whole : drop far (flat_map encode values) ≡ encode v ++ rest

pub stands : (encode : List ℕ → List ℕ) (at : ℕ) (values : List (List ℕ)) (v : List ℕ) → is_among values v ≡ true → Stands encode at values v
unfolding place_among
stands encode at [] v there = absurd (cc)
stands encode at (w ∷ rest) v there = by (bytes_eq w v) refl there (stands encode (at + length (encode w)) rest v)
  where
    by : (b : Bool) → bytes_eq w v ≡ b → (b || is_among rest v) ≡ true → (is_among rest v ≡ true → Stands encode (at + length (encode w)) rest v) → Stands encode at (w ∷ rest) v
    by true is h more =
        let same : w ≡ v = same_bytes w v is in
        record { far = 0; rest = flat_map encode rest; place = rw is (omega arith); whole = rw same refl }
    by false is h more =
        let s = more h in
        record { far = length (encode w) + s.far; rest = s.rest; place = rw is (omega (arith, s.place)); whole = rw (drop_past (encode w) (flat_map encode rest) s.far) s.whole }

-- what holds of all values holds of one that is there
pub holds_of : (test : List ℕ → Bool) (values : List (List ℕ)) (v : List ℕ) → IsTrue (list_all test values) → is_among values v ≡ true → test v ≡ true
holds_of test [] v all there = absurd (cc)
holds_of test (w ∷ rest) v all there = by (bytes_eq w v) (test w) refl refl there all (holds_of test rest v)
  where
    by : (b t : Bool) → bytes_eq w v ≡ b → test w ≡ t → (b || is_among rest v) ≡ true → (t && list_all test rest) ≡ true → (IsTrue (list_all test rest) → is_among rest v ≡ true → test v ≡ true) → test v ≡ true
    by b false is of h a more = absurd (cc)
    by true true is of h a more = let same : w ≡ v = same_bytes w v is in rw (← same) of
    by false true is of h a more = more a h
