-- A GUID stands whole at its entry.
use Rattle.std.proofs.Common.{◌≡◌, ℕ, ◌+◌, ◌-◌, ◌*◌, ◌≤◌, Bool, true, false, ◌||◌, List, [], ◌∷◌, ◌++◌, length, drop, replicate, Some, refl, ap, arith, length-append, length-drop}
use Rattle.std.specs.Prelude.{bytes_eq, nat_le, flat_map, ◌==◌, ◌&&◌, IsTrue}
use Rattle.std.specs.List.{list_all}
use Rattle.std.proofs.lemmas.Bool.Decides.{nat_tests}
use Rattle.std.proofs.lemmas.List.{take_at, length-replicate}
use Rattle.enc_meta.specs.Heaps.{sixteen_at}
use Rattle.enc_meta.specs.Built.{is_among, entries_before, guid_bytes}
use Rattle.enc_meta.proofs.Standing.{same_bytes, drop_past}

-- what follows a GUID in the heap
pub record StandsThere (guids : List (List ℕ)) (g : List ℕ) : Type 0 where
  pub rest : List ℕ
  pub whole : drop (16 * entries_before guids g) (flat_map (λ (x : List ℕ). x) guids) ≡ g ++ rest
  pub sixteen : length g ≡ 16

stands_there : (guids : List (List ℕ)) (g : List ℕ) → IsTrue (list_all (λ (x : List ℕ). length x == 16) guids) → is_among guids g ≡ true → StandsThere guids g
stands_there [] g good there = absurd (cc)
stands_there (w ∷ others) g good there = by (bytes_eq w g) (length w == 16) refl refl there good (stands_there others g)
  where
    by : (b t : Bool) → bytes_eq w g ≡ b → length w == 16 ≡ t → (b || is_among others g) ≡ true → (t && list_all (λ (x : List ℕ). length x == 16) others) ≡ true → (IsTrue (list_all (λ (x : List ℕ). length x == 16) others) → is_among others g ≡ true → StandsThere others g) → StandsThere (w ∷ others) g
    by b false is of h a more = absurd (cc)
    by true true is of h a more =
        let same : w ≡ g = same_bytes w g is in
        record { rest = flat_map (λ (x : List ℕ). x) others; whole = rw (is, same) refl; sixteen = rw (← same) (grind (arith, nat_tests, of)) }
    by false true is of h a more =
        let s = more a h in
        let far : 16 * (1 + entries_before others g) ≡ length w + 16 * entries_before others g = grind (arith, nat_tests, of) in
        record { rest = s.rest; whole = rw (is, far, drop_past w (flat_map (λ (x : List ℕ). x) others) (16 * entries_before others g)) s.whole; sixteen = s.sixteen }

-- it is the entry behind those of the chain and those before it
pub guid_stands : (start : ℕ) (guids : List (List ℕ)) (g : List ℕ) → IsTrue (list_all (λ (x : List ℕ). length x == 16) guids) → is_among guids g ≡ true → (16 * (start + entries_before guids g) + 16 ≤ length (guid_bytes start guids)) × (sixteen_at (guid_bytes start guids) (start + entries_before guids g) ≡ Some g)
unfolding guid_bytes sixteen_at
guid_stands start guids g good there =
    let s = stands_there guids g good there in
    let nil : List ℕ = replicate (16 * start) 0 in
    let nils : length nil ≡ 16 * start = length-replicate (16 * start) 0 in
    let all = flat_map (λ (x : List ℕ). x) guids in
    let e = entries_before guids g in
    let far : 16 * (start + e) ≡ length nil + 16 * e = omega (arith, nils) in
    let len : length all - 16 * e ≡ length g + length s.rest = omega (arith, length-drop (16 * e) all, ap length s.whole, length-append g s.rest) in
    let within : 16 * (start + e) + 16 ≤ length (nil ++ all) = omega (arith, len, s.sixteen, nils, length-append nil all) in
    let there : nat_le (16 * (start + e) + 16) (length (nil ++ all)) ≡ true = grind (arith, nat_tests) in
    (within, rw (there, far, drop_past nil all (16 * e), s.whole, take_at g s.rest 16 s.sixteen) refl)
