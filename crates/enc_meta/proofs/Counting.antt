-- All bytes of written texts count.
use Rattle.std.proofs.Common.{◌≡◌, ℕ, suc, ◌+◌, ◌<◌, Bool, true, false, ◌||◌, List, [], ◌∷◌, ◌++◌, length, refl, sym, subst, arith, length-append}
use Rattle.std.specs.Prelude.{flat_map, not, if◌then◌else◌, ◌==◌, ◌&&◌, IsTrue}
use Rattle.std.specs.List.{list_any, list_all}
use Rattle.std.proofs.lemmas.Bool.Decides.{nat_tests}
use Rattle.std.proofs.lemmas.List.{take_all, append-nil}
use Rattle.enc_meta.specs.Heaps.{filled, counted_strings}
use Rattle.enc_base.specs.Numbers.{is_empty}
use Rattle.enc_meta.specs.Built.{text_bytes, heap_bytes}

-- one byte in front of bytes that aren't all zeros
filled_cons : (b : ℕ) (rest : List ℕ) → 0 < filled rest → filled (b ∷ rest) ≡ suc (filled rest)
filled_cons b rest some =
    let e : filled rest == 0 ≡ false = grind (arith, nat_tests) in
    rw e refl

filled_append : (xs ys : List ℕ) → 0 < filled ys → filled (xs ++ ys) ≡ length xs + filled ys
filled_append [] ys some = omega arith
filled_append (x ∷ xs) ys some =
    let h = filled_append xs ys some in
    rw (filled_cons x (xs ++ ys) (omega (arith, h)), h) (omega arith)

-- a text that isn't empty is filled up to its zero
text_filled : (c : ℕ) (t : List ℕ) → list_any (λ x. x == 0) (c ∷ t) ≡ false → filled ((c ∷ t) ++ 0 ∷ []) ≡ length (c ∷ t)
text_filled c [] none = by (c == 0) none
  where
    by : (b : Bool) → (b || false) ≡ false → (if true && b then 0 else suc 0) ≡ 1
    by true h = absurd (cc)
    by false h = refl
text_filled c (d ∷ t) none =
    let h = text_filled d t (behind (c == 0) none) in
    rw (filled_cons c ((d ∷ t) ++ 0 ∷ []) (omega (arith, h)), h) refl
  where
    behind : (b : Bool) → (b || list_any (λ x. x == 0) (d ∷ t)) ≡ false → list_any (λ x. x == 0) (d ∷ t) ≡ false
    behind true e = absurd (cc)
    behind false e = e

abbrev is_text : List ℕ → Bool
is_text v = not (is_empty v) && not (list_any (λ c. c == 0) v)

-- the last byte of texts is their only zero at the end
texts_filled : (t : List ℕ) (rest : List (List ℕ)) → IsTrue (list_all is_text (t ∷ rest)) → (filled (flat_map text_bytes (t ∷ rest)) + 1 ≡ length (flat_map text_bytes (t ∷ rest))) × (0 < filled (flat_map text_bytes (t ∷ rest)))
texts_filled [] rest good = absurd (cc)
texts_filled (c ∷ t) [] good =
    let h = text_filled c t (none (list_any (λ x. x == 0) (c ∷ t)) good) in
    let e = append-nil ((c ∷ t) ++ 0 ∷ []) in
    subst (λ (xs : List ℕ). (filled xs + 1 ≡ length xs) × (0 < filled xs)) (sym e) (omega (arith, h, length-append (c ∷ t) (0 ∷ [])), omega (arith, h))
  where
    none : (b : Bool) → (not b && true) ≡ true → b ≡ false
    none true e = absurd (cc)
    none false e = refl
texts_filled (c ∷ t) (u ∷ rest) good =
    let h = texts_filled u rest (behind (is_text (c ∷ t)) good) in
    let all = flat_map text_bytes (u ∷ rest) in
    let e = filled_append (text_bytes (c ∷ t)) all h.1 in
    (rw e (omega (arith, h.0, length-append (text_bytes (c ∷ t)) all)), rw e (omega (arith, h.1)))
  where
    behind : (b : Bool) → (b && list_all is_text (u ∷ rest)) ≡ true → IsTrue (list_all is_text (u ∷ rest))
    behind true e = e
    behind false e = absurd (cc)

pub texts_count : (texts : List (List ℕ)) → IsTrue (list_all (λ (v : List ℕ). not (is_empty v) && not (list_any (λ c. c == 0) v)) texts) → counted_strings (heap_bytes text_bytes texts) ≡ heap_bytes text_bytes texts
unfolding counted_strings heap_bytes
texts_count [] good = refl
texts_count (t ∷ rest) good =
    let h = texts_filled t rest good in
    let e = filled_cons 0 (flat_map text_bytes (t ∷ rest)) h.1 in
    take_all (filled (0 ∷ flat_map text_bytes (t ∷ rest)) + 1) (0 ∷ flat_map text_bytes (t ∷ rest)) (rw e (omega (arith, h.0)))
