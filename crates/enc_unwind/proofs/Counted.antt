-- A section has no more clauses than bytes.
use Rattle.std.proofs.Common.{◌≡◌, ℕ, ◌+◌, ◌*◌, ◌≤◌, Bool, true, false, List, [], ◌∷◌, length, take, drop, Option, Some, None, option_map, refl, ap, arith}
use Rattle.std.specs.Prelude.{nat_le, ◌==◌, if◌then◌else◌}
use Rattle.std.proofs.lemmas.List.{length-drop}
use Rattle.std.proofs.lemmas.Bool.Decides.{nat_tests}
use Rattle.enc_opcodes.specs.Instruction.{range_at}
use Rattle.enc_opcodes.specs.Clause.{Section, clause_size, with_clauses, counted_in, section_of_kind, section_in}

many : (fat : Bool) (count : ℕ) → count ≤ clause_size fat * count
many true count = omega arith
many false count = omega arith

there : (bytes : List ℕ) (n : ℕ) (x : List ℕ) → range_at bytes 0 n ≡ Some x → n ≤ length bytes
unfolding range_at
there bytes n x is = by_test (nat_le (0 + n) (length bytes)) refl is
  where
    by_test : (b : Bool) → nat_le (0 + n) (length bytes) ≡ b → (if b then Some (take n (drop 0 bytes)) else None) ≡ Some x → n ≤ length bytes
    by_test true e is = grind (arith, nat_tests)
    by_test false e is = absurd cc

abbrev count_in : Option (Section × List ℕ) → ℕ
count_in None = 0
count_in (Some x) = x.0.count

by_clauses : (fat more : Bool) (count : ℕ) (rest : List ℕ) (x : Section × List ℕ) → with_clauses fat more count rest ≡ Some x → x.0.count + length x.1 ≤ length rest
by_clauses fat more count rest x is = by_range (range_at rest 0 (clause_size fat * count)) refl is
  where
    by_range : (o : Option (List ℕ)) → range_at rest 0 (clause_size fat * count) ≡ o → option_map (λ (bytes : List ℕ). (record { fat = fat; more = more; count = count; clauses = bytes }, drop (clause_size fat * count) rest)) o ≡ Some x → x.0.count + length x.1 ≤ length rest
    by_range None e is = absurd cc
    by_range (Some bytes) e is =
        let behind : drop (clause_size fat * count) rest ≡ x.1 = cc in
        let all : count ≡ x.0.count = ap count_in is in
        let fits = there rest (clause_size fat * count) bytes e in
        let l = length-drop (clause_size fat * count) rest in
        rw (← behind, ← all) (omega (arith, l, fits, many fat count))

by_kind : (kind a b c : ℕ) (rest : List ℕ) (x : Section × List ℕ) → section_of_kind kind a b c rest ≡ Some x → x.0.count + length x.1 ≤ length rest
unfolding section_of_kind
by_kind kind a b c rest x is = by_tests (kind == 0x01) (kind == 0x41) (kind == 0x81) (kind == 0xC1) is
  where
    by_tests : (p q r s : Bool) → (if p then with_clauses false false (counted_in false a b c) rest else if q then with_clauses true false (counted_in true a b c) rest else if r then with_clauses false true (counted_in false a b c) rest else if s then with_clauses true true (counted_in true a b c) rest else None) ≡ Some x → x.0.count + length x.1 ≤ length rest
    by_tests true q r s is = by_clauses false false (counted_in false a b c) rest x is
    by_tests false true r s is = by_clauses true false (counted_in true a b c) rest x is
    by_tests false false true s is = by_clauses false true (counted_in false a b c) rest x is
    by_tests false false false true is = by_clauses true true (counted_in true a b c) rest x is
    by_tests false false false false is = absurd cc

pub section_counted : (bytes : List ℕ) (x : Section × List ℕ) → section_in bytes ≡ Some x → x.0.count + length x.1 ≤ length bytes
unfolding section_in
section_counted [] x is = absurd cc
section_counted (a ∷ []) x is = absurd cc
section_counted (a ∷ b ∷ []) x is = absurd cc
section_counted (a ∷ b ∷ c ∷ []) x is = absurd cc
section_counted (a ∷ b ∷ c ∷ d ∷ rest) x is = let w = by_kind a b c d rest x is in omega (arith, w)
