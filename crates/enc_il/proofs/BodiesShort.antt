-- How long a body is that was written.
use Rattle.std.proofs.Common.{◌≡◌, ℕ, zero, suc, ◌+◌, ◌-◌, ◌*◌, ◌<◌, ◌≤◌, Bool, true, false, List, [], ◌∷◌, ◌++◌, length, take, drop, replicate, refl, ap, ◌∙◌, arith}
use Rattle.std.specs.Prelude.{nat_le, flat_map}
use Rattle.std.proofs.lemmas.Bool.Decides.{nat_tests}
use Rattle.std.proofs.lemmas.List.{length-append, length-replicate, length-take, length-drop}
use Rattle.std.specs.Int.{w16, w32, to_le_bytes}
use Rattle.enc_base.specs.Token.{number_of}
use Rattle.enc_opcodes.specs.declared.code.Clause.{Clause}
use Rattle.enc_base.specs.Numbers.{padded}
use Rattle.enc_opcodes.specs.Body.{Code, nil_or}
use Rattle.enc_il.specs.Written.{most_clauses, clause_bytes, size_bytes, data_section_written, sections_written, is_tiny, flags_written, padding_after, code_written, fat_written, body_written, place_for, with_body}
use Rattle.enc_il.proofs.SectionsWritten.{written_last, written_more, most_some}
use Rattle.enc_il.proofs.ClausesWritten.{length_clauses}

-- a section takes four bytes and its clauses
length_section : (more : Bool) (cs : List Clause) → length (data_section_written more cs) ≡ 4 + 24 * length cs
unfolding data_section_written
length_section more cs = omega (arith, length-append (size_bytes (4 + 24 * length cs)) (flat_map clause_bytes cs), length_clauses cs)

-- each section has a clause at least
few_for : (n : ℕ) (cs : List Clause) → 0 < length cs → length cs ≤ n → length (sections_written cs) ≤ 28 * length cs
few_for zero cs some within = absurd (omega (arith, some, within))
few_for (suc n) cs some within = by_test (nat_le (length cs) most_clauses) refl (λ many. few_for n (drop most_clauses cs) (omega (arith, many, length-drop most_clauses cs)) (omega (arith, many, most_some, length-drop most_clauses cs)))
  where
    by_test : (t : Bool) → nat_le (length cs) most_clauses ≡ t → (most_clauses < length cs → length (sections_written (drop most_clauses cs)) ≤ 28 * length (drop most_clauses cs)) → length (sections_written cs) ≤ 28 * length cs
    by_test true is next =
        let few : length cs ≤ most_clauses = grind (arith, nat_tests) in
        let e : length (sections_written cs) ≡ 4 + 24 * length cs = ap length (written_last cs some few) ∙ length_section false cs in
        omega (arith, e, some)
    by_test false is next =
        let many : most_clauses < length cs = grind (arith, nat_tests) in
        let front = take most_clauses cs in
        let behind = drop most_clauses cs in
        let e : length (sections_written cs) ≡ length (data_section_written true front) + length (sections_written behind) = ap length (written_more cs many) ∙ length-append (data_section_written true front) (sections_written behind) in
        omega (arith, e, length_section true front, next many, length-take most_clauses cs, length-drop most_clauses cs, most_some)

-- sections take 28 bytes for each clause at most
pub sections_few : (cs : List Clause) → length (sections_written cs) ≤ 28 * length cs
unfolding sections_written
sections_few [] = omega arith
sections_few (c ∷ cs) = few_for (suc (length cs)) (c ∷ cs) (omega arith) (omega arith)

code_few : (c : Code) (cs : List Clause) → length (code_written c cs) ≤ length c.code + 3 + 28 * length cs
unfolding padded
code_few c [] = omega arith
code_few c (x ∷ cs) =
    let padding = padding_after (length c.code) in
    omega (arith, length-append (c.code ++ padding) (sections_written (x ∷ cs)), length-append c.code padding, length-replicate {A = ℕ} (padded (length c.code) - length c.code) 0, sections_few (x ∷ cs))

fat_few : (c : Code) (cs : List Clause) → length (fat_written c cs) ≤ length c.code + 15 + 28 * length cs
unfolding fat_written
fat_few c cs =
    let header = to_le_bytes w16 (flags_written c.init cs) ++ to_le_bytes w16 c.max ++ to_le_bytes w32 (length c.code) ++ to_le_bytes w32 (number_of (nil_or c.locals)) in
    omega (arith, length-append header (code_written c cs), code_few c cs)

pub body_few : (c : Code) (cs : List Clause) → length (body_written c cs) ≤ length c.code + 15 + 28 * length cs
unfolding body_written
body_few c cs = by_test (is_tiny c cs) refl
  where
    by_test : (t : Bool) → is_tiny c cs ≡ t → length (body_written c cs) ≤ length c.code + 15 + 28 * length cs
    by_test true is = rw is (omega arith)
    by_test false is = rw is (fat_few c cs)

pub place_few : (n : ℕ) (c : Code) (cs : List Clause) → place_for n c cs < n + 4
unfolding place_for padded
place_few n c cs = by_test (is_tiny c cs) refl
  where
    by_test : (t : Bool) → is_tiny c cs ≡ t → place_for n c cs < n + 4
    by_test true is = rw is (omega arith)
    by_test false is = rw is (omega arith)

pub with_body_few : (bytes : List ℕ) (c : Code) (cs : List Clause) → length (with_body bytes c cs) < length bytes + length c.code + 28 * length cs + 32
unfolding with_body
with_body_few bytes c cs =
    let n = place_for (length bytes) c cs - length bytes in
    omega (arith, length-append (bytes ++ replicate n 0) (body_written c cs), length-append bytes (replicate n 0), length-replicate {A = ℕ} n 0, body_few c cs, place_few (length bytes) c cs)

-- so it is with what was put behind bytes
pub written_few : (bytes : List ℕ) (c : Code) (cs : List Clause) (size place : ℕ) (o o1 o2 new : List ℕ) → size ≡ length bytes → place ≡ place_for size c cs → o ≡ [] → o1 ≡ o ++ replicate (place - size) 0 → o2 ≡ o1 ++ body_written c cs → new ≡ bytes ++ o2 → length new < length bytes + length c.code + 28 * length cs + 32
written_few bytes c cs size place o o1 o2 new long is h0 h1 h2 h3 =
    let zeros : List ℕ = replicate (place - size) 0 in
    let few : length (zeros ++ body_written c cs) ≤ 3 + length (body_written c cs) = omega (arith, length-append zeros (body_written c cs), length-replicate {A = ℕ} (place - size) 0, is, place_few size c cs) in
    let e : new ≡ bytes ++ (zeros ++ body_written c cs) = h3 ∙ rw (h2, h1, h0) refl in
    omega (arith, ap length e, length-append bytes (zeros ++ body_written c cs), few, body_few c cs)
