-- The bytes that bodies take, by their weight.
use Rattle.std.proofs.Common.{◌≡◌, ℕ, zero, suc, ◌+◌, ◌-◌, ◌*◌, ◌/◌, ◌<◌, ◌≤◌, Bool, true, false, List, [], ◌∷◌, ◌++◌, length, take, drop, replicate, refl, ap, ◌∙◌, arith}
use Rattle.std.specs.Prelude.{nat_le, flat_map, if◌then◌else◌}
use Rattle.std.specs.Int.{w16, w32, to_le_bytes}
use Rattle.std.proofs.lemmas.Bool.Decides.{nat_tests}
use Rattle.std.proofs.lemmas.List.{length-append, length-take-le, length-drop, length-replicate}
use Rattle.enc_base.specs.Numbers.{padded}
use Rattle.enc_base.specs.Token.{number_of}
use Rattle.enc_opcodes.specs.declared.code.Clause.{Clause}
use Rattle.enc_opcodes.specs.Body.{Code, nil_or}
use Rattle.enc_il.specs.Written.{most_clauses, size_bytes, clause_bytes, data_section_written, sections_written, is_tiny, flags_written, tiny_written, fat_written, code_written, padding_after, body_written, place_for, with_body}
use Rattle.enc_il.proofs.ClausesWritten.{length_clauses}
use Rattle.enc_il.proofs.SectionsWritten.{written_last, written_more}
use Rattle.enc_il.proofs.BodiesShort.{place_few}
use Rattle.enc_rewriter.proofs.BodyStands.{place_behind}

most_is : most_clauses ≡ 699050
unfolding most_clauses
most_is = refl

-- a section is its header and its clauses
section_size : (more : Bool) (cs : List Clause) → length (data_section_written more cs) ≡ 4 + 24 * length cs
unfolding data_section_written
section_size more cs = omega (arith, length-append (size_bytes (4 + 24 * length cs)) (flat_map clause_bytes cs), length_clauses cs)

-- sections take four bytes each beside their clauses
abbrev Few : List Clause → Type 0
Few cs = 699050 * length (sections_written cs) ≤ 699050 * (24 * length cs + 4) + 4 * length cs

few_by : (cs : List Clause) (t : Bool) → nat_le (length cs) most_clauses ≡ t → 0 < length cs → (most_clauses < length cs → Few (drop most_clauses cs)) → Few cs
few_by cs true is some next =
    let le : length cs ≤ most_clauses = grind (arith, nat_tests) in
    let size : length (sections_written cs) ≡ 4 + 24 * length cs = ap length (written_last cs some le) ∙ section_size false cs in
    omega (arith, size)
few_by cs false is some next =
    let many : most_clauses < length cs = grind (arith, nat_tests) in
    let front : length (take most_clauses cs) ≡ most_clauses = length-take-le most_clauses cs (omega (arith, many)) in
    let others : length (drop most_clauses cs) ≡ length cs - most_clauses = length-drop most_clauses cs in
    let rest : Few (drop most_clauses cs) = next many in
    let size : length (sections_written cs) ≡ length (data_section_written true (take most_clauses cs)) + length (sections_written (drop most_clauses cs)) =
    ap length (written_more cs many) ∙ length-append (data_section_written true (take most_clauses cs)) (sections_written (drop most_clauses cs)) in
    omega (arith, size, section_size true (take most_clauses cs), front, others, rest, many, most_is)

few_for : (n : ℕ) (cs : List Clause) → 0 < length cs → length cs ≤ n → Few cs
few_for zero cs some within = absurd (omega (arith, some, within))
few_for (suc n) cs some within = few_by cs (nat_le (length cs) most_clauses) refl some
    (λ many. few_for n (drop most_clauses cs) (omega (arith, many, length-drop most_clauses cs)) (omega (arith, many, length-drop most_clauses cs, within, most_is)))

padding_few : (n : ℕ) → length (padding_after n) ≤ 3
unfolding padded
padding_few n = omega (arith, length-replicate {A = ℕ} ((n + 3) / 4 * 4 - n) 0)

code_few : (c : Code) (cs : List Clause) → 699050 * length (code_written c cs) ≤ 699050 * (length c.code + 24 * length cs + 7) + 4 * length cs
code_few c [] = omega arith
code_few c (x ∷ cs) =
    let pad = padding_after (length c.code) in
    let sections = sections_written (x ∷ cs) in
    omega (arith, few_for (length (x ∷ cs)) (x ∷ cs) (omega arith) (omega arith), padding_few (length c.code), length-append (c.code ++ pad) sections, length-append c.code pad)

fat_few : (c : Code) (cs : List Clause) → length (fat_written c cs) ≡ 12 + length (code_written c cs)
unfolding fat_written
fat_few c cs =
    let a = to_le_bytes w16 (flags_written c.init cs) in
    let b = to_le_bytes w16 c.max in
    let d = to_le_bytes w32 (length c.code) in
    let e = to_le_bytes w32 (number_of (nil_or c.locals)) in
    omega (arith, length-append (a ++ b ++ d ++ e) (code_written c cs), length-append (a ++ b ++ d) e, length-append (a ++ b) d, length-append a b)

body_by : (c : Code) (cs : List Clause) (t : Bool) → 699050 * length (if t then tiny_written c else fat_written c cs) ≤ 699050 * (length c.code + 24 * length cs + 19) + 4 * length cs
body_by c cs true = omega arith
body_by c cs false = omega (arith, fat_few c cs, code_few c cs)

body_few : (c : Code) (cs : List Clause) → 699050 * length (body_written c cs) ≤ 699050 * (length c.code + 24 * length cs + 19) + 4 * length cs
unfolding body_written
body_few c cs = body_by c cs (is_tiny c cs)

-- a body takes no more than its weight, but for the sections' own bytes
pub with_body_weighs : (before : List ℕ) (c : Code) (cs : List Clause) → 4194300 * length (with_body before c cs) ≤ 4194300 * length before + 4194301 * (32 + length c.code + 24 * length cs)
unfolding with_body
with_body_weighs before c cs =
    let n = length before in
    let p = place_for n c cs in
    omega (arith, length-append (before ++ replicate (p - n) 0) (body_written c cs), length-append before (replicate (p - n) 0), length-replicate {A = ℕ} (p - n) 0, place_few n c cs, place_behind n c cs, body_few c cs)
