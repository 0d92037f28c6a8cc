-- Clauses that were written are read back.
use Rattle.std.proofs.Common.{◌≡◌, ℕ, zero, suc, ◌+◌, ◌-◌, ◌*◌, ◌/◌, ◌%◌, ◌^◌, ◌<◌, ◌≤◌, Bool, true, false, List, [], ◌∷◌, ◌++◌, length, take, drop, Option, Some, None, option_map, refl, sym, ap, ◌∙◌, arith}
use Rattle.std.specs.Prelude.{flat_map, is_some, nat_lt, nat_le, if◌then◌else◌}
use Rattle.std.specs.List.{list_all}
use Rattle.std.specs.Int.{w32, to_le_bytes}
use Rattle.std.proofs.lemmas.Bool.Decides.{nat_tests}
use Rattle.std.proofs.lemmas.List.{append_assoc, append-nil, length-append, length-take, length-drop, take-append-drop, take_at, drop_at}
use Rattle.std.proofs.lemmas.Bool.{and_parts}
use Rattle.enc_opcodes.specs.declared.code.Clause.{Clause}
use Rattle.enc_opcodes.specs.Body.{sections_at}
use Rattle.enc_opcodes.specs.Clause.{Section, counted_in, with_clauses, section_of_kind, section_in, number_or_zero, range_of, clause_in, clauses_in, clauses_of, data_sections, sections_in}
use Rattle.enc_il.specs.Seen.{all_sections, behind_all}
use Rattle.enc_il.specs.Written.{range_length, clause_bytes, clause_fits, data_section_written, sections_written, most_clauses, ClausesAreRead}
use Rattle.enc_il.proofs.Numbers.{word_between, range_between}
use Rattle.enc_il.proofs.Sections.{behind_last, behind_more, clauses_last, clauses_more}
use Rattle.enc_il.proofs.SectionsWritten.{written_last, written_more, most_some, most_few}

less : (a b : ℕ) → nat_lt a b ≡ true → a < b
less a b h = grind (arith, nat_tests)

-- a clause's numbers fit four bytes
record Fits (c : Clause) : Type 0 where
  kind : c.kind < 2 ^ 32
  tries_start : c.tries.0 < 2 ^ 32
  tries_end : c.tries.1 < 2 ^ 32
  handler_start : c.handler.0 < 2 ^ 32
  handler_end : c.handler.1 < 2 ^ 32
  extra : c.extra < 2 ^ 32

fits_all : (c : Clause) → clause_fits c ≡ true → Fits c
fits_all c h =
    let e = and_parts _ _ h in
    let d = and_parts _ _ e.0 in
    let f = and_parts _ _ d.0 in
    let g = and_parts _ _ f.0 in
    let k = and_parts _ _ g.0 in
    record {
      kind = less _ _ k.0;
      tries_start = less _ _ k.1;
      tries_end = less _ _ g.1;
      handler_start = less _ _ f.1;
      handler_end = less _ _ d.1;
      extra = less _ _ e.1;
    }

word_read : (before rest : List ℕ) (n at : ℕ) → length before ≡ at → n < 2 ^ 32 → number_or_zero w32 (before ++ (to_le_bytes w32 n ++ rest)) at ≡ n
word_read before rest n at long few = rw (word_between before rest n at long few) refl

-- a range by its start and its length
range_again : (a b : ℕ) → a < 2 ^ 32 → b < 2 ^ 32 → range_of a (range_length (a, b)) ≡ (a, b)
range_again a b ha hb = let e : (a + (b + (2 ^ 32 - a)) % 2 ^ 32) % 2 ^ 32 ≡ b = omega arith in ap (λ n. (a, n)) e

length_few : (r : ℕ × ℕ) → range_length r < 2 ^ 32
length_few r = omega arith

-- the clause whose numbers stand in the bytes
with_numbers : (bytes : List ℕ) (c : Clause) → Fits c → number_or_zero w32 bytes 0 ≡ c.kind → number_or_zero w32 bytes 4 ≡ c.tries.0 → number_or_zero w32 bytes 8 ≡ range_length c.tries → number_or_zero w32 bytes 12 ≡ c.handler.0 → number_or_zero w32 bytes 16 ≡ range_length c.handler → number_or_zero w32 bytes 20 ≡ c.extra → clause_in true bytes ≡ c
unfolding clause_in
with_numbers bytes c fits kind tries tries_length handler handler_length extra =
    rw (kind, tries, tries_length, handler, handler_length, extra, range_again c.tries.0 c.tries.1 fits.tries_start fits.tries_end, range_again c.handler.0 c.handler.1 fits.handler_start fits.handler_end) refl

-- the clause at the front
clause_again : (c : Clause) (rest : List ℕ) → Fits c → clause_in true (clause_bytes c ++ rest) ≡ c
unfolding clause_bytes
clause_again c rest fits =
    let a = to_le_bytes w32 c.kind in
    let b = to_le_bytes w32 c.tries.0 in
    let d = to_le_bytes w32 (range_length c.tries) in
    let e = to_le_bytes w32 c.handler.0 in
    let f = to_le_bytes w32 (range_length c.handler) in
    let g = to_le_bytes w32 c.extra in
    let kind = word_read [] (b ++ d ++ e ++ f ++ g ++ rest) c.kind 0 refl fits.kind in
    let tries = word_read a (d ++ e ++ f ++ g ++ rest) c.tries.0 4 refl fits.tries_start in
    let tries_length = word_read (a ++ b) (e ++ f ++ g ++ rest) (range_length c.tries) 8 refl (length_few c.tries) in
    let handler = word_read (a ++ b ++ d) (f ++ g ++ rest) c.handler.0 12 refl fits.handler_start in
    let handler_length = word_read (a ++ b ++ d ++ e) (g ++ rest) (range_length c.handler) 16 refl (length_few c.handler) in
    let extra = word_read (a ++ b ++ d ++ e ++ f) rest c.extra 20 refl fits.extra in
    with_numbers (clause_bytes c ++ rest) c fits kind tries tries_length handler handler_length extra

length_clause : (c : Clause) → length (clause_bytes c) ≡ 24
unfolding clause_bytes
length_clause c = refl

pub length_clauses : (cs : List Clause) → length (flat_map clause_bytes cs) ≡ 24 * length cs
length_clauses [] = refl
length_clauses (c ∷ cs) = omega (arith, length-append (clause_bytes c) (flat_map clause_bytes cs), length_clause c, length_clauses cs)

-- the clauses of a section
pub clauses_again : (cs : List Clause) → list_all clause_fits cs ≡ true → clauses_in true (length cs) (flat_map clause_bytes cs) ≡ cs
unfolding clauses_in
clauses_again [] fit = refl
clauses_again (c ∷ cs) fit =
    let h = and_parts (clause_fits c) (list_all clause_fits cs) fit in
    rw (clause_again c (flat_map clause_bytes cs) (fits_all c h.0), drop_at (clause_bytes c) (flat_map clause_bytes cs) 24 (length_clause c), clauses_again cs h.1) refl

-- three bytes of a size
size_again : (n : ℕ) → n < 2 ^ 24 → (n / 0x10000 * 256 + n / 0x100 % 0x100) * 256 + n % 0x100 ≡ n
size_again n few = omega arith

counted_again : (k n : ℕ) → n ≡ 4 + 24 * k → n < 2 ^ 24 → counted_in true (n % 0x100) (n / 0x100 % 0x100) (n / 0x10000) ≡ k
counted_again k n is few =
    let e : (4 + 24 * k) / 24 ≡ k = omega arith in
    ap (λ m. m / 24) (size_again n few ∙ is) ∙ e

-- a section's value, and what it has
abbrev written_as : Bool → List Clause → Section
written_as more cs = record { fat = true; more = more; count = length cs; clauses = flat_map clause_bytes cs }

with_again : (more : Bool) (count : ℕ) (bytes rest : List ℕ) → length bytes ≡ 24 * count → with_clauses true more count (bytes ++ rest) ≡ Some (record { fat = true; more = more; count = count; clauses = bytes }, rest)
with_again more count bytes rest long = rw (range_between [] bytes rest 0 (24 * count) refl long, drop_at bytes rest (24 * count) long) refl

kind_again : (more : Bool) (a b c : ℕ) (rest : List ℕ) → section_of_kind (if more then 0xC1 else 0x41) a b c rest ≡ with_clauses true more (counted_in true a b c) rest
unfolding section_of_kind
kind_again true a b c rest = refl
kind_again false a b c rest = refl

pub section_again : (more : Bool) (cs : List Clause) (rest : List ℕ) → 4 + 24 * length cs < 2 ^ 24 → section_in (data_section_written more cs ++ rest) ≡ Some (written_as more cs, rest)
unfolding section_in data_section_written
section_again more cs rest few =
    let n = 4 + 24 * length cs in
    kind_again more (n % 0x100) (n / 0x100 % 0x100) (n / 0x10000) (flat_map clause_bytes cs ++ rest)
    ∙ ap (λ k. with_clauses true more k (flat_map clause_bytes cs ++ rest)) (counted_again (length cs) n refl few)
    ∙ with_again more (length cs) (flat_map clause_bytes cs) rest (length_clauses cs)

-- all sections end where they were written to
behind_one : (cs : List Clause) (rest : List ℕ) → 0 < length cs → length cs ≤ most_clauses → behind_all (sections_written cs ++ rest) ≡ Some rest
behind_one cs rest some few =
    let fits : 4 + 24 * length cs < 2 ^ 24 = omega (arith, most_few) in
    rw (written_last cs some few) (behind_last (data_section_written false cs ++ rest) (written_as false cs, rest) (section_again false cs rest fits) refl)

fits_front : (cs : List Clause) → 4 + 24 * length (take most_clauses cs) < 2 ^ 24
fits_front cs = omega (arith, most_few, length-take most_clauses cs)

-- sections of more clauses than one takes, as the first and the others
apart : (cs : List Clause) (rest : List ℕ) → most_clauses < length cs → sections_written cs ++ rest ≡ data_section_written true (take most_clauses cs) ++ (sections_written (drop most_clauses cs) ++ rest)
apart cs rest many = rw (written_more cs many) (append_assoc (data_section_written true (take most_clauses cs)) (sections_written (drop most_clauses cs)) rest)

abbrev first_of_more : List Clause → List ℕ → Section × List ℕ
first_of_more cs rest = (written_as true (take most_clauses cs), sections_written (drop most_clauses cs) ++ rest)

first_again : (cs : List Clause) (rest : List ℕ) → most_clauses < length cs → section_in (sections_written cs ++ rest) ≡ Some (first_of_more cs rest)
first_again cs rest many = rw (apart cs rest many) (section_again true (take most_clauses cs) (sections_written (drop most_clauses cs) ++ rest) (fits_front cs))

behind_for : (n : ℕ) (cs : List Clause) (rest : List ℕ) → 0 < length cs → length cs ≤ n → behind_all (sections_written cs ++ rest) ≡ Some rest
behind_for zero cs rest some within = absurd (omega (arith, some, within))
behind_for (suc n) cs rest some within = by_test (nat_le (length cs) most_clauses) refl (λ many. behind_for n (drop most_clauses cs) rest (omega (arith, many, length-drop most_clauses cs)) (omega (arith, many, most_some, length-drop most_clauses cs)))
  where
    by_test : (t : Bool) → nat_le (length cs) most_clauses ≡ t → (most_clauses < length cs → behind_all (sections_written (drop most_clauses cs) ++ rest) ≡ Some rest) → behind_all (sections_written cs ++ rest) ≡ Some rest
    by_test true is next = behind_one cs rest some (grind (arith, nat_tests))
    by_test false is next =
        let many : most_clauses < length cs = grind (arith, nat_tests) in
        behind_more (sections_written cs ++ rest) (first_of_more cs rest) (first_again cs rest many) refl ∙ next many

pub behind_again : (cs : List Clause) (rest : List ℕ) → 0 < length cs → behind_all (sections_written cs ++ rest) ≡ Some rest
behind_again cs rest some = behind_for (length cs) cs rest some (omega arith)

whole_from : (bytes rest : List ℕ) → behind_all bytes ≡ Some rest → is_some (all_sections bytes) ≡ true
whole_from bytes rest is = by_all (all_sections bytes) is
  where
    by_all : (o : Option (List Section × List ℕ)) → option_map (λ (x : List Section × List ℕ). x.1) o ≡ Some rest → is_some {T = List Section × List ℕ} o ≡ true
    by_all None is = absurd cc
    by_all (Some x) is = refl

sections_from : (bytes rest : List ℕ) → behind_all bytes ≡ Some rest → sections_at bytes ≡ Some (take (length bytes - length rest) bytes)
unfolding sections_at
sections_from bytes rest is = by_all (all_sections bytes) is
  where
    by_all : (o : Option (List Section × List ℕ)) → option_map (λ (x : List Section × List ℕ). x.1) o ≡ Some rest → option_map (λ (x : List Section × List ℕ). take (length bytes - length x.1) bytes) o ≡ Some (take (length bytes - length rest) bytes)
    by_all None is = absurd cc
    by_all (Some x) is = let e : x.1 ≡ rest = cc in rw e refl

-- the sections that are read are those that were written, whatever follows them
pub sections_again : (cs : List Clause) (rest : List ℕ) → 0 < length cs → sections_at (sections_written cs ++ rest) ≡ Some (sections_written cs)
sections_again cs rest some =
    let l = length-append (sections_written cs) rest in
    sections_from (sections_written cs ++ rest) rest (behind_again cs rest some)
    ∙ ap (λ bytes. Some bytes) (take_at (sections_written cs) rest (length (sections_written cs ++ rest) - length rest) (omega arith))

-- and so are their clauses
fit_parts : (n : ℕ) (cs : List Clause) → list_all clause_fits cs ≡ true → (list_all clause_fits (take n cs) ≡ true) × (list_all clause_fits (drop n cs) ≡ true)
fit_parts zero cs fit = (refl, fit)
fit_parts (suc n) [] fit = (refl, refl)
fit_parts (suc n) (c ∷ cs) fit =
    let h = and_parts (clause_fits c) (list_all clause_fits cs) fit in
    let r = fit_parts n cs h.1 in
    (rw (h.0, r.0) refl, r.1)

clauses_for : (n : ℕ) (cs : List Clause) (rest : List ℕ) → 0 < length cs → length cs ≤ n → list_all clause_fits cs ≡ true → clauses_of (sections_written cs ++ rest) ≡ cs
clauses_for zero cs rest some within fit = absurd (omega (arith, some, within))
clauses_for (suc n) cs rest some within fit = by_test (nat_le (length cs) most_clauses) refl (λ many. clauses_for n (drop most_clauses cs) rest (omega (arith, many, length-drop most_clauses cs)) (omega (arith, many, most_some, length-drop most_clauses cs)) (fit_parts most_clauses cs fit).1)
  where
    by_test : (t : Bool) → nat_le (length cs) most_clauses ≡ t → (most_clauses < length cs → clauses_of (sections_written (drop most_clauses cs) ++ rest) ≡ drop most_clauses cs) → clauses_of (sections_written cs ++ rest) ≡ cs
    by_test true is next =
        let few : length cs ≤ most_clauses = grind (arith, nat_tests) in
        let fits : 4 + 24 * length cs < 2 ^ 24 = omega (arith, most_few) in
        rw (written_last cs some few) (clauses_last (data_section_written false cs ++ rest) (written_as false cs, rest) (section_again false cs rest fits) refl ∙ clauses_again cs fit)
    by_test false is next =
        let many : most_clauses < length cs = grind (arith, nat_tests) in
        let whole = whole_from (sections_written cs ++ rest) rest (behind_again cs rest some) in
        clauses_more (sections_written cs ++ rest) (first_of_more cs rest) (first_again cs rest many) refl whole
        ∙ rw (clauses_again (take most_clauses cs) (fit_parts most_clauses cs fit).0, next many) (take-append-drop most_clauses cs)

no_clauses : clauses_of (sections_written []) ≡ []
unfolding sections_written clauses_of data_sections sections_in
no_clauses = refl

pub clauses_are_read : ClausesAreRead
clauses_are_read [] fit = no_clauses
clauses_are_read (c ∷ cs) fit = ap clauses_of (sym (append-nil (sections_written (c ∷ cs)))) ∙ clauses_for (suc (length cs)) (c ∷ cs) [] (omega arith) (omega arith) fit
