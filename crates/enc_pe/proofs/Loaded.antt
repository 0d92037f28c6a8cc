-- What is read at an RVA is what is loaded there.
use Rattle.std.proofs.Common.{◌≡◌, ℕ, zero, suc, ◌+◌, ◌-◌, ◌/◌, ◌≤◌, Bool, true, false, List, [], ◌∷◌, length, take, drop, Option, Some, None, refl, sym, ◌∙◌, ap, arith}
use Rattle.std.specs.Prelude.{map, find, option_map, option_and_then, nat_le, ◌&&◌, IfSome, IsTrue}
use Rattle.std.specs.Int.{w32}
use Rattle.enc_base.specs.Numbers.{little_endian_at}
use Rattle.enc_meta.specs.Heaps.{part}
use Rattle.enc_meta.specs.Regions.{Region, range_loaded, rest_loaded}
use Rattle.enc_meta.specs.Root.{IsSpanOf}
use Rattle.enc_meta.specs.Regions as region
use Rattle.enc_meta.specs.declared.span.Span.{Span}
use Rattle.enc_pe.specs.declared.section.Section.{Section}
use Rattle.enc_pe.specs.declared.container.Container.{Container}
use Rattle.enc_pe.specs.Sections.{inside, section_with, section_at, whole_at, section_and_rest, sections_from, sections_of, holds, span_at, span_from}
use Rattle.enc_pe.specs.Container.{bytes_at_rva, bytes_from_rva}
use Rattle.enc_pe.specs.Loaded.{region_of, regions_of}
use Rattle.enc_pe.specs.Within.{StandWithin, span_in, span_behind}
use Rattle.std.proofs.lemmas.List.{drop-take}
use Rattle.std.proofs.lemmas.Bool.Decides.{nat_tests}
use Rattle.enc_pe.proofs.Parts.{part_length}

-- what of a range stands in a file stands in it
inside_within : (size : ℕ) (s : Span) → (inside size s).start + (inside size s).len ≤ size
unfolding inside
inside_within size s = omega arith

-- so it is with a section
with_within : (size : ℕ) (header : List ℕ) (s : Section) → section_with size header ≡ Some s → s.raw.start + s.raw.len ≤ size
unfolding section_with
with_within size header s is = by_numbers (little_endian_at w32 header 12) (little_endian_at w32 header 16) (little_endian_at w32 header 20) is
  where
    made : Option ℕ → Option ℕ → Option ℕ → Option Section
    made a b c = option_and_then (λ first. option_and_then (λ many. option_and_then (λ place. Some (record { rva = first; raw = inside size (record { start = place; len = many }) })) c) b) a

    by_numbers : (a b c : Option ℕ) → made a b c ≡ Some s → s.raw.start + s.raw.len ≤ size
    by_numbers (Some first) (Some many) (Some place) is =
        let e : record { rva = first; raw = inside size (record { start = place; len = many }) } ≡ s = cc in
        rw (← e) (inside_within size (record { start = place; len = many }))
    by_numbers (Some first) (Some many) None is = absurd cc
    by_numbers (Some first) None c is = absurd cc
    by_numbers None b c is = absurd cc

at_within : (bytes : List ℕ) (at : ℕ) (s : Section) → section_at bytes at ≡ Some s → s.raw.start + s.raw.len ≤ length bytes
unfolding section_at
at_within bytes at s is = by_header (whole_at bytes at 40) is
  where
    by_header : (o : Option (List ℕ)) → option_and_then (section_with (length bytes)) o ≡ Some s → s.raw.start + s.raw.len ≤ length bytes
    by_header (Some header) is = with_within (length bytes) header s is
    by_header None is = absurd cc

-- a section holds a range where its region does
alike_holds : (bytes : List ℕ) (first many : ℕ) (s : Section) → s.raw.start + s.raw.len ≤ length bytes → region.region_holds first many (region_of bytes s) ≡ holds first many s
unfolding holds
alike_holds bytes first many s within = rw (part_length bytes s.raw within) refl

drops : (n m : ℕ) (xs : List ℕ) → drop n (drop m xs) ≡ drop (m + n) xs
drops n zero xs = let e : 0 + n ≡ n = omega arith in rw e refl
drops n (suc m) (x ∷ xs) = let e : suc m + n ≡ suc (m + n) = omega arith in rw e (drops n m xs)
drops zero (suc m) [] = let e : suc m + 0 ≡ suc m = omega arith in rw e refl
drops (suc n) (suc m) [] = let e : suc m + suc n ≡ suc (m + suc n) = omega arith in rw e refl

fewer : (n k : ℕ) (xs : List ℕ) → take n (take (n + k) xs) ≡ take n xs
fewer zero k xs = refl
fewer (suc n) k [] = let e : suc n + k ≡ suc (n + k) = omega arith in rw e refl
fewer (suc n) k (x ∷ xs) = let e : suc n + k ≡ suc (n + k) = omega arith in rw e (ap (λ ys. x ∷ ys) (fewer n k xs))

-- a part behind the begin of a part, up to its end
rest_of_part : (bytes : List ℕ) (start d k len : ℕ) → len ≡ d + k → part bytes (record { start = start + d; len = k }) ≡ drop d (part bytes (record { start = start; len = len }))
unfolding part
rest_of_part bytes start d k len e = rw (e, drop-take d k (drop start bytes), drops d start bytes) refl

-- and a part inside it
part_of_part : (bytes : List ℕ) (start d many k len : ℕ) → len ≡ d + (many + k) → part bytes (record { start = start + d; len = many }) ≡ take many (drop d (part bytes (record { start = start; len = len })))
unfolding part
part_of_part bytes start d many k len e = rw (e, drop-take d (many + k) (drop start bytes), fewer many k (drop d (drop start bytes)), drops d start bytes) refl

-- the section that a search finds holds the range
pub found_holds : (first many : ℕ) (xs : List Section) (s : Section) → find (holds first many) xs ≡ Some s → holds first many s ≡ true
found_holds first many [] s is = absurd cc
found_holds first many (x ∷ xs) s is = by_test (holds first many x) refl is (found_holds first many xs s)
  where
    by_test : (b : Bool) → holds first many x ≡ b → find (holds first many) (x ∷ xs) ≡ Some s → (find (holds first many) xs ≡ Some s → holds first many s ≡ true) → holds first many s ≡ true
    by_test true h is more = let here : Some x ≡ Some s = rw h at is in let e : x ≡ s = cc in rw (← e) h
    by_test false h is more = more (rw h at is)

-- sections that were read stand in their file
pub read_within : (bytes : List ℕ) (at n : ℕ) → StandWithin bytes (sections_from bytes at n)
unfolding sections_from
read_within bytes at zero = tt
read_within bytes at (suc n) = by_section (section_at bytes at) refl (read_within bytes (at + 40) n)
  where
    by_section : (o : Option Section) → section_at bytes at ≡ o → StandWithin bytes (sections_from bytes (at + 40) n) → StandWithin bytes (section_and_rest o (sections_from bytes (at + 40) n))
    by_section None is more = tt
    by_section (Some s) is more = (at_within bytes at s is, more)

-- so does the one that is found
pub found_within : (bytes : List ℕ) (first many : ℕ) (xs : List Section) (s : Section) → StandWithin bytes xs → find (holds first many) xs ≡ Some s → s.raw.start + s.raw.len ≤ length bytes
found_within bytes first many [] s within is = absurd cc
found_within bytes first many (x ∷ xs) s within is = by_test (holds first many x) refl is (found_within bytes first many xs s within.1)
  where
    by_test : (b : Bool) → holds first many x ≡ b → find (holds first many) (x ∷ xs) ≡ Some s → (find (holds first many) xs ≡ Some s → s.raw.start + s.raw.len ≤ length bytes) → s.raw.start + s.raw.len ≤ length bytes
    by_test true h is more = let here : Some x ≡ Some s = rw h at is in let e : x ≡ s = cc in rw (← e) within.0
    by_test false h is more = more (rw h at is)

-- the region that is found is that of the section that is found
find_loaded : (bytes : List ℕ) (first many : ℕ) (xs : List Section) → StandWithin bytes xs → find (region.region_holds first many) (map (region_of bytes) xs) ≡ option_map (region_of bytes) (find (holds first many) xs)
find_loaded bytes first many [] within = refl
find_loaded bytes first many (s ∷ xs) within = by_test (holds first many s) (alike_holds bytes first many s within.0) refl (find_loaded bytes first many xs within.1)
  where
    More : Type 0
    More = find (region.region_holds first many) (map (region_of bytes) xs) ≡ option_map (region_of bytes) (find (holds first many) xs)

    by_test : (b : Bool) → region.region_holds first many (region_of bytes s) ≡ holds first many s → holds first many s ≡ b → More → find (region.region_holds first many) (map (region_of bytes) (s ∷ xs)) ≡ option_map (region_of bytes) (find (holds first many) (s ∷ xs))
    by_test true r h more = rw (r, h) refl
    by_test false r h more = rw (r, h) more

bounds : (rva first many len : ℕ) → (nat_le rva first && nat_le (first - rva + many) len) ≡ true → first - rva + many ≤ len
bounds rva first many len h = grind (arith, nat_tests)

holds_bounds : (first many : ℕ) (s : Section) → holds first many s ≡ true → first - s.rva + many ≤ s.raw.len
unfolding holds
holds_bounds first many s h = bounds s.rva first many s.raw.len h

-- what is read by the sections is what is loaded
pub ranges_in : (bytes : List ℕ) (xs : List Section) (first many : ℕ) → StandWithin bytes xs → option_map (part bytes) (span_in xs first many) ≡ range_loaded (map (region_of bytes) xs) first many
unfolding range_loaded
ranges_in bytes xs first many within = rw (find_loaded bytes first many xs within) (by_section (find (holds first many) xs) refl)
  where
    by_section : (o : Option Section) → find (holds first many) xs ≡ o → option_map (part bytes) (option_map (λ (s : Section). record { start = s.raw.start + (first - s.rva); len = many }) o) ≡ option_map (λ (r : Region). take many (drop (first - r.address) r.bytes)) (option_map (region_of bytes) o)
    by_section None is = refl
    by_section (Some s) is =
        let h = holds_bounds first many s (found_holds first many xs s is) in
        ap Some (part_of_part bytes s.raw.start (first - s.rva) many (s.raw.len - (first - s.rva) - many) s.raw.len (omega (arith, h)))

pub rests_in : (bytes : List ℕ) (xs : List Section) (first : ℕ) → StandWithin bytes xs → option_map (part bytes) (span_behind xs first) ≡ rest_loaded (map (region_of bytes) xs) first
unfolding rest_loaded
rests_in bytes xs first within = rw (find_loaded bytes first 1 xs within) (by_section (find (holds first 1) xs) refl)
  where
    by_section : (o : Option Section) → find (holds first 1) xs ≡ o → option_map (part bytes) (option_map (λ (s : Section). record { start = s.raw.start + (first - s.rva); len = s.raw.len - (first - s.rva) }) o) ≡ option_map (λ (r : Region). drop (first - r.address) r.bytes) (option_map (region_of bytes) o)
    by_section None is = refl
    by_section (Some s) is =
        let h = holds_bounds first 1 s (found_holds first 1 xs s is) in
        ap Some (rest_of_part bytes s.raw.start (first - s.rva) (s.raw.len - (first - s.rva)) s.raw.len (omega (arith, h)))

pub ranges_loaded : (bytes : List ℕ) (c : Container) (first many : ℕ) → bytes_at_rva bytes c first many ≡ range_loaded (regions_of bytes c.sections) first many
unfolding bytes_at_rva regions_of span_at
ranges_loaded bytes c first many = ranges_in bytes (sections_of bytes c.sections) first many (read_within bytes c.sections.start (c.sections.len / 40))

pub rests_loaded : (bytes : List ℕ) (c : Container) (first : ℕ) → bytes_from_rva bytes c first ≡ rest_loaded (regions_of bytes c.sections) first
unfolding bytes_from_rva regions_of span_from
rests_loaded bytes c first = rests_in bytes (sections_of bytes c.sections) first (read_within bytes c.sections.start (c.sections.len / 40))

-- what is found among sections that stand in their file
pub some_holds : (first many : ℕ) (xs : List Section) (o : Option Section) → o ≡ find (holds first many) xs → IfSome o (λ (s : Section). IsTrue (holds first many s))
some_holds first many xs None is = tt
some_holds first many xs (Some s) is = found_holds first many xs s (sym is)

pub some_within : (bytes : List ℕ) (first many : ℕ) (xs : List Section) (o : Option Section) → StandWithin bytes xs → o ≡ find (holds first many) xs → IfSome o (λ (s : Section). IsSpanOf bytes s.raw)
some_within bytes first many xs None within is = tt
some_within bytes first many xs (Some s) within is = found_within bytes first many xs s within (sym is)

-- a span by the sections is what is loaded
pub range_seen : (bytes : List ℕ) (xs : List Section) (regions : List Region) (first many : ℕ) (o : Option Span) → map (region_of bytes) xs ≡ regions → StandWithin bytes xs → o ≡ span_in xs first many → option_map (part bytes) o ≡ range_loaded regions first many
range_seen bytes xs regions first many o view within is = ap (option_map (part bytes)) is ∙ ranges_in bytes xs first many within ∙ ap (λ rs. range_loaded rs first many) view

pub rest_seen : (bytes : List ℕ) (xs : List Section) (regions : List Region) (first : ℕ) (o : Option Span) → map (region_of bytes) xs ≡ regions → StandWithin bytes xs → o ≡ span_behind xs first → option_map (part bytes) o ≡ rest_loaded regions first
rest_seen bytes xs regions first o view within is = ap (option_map (part bytes)) is ∙ rests_in bytes xs first within ∙ ap (λ rs. rest_loaded rs first) view
