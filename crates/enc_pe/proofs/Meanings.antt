-- What the definitions of this crate mean.
use Rattle.std.proofs.Common.{◌≡◌, ◌⊎◌, inl, inr, ℕ, ◌+◌, ◌-◌, ◌<◌, ◌≤◌, Bool, true, false, cond, List, [], ◌∷◌, length, take, drop, Option, Some, None, Result, Ok, Err, refl, sym, ap, subst, ◌∙◌, arith}
use Rattle.std.specs.Prelude.{find, ok_or, option_map, ◌==◌}
use Rattle.std.proofs.lemmas.Bool.Decides.{nat_tests}
use Rattle.std.proofs.lemmas.List.{length-take, take-take}
use Rattle.enc_base.specs.declared.refusal.Refusal.{Refusal}
use Rattle.enc_meta.specs.Root.{nowhere}
use Rattle.enc_meta.specs.Heaps.{part}
use Rattle.enc_meta.specs.declared.span.Span.{Span}
use Rattle.enc_pe.specs.Sections.{sections_from, sections_of, holds, span_at, span_from}
use Rattle.enc_pe.specs.Headers.{headers_of, cli_of}
use Rattle.enc_pe.specs.Container.{◌>>=◌, directory_span, image_of, is_bare, bare_container, container_of, bytes_at_rva, bytes_from_rva}
use Rattle.enc_pe.specs.Laws.{IsPortableExecutable, ImagesAreRead, BareHasNone, RangeIsFront}
use Rattle.enc_pe.specs.declared.cli.CliHeader.{CliHeader}
use Rattle.enc_pe.specs.declared.container.Container.{Container}
use Rattle.enc_pe.specs.declared.directory.Directory.{Directory}
use Rattle.enc_pe.specs.declared.headers.Headers.{Headers}
use Rattle.enc_pe.specs.declared.section.Section.{Section}

-- what comes of a step that may refuse, its value was there
step_ok : {A B : Type 0} (o : Option A) (e : Refusal) (f : A → Result B Refusal) (b : B) → (ok_or o e >>= f) ≡ Ok b → (a : A) × (o ≡ Some a) × (f a ≡ Ok b)
step_ok None e f b is = absurd cc
step_ok (Some a) e f b is = (a, refl, is)

unless : {A : Type 0} (t : Bool) (e : Refusal) (a b : A) → cond t (Err e) (Ok a) ≡ Ok b → a ≡ b
unless true e a b is = absurd cc
unless false e a b is = cc

nothing : (bytes : List ℕ) (s : Span) → nowhere ≡ s → part bytes s ≡ []
unfolding part
nothing bytes s e = rw (← e) refl

-- a directory is absent, or its bytes stand at its RVA
abbrev StandsOrNot : List ℕ → Container → Directory → Span → Type 0
StandsOrNot bytes c d s = ((d.size ≡ 0) × (part bytes s ≡ [])) ⊎ (bytes_at_rva bytes c d.rva d.size ≡ Some (part bytes s))

by_size : (bytes : List ℕ) (c : Container) (d : Directory) (s : Span) (t : Bool) → d.size == 0 ≡ t → cond t (Some nowhere) (span_at bytes c.sections d.rva d.size) ≡ Some s → StandsOrNot bytes c d s
unfolding bytes_at_rva
by_size bytes c d s true e is = inl (grind (arith, nat_tests), nothing bytes s cc)
by_size bytes c d s false e is = inr (rw is refl)

directory_stands : (bytes : List ℕ) (c : Container) (d : Directory) (s : Span) → directory_span bytes c.sections d ≡ Some s → StandsOrNot bytes c d s
unfolding directory_span
directory_stands bytes c d s is = by_size bytes c d s (d.size == 0) refl is

abbrev read : Span → Span → CliHeader → Headers → Container
read root kept cli h = record { metadata = root; resources = kept; entry = cli.entry; sections = h.sections; bare = false }

is_image : (bytes : List ℕ) (h : Headers) (cli : CliHeader) (root kept : Span) → headers_of bytes ≡ Some h → cli_of bytes h ≡ Some cli → span_at bytes h.sections cli.metadata.rva cli.metadata.size ≡ Some root → directory_span bytes h.sections cli.resources ≡ Some kept → IsPortableExecutable bytes (read root kept cli h) h cli
unfolding bytes_at_rva
is_image bytes h cli root kept there said found held = record {
  headers = there;
  cli_header = said;
  metadata = rw found refl;
  resources = directory_stands bytes (read root kept cli h) cli.resources kept held;
  entry = refl;
  bare = refl;
}

pub images_are_read : ImagesAreRead
unfolding image_of
images_are_read bytes c is =
    let h = step_ok (headers_of bytes) _ _ c is in
    let cli = step_ok (cli_of bytes h.0) _ _ c h.2 in
    let root = step_ok (span_at bytes h.0.sections cli.0.metadata.rva cli.0.metadata.size) _ _ c cli.2 in
    let kept = step_ok (directory_span bytes h.0.sections cli.0.resources) _ _ c root.2 in
    let debug = step_ok (directory_span bytes h.0.sections h.0.debug) _ _ c kept.2 in
    let same : read root.0 kept.0 cli.0 h.0 ≡ c = unless _ _ (read root.0 kept.0 cli.0 h.0) c debug.2 in
    let P : Container → Type 0 = λ x. IsPortableExecutable bytes x h.0 cli.0 in
    (h.0, cli.0, subst P same (is_image bytes h.0 cli.0 root.0 kept.0 h.1 cli.1 root.1 kept.1))

-- no section stands nowhere
abbrev HasNone : List ℕ → ℕ → ℕ → Container → Type 0
HasNone bytes first many c = (bytes_at_rva bytes c first many ≡ None) × (bytes_from_rva bytes c first ≡ None)

none_in_bare : (bytes : List ℕ) (first many : ℕ) → HasNone bytes first many (bare_container (length bytes))
unfolding bytes_at_rva bytes_from_rva span_at span_from sections_from
none_in_bare bytes first many = (refl, refl)

by_front : (bytes : List ℕ) (c : Container) (first many : ℕ) (t : Bool) → cond t (Ok (bare_container (length bytes))) (image_of bytes) ≡ Ok c → c.bare ≡ true → HasNone bytes first many c
by_front bytes c first many true is bare =
    let same : bare_container (length bytes) ≡ c = cc in
    let P : Container → Type 0 = λ x. HasNone bytes first many x in
    subst P same (none_in_bare bytes first many)
by_front bytes c first many false is bare =
    let w = images_are_read bytes c is in
    let no : false ≡ true = sym w.2.bare ∙ bare in
    absurd cc

pub bare_has_none : BareHasNone
unfolding container_of
bare_has_none bytes c first many is bare = by_front bytes c first many (is_bare bytes) is bare

-- a section that doesn't hold the first byte of a range doesn't hold the range
not_held : (first many : ℕ) (s : Section) → 0 < many → holds first 1 s ≡ false → holds first many s ≡ false
unfolding holds
not_held first many s some not = grind (arith, nat_tests)

held : (first many : ℕ) (s : Section) → holds first 1 s ≡ true → many ≤ s.raw.len - (first - s.rva) → holds first many s ≡ true
unfolding holds
held first many s here less = grind (arith, nat_tests)

-- so the first section with the byte is the first with the range
same_found : (first many : ℕ) (s : Section) (all : List Section) → 0 < many → many ≤ s.raw.len - (first - s.rva) → find (holds first 1) all ≡ Some s → find (holds first many) all ≡ Some s
same_found first many s [] some less found = absurd cc
same_found first many s (x ∷ rest) some less found = by_first (holds first 1 x) refl found (same_found first many s rest some less)
  where
    by_first : (t : Bool) → holds first 1 x ≡ t → cond t (Some x) (find (holds first 1) rest) ≡ Some s → (find (holds first 1) rest ≡ Some s → find (holds first many) rest ≡ Some s) → cond (holds first many x) (Some x) (find (holds first many) rest) ≡ Some s
    by_first true here is behind =
        let e : x ≡ s = cc in
        let P : Section → Type 0 = λ y. holds first 1 y ≡ true in
        let there = held first many s (subst P e here) less in
        let Q : Section → Type 0 = λ y. holds first many y ≡ true in
        let same : holds first many x ≡ true = subst Q (sym e) there in
        rw same is
    by_first false here is behind = rw (not_held first many x some here) (behind is)

by_section : (bytes : List ℕ) (c : Container) (first many : ℕ) (rest : List ℕ) (o : Option Section) → find (holds first 1) (sections_of bytes c.sections) ≡ o → option_map (part bytes) (option_map (λ (s : Section). record { start = s.raw.start + (first - s.rva); len = s.raw.len - (first - s.rva) }) o) ≡ Some rest → 0 < many → many ≤ length rest → bytes_at_rva bytes c first many ≡ Some (take many rest)
unfolding bytes_at_rva span_at part
by_section bytes c first many rest None found is some less = absurd cc
by_section bytes c first many rest (Some s) found is some less =
    let front = drop (s.raw.start + (first - s.rva)) bytes in
    let e : take (s.raw.len - (first - s.rva)) front ≡ rest = cc in
    let l = length-take (s.raw.len - (first - s.rva)) front in
    let few : many ≤ s.raw.len - (first - s.rva) = omega (arith, l, ap (λ (x : List ℕ). length x) e) in
    rw (same_found first many s (sections_of bytes c.sections) some few found, ← e, take-take many (s.raw.len - (first - s.rva)) front few) refl

pub range_is_front : RangeIsFront
unfolding bytes_from_rva span_from
range_is_front bytes c first many rest is some less = by_section bytes c first many rest (find (holds first 1) (sections_of bytes c.sections)) refl is some less
