-- An image that was written is read back.
use Rattle.std.proofs.Common.{◌≡◌, ℕ, ◌+◌, ◌-◌, ◌^◌, ◌<◌, ◌≤◌, Bool, true, false, cond, List, [], ◌∷◌, ◌++◌, length, replicate, Some, Ok, refl, sym, ap, ◌∙◌, arith}
use Rattle.std.specs.Prelude.{◌==◌, if◌then◌else◌}
use Rattle.std.proofs.lemmas.Bool.Decides.{nat_tests}
use Rattle.std.proofs.lemmas.List.{append_assoc, append-nil, length-append, length-replicate, nil_from_length}
use Rattle.enc_meta.specs.Root.{nowhere}
use Rattle.enc_meta.specs.Heaps.{part}
use Rattle.enc_meta.specs.declared.span.Span.{Span}
use Rattle.enc_pe.specs.declared.cli.CliHeader.{CliHeader}
use Rattle.enc_pe.specs.declared.container.Container.{Container}
use Rattle.enc_pe.specs.declared.headers.Headers.{Headers}
use Rattle.enc_pe.specs.Sections.{sections_of, holds, span_at}
use Rattle.enc_pe.specs.Headers.{headers_of, cli_in, cli_of}
use Rattle.enc_pe.specs.Container.{directory_span, embeds, image_of, is_bare, container_of}
use Rattle.enc_pe.specs.Loaded.{regions_of}
use Rattle.enc_pe.specs.Written.{rounded, filled_to, code_rva, cli_place, resources_place, root_place, resources_rva, cli_written, section_written, section_size, raw_size, optional_header, section_header, headers_written, image_written, image_size, most_bytes, ImageIsRead}
use Rattle.enc_pe.proofs.Numbers.{not_more, part_between}
use Rattle.enc_pe.proofs.HeadersWritten.{headers_are, length_headers}
use Rattle.enc_pe.proofs.HeadersRead.{front, header_span, headers_for, section_for, not_bare, all_read, sections_read, cli_read}
use Rattle.enc_pe.proofs.SectionsWritten.{length_filled, length_cli, length_before_resources, length_before_root, length_section}

-- a range of the section is found where the section stands in the file
span_there : (bytes : List ℕ) (raw at many : ℕ) → sections_of bytes header_span ≡ section_for raw ∷ [] → at + many ≤ raw → span_at bytes header_span (code_rva + at) many ≡ Some (record { start = 512 + at; len = many })
unfolding span_at holds
span_there bytes raw at many one within =
    let e : code_rva + at - code_rva ≡ at = omega arith in
    rw (one, not_more code_rva (code_rva + at) (omega arith), e, not_more (at + many) raw within) (rw e refl)

-- the parts of a section's bytes, each between those in front of it and those behind it
at_code : (x y c r o z : List ℕ) → ((x ++ y) ++ c ++ r ++ o) ++ z ≡ x ++ (y ++ c ++ r ++ o ++ z)
at_code x y c r o z = simp append_assoc

at_cli : (f c r o z : List ℕ) → (f ++ c ++ r ++ o) ++ z ≡ f ++ (c ++ (r ++ o ++ z))
at_cli f c r o z = simp append_assoc

at_resources : (f c x y o z : List ℕ) → (f ++ c ++ (x ++ y) ++ o) ++ z ≡ (f ++ c) ++ (x ++ (y ++ o ++ z))
at_resources f c x y o z = simp append_assoc

at_root : (f c r o z : List ℕ) → (f ++ c ++ r ++ o) ++ z ≡ (f ++ c ++ r) ++ (o ++ z)
at_root f c r o z = simp append_assoc

-- a part of the section is that part of the image
part_there : (headers section before bytes rest : List ℕ) (at n : ℕ) → length headers ≡ 512 → section ≡ before ++ (bytes ++ rest) → length before ≡ at → length bytes ≡ n → part (headers ++ section) (record { start = 512 + at; len = n }) ≡ bytes
part_there headers section before bytes rest at n long is many some =
    let l : length (headers ++ before) ≡ 512 + at = omega (arith, length-append headers before, long, many) in
    let e : headers ++ section ≡ (headers ++ before) ++ (bytes ++ rest) = ap (λ s. headers ++ s) is ∙ sym (append_assoc headers before (bytes ++ rest)) in
    ap (λ b. part b (record { start = 512 + at; len = n })) e ∙ part_between (headers ++ before) bytes rest (512 + at) n l some

-- the image by its headers, and how long it is
split_headers : (a b c d s : List ℕ) → (a ++ b ++ c ++ d) ++ s ≡ a ++ (b ++ (c ++ (d ++ s)))
split_headers a b c d s = simp append_assoc

length_image : (size raw cli n : ℕ) (section : List ℕ) → length section ≡ n → raw ≡ rounded 512 n → length (headers_written size raw cli ++ filled_to 512 section) ≡ 512 + raw
length_image size raw cli n section long is = omega (arith, length-append (headers_written size raw cli) (filled_to 512 section), length_headers size raw cli, length-append section (replicate (rounded 512 (length section) - length section) 0), length-replicate {A = ℕ} (rounded 512 (length section) - length section) 0, long, is)

-- an image by its parts
image_from : (bytes : List ℕ) (h : Headers) (cli : CliHeader) (root kept : Span) → headers_of bytes ≡ Some h → cli_of bytes h ≡ Some cli → span_at bytes h.sections cli.metadata.rva cli.metadata.size ≡ Some root → directory_span bytes h.sections cli.resources ≡ Some kept → directory_span bytes h.sections h.debug ≡ Some nowhere → image_of bytes ≡ Ok (record { metadata = root; resources = kept; entry = cli.entry; sections = h.sections; bare = false })
unfolding image_of part embeds
image_from bytes h cli root kept h0 h1 h2 h3 h4 = rw (h0, h1, h2, h3, h4) refl

container_from : (bytes : List ℕ) (c : Container) → is_bare bytes ≡ false → image_of bytes ≡ Ok c → container_of bytes ≡ Ok c
unfolding container_of
container_from bytes c not is = rw not is

-- what the bound on an image's size says
record Bounds (root code resources : List ℕ) : Type 0 where
  whole : section_size root code resources ≤ raw_size root code resources
  raw : raw_size root code resources < 2 ^ 31
  root_within : root_place code resources + length root ≡ section_size root code resources
  resources_within : resources_place code + length resources ≤ root_place code resources

bounds : (root code resources : List ℕ) → image_size root code resources ≤ most_bytes → Bounds root code resources
bounds root code resources few = record {
  whole = omega arith;
  raw = omega (arith, few);
  root_within = refl;
  resources_within = omega arith;
}

-- where the resources stand
abbrev kept_span : List ℕ → List ℕ → Span
kept_span code resources = if length resources == 0 then nowhere else record { start = 512 + resources_place code; len = length resources }

abbrev container_for : List ℕ → List ℕ → List ℕ → ℕ → Container
container_for root code resources entry = record {
  metadata = record { start = 512 + root_place code resources; len = length root };
  resources = kept_span code resources;
  entry = entry;
  sections = header_span;
  bare = false;
}

abbrev cli_for : List ℕ → List ℕ → List ℕ → ℕ → CliHeader
cli_for root code resources entry = record {
  metadata = record { rva = code_rva + root_place code resources; size = length root };
  entry = entry;
  resources = record { rva = resources_rva code resources; size = length resources };
}

rva_few : (root code resources : List ℕ) → Bounds root code resources → resources_rva code resources < 2 ^ 32
rva_few root code resources few = by_size (length resources == 0)
  where
    by_size : (t : Bool) → (if t then 0 else code_rva + resources_place code) < 2 ^ 32
    by_size true = omega arith
    by_size false = omega (arith, few.whole, few.raw, few.root_within, few.resources_within)

cli_again : (root code resources : List ℕ) (entry : ℕ) → entry < 2 ^ 32 → Bounds root code resources → cli_in (cli_written root code resources entry) ≡ Some (cli_for root code resources entry)
cli_again root code resources entry fits few = cli_read (code_rva + root_place code resources) (length root) entry (resources_rva code resources) (length resources) (omega (arith, few.whole, few.raw, few.root_within)) (omega (arith, few.whole, few.raw, few.root_within)) fits (rva_few root code resources few) (omega (arith, few.whole, few.raw, few.root_within, few.resources_within))

cli_of_from : (bytes : List ℕ) (cli : ℕ) (s : Span) → span_at bytes header_span (code_rva + cli) 72 ≡ Some s → cli_of bytes (headers_for cli) ≡ cli_in (part bytes s)
unfolding cli_of
cli_of_from bytes cli s is = rw is refl

-- the resources are found where there are some
kept_there : (bytes : List ℕ) (raw : ℕ) (code resources : List ℕ) → sections_of bytes header_span ≡ section_for raw ∷ [] → resources_place code + length resources ≤ raw → directory_span bytes header_span (record { rva = resources_rva code resources; size = length resources }) ≡ Some (kept_span code resources)
unfolding directory_span
kept_there bytes raw code resources one within = by_size (length resources == 0)
  where
    by_size : (t : Bool) → cond t (Some nowhere) (span_at bytes header_span (if t then 0 else code_rva + resources_place code) (length resources)) ≡ Some (if t then nowhere else record { start = 512 + resources_place code; len = length resources })
    by_size true = refl
    by_size false = span_there bytes raw (resources_place code) (length resources) one within

no_debug : (bytes : List ℕ) (rows : Span) → directory_span bytes rows (record { rva = 0; size = 0 }) ≡ Some nowhere
unfolding directory_span
no_debug bytes rows = refl

-- and are the bytes that were written
kept_again : (bytes code resources : List ℕ) → part bytes (record { start = 512 + resources_place code; len = length resources }) ≡ resources → part bytes (kept_span code resources) ≡ resources
unfolding part
kept_again bytes code resources is = by_size (length resources == 0) refl
  where
    by_size : (t : Bool) → length resources == 0 ≡ t → part bytes (if t then nowhere else record { start = 512 + resources_place code; len = length resources }) ≡ resources
    by_size true none = sym (nil_from_length resources (grind (arith, nat_tests)))
    by_size false some = is

-- the parts of an image that was written
abbrev zeros_behind : List ℕ → List ℕ
zeros_behind bytes = replicate (rounded 4 (length bytes) - length bytes) 0

abbrev last_zeros : List ℕ → List ℕ
last_zeros section = replicate (rounded 512 (length section) - length section) 0

abbrev headers_in : List ℕ → List ℕ → List ℕ → List ℕ
headers_in root code resources = headers_written (section_size root code resources) (raw_size root code resources) (cli_place code)

root_again : (root code resources : List ℕ) (entry : ℕ) → part (image_written root code resources entry) (record { start = 512 + root_place code resources; len = length root }) ≡ root
unfolding image_written section_written
root_again root code resources entry =
    let f = filled_to 4 code in
    let c = cli_written root code resources entry in
    let r = filled_to 4 resources in
    let z = last_zeros (f ++ c ++ r ++ root) in
    part_there (headers_in root code resources) ((f ++ c ++ r ++ root) ++ z) (f ++ c ++ r) root z (root_place code resources) (length root) (length_headers (section_size root code resources) (raw_size root code resources) (cli_place code)) (at_root f c r root z) (length_before_root root code resources entry) refl

resources_again : (root code resources : List ℕ) (entry : ℕ) → part (image_written root code resources entry) (record { start = 512 + resources_place code; len = length resources }) ≡ resources
unfolding image_written section_written
resources_again root code resources entry =
    let f = filled_to 4 code in
    let c = cli_written root code resources entry in
    let y = zeros_behind resources in
    let z = last_zeros (f ++ c ++ (resources ++ y) ++ root) in
    part_there (headers_in root code resources) ((f ++ c ++ (resources ++ y) ++ root) ++ z) (f ++ c) resources (y ++ root ++ z) (resources_place code) (length resources) (length_headers (section_size root code resources) (raw_size root code resources) (cli_place code)) (at_resources f c resources y root z) (length_before_resources root code resources entry) refl

cli_there : (root code resources : List ℕ) (entry : ℕ) → part (image_written root code resources entry) (record { start = 512 + cli_place code; len = 72 }) ≡ cli_written root code resources entry
unfolding image_written section_written
cli_there root code resources entry =
    let f = filled_to 4 code in
    let c = cli_written root code resources entry in
    let r = filled_to 4 resources in
    let z = last_zeros (f ++ c ++ r ++ root) in
    part_there (headers_in root code resources) ((f ++ c ++ r ++ root) ++ z) f c (r ++ root ++ z) (cli_place code) 72 (length_headers (section_size root code resources) (raw_size root code resources) (cli_place code)) (at_cli f c r root z) (length_filled code) (length_cli (code_rva + root_place code resources) (length root) entry (resources_rva code resources) (length resources))

-- the section, as it stands in the file
length_body : (root code resources : List ℕ) (entry : ℕ) → length (filled_to 512 (section_written root code resources entry)) ≡ raw_size root code resources
length_body root code resources entry =
    let section = section_written root code resources entry in
    omega (arith, length-append section (last_zeros section), length-replicate {A = ℕ} (rounded 512 (length section) - length section) 0, length_section root code resources entry)

body_there : (root code resources : List ℕ) (entry : ℕ) → part (image_written root code resources entry) (record { start = 512; len = raw_size root code resources }) ≡ filled_to 512 (section_written root code resources entry)
unfolding image_written
body_there root code resources entry =
    let body = filled_to 512 (section_written root code resources entry) in
    part_there (headers_in root code resources) body [] body [] 0 (raw_size root code resources) (length_headers (section_size root code resources) (raw_size root code resources) (cli_place code)) (sym (append-nil body)) refl (length_body root code resources entry)

abbrev behind_code : List ℕ → List ℕ → List ℕ → ℕ → List ℕ
behind_code root code resources entry = zeros_behind code ++ cli_written root code resources entry ++ filled_to 4 resources ++ root ++ last_zeros (section_written root code resources entry)

code_first : (root code resources : List ℕ) (entry : ℕ) → filled_to 512 (section_written root code resources entry) ≡ code ++ behind_code root code resources entry
unfolding section_written
code_first root code resources entry = at_code code (zeros_behind code) (cli_written root code resources entry) (filled_to 4 resources) root (last_zeros (filled_to 4 code ++ cli_written root code resources entry ++ filled_to 4 resources ++ root))

-- the image begins with the headers that are read
abbrev behind_headers : List ℕ → List ℕ → List ℕ → ℕ → List ℕ
behind_headers root code resources entry = replicate 96 0 ++ filled_to 512 (section_written root code resources entry)

abbrev laid_out : List ℕ → List ℕ → List ℕ → ℕ → List ℕ
laid_out root code resources entry = front ++ (optional_header (section_size root code resources) (raw_size root code resources) (cli_place code) ++ (section_header (section_size root code resources) (raw_size root code resources) ++ behind_headers root code resources entry))

image_is : (root code resources : List ℕ) (entry : ℕ) → image_written root code resources entry ≡ laid_out root code resources entry
unfolding image_written
image_is root code resources entry =
    let size = section_size root code resources in
    let raw = raw_size root code resources in
    let cli = cli_place code in
    let body = filled_to 512 (section_written root code resources entry) in
    ap (λ h. h ++ body) (headers_are size raw cli) ∙ split_headers front (optional_header size raw cli) (section_header size raw) (replicate 96 0) body

pub length_written : (root code resources : List ℕ) (entry : ℕ) → length (image_written root code resources entry) ≡ 512 + raw_size root code resources
unfolding image_written
length_written root code resources entry = length_image (section_size root code resources) (raw_size root code resources) (cli_place code) (section_size root code resources) (section_written root code resources entry) (length_section root code resources entry) refl

sections_again : (root code resources : List ℕ) (entry : ℕ) → Bounds root code resources → sections_of (image_written root code resources entry) header_span ≡ section_for (raw_size root code resources) ∷ []
sections_again root code resources entry few =
    let size = section_size root code resources in
    let raw = raw_size root code resources in
    let e = image_is root code resources entry in
    let l : length (laid_out root code resources entry) ≡ 512 + raw = ap length (sym e) ∙ length_written root code resources entry in
    ap (λ bytes. sections_of bytes header_span) e ∙ sections_read size raw (cli_place code) (behind_headers root code resources entry) (omega (arith, few.raw)) l

headers_again : (root code resources : List ℕ) (entry : ℕ) → Bounds root code resources → headers_of (image_written root code resources entry) ≡ Some (headers_for (cli_place code))
headers_again root code resources entry few =
    ap headers_of (image_is root code resources entry) ∙ all_read (section_size root code resources) (raw_size root code resources) (cli_place code) (behind_headers root code resources entry) (omega (arith, few.whole, few.raw, few.root_within, few.resources_within))

bare_again : (root code resources : List ℕ) (entry : ℕ) → is_bare (image_written root code resources entry) ≡ false
bare_again root code resources entry = ap is_bare (image_is root code resources entry) ∙ not_bare (optional_header (section_size root code resources) (raw_size root code resources) (cli_place code) ++ (section_header (section_size root code resources) (raw_size root code resources) ++ behind_headers root code resources entry))

read_again : (root code resources : List ℕ) (entry : ℕ) → Bounds root code resources → entry < 2 ^ 32 → container_of (image_written root code resources entry) ≡ Ok (container_for root code resources entry)
read_again root code resources entry few fits =
    let image = image_written root code resources entry in
    let raw = raw_size root code resources in
    let one = sections_again root code resources entry few in
    let cli_span : span_at image header_span (code_rva + cli_place code) 72 ≡ Some (record { start = 512 + cli_place code; len = 72 }) = span_there image raw (cli_place code) 72 one (omega (arith, few.whole, few.root_within, few.resources_within)) in
    let cli : cli_of image (headers_for (cli_place code)) ≡ Some (cli_for root code resources entry) = cli_of_from image (cli_place code) (record { start = 512 + cli_place code; len = 72 }) cli_span ∙ ap cli_in (cli_there root code resources entry) ∙ cli_again root code resources entry fits few in
    let metadata = span_there image raw (root_place code resources) (length root) one (omega (arith, few.whole, few.root_within)) in
    let kept = kept_there image raw code resources one (omega (arith, few.whole, few.root_within, few.resources_within)) in
    container_from image (container_for root code resources entry) (bare_again root code resources entry) (image_from image (headers_for (cli_place code)) (cli_for root code resources entry) (record { start = 512 + root_place code resources; len = length root }) (kept_span code resources) (headers_again root code resources entry few) cli metadata kept (no_debug image header_span))

loaded_again : (root code resources : List ℕ) (entry : ℕ) → Bounds root code resources → regions_of (image_written root code resources entry) header_span ≡ record { address = code_rva; bytes = code ++ behind_code root code resources entry } ∷ []
unfolding regions_of
loaded_again root code resources entry few =
    let image = image_written root code resources entry in
    let held : part image (record { start = 512; len = raw_size root code resources }) ≡ code ++ behind_code root code resources entry = body_there root code resources entry ∙ code_first root code resources entry in
    rw (sections_again root code resources entry few, held) refl

pub image_is_read : ImageIsRead
image_is_read root code resources entry small fits =
    let few = bounds root code resources small in
    let image = image_written root code resources entry in (
      container_for root code resources entry,
      read_again root code resources entry few fits,
      record {
        metadata = root_again root code resources entry;
        resources = kept_again image code resources (resources_again root code resources entry);
        entry = refl;
        bare = refl;
        behind = behind_code root code resources entry;
        loaded = loaded_again root code resources entry few;
      },
    )
