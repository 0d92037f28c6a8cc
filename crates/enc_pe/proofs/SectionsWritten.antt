-- The section of an image that is written: how long it is, and where its parts stand in it.
use Rattle.std.proofs.Common.{◌≡◌, ℕ, ◌+◌, ◌-◌, List, [], ◌++◌, length, replicate, refl, ap, ◌∙◌, arith}
use Rattle.std.proofs.lemmas.List.{append_assoc, length-append, length-replicate}
use Rattle.enc_pe.specs.Written.{rounded, filled_to, cli_place, resources_place, root_place, resources_rva, section_size, raw_size, cli_header, cli_written, section_written, headers_written, image_written}

-- bytes with zeros behind them
pub length_filled : (bytes : List ℕ) → length (filled_to 4 bytes) ≡ rounded 4 (length bytes)
length_filled bytes = omega (arith, length-append bytes (replicate (rounded 4 (length bytes) - length bytes) 0), length-replicate {A = ℕ} (rounded 4 (length bytes) - length bytes) 0)

pub length_cli : (metadata many entry resources few : ℕ) → length (cli_header metadata many entry resources few) ≡ 72
unfolding cli_header
length_cli metadata many entry resources few = refl

-- how much stands in front of each part
pub length_before_resources : (root code resources : List ℕ) (entry : ℕ) → length (filled_to 4 code ++ cli_written root code resources entry) ≡ resources_place code
length_before_resources root code resources entry = omega (arith, length-append (filled_to 4 code) (cli_written root code resources entry), length_filled code, length_cli (8192 + root_place code resources) (length root) entry (resources_rva code resources) (length resources))

pub length_before_root : (root code resources : List ℕ) (entry : ℕ) → length (filled_to 4 code ++ cli_written root code resources entry ++ filled_to 4 resources) ≡ root_place code resources
length_before_root root code resources entry = omega (arith, length-append (filled_to 4 code ++ cli_written root code resources entry) (filled_to 4 resources), length_before_resources root code resources entry, length_filled resources)

pub length_section : (root code resources : List ℕ) (entry : ℕ) → length (section_written root code resources entry) ≡ section_size root code resources
unfolding section_written
length_section root code resources entry = omega (arith, length-append (filled_to 4 code ++ cli_written root code resources entry ++ filled_to 4 resources) root, length_before_root root code resources entry)

-- what was put behind nothing is the image
pub joined_image : (root code resources : List ℕ) (entry size raw cli : ℕ) (o o1 o2 o3 : List ℕ) → size ≡ section_size root code resources → raw ≡ rounded 512 size → cli ≡ cli_place code → o ≡ [] → o1 ≡ o ++ headers_written size raw cli → o2 ≡ o1 ++ section_written root code resources entry → o3 ≡ o2 ++ replicate (raw - size) 0 → o3 ≡ image_written root code resources entry
unfolding image_written
joined_image root code resources entry size raw cli o o1 o2 o3 s r p h0 h1 h2 h3 =
    let section = section_written root code resources entry in
    let all : raw ≡ raw_size root code resources = r ∙ ap (rounded 512) s in
    let many : raw - size ≡ rounded 512 (length section) - length section = rw (length_section root code resources entry, all, s) refl in
    h3 ∙ rw (many, h2, h1, h0, all, s, p) (append_assoc (headers_written (section_size root code resources) (raw_size root code resources) (cli_place code)) section (replicate (rounded 512 (length section) - length section) 0))
