-- The headers of an image that is written: how long they are, and what is read of them.
use Rattle.std.proofs.Common.{◌≡◌, ℕ, ◌-◌, List, ◌++◌, length, replicate, refl, ap, ◌∙◌, arith}
use Rattle.std.proofs.lemmas.List.{append_assoc, length-append}
use Rattle.enc_pe.specs.Written.{rounded, headers_size, dos_header, coff_header, standard_fields, nt_fields, directories, optional_header, section_header, headers_written}

-- bytes that were put behind others one after the other stand there as a whole
pub joined_headers : (o a b c d e f g o1 o2 o3 o4 o5 o6 o7 : List ℕ) → o1 ≡ o ++ a → o2 ≡ o1 ++ b → o3 ≡ o2 ++ c → o4 ≡ o3 ++ d → o5 ≡ o4 ++ e → o6 ≡ o5 ++ f → o7 ≡ o6 ++ g → o7 ≡ o ++ (a ++ b ++ (c ++ d ++ e) ++ f ++ g)
joined_headers o a b c d e f g o1 o2 o3 o4 o5 o6 o7 h1 h2 h3 h4 h5 h6 h7 = h7 ∙ rw (h6, h5, h4, h3, h2, h1) (simp append_assoc)

-- how long each header is
pub length_front : length (dos_header ++ coff_header) ≡ 152
unfolding dos_header coff_header
length_front = refl

pub length_optional : (size raw cli : ℕ) → length (optional_header size raw cli) ≡ 224
unfolding standard_fields nt_fields directories
length_optional size raw cli = refl

pub length_section_header : (size raw : ℕ) → length (section_header size raw) ≡ 40
unfolding section_header
length_section_header size raw = refl

length_all : (size raw cli : ℕ) → length (dos_header ++ coff_header ++ optional_header size raw cli ++ section_header size raw) ≡ 416
length_all size raw cli = omega (arith, length-append (dos_header ++ coff_header ++ optional_header size raw cli) (section_header size raw), length-append (dos_header ++ coff_header) (optional_header size raw cli), length_front, length_optional size raw cli, length_section_header size raw)

-- the headers, up to 512 bytes
pub headers_are : (size raw cli : ℕ) → headers_written size raw cli ≡ dos_header ++ coff_header ++ optional_header size raw cli ++ section_header size raw ++ replicate 96 0
unfolding headers_written
headers_are size raw cli = ap (λ n. (dos_header ++ coff_header ++ optional_header size raw cli ++ section_header size raw) ++ replicate (rounded headers_size n - n) 0) (length_all size raw cli)

pub length_headers : (size raw cli : ℕ) → length (headers_written size raw cli) ≡ 512
length_headers size raw cli = ap length (headers_are size raw cli) ∙ omega (arith, length-append (dos_header ++ coff_header ++ optional_header size raw cli ++ section_header size raw) (replicate 96 0), length_all size raw cli)
