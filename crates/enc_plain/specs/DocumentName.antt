-- The name of a document, put together from parts (Portable PDB v1.0, Document Name Blob).
use Rattle.std.specs.Prelude.{ℕ, zero, suc, List, [], ◌∷◌, ◌++◌, length, drop, Option, Some, None, option_map, option_and_then}
use Rattle.enc_base.specs.Numbers.{compressed}
use Rattle.enc_meta.specs.Heaps.{blob_at}

-- a part of a document's name: the compressed offset of a blob
unfoldable pub part_in : List ℕ → List ℕ → Option (List ℕ × List ℕ)
part_in blobs bytes =
    option_and_then (λ (number : ℕ × ℕ). option_map (λ (text : List ℕ). (text, drop number.1 bytes))
    (blob_at blobs number.0)) (compressed bytes)

-- the parts to the end of the bytes, of which there are no more than bytes
unfoldable pub name_parts_in : List ℕ → ℕ → List ℕ → Option (List (List ℕ))
name_parts_in blobs n [] = Some []
name_parts_in blobs zero (x ∷ rest) = None
name_parts_in blobs (suc n) (x ∷ rest) =
    option_and_then (λ (p : List ℕ × List ℕ). option_map (λ (texts : List (List ℕ)). p.0 ∷ texts)
    (name_parts_in blobs n p.1))
    (part_in blobs (x ∷ rest))

-- the texts with the separator between them; a separator of 0 is none
abbrev pub separator_bytes : ℕ → List ℕ
separator_bytes zero = []
separator_bytes (suc n) = suc n ∷ []

unfoldable pub name_joined : ℕ → List (List ℕ) → List ℕ
name_joined separator [] = []
name_joined separator (text ∷ []) = text
name_joined separator (text ∷ next ∷ texts) =
    text ++ (separator_bytes separator ++ name_joined separator (next ∷ texts))

-- a document's name: a separator of one byte, and the parts
unfoldable pub document_name_in : List ℕ → List ℕ → Option (List ℕ)
document_name_in blobs [] = None
document_name_in blobs (separator ∷ rest) = option_map (name_joined separator) (name_parts_in blobs (length rest) rest)
