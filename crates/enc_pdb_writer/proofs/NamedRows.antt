-- Rows of EncMap that are added one behind the other.
use Rattle.std.proofs.Common.{◌≡◌, ℕ, ◌+◌, ◌<◌, Bool, true, false, List, [], ◌∷◌, ◌++◌, length, map, take, get_or, ap, ◌∙◌, append_assoc}
use Rattle.std.specs.Prelude.{◌==◌, if◌then◌else◌}
use Rattle.std.proofs.lemmas.List.{take_more, map-append}
use Rattle.enc_rows.specs.Written.{rows_at}
use Rattle.enc_base.specs.Tables as tables
use Rattle.enc_pdb_writer.specs.Holding.{map_cells, MoreNamed}

more_by : (b : Bool) (old mid new more cells : List (List ℕ)) → mid ≡ (if b then old ++ more else old) → new ≡ (if b then mid ++ cells else mid) → new ≡ (if b then old ++ (more ++ cells) else old)
more_by true old mid new more cells a e = e ∙ ap (λ (xs : List (List ℕ)). xs ++ cells) a ∙ append_assoc old more cells
more_by false old mid new more cells a e = e ∙ a

named_twice : (old mid new : List (List (List ℕ))) (more cells : List (List ℕ)) → MoreNamed old mid more → MoreNamed mid new cells → MoreNamed old new (more ++ cells)
named_twice old mid new more cells a b k = more_by (k == tables.enc_map) (rows_at old k) (rows_at mid k) (rows_at new k) more cells (a k) (b k)

cells_more : (numbers : List ℕ) (i d : ℕ) → i < length numbers → map map_cells (take (i + 1) numbers) ≡ map map_cells (take i numbers) ++ map_cells (get_or numbers i d) ∷ []
cells_more numbers i d low = ap (map map_cells) (take_more numbers i d low) ∙ map-append map_cells (take i numbers) (get_or numbers i d ∷ [])

-- one method more is named
pub named_more : (old mid new : List (List (List ℕ))) (numbers : List ℕ) (i d : ℕ) (cells : List ℕ) → i < length numbers → MoreNamed old mid (map map_cells (take i numbers)) → MoreNamed mid new (cells ∷ [])
    → map_cells (get_or numbers i d) ≡ cells → MoreNamed old new (map map_cells (take (i + 1) numbers))
named_more old mid new numbers i d cells low a b is =
    rw (cells_more numbers i d low, is) (named_twice old mid new (map map_cells (take i numbers)) (cells ∷ []) a b)
