-- The PDB of a delta that was written says what is known of its methods.
use Rattle.std.proofs.Common.{◌≡◌, ℕ, ◌<◌, Bool, true, false, List, [], ◌∷◌, map, Ok, refl, sym, ap, ◌∙◌}
use Rattle.std.specs.Prelude.{◌^◌, ◌==◌}
use Rattle.std.specs.List.{list_all}
use Rattle.std.proofs.lemmas.Bool.{eqb-true}
use Rattle.enc_base.specs.declared.token.Token.{Token}
use Rattle.enc_emit.specs.Written.{has_ptr_rows, pdb_root_built, pdb_built_size}
use Rattle.enc_meta.specs.Built.{Built}
use Rattle.enc_meta.specs.BuiltLaws.{IsGood}
use Rattle.enc_meta.proofs.BuiltMeanings.{all_texts_count}
use Rattle.enc_plain.specs.Debug.{PlainPdb}
use Rattle.enc_plain.specs.SoundDebug.{IsSoundPdb}
use Rattle.enc_rows.specs.Layout.{is_pdb_table}
use Rattle.enc_rows.specs.Source.{Source}
use Rattle.enc_rows.specs.Written.{count_at, AreRows, IndicesFit}
use Rattle.enc_ppdb.specs.Fault.{pdb_delta_of}
use Rattle.enc_ppdb.specs.Misplaced.{debug_token}
use Rattle.enc_ppdb.specs.Written.{pdb_stream}
use Rattle.enc_ppdb.proofs.PdbRead.{IsPdbReadAs, pdb_is_read}
use Rattle.enc_pdb_writer.specs.Holding.{HoldPdbDelta}
use Rattle.enc_pdb_writer.specs.Listed.{has_short_row}
use Rattle.enc_pdb_writer.specs.Methods.{SaysMethods}
use Rattle.enc_pdb_writer.proofs.DeltaRead.{document_here, method_back, tokens_are, not_refused}

-- no table but those of a PDB has rows
none_else : (p : PlainPdb) (numbers : List ℕ) (h : Built) (rows : List (List (List ℕ))) (t : ℕ) → HoldPdbDelta p numbers h rows → is_pdb_table t ≡ false → count_at rows t ≡ 0
none_else p numbers h rows t held e = held.others t (by t 0x30 refl e) (by t 0x31 refl e) (by t 0x1F refl e)
  where
    by : (t u : ℕ) → is_pdb_table u ≡ true → is_pdb_table t ≡ false → (t == u) ≡ false
    by t u there none = with_test (t == u) refl
      where
        with_test : (b : Bool) → (t == u) ≡ b → b ≡ false
        with_test false e = refl
        with_test true e = let same : t ≡ u = eqb-true t u e in let f : true ≡ false = sym there ∙ ap is_pdb_table (sym same) ∙ none in absurd (cc)

-- the rows that tokens name
rows_named : (rows : List ℕ) → map (λ (t : Token). t.row) (map debug_token rows) ≡ rows
rows_named [] = refl
rows_named (row ∷ rows) = ap (λ (ns : List ℕ). row ∷ ns) (rows_named rows)

-- what is read says the methods
source_says : (p : PlainPdb) (numbers : List ℕ) (h : Built) (rows : List (List (List ℕ))) (s : Source) (bytes : List ℕ) → IsSoundPdb p → list_all has_short_row numbers ≡ true → IsPdbReadAs h rows s → HoldPdbDelta p numbers h rows
    → pdb_delta_of bytes ≡ Ok s → SaysMethods p numbers bytes
source_says p numbers h rows s bytes sound short is held read = record {
  source = s;
  read = read;
  named = ap (map (λ (t : Token). t.row)) (tokens_are p numbers h rows s is held short) ∙ rows_named numbers;
  says = λ k lt. method_back p numbers h rows s is held k sound lt;
  several = λ k lt. document_here p numbers h rows s is held k lt;
}

pub methods_said : (p : PlainPdb) (numbers : List ℕ) (h : Built) (rows : List (List (List ℕ))) → IsSoundPdb p → list_all has_short_row numbers ≡ true → HoldPdbDelta p numbers h rows → IsGood h → AreRows rows → IndicesFit rows false
    → pdb_built_size (record { heaps = h; rows = rows }) (pdb_stream 0) < 2 ^ 32 → SaysMethods p numbers (pdb_root_built (record { heaps = h; rows = rows }) (pdb_stream 0))
unfolding pdb_root_built
methods_said p numbers h rows sound short held good rowed fit small =
    let r = pdb_is_read h rows (has_ptr_rows rows) 0 rowed fit (λ t e. none_else p numbers h rows t held e) small (all_texts_count h good) in
    source_says p numbers h rows r.0 _ sound short r.2 held (not_refused p numbers h rows r.0 r.2 held _ sound short r.1)
