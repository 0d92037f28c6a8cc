-- A root with heaps and no rows is read back.
use Rattle.std.proofs.Common.{◌≡◌, ℕ, ◌<◌, true, false, List, [], length, Ok, refl, sym, ap, subst, ◌∙◌, arith}
use Rattle.std.specs.Prelude.{◌^◌, is_ok, Result}
use Rattle.enc_base.specs.declared.refusal.Refusal.{Refusal}
use Rattle.enc_emit.specs.Written.{PdbRootIsRead, has_ptr_rows, pdb_root_built, pdb_built_size}
use Rattle.enc_meta.specs.Built.{Built, AreWithinLimits, heaps_built}
use Rattle.enc_meta.specs.BuiltLaws.{IsGood}
use Rattle.enc_meta.specs.Heaps.{heaps_of}
use Rattle.enc_meta.specs.Root.{root_of}
use Rattle.enc_meta.specs.declared.root.Root.{Root}
use Rattle.enc_meta.proofs.BuiltMeanings.{all_texts_count}
use Rattle.enc_plain.specs.Debug.{PlainPdb, unknown}
use Rattle.enc_rows.specs.Written.{AreRows, stream_of, heap_bits}
use Rattle.enc_ppdb.specs.Written.{documents_of, pdb_starts, HoldPdb}
use Rattle.enc_ppdb.proofs.PdbFits.{root_fits}

nothing : PlainPdb
nothing method = unknown

none_held : (h : Built) → h.starts ≡ pdb_starts → HoldPdb nothing 0 h []
unfolding documents_of
none_held h none = record {
  starts = none;
  documents = refl;
  document = λ n d cells at row. absurd cc;
  methods = refl;
  method = λ n cells row. absurd cc;
  others = λ table a b. refl;
}

no_rows : AreRows []
no_rows = record { tables = omega arith; few = λ table. omega arith; cells = λ table. refl; words = λ table. refl }

-- it fits four bytes
pub names_fit : (h : Built) (rows : List (List (List ℕ))) (pdb : List ℕ) → rows ≡ [] → h.starts ≡ pdb_starts → IsGood h → AreWithinLimits h → length pdb ≡ 32 → pdb_built_size (record { heaps = h; rows = rows }) pdb < 2 ^ 32
names_fit h rows pdb is none good within long =
    subst (λ (r : List (List (List ℕ))). pdb_built_size (record { heaps = h; rows = r }) pdb < 2 ^ 32) (sym is)
    (root_fits nothing 0 h [] pdb (none_held h none) good within no_rows (omega arith) (omega arith) long)

-- it is read, with these heaps
pub names_read : (h : Built) (rows : List (List (List ℕ))) (pdb : List ℕ) → PdbRootIsRead → IsGood h → pdb_built_size (record { heaps = h; rows = rows }) pdb < 2 ^ 32
    → (root : Root) × (root_of (pdb_root_built (record { heaps = h; rows = rows }) pdb) ≡ Ok root) × (heaps_of (pdb_root_built (record { heaps = h; rows = rows }) pdb) root ≡ heaps_built h)
unfolding pdb_root_built
names_read h rows pdb law good small =
    let r = law pdb (has_ptr_rows rows) (stream_of rows false (heap_bits rows)) (heaps_built h) small (all_texts_count h good) in
    (r.0, r.1, r.2.heaps)

root_is : (bytes written : List ℕ) (root : Root) → bytes ≡ written → root_of written ≡ Ok root → root_of bytes ≡ Ok root
root_is bytes written root is read = ap root_of is ∙ read

pub read_ok : (bytes written : List ℕ) (root : Root) → bytes ≡ written → root_of written ≡ Ok root → is_ok (root_of bytes) ≡ true
read_ok bytes written root is read = ap is_ok (root_is bytes written root is read)

abbrev ok : Root → Result Root Refusal
ok root = Ok root

pub heaps_read : (h : Built) (bytes written : List ℕ) (root any : Root) → bytes ≡ written → root_of written ≡ Ok root → heaps_of written root ≡ heaps_built h → root_of bytes ≡ Ok any → heaps_of bytes any ≡ heaps_built h
heaps_read h bytes written root any is read heaps here =
    let both : ok any ≡ ok root = sym here ∙ root_is bytes written root is read in
    let same : any ≡ root = cc in
    rw (is, same) heaps
