-- The numbers of a delta's Module row.
use Rattle.std.proofs.Common.{◌≡◌, ℕ, ◌+◌, ◌<◌, Bool, true, false, List, [], ◌∷◌, ◌++◌, length, Some, refl, sym, ap, ◌∙◌, arith}
use Rattle.std.specs.Prelude.{◌^◌, ◌||◌, ◌==◌, nat_lt, bytes_eq, if◌then◌else◌}
use Rattle.std.proofs.lemmas.Bool.Decides.{nat_tests}
use Rattle.enc_meta.specs.Built.{Built, is_guid_kept, guid_number, heaps_built}
use Rattle.enc_meta.specs.BuiltLaws.{IsGood, ArePast, heaps_joined}
use Rattle.enc_meta.specs.Heaps.{nil_guid}
use Rattle.enc_meta.specs.Joined.{joined_guid}
use Rattle.enc_meta.proofs.BuiltMeanings.{guids_are_read}
use Rattle.enc_plain.specs.Cell.{guid, guids, kind_in}
use Rattle.enc_plain.specs.Chain.{Chain, guid_in, mvid_of, id_of}
use Rattle.enc_plain.specs.Module.{Module, has_row, cell_of}
use Rattle.enc_plain.specs.Sound.{IsSound}
use Rattle.enc_plain.proofs.KindsOf.{row_there}
use Rattle.enc_rows.specs.Written.{rows_at}
use Rattle.enc_schema.specs.Schema.{columns_in}
use Rattle.enc_edit_list.specs.declared.edit.EditList.{EditList}
use Rattle.enc_rules.specs.Rules.{there_are_too_many}
use Rattle.enc_list_delta.specs.Holds.{MayFollow, heaps_written}
use Rattle.enc_list_delta.proofs.HeapRules.{guids_are}
use Rattle.enc_list_delta.proofs.ModuleRules.{same_bytes}
use Rattle.enc_list_delta.proofs.TokensUnbroken.{other_rules}
use Rattle.enc_writer.specs.Writing.{row_fits_wide, IsModuleWritten}
use Rattle.enc_writer.proofs.GuidsNamed.{named_further}
use Rattle.enc_writer.proofs.HeapsPast.{chain_past}

-- a sound module has its Module row
pub module_there : (m : Module) → IsSound m → has_row m (record { table = 0; row = 1 }) ≡ true
module_there m sound = row_there m (record { table = 0; row = 1 }) (omega arith) (omega (arith, sound.counts.single))

pub mvid_kind : kind_in 0 2 ≡ Some guids
unfolding columns_in
mvid_kind = refl

-- the list's EncId is kept
enc_id_among : (xs : List (List ℕ)) (g : List ℕ) → xs ≡ g ∷ [] → is_guid_kept xs g ≡ true
unfolding is_guid_kept
enc_id_among xs g is = rw (is, same_bytes g) (by (bytes_eq g nil_guid))
  where
    by : (b : Bool) → (b || (true || false)) ≡ true
    by true = refl
    by false = refl

pub id_is_kept : (c : Chain) (l : EditList) (h : Built) → MayFollow c l → h ≡ heaps_written c l → is_guid_kept h.guids l.enc_id ≡ true
id_is_kept c l h may is = ap (λ (b : Built). is_guid_kept b.guids l.enc_id) is ∙ enc_id_among (heaps_written c l).guids l.enc_id (guids_are c l may)

-- so it is read at its number
pub id_is_read : (c : Chain) (l : EditList) (h : Built) (k : ℕ) → MayFollow c l → h ≡ heaps_written c l → IsGood h → k ≡ guid_number h l.enc_id
    → joined_guid (heaps_joined c.heaps (heaps_written c l)) k ≡ Some l.enc_id
id_is_read c l h k may is good number =
    let kept = id_is_kept c l h may is in
    let past : ArePast c.heaps h.starts = rw is (chain_past c l) in
    ap (λ (b : Built). joined_guid (heaps_joined c.heaps b) k) (sym is)
    ∙ ap (joined_guid (heaps_joined c.heaps h)) number
    ∙ guids_are_read c.heaps h l.enc_id good past kept

pub some_columns : nat_lt 0 (length (columns_in 0)) ≡ true
unfolding columns_in
some_columns = refl

pub five_columns : 5 ≡ length (columns_in 0)
unfolding columns_in
five_columns = refl

-- the next generation has two bytes
generation_fits : (c : Chain) (l : EditList) → MayFollow c l → length c.ids + 1 < 0x10000
unfolding there_are_too_many
generation_fits c l may = by (nat_lt 65535 (length c.ids + 1)) refl (other_rules c l may).few
  where
    by : (b : Bool) → nat_lt 65535 (length c.ids + 1) ≡ b → there_are_too_many c l ≡ false → length c.ids + 1 < 0x10000
    by true is h = let bad : true ≡ false = rw is at h in absurd cc
    by false is h = grind (arith, nat_tests, is)

low_fits : (x : ℕ) → x < 2 ^ 32 → nat_lt x (2 ^ 32) ≡ true
low_fits x low = grind (arith, nat_tests, low)

module_fits : (generation mvid enc_id last : ℕ) → generation < 0x10000 → mvid < 2 ^ 32 → enc_id < 2 ^ 32 → last < 2 ^ 32 → row_fits_wide (columns_in 0) (generation ∷ 0 ∷ mvid ∷ enc_id ∷ last ∷ []) ≡ true
unfolding columns_in
module_fits generation mvid enc_id last g m e l =
    let first : nat_lt generation 0x10000 ≡ true = grind (arith, nat_tests, g) in
    rw (first, low_fits mvid m, low_fits enc_id e, low_fits last l) refl

pub module_written : (c : Chain) (l : EditList) (old new : List (List (List ℕ))) (generation mvid enc_id last : ℕ) → MayFollow c l → rows_at old 0 ≡ []
    → ((k : ℕ) → rows_at new k ≡ (if k == 0 then rows_at old k ++ (generation ∷ 0 ∷ mvid ∷ enc_id ∷ last ∷ []) ∷ [] else rows_at old k))
    → generation ≡ length c.ids + 1 → mvid < 2 ^ 32 → enc_id < 2 ^ 32 → last < 2 ^ 32
    → joined_guid c.heaps mvid ≡ Some (mvid_of c) → joined_guid (heaps_joined c.heaps (heaps_written c l)) enc_id ≡ Some l.enc_id
    → joined_guid c.heaps last ≡ Some (id_of c (length c.ids)) → IsModuleWritten c l new
module_written c l old new generation mvid enc_id last may none pushed next m e b mvid_named enc_id_named last_named =
    let numbers : List ℕ = generation ∷ 0 ∷ mvid ∷ enc_id ∷ last ∷ [] in
    let row : rows_at new 0 ≡ numbers ∷ [] = pushed 0 ∙ rw none refl in
    let low : generation < 0x10000 = let n = generation_fits c l may in omega (arith, n, next) in
    let one : row_fits_wide (columns_in 0) numbers ≡ true = module_fits generation mvid enc_id last low m e b in
    record {
      numbers = numbers;
      row = row;
      says = record {
        generation = next;
        mvid = named_further c.heaps (heaps_built (heaps_written c l)) (mvid_of c) mvid mvid_named;
        enc_id = enc_id_named;
        base = named_further c.heaps (heaps_built (heaps_written c l)) (id_of c (length c.ids)) last last_named;
      };
      fit = rw row (rw one refl);
    }

-- the Mvid that a view tells
pub mvid_is : (c : Chain) (g : List ℕ) → cell_of c.plain (record { table = 0; row = 1 }) 2 ≡ Some (guid g) → g ≡ mvid_of c
mvid_is c g is = sym (ap guid_in is)
