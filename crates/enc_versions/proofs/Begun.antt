-- Versions that stand for methods, one by one.
use Rattle.std.proofs.Common.{◌≡◌, ℕ, zero, suc, ◌+◌, ◌<◌, ◌⊎◌, inl, inr, true, List, [], ◌∷◌, ◌++◌, Option, None, sym, ap, subst, arith, length-append, eq-or-lt_of_le, le_of_eq}
use Rattle.std.proofs.lemmas.Bool.Decides.{nat_tests}
use Rattle.std.proofs.Math.Seq.{get_or-append_seam}
use Rattle.std.proofs.lemmas.List.{get_or_append_left}
use Rattle.std.specs.Prelude.{length, get_or, IsTrue, ◌&&◌, nat_lt, nat_le}
use Rattle.enc_base.specs.Token.{nth_row}
use Rattle.enc_plain.specs.Debug.{PlainPdb}
use Rattle.enc_plain.specs.Module.{Module, rows_in, has_row}
use Rattle.enc_base.specs.Tables.{method_def}
use Rattle.enc_versions.specs.StandFor.{IsVersionOf, AreVersionsOf}
use Rattle.enc_versions.specs.Version.{Version, newest_of}

-- each of these stands for the method of its row
abbrev pub EachVersion : (ℕ → Option (List ℕ)) → Module → PlainPdb → List (Option Version) → Type 0
EachVersion users m pdb methods = (n : ℕ) → n < length methods → IsVersionOf users m pdb (nth_row method_def n) (get_or methods n None)

pub each_none : (users : ℕ → Option (List ℕ)) (m : Module) (pdb : PlainPdb) → EachVersion users m pdb []
each_none users m pdb n low = grind arith

one_more : (users : ℕ → Option (List ℕ)) (m : Module) (pdb : PlainPdb) (methods : List (Option Version)) (v : Option Version) (n : ℕ) → EachVersion users m pdb methods → IsVersionOf users m pdb (nth_row method_def (length methods)) v → (n ≡ length methods) ⊎ (n < length methods) → IsVersionOf users m pdb (nth_row method_def n) (get_or (methods ++ v ∷ []) n None)
one_more users m pdb methods v n each new (inr low) = rw (get_or_append_left methods (v ∷ []) None n low) (each n low)
one_more users m pdb methods v n each new (inl same) = rw (same, get_or-append_seam methods v [] None) new

pub each_more : (users : ℕ → Option (List ℕ)) (m : Module) (pdb : PlainPdb) (methods : List (Option Version)) (v : Option Version) (at : ℕ) → EachVersion users m pdb methods → length methods ≡ at → IsVersionOf users m pdb (nth_row method_def at) v → EachVersion users m pdb (methods ++ v ∷ [])
each_more users m pdb methods v at each size new n low =
    let longer = length-append methods (v ∷ []) in
    let here : (n ≡ length methods) ⊎ (n < length methods) = eq-or-lt_of_le (omega (arith, longer, low)) in
    one_more users m pdb methods v n each (rw size new) here

low_of : (i count : ℕ) → (nat_lt 0 (suc i) && nat_le (suc i) count) ≡ true → i < count
low_of i count is = grind (arith, nat_tests)

stands_at : (users : ℕ → Option (List ℕ)) (m : Module) (pdb : PlainPdb) (methods : List (Option Version)) → EachVersion users m pdb methods → length methods ≡ length (rows_in m method_def) → (table row : ℕ) → table ≡ method_def → IsTrue (has_row m (record { table = table; row = row })) → IsVersionOf users m pdb (record { table = table; row = row }) (newest_of methods (record { table = table; row = row }))
unfolding newest_of has_row
stands_at users m pdb methods each size table zero is there = grind arith
stands_at users m pdb methods each size table (suc i) is there =
    let e : i + 1 ≡ suc i = omega arith in
    let low : i < length methods = omega (arith, size, low_of i (length (rows_in m table)) there, ap (λ t. length (rows_in m t)) is) in
    let here : IsVersionOf users m pdb (record { table = method_def; row = suc i }) (get_or methods i None) = subst (λ r. IsVersionOf users m pdb (record { table = method_def; row = r }) (get_or methods i None)) e (each i low) in
    subst (λ t. IsVersionOf users m pdb (record { table = t; row = suc i }) (newest_of methods (record { table = t; row = suc i }))) (sym is) here

pub all_stand : (users : ℕ → Option (List ℕ)) (m : Module) (pdb : PlainPdb) (methods : List (Option Version)) → EachVersion users m pdb methods → length methods ≡ length (rows_in m method_def) → AreVersionsOf users m pdb methods
all_stand users m pdb methods each size = record {
  within = le_of_eq size;
  each = λ method is there. stands_at users m pdb methods each size method.table method.row is there;
}

pub ruleset begun_steps = (each_none, each_more, all_stand)
