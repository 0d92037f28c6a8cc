-- A module of few light rows passes no limit of the rewriter, with a PDB in which nothing is known.
use Rattle.std.proofs.Common.{◌≡◌, ℕ, zero, suc, ◌+◌, ◌*◌, ◌≤◌, ◌^◌, false, List, [], length, None, refl, ap, arith}
use Rattle.std.specs.Prelude.{sum_by}
use Rattle.enc_base.specs.Token.{nth_row}
use Rattle.enc_base.specs.declared.token.Token.{Token}
use Rattle.enc_rows.specs.Sums.{sum_below}
use Rattle.enc_base.specs.Tables.{method_def}
use Rattle.enc_plain.specs.Debug.{PlainPdb, unknown}
use Rattle.enc_plain.specs.Module.{Module, Row}
use Rattle.enc_plain.specs.Sound.{row_count}
use Rattle.enc_ppdb.specs.Written.{nth_method, with_points, documents_of, document_weight, method_weight, pdb_weight}
use Rattle.enc_rewriter.specs.Limits.{is_heavy, image_limit, pdb_limit, rewrite_limit}
use Rattle.enc_rewriter.specs.Values.{heaps_for, heap_size, heap_limit, passes_limit, too_large_heap}
use Rattle.enc_rewriter.specs.Weight.{module_weight}
use Rattle.enc_rewriter.specs.declared.pass.Pass.{Pass}
use Rattle.enc_rewriter.specs.declared.pass.Pass.TheVariants as pass
use Rattle.enc_generator.proofs.Sums.{below_most, within_all, not_past, not_there}
use Rattle.enc_generator.proofs.Light.{IsLittle}
use Rattle.enc_generator.proofs.Weighed.{size_few, module_weighs}

-- no heap and no weight is too much
least_limit : (p : Pass) → 2 ^ 24 ≤ heap_limit p
least_limit pass.Texts = omega arith
least_limit pass.Users = omega arith
least_limit pass.Blobs = omega arith
least_limit pass.Guids = omega arith

no_heap : (p : Pass) (n : ℕ) (m : Module) → n ≤ 2 ^ 12 → IsLittle n m → passes_limit p m ≡ false
unfolding passes_limit
no_heap p n m few little =
    let size = size_few p n m little in
    let least = least_limit p in
    not_past (heap_limit p) (heap_size p (heaps_for m)) (omega (arith, size, least, few))

no_heaps_large : (n : ℕ) (m : Module) → n ≤ 2 ^ 12 → IsLittle n m → too_large_heap m ≡ None
unfolding too_large_heap
no_heaps_large n m few little = rw (no_heap pass.Texts n m few little, no_heap pass.Users n m few little, no_heap pass.Blobs n m few little, no_heap pass.Guids n m few little) refl

not_heavy : (n : ℕ) (m : Module) → n ≤ 2 ^ 12 → IsLittle n m → is_heavy m ≡ false
unfolding is_heavy
not_heavy n m few little = let weight = module_weighs n m little in not_there (2 ^ 31) (module_weight m (heaps_for m)) (omega (arith, weight, few))

image_none : (n : ℕ) (m : Module) → n ≤ 2 ^ 12 → IsLittle n m → image_limit m ≡ None
unfolding image_limit
image_none n m few little = rw (no_heaps_large n m few little, not_heavy n m few little) refl

-- a PDB in which nothing is known has no documents, and no points
abbrev KnowsNothing : PlainPdb → Type 0
KnowsNothing p = (method : Token) → p method ≡ unknown

no_documents : (p : PlainPdb) (n : ℕ) → KnowsNothing p → documents_of p n ≡ []
unfolding documents_of with_points
no_documents p zero nothing = refl
no_documents p (suc n) nothing = rw (nothing (nth_row method_def n), no_documents p n nothing) refl

methods_weigh : (p : PlainPdb) (n : ℕ) → KnowsNothing p → sum_below (λ i. method_weight (nth_method p i)) n ≤ 64 * n
methods_weigh p n nothing = below_most (λ i. method_weight (nth_method p i)) 64 n (λ i. rw (nothing (nth_row method_def i)) (omega arith))

pdb_weighs : (p : PlainPdb) (n : ℕ) → KnowsNothing p → pdb_weight p n ≤ 65536 + 64 * n
unfolding pdb_weight
pdb_weighs p n nothing =
    let methods = methods_weigh p n nothing in
    let none : sum_by document_weight (documents_of p n) ≡ 0 = ap (λ ds. sum_by document_weight ds) (no_documents p n nothing) in
    omega (arith, methods, none)

pdb_none : (n : ℕ) (m : Module) (p : PlainPdb) → n ≤ 2 ^ 12 → IsLittle n m → KnowsNothing p → pdb_limit m p ≡ None
unfolding pdb_limit
pdb_none n m p few little nothing =
    let weight = pdb_weighs p (row_count m method_def) nothing in
    let all = within_all (λ (rows : List Row). length rows) m.tables method_def refl in
    let rows = little.few in
    rw (not_past (2 ^ 29) (pdb_weight p (row_count m method_def)) (omega (arith, weight, all, rows, few))) refl

pub rewrite_none : (n : ℕ) (m : Module) (p : PlainPdb) → n ≤ 2 ^ 12 → IsLittle n m → KnowsNothing p → rewrite_limit m p ≡ None
unfolding rewrite_limit
rewrite_none n m p few little nothing = rw (image_none n m few little, pdb_none n m p few little nothing) refl
