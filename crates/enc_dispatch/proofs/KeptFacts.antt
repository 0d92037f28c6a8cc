-- What the index keeps of rows is what the module says of them.
use Rattle.std.proofs.Common.{◌≡◌, ℕ, zero, suc, ◌<◌, ◌≤◌, Bool, true, false, List, [], ◌∷◌, length, Option, Some, None, IsTrue, slice_get, refl, sym, subst, arith}
use Rattle.std.specs.Prelude.{option_and_then, if◌then◌else◌, ◌==◌}
use Rattle.std.proofs.lemmas.Bool.{eqb-true}
use Rattle.enc_base.specs.declared.token.Token.{Token}
use Rattle.enc_base.specs.Tables as tables
use Rattle.enc_objects.specs.declared.kind.Kind.{Kind}
use Rattle.enc_plain.specs.Module.{Module, has_row, owner_of}
use Rattle.enc_dispatch.specs.declared.locals_part.LocalsPart.{LocalsPart}
use Rattle.enc_dispatch.specs.declared.method_part.MethodPart.{MethodPart}
use Rattle.enc_dispatch.specs.Index.{StandsForModule}
use Rattle.enc_dispatch.specs.Parts.{nth_part, EachPart}
use Rattle.enc_dispatch.specs.Stored.{DispatchParts, kind_of_local, kept_local, IsLocalsPart}
use Rattle.enc_dispatch.specs.Walks.{method_at}
use Rattle.enc_dispatch.proofs.Kept.{row_bounds}

by_part : (m : Module) (parts : List LocalsPart) (row n : ℕ) (k : Option Kind) → EachPart (IsLocalsPart m) parts
    → option_and_then (λ (p : LocalsPart). slice_get p.kinds n) (nth_part parts row) ≡ Some k → k ≡ kind_of_local m (record { table = tables.stand_alone_sig; row = row }) n
by_part m parts zero n k each e = absurd cc
by_part m parts (suc i) n k each e = at_part (slice_get parts i) refl e
  where
    at_part : (o : Option LocalsPart) → slice_get parts i ≡ o → option_and_then (λ (p : LocalsPart). slice_get p.kinds n) o ≡ Some k → k ≡ kind_of_local m (record { table = tables.stand_alone_sig; row = suc i }) n
    at_part None is e = absurd cc
    at_part (Some p) is e = subst (λ row. k ≡ kind_of_local m (record { table = tables.stand_alone_sig; row = row }) n) (omega arith) (each i p is n k e)

by_table : (m : Module) (d : DispatchParts) (t : Token) (n : ℕ) (k : Option Kind) (b : Bool) → EachPart (IsLocalsPart m) d.locals → (t.table == tables.stand_alone_sig) ≡ b
    → (if b then option_and_then (λ (p : LocalsPart). slice_get p.kinds n) (nth_part d.locals t.row) else None) ≡ Some k → k ≡ kind_of_local m t n
by_table m d t n k false each at e = absurd cc
by_table m d t n k true each at e =
    subst (λ table. k ≡ kind_of_local m (record { table = table; row = t.row }) n) (sym (eqb-true t.table tables.stand_alone_sig at)) (by_part m d.locals t.row n k each e)

pub kept_is : (m : Module) (d : DispatchParts) (t : Token) (n : ℕ) (k : Option Kind) → StandsForModule d m → kept_local d t n ≡ Some k → k ≡ kind_of_local m t n
unfolding kept_local
kept_is m d t n k stands e = by_table m d t n k (t.table == tables.stand_alone_sig) stands.locals refl e

-- a method has its part
part_of_row : (m : Module) (d : DispatchParts) (row : ℕ) (p : MethodPart) → StandsForModule d m → nth_part d.methods row ≡ Some p → owner_of m (method_at row) ≡ Some p.owner
part_of_row m d zero p stands e = absurd cc
part_of_row m d (suc i) p stands e = subst (λ row. owner_of m (method_at row) ≡ Some p.owner) (omega arith) (stands.methods i p e).owner

pub owner_is : (m : Module) (d : DispatchParts) (t : Token) (p : MethodPart) → StandsForModule d m → t.table ≡ tables.method_def → nth_part d.methods t.row ≡ Some p → owner_of m t ≡ Some p.owner
owner_is m d t p stands at e = subst (λ table. owner_of m (record { table = table; row = t.row }) ≡ Some p.owner) (sym at) (part_of_row m d t.row p stands e)

part_there : {A : Type 0} (parts : List A) (row : ℕ) → 1 ≤ row → row ≤ length parts → nth_part parts row ≡ None → ⊥
part_there parts zero low high e = absurd (omega (arith, low))
part_there parts (suc i) low high e = within parts i (omega (arith, high)) e
  where
    within : {A : Type 0} (xs : List A) (k : ℕ) → k < length xs → slice_get xs k ≡ None → ⊥
    within [] k low e = absurd (omega (arith, low))
    within (x ∷ xs) zero low e = absurd cc
    within (x ∷ xs) (suc k) low e = within xs k (omega (arith, low)) e

pub owner_there : (m : Module) (d : DispatchParts) (t : Token) → StandsForModule d m → t.table ≡ tables.method_def → IsTrue (has_row m t) → nth_part d.methods t.row ≡ None → ⊥
owner_there m d t stands at has e =
    let b = row_bounds m t.row (subst (λ table. has_row m (record { table = table; row = t.row }) ≡ true) at has) in
    part_there d.methods t.row b.0 (omega (arith, b.1, stands.method_count)) e
