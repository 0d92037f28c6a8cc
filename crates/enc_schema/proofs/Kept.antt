-- Widths that are kept, and how wide a coded index can be.
use Rattle.std.proofs.Common.{◌+◌, ◌*◌, ◌<◌, ◌≤◌, [], ◌∷◌, take, length, arith, ◌≡◌, ℕ, Bool, true, false, ◌⊎◌, inl, inr, refl, cond, List, get_or}
use Rattle.std.specs.Prelude.{sum_by, slice_get, IfSome}
use Rattle.std.proofs.lemmas.List.FromFn.{get_or-map-range_with_len}
use Rattle.std.proofs.lemmas.List.Sums.{sum_by-cons, sum_by_more_le}
use Rattle.std.proofs.lemmas.Option.{slice_get_past, slice_get_cases}
use denote.Enum.Declared.{tag_of}
use Rattle.enc_schema.specs.declared.column.Coding.{Coding}
use Rattle.enc_schema.specs.declared.column.Coding.TheVariants.{TypeDefOrRef, HasConstant, HasCustomAttribute, HasFieldMarshal, HasDeclSecurity, MemberRefParent, HasSemantics, MethodDefOrRef, MemberForwarded, Implementation, CustomAttributeType, ResolutionScope, TypeOrMethodDef, HasCustomDebugInformation}
use Rattle.enc_schema.specs.contracts.column.Coding.{the_type}
use Rattle.enc_schema.proofs.TableNames.{columns_few}
use Rattle.enc_schema.specs.Widths.{Shape, narrow, coded_width, coded_widths, heap_width, index_width, space_of, row_width, row_widths, column_start}
use Rattle.enc_schema.specs.declared.column.Column.{Column}
use Rattle.enc_schema.specs.declared.column.Column.TheVariants.{Num8, Num16, Num32, Text, Guid, Blob, Index, Coded, Run}
use Rattle.enc_schema.specs.Schema.{schema, columns_in}

-- the list holds each coding's width at its place in the enum
pub coded_at : (s : Shape) (kind : Coding) → get_or (coded_widths s) (tag_of the_type kind) 0 ≡ coded_width s kind
unfolding coded_widths
coded_at s TypeDefOrRef = refl
coded_at s HasConstant = refl
coded_at s HasCustomAttribute = refl
coded_at s HasFieldMarshal = refl
coded_at s HasDeclSecurity = refl
coded_at s MemberRefParent = refl
coded_at s HasSemantics = refl
coded_at s MethodDefOrRef = refl
coded_at s MemberForwarded = refl
coded_at s Implementation = refl
coded_at s CustomAttributeType = refl
coded_at s ResolutionScope = refl
coded_at s TypeOrMethodDef = refl
coded_at s HasCustomDebugInformation = refl

narrow_size : (b : Bool) → (narrow b ≡ 2) ⊎ (narrow b ≡ 4)
narrow_size true = inl refl
narrow_size false = inr refl

either_size : (jtd b : Bool) (n : ℕ) → n ≡ narrow b → ((cond jtd 4 n) ≡ 2) ⊎ ((cond jtd 4 n) ≡ 4)
either_size true b n e = inr refl
either_size false b n e = rw e (narrow_size b)

pub coded_size : (s : Shape) (kind : Coding) → (coded_width s kind ≡ 2) ⊎ (coded_width s kind ≡ 4)
unfolding coded_width
coded_size s kind = either_size s.jtd _ _ refl

-- what stands at a coding's place in the kept list
pub kept_coded : (s : Shape) (kept : List ℕ) (kind : Coding) → kept ≡ coded_widths s → get_or kept (tag_of the_type kind) 0 ≡ coded_width s kind
kept_coded s kept kind e = rw e (coded_at s kind)

pub kept_size : (s : Shape) (kept : List ℕ) (kind : Coding) → kept ≡ coded_widths s → (get_or kept (tag_of the_type kind) 0 ≡ 2) ⊎ (get_or kept (tag_of the_type kind) 0 ≡ 4)
kept_size s kept kind e = rw (kept_coded s kept kind e) (coded_size s kind)

-- what stands at a table's place in the kept list, and the rows of no table
pub kept_row : (s : Shape) (kept : List ℕ) (t : ℕ) → kept ≡ row_widths s → t < 56 → get_or kept t 0 ≡ row_width s t
unfolding row_widths
kept_row s kept t e lt = rw e (get_or-map-range_with_len (row_width s) 0 56 t t 0 lt (omega arith))

pub row_past : (s : Shape) (t : ℕ) → 56 ≤ t → row_width s t ≡ 0
unfolding row_width columns_in
row_past s t h = rw (slice_get_past schema t h) refl

two_or_four : (n : ℕ) → (n ≡ 2) ⊎ (n ≡ 4) → n ≤ 4
two_or_four n (inl e) = omega arith
two_or_four n (inr e) = omega arith

heap_few : (s : Shape) (bit : ℕ) → heap_width s bit ≤ 4
unfolding heap_width
heap_few s bit = grind arith

index_few : (s : Shape) (t : ℕ) → index_width s t ≤ 4
unfolding index_width
index_few s t = two_or_four _ (either_size s.jtd _ _ refl)

space_few : (s : Shape) (c : Column) → space_of s c ≤ 4
space_few s Num8 = omega arith
space_few s Num16 = omega arith
space_few s Num32 = omega arith
space_few s Text = heap_few s 1
space_few s Guid = heap_few s 2
space_few s Blob = heap_few s 4
space_few s (Index t) = index_few s t
space_few s (Coded kind) = two_or_four _ (coded_size s kind)
space_few s (Run t) = index_few s t

total_few : (s : Shape) (xs : List Column) → sum_by (space_of s) xs ≤ 4 * length xs
total_few s [] = omega arith
total_few s (x ∷ xs) = rw (sum_by-cons (space_of s) x xs) (omega (arith, space_few s x, total_few s xs))

pub row_few : (s : Shape) (t : ℕ) → row_width s t ≤ 36
unfolding row_width
row_few s t = omega (arith, total_few s (columns_in t), columns_few t)

pub kept_few : (s : Shape) (kept : List ℕ) (t : ℕ) → kept ≡ row_widths s → t < 56 → get_or kept t 0 ≤ 36
kept_few s kept t e lt = rw (kept_row s kept t e lt) (row_few s t)

-- a column ends in its row
part_within : {X : Type 0} (f : X → ℕ) (xs : List X) (i : ℕ) → IfSome (slice_get xs i) (λ x. sum_by f (take i xs) + f x ≤ sum_by f xs)
part_within f xs i =
    elim ((slice_get_cases xs i).1) [
      | inl w ↦ rw w.2 (rw w.3 at (sum_by_more_le f xs i w.0 w.1))
      | inr w ↦ rw w.1 tt
    ]

pub start_within : (s : Shape) (t i : ℕ) → IfSome (slice_get (columns_in t) i) (λ c. column_start s t i + space_of s c ≤ row_width s t)
unfolding column_start row_width
start_within s t i = part_within (space_of s) (columns_in t) i
