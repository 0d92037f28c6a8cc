-- The sizes of types, worked out in one pass over ClassLayout.
use Rattle.std.proofs.Common.{◌≡◌, ℕ, suc, ◌+◌, ◌<◌, List, Option, Some, None, length, replicate, refl, sym, ap, ◌∙◌, arith}
use Rattle.std.specs.Prelude.{◌==◌, if◌then◌else◌}
use Rattle.std.specs.List.{slice_index_or}
use Rattle.std.proofs.lemmas.List.{length-replicate, get_or-replicate}
use Rattle.enc_base.specs.Order.{or_else, first_below}
use Rattle.enc_base.specs.Token.{nth_row}
use Rattle.enc_base.proofs.First.{first_none, first_suc}
use Rattle.enc_rows.specs.Source.{Source, raw_in}
use Rattle.enc_image.specs.Base.{layout_size}

-- where none is the one possible value, it is the value
pub only_none : (P : Option ℕ → Type 0) → ((x : ℕ) → P (Some x) → ⊥) → (y : Option ℕ) → P y → y ≡ None
only_none P not_some None h = refl
only_none P not_some (Some x) h = absurd (not_some x h)

-- at first no type has a size
pub size_none : (s : Source) (n t : ℕ) (xs : List (Option ℕ)) → xs ≡ replicate n None → t < length xs → slice_index_or xs t None ≡ first_below (layout_size s t) 0
size_none s n t xs is there =
    let low : t < n = omega (arith, there, ap length is ∙ length-replicate n None) in
    ap (λ (ys : List (Option ℕ)). slice_index_or ys t None) is ∙ get_or-replicate n t None None low ∙ sym (first_none (layout_size s t))

-- one row of ClassLayout more
pub size_more : (s : Source) (t k owner size : ℕ) (old new : Option ℕ) → owner ≡ raw_in s (nth_row 0x0F k) 2 → size ≡ raw_in s (nth_row 0x0F k) 1 → old ≡ first_below (layout_size s t) k → new ≡ or_else old (if owner == t then Some size else None) → new ≡ first_below (layout_size s t) (k + 1)
unfolding layout_size
size_more s t k owner size old new by tells before after =
    let e : k + 1 ≡ suc k = omega arith in
    let rule : layout_size s t k ≡ (if owner == t then Some size else None) = rw (by, tells) refl in
    after ∙ rw (e, first_suc (layout_size s t) k, rule, ← before) refl
