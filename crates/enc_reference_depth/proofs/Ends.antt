-- Where a walk through references ends: what is alike ends as soon, and is alike at the lower depth too.
use Rattle.std.proofs.Common.{◌≡◌, ℕ, zero, suc, ◌+◌, ◌<◌, ◌≤◌, Bool, true, false, Option, Some, None, refl, sym, subst, ◌∙◌, arith}
use Rattle.std.specs.Prelude.{◌==◌, is_some, if◌then◌else◌}
use Rattle.std.proofs.lemmas.Bool.Decides.{nat_tests}
use Rattle.enc_base.specs.declared.token.Token.{Token}
use Rattle.enc_sigs.specs.declared.kind.SigKind.TheVariants.{TypeSpec}
use Rattle.enc_sigs.specs.Grammar.{is_coded, sig_in}
use Rattle.enc_sigs.specs.Tree.{Forest, none, more, SigTree, forest_of}
use Rattle.enc_plain.specs.Module.{Module, cells_of, has_row}
use Rattle.enc_plain.specs.Rows.{Rows, bytes_at, token_at}
use Rattle.enc_plain.specs.Alike.{refs_alike}
use Rattle.enc_plain.proofs.CellsOf.{has_cells}
use Rattle.enc_reference_depth.specs.Depth.{deepest, deepest_in, depth_within}
use Rattle.enc_reference_depth.proofs.Agreeing.{Each, each_none, each_more, EachOf}
use Rattle.enc_reference_depth.proofs.References.{RefsAre, same, types, assemblies, modules, refs_parts, refs_whole}

-- the walk from a token ends in fewer steps
abbrev pub Ends : Rows → ℕ → Token → Type 0
Ends rows n t = depth_within rows n t < n

low_row : (m : Module) (t : Token) → has_row m t ≡ true → (t.row == 0) ≡ false
unfolding has_row
low_row m t h = grind (arith, nat_tests)

-- a row that is there isn't row 0
pub row_is_some : (m : Module) (t : Token) → is_some (cells_of m t) ≡ true → (t.row == 0) ≡ false
row_is_some m t h = low_row m t (has_cells m t ∙ h)

pub row_of_some : (m : Module) (t : Token) → is_some (cells_of m t) ≡ true → has_row m t ≡ true
row_of_some m t h = has_cells m t ∙ h

pub some_of_row : (m : Module) (t : Token) → has_row m t ≡ true → is_some (cells_of m t) ≡ true
some_of_row m t h = sym (has_cells m t) ∙ h

-- the depth by the table
pub depth_none : (rows : Rows) (n : ℕ) (t : Token) → t.row ≡ 0 → depth_within rows n t ≡ 0
unfolding depth_within
depth_none rows zero t e = refl
depth_none rows (suc n) t e = rw e refl

pub depth_type : (rows : Rows) (n : ℕ) (t : Token) → (t.row == 0) ≡ false → t.table ≡ 0x01 → depth_within rows (suc n) t ≡ 1 + depth_within rows n (token_at rows t 0)
unfolding depth_within
depth_type rows n t r e = rw (r, e) refl

pub depth_spec : (rows : Rows) (n : ℕ) (t : Token) → (t.row == 0) ≡ false → t.table ≡ 0x1B
    → depth_within rows (suc n) t ≡ 1 + deepest_in (depth_within rows n) (sig_in is_coded TypeSpec (bytes_at rows t 0))
unfolding depth_within
depth_spec rows n t r e = rw (r, e) refl

other_by : (a : Bool) (n k : ℕ) → (if a then 0 else if false then n else if false then k else 0) ≡ 0
other_by true n k = refl
other_by false n k = refl

pub depth_other : (rows : Rows) (n : ℕ) (t : Token) → (t.table == 0x01) ≡ false → (t.table == 0x1B) ≡ false → depth_within rows n t ≡ 0
unfolding depth_within
depth_other rows zero t a b = refl
depth_other rows (suc n) t a b = rw (a, b) (other_by (t.row == 0) (1 + depth_within rows n (token_at rows t 0)) (1 + deepest_in (depth_within rows n) (sig_in is_coded TypeSpec (bytes_at rows t 0))))

-- a TypeRef's scope ends one step sooner
pub scope_ends : (m : Module) (n : ℕ) (t : Token) → t.table ≡ 0x01 → is_some (cells_of m t) ≡ true → Ends (cells_of m) (suc n) t
    → Ends (cells_of m) n (token_at (cells_of m) t 0)
scope_ends m n t e h k = let d = depth_type (cells_of m) n t (row_is_some m t h) e in omega (arith, d, k)

pub ends_scope : (m : Module) (n : ℕ) (t : Token) → t.table ≡ 0x01 → is_some (cells_of m t) ≡ true → Ends (cells_of m) n (token_at (cells_of m) t 0)
    → Ends (cells_of m) (suc n) t
ends_scope m n t e h k = let d = depth_type (cells_of m) n t (row_is_some m t h) e in omega (arith, d, k)

pub ends_other : (rows : Rows) (n : ℕ) (t : Token) → (t.table == 0x01) ≡ false → (t.table == 0x1B) ≡ false → Ends rows (suc n) t
ends_other rows n t a b = let d = depth_other rows (suc n) t a b in omega (arith, d)

-- of tokens that are alike one ends where the other does
carried_by : (m : Module) (n : ℕ) (scopes : Token → Token → Bool) (x y : Token)
    → (scopes (token_at (cells_of m) x 0) (token_at (cells_of m) y 0) ≡ true → Ends (cells_of m) n (token_at (cells_of m) y 0)
    → Ends (cells_of m) n (token_at (cells_of m) x 0))
    → RefsAre (cells_of m) scopes x y → Ends (cells_of m) (suc n) y → Ends (cells_of m) (suc n) x
carried_by m n scopes x y lower (same e) k = subst (λ t. Ends (cells_of m) (suc n) t) (sym e) k
carried_by m n scopes x y lower (types h) k =
    ends_scope m n x h.both.first h.both.here (lower h.scope (scope_ends m n y h.both.second h.both.too k))
carried_by m n scopes x y lower (assemblies h) k = ends_other (cells_of m) n x (rw h.both.first refl) (rw h.both.first refl)
carried_by m n scopes x y lower (modules h) k = ends_other (cells_of m) n x (rw h.both.first refl) (rw h.both.first refl)

pub ends_carried : (m : Module) (n d : ℕ) (x y : Token) → n ≤ d → refs_alike (cells_of m) d x y ≡ true → Ends (cells_of m) n y → Ends (cells_of m) n x
ends_carried m zero d x y low h k = absurd (omega (arith, k))
ends_carried m (suc n) zero x y low h k = absurd (omega arith)
ends_carried m (suc n) (suc d) x y low h k =
    carried_by m n (refs_alike (cells_of m) d) x y
    (ends_carried m n d (token_at (cells_of m) x 0) (token_at (cells_of m) y 0) (omega arith)) (refs_parts (cells_of m) d x y h) k

-- and they are alike at the depth at which one ends
lowered_by : (m : Module) (n : ℕ) (scopes : Token → Token → Bool) (x y : Token)
    → (scopes (token_at (cells_of m) x 0) (token_at (cells_of m) y 0) ≡ true → Ends (cells_of m) n (token_at (cells_of m) x 0)
    → refs_alike (cells_of m) n (token_at (cells_of m) x 0) (token_at (cells_of m) y 0) ≡ true)
    → RefsAre (cells_of m) scopes x y → Ends (cells_of m) (suc n) x → RefsAre (cells_of m) (refs_alike (cells_of m) n) x y
lowered_by m n scopes x y lower (same e) k = same e
lowered_by m n scopes x y lower (types h) k = types (record {
  both = h.both;
  name = h.name;
  space = h.space;
  scope = lower h.scope (scope_ends m n x h.both.first h.both.here k);
})
lowered_by m n scopes x y lower (assemblies h) k = assemblies h
lowered_by m n scopes x y lower (modules h) k = modules h

pub alike_lowered : (m : Module) (n d : ℕ) (x y : Token) → n ≤ d → refs_alike (cells_of m) d x y ≡ true → Ends (cells_of m) n x
    → refs_alike (cells_of m) n x y ≡ true
alike_lowered m zero d x y low h k = absurd (omega (arith, k))
alike_lowered m (suc n) zero x y low h k = absurd (omega arith)
alike_lowered m (suc n) (suc d) x y low h k =
    refs_whole (cells_of m) n x y (lowered_by m n (refs_alike (cells_of m) d) x y
    (alike_lowered m n d (token_at (cells_of m) x 0) (token_at (cells_of m) y 0) (omega arith)) (refs_parts (cells_of m) d x y h) k)

-- the tokens in the signature of a TypeSpec end one step sooner
each_ends : (depth : Token → ℕ) (n : ℕ) (f : Forest) → deepest depth f < n → Each (λ t. depth t < n) f
each_ends depth n none h = each_none (λ t. depth t < n)
each_ends depth n (more e t k f r) h =
    each_more (λ t. depth t < n) e t k f r (omega (arith, h)) (each_ends depth n f (omega (arith, h))) (each_ends depth n r (omega (arith, h)))

parts_end : (rows : Rows) (n : ℕ) (o : Option SigTree) (s : SigTree) → o ≡ Some s → deepest_in (depth_within rows n) o < n → Each (Ends rows n) (forest_of s.parts)
parts_end rows n None s e h = absurd cc
parts_end rows n (Some x) s e h = let is : x ≡ s = cc in each_ends (depth_within rows n) n (forest_of s.parts) (rw is at h)

pub tokens_end : (m : Module) (n : ℕ) (t : Token) → t.table ≡ 0x1B → is_some (cells_of m t) ≡ true → Ends (cells_of m) (suc n) t
    → EachOf (Ends (cells_of m) n) TypeSpec (bytes_at (cells_of m) t 0)
tokens_end m n t e h k =
    let d = depth_spec (cells_of m) n t (row_is_some m t h) e in
    let less : deepest_in (depth_within (cells_of m) n) (sig_in is_coded TypeSpec (bytes_at (cells_of m) t 0)) < n = omega (arith, d, k) in
    record { each = λ s is. parts_end (cells_of m) n (sig_in is_coded TypeSpec (bytes_at (cells_of m) t 0)) s is less }
