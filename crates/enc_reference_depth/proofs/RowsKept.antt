-- What an edit keeps of rows, and that references are alike after it where they were before.
use Rattle.std.proofs.Common.{◌≡◌, ℕ, zero, suc, ◌<◌, ◌≤◌, Bool, true, false, Option, Some, refl, sym, ap, subst, ◌∙◌, arith}
use Rattle.std.specs.Prelude.{◌==◌, bytes_eq, if◌then◌else◌}
use Rattle.std.proofs.lemmas.Bool.{eqb-true, eq-eqb}
use Rattle.std.proofs.lemmas.Slice.Eq.{bytes_eq-Decides}
use Rattle.enc_base.specs.declared.token.Token.{Token}
use Rattle.enc_schema.specs.Schema.{columns_in}
use Rattle.enc_plain.specs.Cell.{Kind, numbers, texts, blobs, references, kind_in}
use Rattle.enc_plain.specs.Module.{Module, cells_of, has_row}
use Rattle.enc_plain.specs.Rows.{number_at, bytes_at, token_at}
use Rattle.enc_plain.specs.Signatures.{signature_column}
use Rattle.enc_plain.specs.Sound.{IsSound}
use Rattle.enc_plain.specs.Alike.{refs_alike, tokens_alike, signatures_alike}
use Rattle.enc_delta.specs.Changes.{may_differ, is_signature_column, cell_is_kept}
use Rattle.enc_reference_depth.specs.Kept.{KeepsRows}
use Rattle.enc_reference_depth.proofs.References.{BothRows, AssembliesAlike, ModulesAlike, RefsAre, same, types, assemblies, modules, refs_parts, refs_whole, refs_back, refs_on, apart}
use Rattle.enc_reference_depth.proofs.Signatures.{TokensAre, references, specs, tokens_parts}
use Rattle.enc_reference_depth.proofs.Ends.{Ends, row_of_some, some_of_row, scope_ends, ends_scope, ends_other, ends_carried, alike_lowered}
use Rattle.enc_reference_depth.proofs.Sound.{Names, nothing, row, scope_names, scope_no_spec}

-- what an edit keeps of a column
kept : (m n : Module) (t : Token) (i : ℕ) (k : Option Kind) → KeepsRows m n → has_row m t ≡ true → may_differ t.table i ≡ false → kind_in t.table i ≡ k
    → cell_is_kept (cells_of m) (cells_of n) t i k ≡ true
kept m n t i k keeps there may e = subst (λ x. cell_is_kept (cells_of m) (cells_of n) t i x ≡ true) e (keeps.each t i there may)

pub number_kept : (m n : Module) (t : Token) (i : ℕ) → KeepsRows m n → has_row m t ≡ true → may_differ t.table i ≡ false → kind_in t.table i ≡ Some numbers
    → number_at (cells_of m) t i ≡ number_at (cells_of n) t i
number_kept m n t i keeps there may e = eqb-true (number_at (cells_of m) t i) (number_at (cells_of n) t i) (kept m n t i (Some numbers) keeps there may e)

pub text_kept : (m n : Module) (t : Token) (i : ℕ) → KeepsRows m n → has_row m t ≡ true → may_differ t.table i ≡ false → kind_in t.table i ≡ Some texts
    → bytes_at (cells_of m) t i ≡ bytes_at (cells_of n) t i
text_kept m n t i keeps there may e =
    (bytes_eq-Decides (bytes_at (cells_of m) t i) (bytes_at (cells_of n) t i)).0 (kept m n t i (Some texts) keeps there may e)

blob_by : (b p q : Bool) → b ≡ false → (if b then p else q) ≡ true → q ≡ true
blob_by b p q e h = rw e at h

pub blob_kept : (m n : Module) (t : Token) (i : ℕ) → KeepsRows m n → has_row m t ≡ true → may_differ t.table i ≡ false → kind_in t.table i ≡ Some blobs
    → is_signature_column t.table i ≡ false → bytes_at (cells_of m) t i ≡ bytes_at (cells_of n) t i
blob_kept m n t i keeps there may e other =
    (bytes_eq-Decides (bytes_at (cells_of m) t i) (bytes_at (cells_of n) t i)).0
    (blob_by (is_signature_column t.table i) (signatures_alike (cells_of n) t.table (bytes_at (cells_of m) t i) (bytes_at (cells_of n) t i))
    (bytes_eq (bytes_at (cells_of m) t i) (bytes_at (cells_of n) t i)) other (kept m n t i (Some blobs) keeps there may e))

signature_by : (b p q : Bool) → b ≡ true → (if b then p else q) ≡ true → p ≡ true
signature_by b p q e h = rw e at h

pub signature_kept : (m n : Module) (t : Token) (i : ℕ) → KeepsRows m n → has_row m t ≡ true → may_differ t.table i ≡ false → kind_in t.table i ≡ Some blobs
    → is_signature_column t.table i ≡ true → signatures_alike (cells_of n) t.table (bytes_at (cells_of m) t i) (bytes_at (cells_of n) t i) ≡ true
signature_kept m n t i keeps there may e is =
    signature_by (is_signature_column t.table i) (signatures_alike (cells_of n) t.table (bytes_at (cells_of m) t i) (bytes_at (cells_of n) t i))
    (bytes_eq (bytes_at (cells_of m) t i) (bytes_at (cells_of n) t i)) is (kept m n t i (Some blobs) keeps there may e)

pub reference_kept : (m n : Module) (t : Token) (i : ℕ) → KeepsRows m n → has_row m t ≡ true → may_differ t.table i ≡ false
    → kind_in t.table i ≡ Some references → tokens_alike (cells_of n) (token_at (cells_of m) t i) (token_at (cells_of n) t i) ≡ true
reference_kept m n t i keeps there may e = kept m n t i (Some references) keeps there may e

-- rows of a table are rows after the edit
pub rows_kept : (m n : Module) (table : ℕ) (a b : Token) → KeepsRows m n → BothRows (cells_of m) table a b → BothRows (cells_of n) table a b
rows_kept m n table a b keeps h = record {
  first = h.first;
  second = h.second;
  here = some_of_row n a (keeps.there a (row_of_some m a h.here));
  too = some_of_row n b (keeps.there b (row_of_some m b h.too));
}

-- and were rows before it, where they named rows
pub named_row : (m : Module) (table : ℕ) (a : Token) → Names m a → a.table ≡ table → (0 == table) ≡ false → has_row m a ≡ true
named_row m table a (nothing is) e other = apart a.table 0 table (ap (λ (t : Token). t.table) is) e other
named_row m table a (row there) e other = there

pub rows_before : (m n : Module) (table : ℕ) (a b : Token) → Names m a → Names m b → (0 == table) ≡ false → BothRows (cells_of n) table a b
    → BothRows (cells_of m) table a b
rows_before m n table a b x y other h = record {
  first = h.first;
  second = h.second;
  here = some_of_row m a (named_row m table a x h.first other);
  too = some_of_row m b (named_row m table b y h.second other);
}

-- the columns that make references alike
type_kinds : (t : ℕ) → t ≡ 0x01 → (kind_in t 0 ≡ Some references) × (kind_in t 1 ≡ Some texts) × (kind_in t 2 ≡ Some texts)
unfolding columns_in
type_kinds t e = rw e (refl, refl, refl)

type_may : (t i : ℕ) → t ≡ 0x01 → may_differ t i ≡ false
type_may t i e = rw e refl

module_kind : (t : ℕ) → t ≡ 0x1A → kind_in t 0 ≡ Some texts
unfolding columns_in
module_kind t e = rw e refl

module_may : (t i : ℕ) → t ≡ 0x1A → may_differ t i ≡ false
module_may t i e = rw e refl

assembly_number_kind : (t i : ℕ) → t ≡ 0x23 → i < 5 → kind_in t i ≡ Some numbers
unfolding columns_in
assembly_number_kind t i e low = rw e (at i low)
  where
    at : (i : ℕ) → i < 5 → kind_in 0x23 i ≡ Some numbers
    at zero low = refl
    at (suc zero) low = refl
    at (suc (suc zero)) low = refl
    at (suc (suc (suc zero))) low = refl
    at (suc (suc (suc (suc zero)))) low = refl
    at (suc (suc (suc (suc (suc i))))) low = absurd (omega arith)

assembly_kinds : (t : ℕ) → t ≡ 0x23
    → (kind_in t 5 ≡ Some blobs) × (kind_in t 6 ≡ Some texts) × (kind_in t 7 ≡ Some texts) × (kind_in t 8 ≡ Some blobs)
unfolding columns_in
assembly_kinds t e = rw e (refl, refl, refl, refl)

assembly_may : (t i : ℕ) → t ≡ 0x23 → may_differ t i ≡ false
assembly_may t i e = rw e refl

assembly_blobs : (t : ℕ) → t ≡ 0x23 → (is_signature_column t 5 ≡ false) × (is_signature_column t 8 ≡ false)
unfolding signature_column
assembly_blobs t e = rw e (refl, refl)

module _ (m n : Module) (keeps : KeepsRows m n) where
  type_name : (t : Token) → t.table ≡ 0x01 → has_row m t ≡ true → bytes_at (cells_of m) t 1 ≡ bytes_at (cells_of n) t 1
  type_name t e there = text_kept m n t 1 keeps there (type_may t.table 1 e) (type_kinds t.table e).1

  type_space : (t : Token) → t.table ≡ 0x01 → has_row m t ≡ true → bytes_at (cells_of m) t 2 ≡ bytes_at (cells_of n) t 2
  type_space t e there = text_kept m n t 2 keeps there (type_may t.table 2 e) (type_kinds t.table e).2

  type_scope : (t : Token) → t.table ≡ 0x01 → has_row m t ≡ true
      → tokens_alike (cells_of n) (token_at (cells_of m) t 0) (token_at (cells_of n) t 0) ≡ true
  type_scope t e there = reference_kept m n t 0 keeps there (type_may t.table 0 e) (type_kinds t.table e).0

  module_name : (t : Token) → t.table ≡ 0x1A → has_row m t ≡ true → bytes_at (cells_of m) t 0 ≡ bytes_at (cells_of n) t 0
  module_name t e there = text_kept m n t 0 keeps there (module_may t.table 0 e) (module_kind t.table e)

  assembly_number : (t : Token) (i : ℕ) → i < 5 → t.table ≡ 0x23 → has_row m t ≡ true → number_at (cells_of m) t i ≡ number_at (cells_of n) t i
  assembly_number t i low e there = number_kept m n t i keeps there (assembly_may t.table i e) (assembly_number_kind t.table i e low)

  assembly_key : (t : Token) → t.table ≡ 0x23 → has_row m t ≡ true → bytes_at (cells_of m) t 5 ≡ bytes_at (cells_of n) t 5
  assembly_key t e there = blob_kept m n t 5 keeps there (assembly_may t.table 5 e) (assembly_kinds t.table e).0 (assembly_blobs t.table e).0

  assembly_name : (t : Token) → t.table ≡ 0x23 → has_row m t ≡ true → bytes_at (cells_of m) t 6 ≡ bytes_at (cells_of n) t 6
  assembly_name t e there = text_kept m n t 6 keeps there (assembly_may t.table 6 e) (assembly_kinds t.table e).1

  assembly_culture : (t : Token) → t.table ≡ 0x23 → has_row m t ≡ true → bytes_at (cells_of m) t 7 ≡ bytes_at (cells_of n) t 7
  assembly_culture t e there = text_kept m n t 7 keeps there (assembly_may t.table 7 e) (assembly_kinds t.table e).2

  assembly_hash : (t : Token) → t.table ≡ 0x23 → has_row m t ≡ true → bytes_at (cells_of m) t 8 ≡ bytes_at (cells_of n) t 8
  assembly_hash t e there = blob_kept m n t 8 keeps there (assembly_may t.table 8 e) (assembly_kinds t.table e).3 (assembly_blobs t.table e).1

  assemblies_after : (a b : Token) → AssembliesAlike (cells_of m) a b → AssembliesAlike (cells_of n) a b
  assemblies_after a b h =
      let x = row_of_some m a h.both.here in
      let y = row_of_some m b h.both.too in
      let s = h.both.first in
      let t = h.both.second in
      record {
        both = rows_kept m n 0x23 a b keeps h.both;
        major = sym (assembly_number a 0 (omega arith) s x) ∙ h.major ∙ assembly_number b 0 (omega arith) t y;
        minor = sym (assembly_number a 1 (omega arith) s x) ∙ h.minor ∙ assembly_number b 1 (omega arith) t y;
        build = sym (assembly_number a 2 (omega arith) s x) ∙ h.build ∙ assembly_number b 2 (omega arith) t y;
        revision = sym (assembly_number a 3 (omega arith) s x) ∙ h.revision ∙ assembly_number b 3 (omega arith) t y;
        flags = sym (assembly_number a 4 (omega arith) s x) ∙ h.flags ∙ assembly_number b 4 (omega arith) t y;
        key = sym (assembly_key a s x) ∙ h.key ∙ assembly_key b t y;
        name = sym (assembly_name a s x) ∙ h.name ∙ assembly_name b t y;
        culture = sym (assembly_culture a s x) ∙ h.culture ∙ assembly_culture b t y;
        hash = sym (assembly_hash a s x) ∙ h.hash ∙ assembly_hash b t y;
      }

  assemblies_before : (a b : Token) → Names m a → Names m b → AssembliesAlike (cells_of n) a b → AssembliesAlike (cells_of m) a b
  assemblies_before a b p q h =
      let both = rows_before m n 0x23 a b p q refl h.both in
      let x = row_of_some m a both.here in
      let y = row_of_some m b both.too in
      let s = h.both.first in
      let t = h.both.second in
      record {
        both = both;
        major = assembly_number a 0 (omega arith) s x ∙ h.major ∙ sym (assembly_number b 0 (omega arith) t y);
        minor = assembly_number a 1 (omega arith) s x ∙ h.minor ∙ sym (assembly_number b 1 (omega arith) t y);
        build = assembly_number a 2 (omega arith) s x ∙ h.build ∙ sym (assembly_number b 2 (omega arith) t y);
        revision = assembly_number a 3 (omega arith) s x ∙ h.revision ∙ sym (assembly_number b 3 (omega arith) t y);
        flags = assembly_number a 4 (omega arith) s x ∙ h.flags ∙ sym (assembly_number b 4 (omega arith) t y);
        key = assembly_key a s x ∙ h.key ∙ sym (assembly_key b t y);
        name = assembly_name a s x ∙ h.name ∙ sym (assembly_name b t y);
        culture = assembly_culture a s x ∙ h.culture ∙ sym (assembly_culture b t y);
        hash = assembly_hash a s x ∙ h.hash ∙ sym (assembly_hash b t y);
      }

  modules_after : (a b : Token) → ModulesAlike (cells_of m) a b → ModulesAlike (cells_of n) a b
  modules_after a b h = record {
    both = rows_kept m n 0x1A a b keeps h.both;
    name = sym (module_name a h.both.first (row_of_some m a h.both.here)) ∙ h.name ∙ module_name b h.both.second (row_of_some m b h.both.too);
  }

  modules_before : (a b : Token) → Names m a → Names m b → ModulesAlike (cells_of n) a b → ModulesAlike (cells_of m) a b
  modules_before a b p q h =
      let both = rows_before m n 0x1A a b p q refl h.both in
      record {
        both = both;
        name = module_name a h.both.first (row_of_some m a both.here) ∙ h.name ∙ sym (module_name b h.both.second (row_of_some m b both.too));
      }

-- the scope of a TypeRef is alike the one that it had, as references are
scope_by : (n : Module) (a b : Token) → (a.table == 0x1B) ≡ false → TokensAre (cells_of n) a b → refs_alike (cells_of n) 100 a b ≡ true
scope_by n a b other (references h) = h
scope_by n a b other (specs h) = absurd (let f : true ≡ false = sym (eq-eqb a.table 0x1B h.both.first) ∙ other in cc)

scope_kept : (m n : Module) (t : Token) → IsSound m → KeepsRows m n → t.table ≡ 0x01 → has_row m t ≡ true
    → refs_alike (cells_of n) 100 (token_at (cells_of m) t 0) (token_at (cells_of n) t 0) ≡ true
scope_kept m n t sound keeps e there =
    scope_by n (token_at (cells_of m) t 0) (token_at (cells_of n) t 0) (scope_no_spec m t sound e there)
    (tokens_parts (cells_of n) (token_at (cells_of m) t 0) (token_at (cells_of n) t 0) (type_scope m n keeps t e there))

module _ (m n : Module) (sound : IsSound m) (keeps : KeepsRows m n) where
  -- where the scope after ends, the one before does, and back
  scope_before : (d : ℕ) (t : Token) → d < 100 → t.table ≡ 0x01 → has_row m t ≡ true → Ends (cells_of n) (suc d) t
      → Ends (cells_of n) d (token_at (cells_of m) t 0)
  scope_before d t low e there ends =
      ends_carried n d 100 (token_at (cells_of m) t 0) (token_at (cells_of n) t 0) (omega arith) (scope_kept m n t sound keeps e there)
      (scope_ends n d t e (some_of_row n t (keeps.there t there)) ends)

  scope_after : (d : ℕ) (t : Token) → d < 100 → t.table ≡ 0x01 → has_row m t ≡ true → Ends (cells_of n) d (token_at (cells_of m) t 0)
      → Ends (cells_of n) (suc d) t
  scope_after d t low e there ends =
      ends_scope n d t e (some_of_row n t (keeps.there t there))
      (ends_carried n d 100 (token_at (cells_of n) t 0) (token_at (cells_of m) t 0) (omega arith)
      (refs_back (cells_of n) 100 (token_at (cells_of m) t 0) (token_at (cells_of n) t 0) (scope_kept m n t sound keeps e there)) ends)

  -- of tokens that were alike one ends where the other does
  ends_by : (d : ℕ) (scopes : Token → Token → Bool) (x y : Token) → d < 100
      → (scopes (token_at (cells_of m) x 0) (token_at (cells_of m) y 0) ≡ true → Ends (cells_of n) d (token_at (cells_of m) y 0)
      → Ends (cells_of n) d (token_at (cells_of m) x 0))
      → RefsAre (cells_of m) scopes x y → Ends (cells_of n) (suc d) y → Ends (cells_of n) (suc d) x
  ends_by d scopes x y low lower (same e) k = subst (λ t. Ends (cells_of n) (suc d) t) (sym e) k
  ends_by d scopes x y low lower (types h) k =
      scope_after d x low h.both.first (row_of_some m x h.both.here)
      (lower h.scope (scope_before d y low h.both.second (row_of_some m y h.both.too) k))
  ends_by d scopes x y low lower (assemblies h) k = ends_other (cells_of n) d x (rw h.both.first refl) (rw h.both.first refl)
  ends_by d scopes x y low lower (modules h) k = ends_other (cells_of n) d x (rw h.both.first refl) (rw h.both.first refl)

  pub ends_after : (d e : ℕ) (x y : Token) → d ≤ 100 → d ≤ e → refs_alike (cells_of m) e x y ≡ true → Ends (cells_of n) d y → Ends (cells_of n) d x
  ends_after zero e x y few low h k = absurd (omega (arith, k))
  ends_after (suc d) zero x y few low h k = absurd (omega arith)
  ends_after (suc d) (suc e) x y few low h k =
      ends_by d (refs_alike (cells_of m) e) x y (omega arith)
      (ends_after d e (token_at (cells_of m) x 0) (token_at (cells_of m) y 0) (omega arith) (omega arith)) (refs_parts (cells_of m) e x y h) k

  -- the scope before is alike the one after at the depth at which it ends
  scope_lowered : (d : ℕ) (t : Token) → d < 100 → t.table ≡ 0x01 → has_row m t ≡ true → Ends (cells_of n) (suc d) t
      → refs_alike (cells_of n) d (token_at (cells_of m) t 0) (token_at (cells_of n) t 0) ≡ true
  scope_lowered d t low e there ends =
      alike_lowered n d 100 (token_at (cells_of m) t 0) (token_at (cells_of n) t 0) (omega arith) (scope_kept m n t sound keeps e there)
      (scope_before d t low e there ends)

  -- references that were alike are alike after
  after_by : (d : ℕ) (x y : Token) → d < 100
      → (refs_alike (cells_of m) d (token_at (cells_of m) x 0) (token_at (cells_of m) y 0) ≡ true → Ends (cells_of n) d (token_at (cells_of m) x 0)
      → Ends (cells_of n) d (token_at (cells_of m) y 0) → refs_alike (cells_of n) d (token_at (cells_of m) x 0) (token_at (cells_of m) y 0) ≡ true)
      → Ends (cells_of n) (suc d) x → Ends (cells_of n) (suc d) y → RefsAre (cells_of m) (refs_alike (cells_of m) d) x y
      → RefsAre (cells_of n) (refs_alike (cells_of n) d) x y
  after_by d x y low lower p q (same e) = same e
  after_by d x y low lower p q (types h) =
      let a = row_of_some m x h.both.here in
      let b = row_of_some m y h.both.too in
      let s = h.both.first in
      let t = h.both.second in
      let mid = lower h.scope (scope_before d x low s a p) (scope_before d y low t b q) in
      let first = refs_back (cells_of n) d (token_at (cells_of m) x 0) (token_at (cells_of n) x 0) (scope_lowered d x low s a p) in
      types (record {
        both = rows_kept m n 0x01 x y keeps h.both;
        name = sym (type_name m n keeps x s a) ∙ h.name ∙ type_name m n keeps y t b;
        space = sym (type_space m n keeps x s a) ∙ h.space ∙ type_space m n keeps y t b;
        scope = refs_on (cells_of n) d (token_at (cells_of n) x 0) (token_at (cells_of m) x 0) (token_at (cells_of n) y 0) first
            (refs_on (cells_of n) d (token_at (cells_of m) x 0) (token_at (cells_of m) y 0) (token_at (cells_of n) y 0) mid (scope_lowered d y low t b q));
      })
  after_by d x y low lower p q (assemblies h) = assemblies (assemblies_after m n keeps x y h)
  after_by d x y low lower p q (modules h) = modules (modules_after m n keeps x y h)

  pub refs_after : (d : ℕ) (x y : Token) → d ≤ 100 → Ends (cells_of n) d x → Ends (cells_of n) d y → refs_alike (cells_of m) d x y ≡ true
      → refs_alike (cells_of n) d x y ≡ true
  refs_after zero x y few p q h = absurd (omega (arith, p))
  refs_after (suc d) x y few p q h =
      refs_whole (cells_of n) d x y (after_by d x y (omega arith)
      (λ k r s. refs_after d (token_at (cells_of m) x 0) (token_at (cells_of m) y 0) (omega arith) r s k) p q (refs_parts (cells_of m) d x y h))

  -- references that are alike after were alike, where they named rows
  before_by : (d : ℕ) (x y : Token) → d < 100 → Names m x → Names m y
      → (Names m (token_at (cells_of m) x 0) → Names m (token_at (cells_of m) y 0)
      → refs_alike (cells_of n) d (token_at (cells_of m) x 0) (token_at (cells_of m) y 0) ≡ true → Ends (cells_of n) d (token_at (cells_of m) x 0)
      → Ends (cells_of n) d (token_at (cells_of m) y 0) → refs_alike (cells_of m) d (token_at (cells_of m) x 0) (token_at (cells_of m) y 0) ≡ true)
      → Ends (cells_of n) (suc d) x → Ends (cells_of n) (suc d) y → RefsAre (cells_of n) (refs_alike (cells_of n) d) x y
      → RefsAre (cells_of m) (refs_alike (cells_of m) d) x y
  before_by d x y low v w lower p q (same e) = same e
  before_by d x y low v w lower p q (types h) =
      let both = rows_before m n 0x01 x y v w refl h.both in
      let a = row_of_some m x both.here in
      let b = row_of_some m y both.too in
      let s = h.both.first in
      let t = h.both.second in
      let last = refs_back (cells_of n) d (token_at (cells_of m) y 0) (token_at (cells_of n) y 0) (scope_lowered d y low t b q) in
      let mid = refs_on (cells_of n) d (token_at (cells_of m) x 0) (token_at (cells_of n) x 0) (token_at (cells_of m) y 0) (scope_lowered d x low s a p)
      (refs_on (cells_of n) d (token_at (cells_of n) x 0) (token_at (cells_of n) y 0) (token_at (cells_of m) y 0) h.scope last) in
      types (record {
        both = both;
        name = type_name m n keeps x s a ∙ h.name ∙ sym (type_name m n keeps y t b);
        space = type_space m n keeps x s a ∙ h.space ∙ sym (type_space m n keeps y t b);
        scope = lower (scope_names m x sound s a) (scope_names m y sound t b) mid (scope_before d x low s a p) (scope_before d y low t b q);
      })
  before_by d x y low v w lower p q (assemblies h) = assemblies (assemblies_before m n keeps x y v w h)
  before_by d x y low v w lower p q (modules h) = modules (modules_before m n keeps x y v w h)

  pub refs_before : (d : ℕ) (x y : Token) → d ≤ 100 → Names m x → Names m y → Ends (cells_of n) d x → Ends (cells_of n) d y
      → refs_alike (cells_of n) d x y ≡ true → refs_alike (cells_of m) d x y ≡ true
  refs_before zero x y few v w p q h = absurd (omega (arith, p))
  refs_before (suc d) x y few v w p q h =
      refs_whole (cells_of m) d x y (before_by d x y (omega arith) v w
      (λ f g k r s. refs_before d (token_at (cells_of m) x 0) (token_at (cells_of m) y 0) (omega arith) f g r s k) p q (refs_parts (cells_of n) d x y h))
