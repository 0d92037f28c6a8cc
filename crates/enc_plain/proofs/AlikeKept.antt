-- What alike tokens and signatures keep: a TypeDef, that locals are locals, and what tells the size of a field.
use Rattle.std.proofs.Common.{◌≡◌, ℕ, zero, suc, ◌/◌, ◌%◌, ◌<◌, Bool, true, false, List, [], ◌∷◌, Option, Some, None, refl, sym, ap, ◌∙◌, inl, inr, arith}
use Rattle.std.specs.Prelude.{◌&&◌, ◌==◌, not, bytes_eq, option_map, if◌then◌else◌}
use Rattle.std.proofs.Math.Nat.{mod-lt}
use Rattle.std.proofs.lemmas.Bool.{or_cases, and_parts}
use Rattle.std.proofs.lemmas.Bool.Decides.{nat_tests}
use Rattle.std.proofs.lemmas.Slice.Eq.{bytes_eq-Decides}
use Rattle.enc_base.specs.Token.{nil, is_token}
use Rattle.enc_base.specs.declared.token.Token.{Token}
use Rattle.enc_schema.specs.declared.column.Coding.TheVariants.{TypeDefOrRef}
use Rattle.enc_schema.specs.Coding.{tables_of, tag_bits, table_with, decoded}
use Rattle.enc_sigs.specs.declared.kind.SigKind.TheVariants as kind
use Rattle.enc_sigs.specs.Tree.{Tree, SigTree, forest_of}
use Rattle.enc_sigs.specs.Grammar.{table_of, token_named, is_coded, sig_in}
use Rattle.enc_sigs.specs.Agree.{tokens_agree, forests_agree, sig_trees_agree, if_both, sigs_agree}
use Rattle.enc_sigs.proofs.Fronts.{NumberAt, field_first, locals_first}
use Rattle.enc_opcodes.specs.Body.{begins_locals}
use Rattle.enc_plain.specs.Rows.{Rows}
use Rattle.enc_plain.specs.Alike.{are_rows, tokens_alike, alike_in_table, signatures_alike}
use Rattle.enc_plain.specs.Signatures.{kind_in_table, alone_kind}
use Rattle.enc_plain.specs.Extent.{size_of_kind, class_of, class_in, extent_in}
use Rattle.enc_plain.specs.declared.extent.Extent.{Extent}
use Rattle.enc_plain.specs.declared.extent.Extent.TheVariants.{Bytes, Class}
use Rattle.enc_plain.proofs.Applied.{same_is}
use Rattle.enc_plain.proofs.AlikeLaws.{unnamed, tokens_are}

-- a row of a table that isn't one of references is alike itself alone
other_first : (rows : Rows) (t u : ℕ) (a b : Token) → a.table ≡ t → (t == u) ≡ false → are_rows rows u a b ≡ false
unfolding are_rows
other_first rows t u a b h e = grind (arith, nat_tests)

other_second : (rows : Rows) (t u : ℕ) (a b : Token) → b.table ≡ t → (t == u) ≡ false → are_rows rows u a b ≡ false
unfolding are_rows
other_second rows t u a b h e = grind (arith, nat_tests)

-- the table isn't one of references
pub record NoReferences (t : ℕ) : Type 0 where
  pub types : (t == 0x01) ≡ false
  pub assemblies : (t == 0x23) ≡ false
  pub modules : (t == 0x1A) ≡ false
  pub specs : (t == 0x1B) ≡ false

alone_first : (rows : Rows) (t : ℕ) (a b : Token) → NoReferences t → a.table ≡ t → tokens_alike rows a b ≡ is_token a b
alone_first rows t a b apart e = tokens_are rows a b (unnamed rows a b (other_first rows t 0x01 a b e apart.types)) (other_first rows t 0x23 a b e apart.assemblies) (other_first rows t 0x1A a b e apart.modules) (other_first rows t 0x1B a b e apart.specs)

alone_second : (rows : Rows) (t : ℕ) (a b : Token) → NoReferences t → b.table ≡ t → tokens_alike rows a b ≡ is_token a b
alone_second rows t a b apart e = tokens_are rows a b (unnamed rows a b (other_second rows t 0x01 a b e apart.types)) (other_second rows t 0x23 a b e apart.assemblies) (other_second rows t 0x1A a b e apart.modules) (other_second rows t 0x1B a b e apart.specs)

pub alike_same : (rows : Rows) (t : ℕ) (a b : Token) → NoReferences t → a.table ≡ t → tokens_alike rows a b ≡ true → a ≡ b
alike_same rows t a b apart e h = same_is a b (sym (alone_first rows t a b apart e) ∙ h)

alike_second : (rows : Rows) (t : ℕ) (a b : Token) → NoReferences t → b.table ≡ t → tokens_alike rows a b ≡ true → a ≡ b
alike_second rows t a b apart e h = same_is a b (sym (alone_second rows t a b apart e) ∙ h)

pub no_definitions : NoReferences 0x02
no_definitions = record { types = refl; assemblies = refl; modules = refl; specs = refl }

pub no_nil : NoReferences 0x00
no_nil = record { types = refl; assemblies = refl; modules = refl; specs = refl }

-- the type that a token of a signature names
class_told : Token → Option Extent
class_told t = if t.row == 0 then None else if t.table == 0x02 then Some (Class t.row) else None

by_zero : (row : ℕ) (z : Bool) (tag : ℕ) → (row == 0) ≡ z → tag < 4 → (tag == 3) ≡ false → class_of (if z then Some nil else option_map (λ (t : ℕ). record { table = t; row = row }) (table_with TypeDefOrRef tag)) ≡ (if z then None else if table_of tag == 0x02 then Some (Class row) else None)
unfolding table_with tables_of
by_zero row true tag is low apart = refl
by_zero row false zero is low apart = refl
by_zero row false (suc zero) is low apart = refl
by_zero row false (suc (suc zero)) is low apart = refl
by_zero row false (suc (suc (suc k))) is low apart = let three : k ≡ 0 = omega arith in absurd (third k three apart)
  where
    third : (k : ℕ) → k ≡ 0 → (suc (suc (suc k)) == 3) ≡ false → ⊥
    third k e h = let f = rw e at h in absurd cc

not_three : (n : ℕ) → not (n == 3) ≡ true → (n == 3) ≡ false
not_three n h = grind (arith, nat_tests)

class_is : (n : ℕ) → is_coded n ≡ true → class_of (decoded TypeDefOrRef n) ≡ class_told (token_named n)
unfolding decoded tag_bits class_told is_coded
class_is n coded = by_zero (n / 4) (n / 4 == 0) (n % 4) refl (mod-lt n (omega arith)) (not_three (n % 4) coded)

class_at : (rest : List ℕ) (t : Token) → NumberAt rest t → class_in rest ≡ class_told t
unfolding class_in
class_at rest t at = rw (at.spelled, at.token) (class_is at.number at.coded)

-- alike tokens name the same type
not_definition : (t : Token) → (t.table == 0x02) ≡ false → class_told t ≡ None
unfolding class_told
not_definition t h = by_row (t.row == 0) h
  where
    by_row : (z : Bool) → (t.table == 0x02) ≡ false → (if z then None else if t.table == 0x02 then Some (Class t.row) else None) ≡ None
    by_row true h = refl
    by_row false h = rw h refl

told_by : (rows : Rows) (t u : Token) (a b : Bool) → (t.table == 0x02) ≡ a → (u.table == 0x02) ≡ b → tokens_alike rows t u ≡ true → class_told t ≡ class_told u
told_by rows t u true b ha hb h = ap class_told (alike_same rows 0x02 t u no_definitions (grind (arith, nat_tests)) h)
told_by rows t u false true ha hb h = ap class_told (alike_second rows 0x02 t u no_definitions (grind (arith, nat_tests)) h)
told_by rows t u false false ha hb h = not_definition t ha ∙ sym (not_definition u hb)

agreed : (rows : Rows) (t u : Token) → tokens_agree (tokens_alike rows) t u ≡ true → class_told t ≡ class_told u
agreed rows t u h =
    elim (or_cases (is_token t u) (tokens_alike rows t u) h) [
      | inl same ↦ ap class_told (same_is t u same)
      | inr alike ↦ told_by rows t u (t.table == 0x02) (u.table == 0x02) refl refl alike
    ]

-- the first types of agreeing signatures have one element, and tokens that agree
eq_of : (a b : ℕ) → (a == b) ≡ true → a ≡ b
eq_of a b h = grind (arith, nat_tests)

one_agrees : (same : Token → Token → Bool) (t u : Tree) → forests_agree same (forest_of (t ∷ [])) (forest_of (u ∷ [])) ≡ true → (t.element ≡ u.element) × (tokens_agree same t.token u.token ≡ true)
unfolding forests_agree
one_agrees same t u h =
    let a = and_parts (t.element == u.element && tokens_agree same t.token u.token && t.number == u.number && forests_agree same t.kids u.kids) _ h in
    let b = and_parts (t.element == u.element && tokens_agree same t.token u.token && t.number == u.number) (forests_agree same t.kids u.kids) a.0 in
    let c = and_parts (t.element == u.element && tokens_agree same t.token u.token) (t.number == u.number) b.0 in
    let d = and_parts (t.element == u.element) (tokens_agree same t.token u.token) c.0 in
    (eq_of t.element u.element d.0, d.1)

trees_first : (same : Token → Token → Bool) (x y : SigTree) (t u : Tree) → x.parts ≡ t ∷ [] → y.parts ≡ u ∷ [] → sig_trees_agree same x y ≡ true → (t.element ≡ u.element) × (tokens_agree same t.token u.token ≡ true)
trees_first same x y t u px py h =
    let a = (and_parts (x.kind == y.kind && x.generics == y.generics) (forests_agree same (forest_of x.parts) (forest_of y.parts)) h).1 in
    one_agrees same t u (rw (px, py) at a)

-- both signatures are there
two_there : {A : Type 0} (agree : A → A → Bool) (o p : Option A) → if_both agree o p ≡ true → (x : A) × (y : A) × (o ≡ Some x) × (p ≡ Some y) × (agree x y ≡ true)
two_there agree None p h = absurd cc
two_there agree (Some x) None h = absurd cc
two_there agree (Some x) (Some y) h = (x, y, refl, refl, h)

same_extent : (k : ℕ) (rest behind : List ℕ) (b : Bool) → (k == 0x11) ≡ b → (k ≡ 0x11 → class_in rest ≡ class_in behind) → (if b then class_in rest else option_map (λ n. Bytes n) (size_of_kind k)) ≡ (if b then class_in behind else option_map (λ n. Bytes n) (size_of_kind k))
same_extent k rest behind true is same = same (eq_of k 0x11 is)
same_extent k rest behind false is same = refl

extent_of_field : (bytes rest : List ℕ) (k : ℕ) → bytes ≡ 0x06 ∷ k ∷ rest → extent_in bytes ≡ (if k == 0x11 then class_in rest else option_map (λ n. Bytes n) (size_of_kind k))
unfolding extent_in
extent_of_field bytes rest k h = rw h refl

fields_agree : (rows : Rows) (a b : List ℕ) (x y : SigTree) → sig_in is_coded kind.Field a ≡ Some x → sig_in is_coded kind.Field b ≡ Some y → sig_trees_agree (tokens_alike rows) x y ≡ true → extent_in a ≡ extent_in b
fields_agree rows a b x y ha hb h =
    let f = field_first a x ha in
    let g = field_first b y hb in
    let e = trees_first (tokens_alike rows) x y f.tree g.tree f.parts g.parts h in
    let k : f.type.element ≡ g.type.element = sym f.type.is ∙ e.0 ∙ g.type.is in
    let starts : a ≡ 0x06 ∷ f.type.element ∷ f.type.rest = f.begins ∙ ap (λ xs. 0x06 ∷ xs) f.type.begins in
    let begins : b ≡ 0x06 ∷ f.type.element ∷ g.type.rest = g.begins ∙ ap (λ xs. 0x06 ∷ xs) g.type.begins ∙ ap (λ n. 0x06 ∷ n ∷ g.type.rest) (sym k) in
    extent_of_field a f.type.rest f.type.element starts
    ∙ same_extent f.type.element f.type.rest g.type.rest (f.type.element == 0x11) refl (λ named. class_at f.type.rest f.tree.token (f.type.named named) ∙ agreed rows f.tree.token g.tree.token e.1 ∙ sym (class_at g.type.rest g.tree.token (g.type.named (sym k ∙ named))))
    ∙ sym (extent_of_field b g.type.rest f.type.element begins)

extent_by : (rows : Rows) (a b : List ℕ) → sigs_agree (tokens_alike rows) kind.Field a b ≡ true → extent_in a ≡ extent_in b
unfolding sigs_agree
extent_by rows a b h =
    let w = two_there (sig_trees_agree (tokens_alike rows)) (sig_in is_coded kind.Field a) (sig_in is_coded kind.Field b) h in
    fields_agree rows a b w.0 w.1 w.2 w.3 w.4

-- alike signatures of fields tell the same size
pub extent_alike : (rows : Rows) (a b : List ℕ) → signatures_alike rows 0x04 a b ≡ true → extent_in a ≡ extent_in b
unfolding signatures_alike kind_in_table
extent_alike rows a b h =
    elim (or_cases (bytes_eq a b) (sigs_agree (tokens_alike rows) kind.Field a b) h) [
      | inl same ↦ ap extent_in ((bytes_eq-Decides a b).0 same)
      | inr alike ↦ extent_by rows a b alike
    ]

-- and what is alike a signature of locals is one
begins_so : (b : List ℕ) (k : ℕ) (rest : List ℕ) → b ≡ k ∷ rest → (k == 0x07) ≡ true → begins_locals b ≡ true
begins_so b k rest e h = rw e h

locals_by : (same : Token → Token → Bool) (a b : List ℕ) → sigs_agree same kind.Locals a b ≡ true → begins_locals b ≡ true
unfolding sigs_agree
locals_by same a b h =
    let w = two_there (sig_trees_agree same) (sig_in is_coded kind.Locals a) (sig_in is_coded kind.Locals b) h in
    let f = locals_first b w.1 w.3 in
    begins_so b f.0 f.1 f.2 f.3

locals_kind : (a : List ℕ) → begins_locals a ≡ true → alone_kind a ≡ kind.Locals
locals_kind [] h = absurd cc
locals_kind (b ∷ rest) h = rw h refl

pub locals_alike : (rows : Rows) (a b : List ℕ) → signatures_alike rows 0x11 a b ≡ true → begins_locals a ≡ true → begins_locals b ≡ true
unfolding signatures_alike kind_in_table
locals_alike rows a b h begins =
    elim (or_cases (bytes_eq a b) (sigs_agree (alike_in_table rows 0x11) (alone_kind a) a b) h) [
      | inl same ↦ rw (← (bytes_eq-Decides a b).0 same) begins
      | inr alike ↦ locals_by (alike_in_table rows 0x11) a b (rw (locals_kind a begins) at alike)
    ]
