-- Likeness of methods' signatures is an equivalence.
use Rattle.std.proofs.Common.{◌≡◌, ℕ, zero, suc, Bool, true, false, List, Option, Some, None, refl, sym, subst, inl, inr, arith}
use Rattle.std.specs.Cmp.{both_ways}
use Rattle.std.specs.Prelude.{◌&&◌, ◌||◌, ◌==◌, bytes_eq}
use Rattle.std.proofs.lemmas.Bool.{and_parts, and_from, or_cases, or_left, or_right}
use Rattle.std.proofs.lemmas.Bool.Decides.{nat_tests}
use Rattle.std.proofs.lemmas.Slice.Eq.{bytes_eq-Decides}
use Rattle.enc_base.specs.Token.{is_token}
use Rattle.enc_base.specs.declared.token.Token.{Token}
use Rattle.enc_sigs.specs.declared.kind.SigKind.{SigKind}
use Rattle.enc_sigs.specs.declared.kind.SigKind.TheVariants as kind
use Rattle.enc_sigs.specs.Tree.{Forest, none, more, SigTree, forest_of}
use Rattle.enc_sigs.specs.Grammar.{is_coded, sig_in}
use Rattle.enc_sigs.specs.Agree.{tokens_agree, forests_agree, sig_trees_agree, if_both, sigs_agree}
use Rattle.enc_plain.specs.Rows.{Rows, number_at, bytes_at, token_at}
use Rattle.enc_plain.specs.Signatures.{kind_in_table}
use Rattle.enc_plain.specs.Alike.{are_rows, same_number, same_bytes, type_refs_alike, assembly_refs_alike, module_refs_alike, refs_alike, type_specs_alike, tokens_alike, signatures_alike}
use Rattle.enc_plain.proofs.Applied.{same_is}

-- a relation that is symmetric and transitive
pub record IsPartial {A : Type 0} (r : A → A → Bool) : Type 0 where
  pub back : (a b : A) → r a b ≡ true → r b a ≡ true
  pub on : (a b c : A) → r a b ≡ true → r b c ≡ true → r a c ≡ true

-- and reflexive
pub record IsEquivalence {A : Type 0} (r : A → A → Bool) : Type 0 where
  pub itself : (a : A) → r a a ≡ true
  pub part : IsPartial r

-- two relations at once
pub both_partial : {A : Type 0} (r s : A → A → Bool) → IsPartial r → IsPartial s → IsPartial (λ a b. r a b && s a b)
both_partial r s p q = record {
  back = λ a b h. let e = and_parts (r a b) (s a b) h in and_from (r b a) (s b a) (p.back a b e.0) (q.back a b e.1);
  on = λ a b c h k.
      let e = and_parts (r a b) (s a b) h in
      let f = and_parts (r b c) (s b c) k in
      and_from (r a c) (s a c) (p.on a b c e.0 f.0) (q.on a b c e.1 f.1);
}

-- things are related as those are that they are related to
pub related_as : {A : Type 0} (r : A → A → Bool) → IsPartial r → (a b c d : A) → r a c ≡ true → r b d ≡ true → r c d ≡ r a b
related_as r p a b c d ac bd = both_ways (r c d) (r a b) (λ h. p.on a d b (p.on a c d ac h) (p.back b d bd)) (λ h. p.on c b d (p.on c a b (p.back a c ac) h) bd)

-- a relation of what things have
pub of_partial : {A B : Type 0} (f : A → B) (r : B → B → Bool) → IsPartial r → IsPartial (λ a b. r (f a) (f b))
of_partial f r p = record { back = λ a b h. p.back (f a) (f b) h; on = λ a b c h k. p.on (f a) (f b) (f c) h k }

-- equal ones, and those of a relation
pub or_equal : {A : Type 0} (e r : A → A → Bool) → ((a : A) → e a a ≡ true) → ((a b : A) → e a b ≡ true → a ≡ b) → IsPartial r → IsEquivalence (λ a b. e a b || r a b)
or_equal e r same is p = record {
  itself = λ a. or_left (e a a) (r a a) (same a);
  part = record {
    back = λ a b h. elim (or_cases (e a b) (r a b) h) [
      | inl x ↦ or_left (e b a) (r b a) (subst (λ c. e c a ≡ true) (is a b x) (same a))
      | inr y ↦ or_right (e b a) (r b a) (p.back a b y)
    ];
    on = λ a b c h k. elim (or_cases (e a b) (r a b) h) [
      | inl x ↦ subst (λ d. (e d c || r d c) ≡ true) (sym (is a b x)) k
      | inr y ↦ elim (or_cases (e b c) (r b c) k) [
        | inl x ↦ or_right (e a c) (r a c) (subst (λ d. r a d ≡ true) (is b c x) y)
        | inr z ↦ or_right (e a c) (r a c) (p.on a b c y z)
      ]
    ];
  };
}

-- equal numbers, bytes, tokens
numbers : IsPartial (λ (n m : ℕ). n == m)
numbers = record { back = λ a b h. grind (arith, nat_tests); on = λ a b c h k. grind (arith, nat_tests) }

bytes_itself : (a : List ℕ) → bytes_eq a a ≡ true
bytes_itself a = (bytes_eq-Decides a a).1 refl

bytes : IsPartial bytes_eq
bytes = record {
  back = λ a b h. subst (λ c. bytes_eq c a ≡ true) ((bytes_eq-Decides a b).0 h) (bytes_itself a);
  on = λ a b c h k. subst (λ d. bytes_eq a d ≡ true) ((bytes_eq-Decides b c).0 k) h;
}

token_itself : (t : Token) → is_token t t ≡ true
token_itself t = grind (arith, nat_tests)

-- types and signatures that are equal but for tokens
five : (a b c d e : Bool) → (a && b && c && d && e) ≡ true → (a ≡ true) × (b ≡ true) × (c ≡ true) × (d ≡ true) × (e ≡ true)
five a b c d e h =
    let p = and_parts (a && b && c && d) e h in
    let q = and_parts (a && b && c) d p.0 in
    let r = and_parts (a && b) c q.0 in
    let s = and_parts a b r.0 in
    (s.0, s.1, r.1, q.1, p.1)

from_five : (a b c d e : Bool) → a ≡ true → b ≡ true → c ≡ true → d ≡ true → e ≡ true → (a && b && c && d && e) ≡ true
from_five a b c d e p q r s t = rw (p, q, r, s, t) refl

forests_back : (same : Token → Token → Bool) → IsPartial (tokens_agree same) → (f g : Forest) → forests_agree same f g ≡ true → forests_agree same g f ≡ true
unfolding forests_agree
forests_back same p none none h = refl
forests_back same p none (more f u m l s) h = absurd cc
forests_back same p (more e t n k r) none h = absurd cc
forests_back same p (more e t n k r) (more f u m l s) h =
    let w = five (e == f) (tokens_agree same t u) (n == m) (forests_agree same k l) (forests_agree same r s) h in
    from_five (f == e) (tokens_agree same u t) (m == n) (forests_agree same l k) (forests_agree same s r)
    (numbers.back e f w.0) (p.back t u w.1) (numbers.back n m w.2) (forests_back same p k l w.3) (forests_back same p r s w.4)

forests_on : (same : Token → Token → Bool) → IsPartial (tokens_agree same) → (f g h : Forest) → forests_agree same f g ≡ true → forests_agree same g h ≡ true → forests_agree same f h ≡ true
unfolding forests_agree
forests_on same p none none z h k = k
forests_on same p none (more f u m l s) z h k = absurd cc
forests_on same p (more e t n i r) none z h k = absurd cc
forests_on same p (more e t n i r) (more f u m l s) none h k = absurd cc
forests_on same p (more e t n i r) (more f u m l s) (more x y z a b) h k =
    let v = five (e == f) (tokens_agree same t u) (n == m) (forests_agree same i l) (forests_agree same r s) h in
    let w = five (f == x) (tokens_agree same u y) (m == z) (forests_agree same l a) (forests_agree same s b) k in
    from_five (e == x) (tokens_agree same t y) (n == z) (forests_agree same i a) (forests_agree same r b)
    (numbers.on e f x v.0 w.0) (p.on t u y v.1 w.1) (numbers.on n m z v.2 w.2) (forests_on same p i l a v.3 w.3) (forests_on same p r s b v.4 w.4)

forests : (same : Token → Token → Bool) → IsPartial (tokens_agree same) → IsPartial (forests_agree same)
forests same p = record { back = forests_back same p; on = forests_on same p }

sig_trees : (same : Token → Token → Bool) → IsPartial (tokens_agree same) → IsPartial (sig_trees_agree same)
sig_trees same p =
    both_partial (λ (x y : SigTree). x.kind == y.kind && x.generics == y.generics) (λ (x y : SigTree). forests_agree same (forest_of x.parts) (forest_of y.parts))
    (both_partial (λ (x y : SigTree). x.kind == y.kind) (λ (x y : SigTree). x.generics == y.generics)
    (of_partial (λ (x : SigTree). x.kind) (λ (n m : ℕ). n == m) numbers) (of_partial (λ (x : SigTree). x.generics) (λ (n m : ℕ). n == m) numbers))
    (of_partial (λ (x : SigTree). forest_of x.parts) (forests_agree same) (forests same p))

both_back : {A : Type 0} (r : A → A → Bool) → IsPartial r → (o p : Option A) → if_both r o p ≡ true → if_both r p o ≡ true
both_back r is None p h = absurd cc
both_back r is (Some x) None h = absurd cc
both_back r is (Some x) (Some y) h = is.back x y h

both_on : {A : Type 0} (r : A → A → Bool) → IsPartial r → (o p q : Option A) → if_both r o p ≡ true → if_both r p q ≡ true → if_both r o q ≡ true
both_on r is None p q h k = absurd cc
both_on r is (Some x) None q h k = absurd cc
both_on r is (Some x) (Some y) None h k = absurd cc
both_on r is (Some x) (Some y) (Some z) h k = is.on x y z h k

sigs : (same : Token → Token → Bool) (k : SigKind) → IsPartial (tokens_agree same) → IsPartial (sigs_agree same k)
unfolding sigs_agree
sigs same k p = record {
  back = λ a b h. both_back (sig_trees_agree same) (sig_trees same p) (sig_in is_coded k a) (sig_in is_coded k b) h;
  on = λ a b c h i. both_on (sig_trees_agree same) (sig_trees same p) (sig_in is_coded k a) (sig_in is_coded k b) (sig_in is_coded k c) h i;
}

-- equal tokens, and those that stand for one another
agreeing : (same : Token → Token → Bool) → IsPartial same → IsPartial (tokens_agree same)
agreeing same p = (or_equal is_token same token_itself (λ a b h. same_is a b h) p).part

-- the same bytes, and signatures that are equal but for tokens
blobs : (same : Token → Token → Bool) (k : SigKind) → IsPartial same → IsEquivalence (λ (a b : List ℕ). bytes_eq a b || sigs_agree same k a b)
blobs same k p = or_equal bytes_eq (sigs_agree same k) bytes_itself (λ a b h. (bytes_eq-Decides a b).0 h) (sigs same k (agreeing same p))

-- equal tokens alone are related in this table
abbrev IsApart : (Token → Token → Bool) → ℕ → Type 0
IsApart r table = (a b : Token) → r a b ≡ true → a.table ≡ table → a ≡ b

-- related ones are of this table
abbrev IsWithin : (Token → Token → Bool) → ℕ → Type 0
IsWithin s table = (a b : Token) → s a b ≡ true → (a.table ≡ table) × (b.table ≡ table)

joined : (r s : Token → Token → Bool) (t : ℕ) → IsEquivalence r → IsPartial s → IsApart r t → IsWithin s t → IsEquivalence (λ a b. r a b || s a b)
joined r s t e p apart within = record {
  itself = λ a. or_left (r a a) (s a a) (e.itself a);
  part = record {
    back = λ a b h. elim (or_cases (r a b) (s a b) h) [
      | inl x ↦ or_left (r b a) (s b a) (e.part.back a b x)
      | inr y ↦ or_right (r b a) (s b a) (p.back a b y)
    ];
    on = λ a b c h k. elim (or_cases (r a b) (s a b) h) [
      | inl x ↦ elim (or_cases (r b c) (s b c) k) [
        | inl y ↦ or_left (r a c) (s a c) (e.part.on a b c x y)
        | inr y ↦ or_right (r a c) (s a c) (subst (λ d. s d c ≡ true) (apart b a (e.part.back a b x) (within b c y).0) y)
      ]
      | inr x ↦ elim (or_cases (r b c) (s b c) k) [
        | inl y ↦ or_right (r a c) (s a c) (subst (λ d. s a d ≡ true) (apart b c y (within a b x).1) x)
        | inr y ↦ or_right (r a c) (s a c) (p.on a b c x y)
      ]
    ];
  };
}

other_table : (t u n : ℕ) → n ≡ u → n ≡ t → (u == t) ≡ false → ⊥
other_table t u n e f other = let h = rw (← e, f) at other in absurd (grind (arith, nat_tests))

still_apart : (r s : Token → Token → Bool) (t u : ℕ) → IsApart r t → IsWithin s u → (u == t) ≡ false → IsApart (λ a b. r a b || s a b) t
still_apart r s t u apart within other a b h at = elim (or_cases (r a b) (s a b) h) [
  | inl x ↦ apart a b x at
  | inr y ↦ absurd (other_table t u a.table (within a b y).0 at other)
]

-- what rows have
rows_within : (rows : Rows) (table : ℕ) → IsWithin (are_rows rows table) table
unfolding are_rows
rows_within rows table a b h = (grind (arith, nat_tests), grind (arith, nat_tests))

rows_partial : (rows : Rows) (table : ℕ) → IsPartial (are_rows rows table)
unfolding are_rows
rows_partial rows table = record { back = λ a b h. grind (arith, nat_tests); on = λ a b c h k. grind (arith, nat_tests) }

left_within : (r s : Token → Token → Bool) (t : ℕ) → IsWithin r t → IsWithin (λ a b. r a b && s a b) t
left_within r s t within a b h = within a b (and_parts (r a b) (s a b) h).0

number_partial : (rows : Rows) (i : ℕ) → IsPartial (λ (a b : Token). same_number rows a b i)
number_partial rows i = of_partial (λ (t : Token). number_at rows t i) (λ (n m : ℕ). n == m) numbers

bytes_partial : (rows : Rows) (i : ℕ) → IsPartial (λ (a b : Token). same_bytes rows a b i)
bytes_partial rows i = of_partial (λ (t : Token). bytes_at rows t i) bytes_eq bytes

-- references
type_refs_partial : (rows : Rows) (scopes : Token → Token → Bool) → IsPartial scopes → IsPartial (type_refs_alike rows scopes)
unfolding type_refs_alike
type_refs_partial rows scopes p =
    both_partial (λ a b. are_rows rows 0x01 a b && same_bytes rows a b 1 && same_bytes rows a b 2) (λ a b. scopes (token_at rows a 0) (token_at rows b 0))
    (both_partial (λ a b. are_rows rows 0x01 a b && same_bytes rows a b 1) (λ a b. same_bytes rows a b 2)
    (both_partial (are_rows rows 0x01) (λ a b. same_bytes rows a b 1) (rows_partial rows 0x01) (bytes_partial rows 1)) (bytes_partial rows 2))
    (of_partial (λ (t : Token). token_at rows t 0) scopes p)

type_refs_within : (rows : Rows) (scopes : Token → Token → Bool) → IsWithin (type_refs_alike rows scopes) 0x01
unfolding type_refs_alike
type_refs_within rows scopes a b h = rows_within rows 0x01 a b (and_parts _ _ (and_parts _ _ (and_parts _ _ h).0).0).0

module_refs_partial : (rows : Rows) → IsPartial (module_refs_alike rows)
unfolding module_refs_alike
module_refs_partial rows = both_partial (are_rows rows 0x1A) (λ a b. same_bytes rows a b 0) (rows_partial rows 0x1A) (bytes_partial rows 0)

module_refs_within : (rows : Rows) → IsWithin (module_refs_alike rows) 0x1A
unfolding module_refs_alike
module_refs_within rows a b h = rows_within rows 0x1A a b (and_parts _ _ h).0

-- the columns of an AssemblyRef
abbrev same_version : Rows → Token → Token → Bool
same_version rows a b = are_rows rows 0x23 a b && same_number rows a b 0 && same_number rows a b 1 && same_number rows a b 2 && same_number rows a b 3 && same_number rows a b 4

version_partial : (rows : Rows) → IsPartial (same_version rows)
version_partial rows =
    both_partial (λ a b. are_rows rows 0x23 a b && same_number rows a b 0 && same_number rows a b 1 && same_number rows a b 2 && same_number rows a b 3) (λ a b. same_number rows a b 4)
    (both_partial (λ a b. are_rows rows 0x23 a b && same_number rows a b 0 && same_number rows a b 1 && same_number rows a b 2) (λ a b. same_number rows a b 3)
    (both_partial (λ a b. are_rows rows 0x23 a b && same_number rows a b 0 && same_number rows a b 1) (λ a b. same_number rows a b 2)
    (both_partial (λ a b. are_rows rows 0x23 a b && same_number rows a b 0) (λ a b. same_number rows a b 1)
    (both_partial (are_rows rows 0x23) (λ a b. same_number rows a b 0) (rows_partial rows 0x23) (number_partial rows 0)) (number_partial rows 1)) (number_partial rows 2)) (number_partial rows 3)) (number_partial rows 4)

assembly_refs_partial : (rows : Rows) → IsPartial (assembly_refs_alike rows)
unfolding assembly_refs_alike
assembly_refs_partial rows =
    both_partial (λ a b. same_version rows a b && same_bytes rows a b 5 && same_bytes rows a b 6 && same_bytes rows a b 7) (λ a b. same_bytes rows a b 8)
    (both_partial (λ a b. same_version rows a b && same_bytes rows a b 5 && same_bytes rows a b 6) (λ a b. same_bytes rows a b 7)
    (both_partial (λ a b. same_version rows a b && same_bytes rows a b 5) (λ a b. same_bytes rows a b 6)
    (both_partial (same_version rows) (λ a b. same_bytes rows a b 5) (version_partial rows) (bytes_partial rows 5)) (bytes_partial rows 6)) (bytes_partial rows 7)) (bytes_partial rows 8)

assembly_refs_within : (rows : Rows) → IsWithin (assembly_refs_alike rows) 0x23
unfolding assembly_refs_alike
assembly_refs_within rows a b h =
    let version = (and_parts (same_version rows a b) _ (and_parts _ _ (and_parts _ _ (and_parts _ _ h).0).0).0).0 in
    rows_within rows 0x23 a b (and_parts _ _ (and_parts _ _ (and_parts _ _ (and_parts _ _ (and_parts _ _ version).0).0).0).0).0

equal_apart : (t : ℕ) → IsApart is_token t
equal_apart t a b h at = same_is a b h

equal_tokens : IsEquivalence is_token
equal_tokens = record {
  itself = token_itself;
  part = record { back = λ a b h. subst (λ c. is_token c a ≡ true) (same_is a b h) (token_itself a); on = λ a b c h k. subst (λ d. is_token a d ≡ true) (same_is b c k) h };
}

-- the same, and references to types; and those to assemblies
abbrev same_types : Rows → (Token → Token → Bool) → Token → Token → Bool
same_types rows scopes a b = is_token a b || type_refs_alike rows scopes a b

abbrev same_assemblies : Rows → (Token → Token → Bool) → Token → Token → Bool
same_assemblies rows scopes a b = same_types rows scopes a b || assembly_refs_alike rows a b

types_apart : (rows : Rows) (scopes : Token → Token → Bool) (t : ℕ) → (0x01 == t) ≡ false → IsApart (same_types rows scopes) t
types_apart rows scopes t other = still_apart is_token (type_refs_alike rows scopes) t 0x01 (equal_apart t) (type_refs_within rows scopes) other

assemblies_apart : (rows : Rows) (scopes : Token → Token → Bool) (t : ℕ) → (0x01 == t) ≡ false → (0x23 == t) ≡ false → IsApart (same_assemblies rows scopes) t
assemblies_apart rows scopes t other others = still_apart (same_types rows scopes) (assembly_refs_alike rows) t 0x23 (types_apart rows scopes t other) (assembly_refs_within rows) others

types_equivalence : (rows : Rows) (scopes : Token → Token → Bool) → IsPartial scopes → IsEquivalence (same_types rows scopes)
types_equivalence rows scopes p = joined is_token (type_refs_alike rows scopes) 0x01 equal_tokens (type_refs_partial rows scopes p) (equal_apart 0x01) (type_refs_within rows scopes)

assemblies_equivalence : (rows : Rows) (scopes : Token → Token → Bool) → IsPartial scopes → IsEquivalence (same_assemblies rows scopes)
assemblies_equivalence rows scopes p = joined (same_types rows scopes) (assembly_refs_alike rows) 0x23 (types_equivalence rows scopes p) (assembly_refs_partial rows) (types_apart rows scopes 0x23 refl) (assembly_refs_within rows)

pub refs_equivalence : (rows : Rows) (d : ℕ) → IsEquivalence (refs_alike rows d)
unfolding refs_alike
refs_equivalence rows zero = equal_tokens
refs_equivalence rows (suc d) =
    joined (same_assemblies rows (refs_alike rows d)) (module_refs_alike rows) 0x1A (assemblies_equivalence rows (refs_alike rows d) (refs_equivalence rows d).part)
    (module_refs_partial rows) (assemblies_apart rows (refs_alike rows d) 0x1A refl refl) (module_refs_within rows)

refs_apart : (rows : Rows) (d : ℕ) → IsApart (refs_alike rows d) 0x1B
unfolding refs_alike
refs_apart rows zero = equal_apart 0x1B
refs_apart rows (suc d) = still_apart (same_assemblies rows (refs_alike rows d)) (module_refs_alike rows) 0x1B 0x1A (assemblies_apart rows (refs_alike rows d) 0x1B refl refl) (module_refs_within rows) refl

-- TypeSpecs
specs_partial : (rows : Rows) → IsPartial (type_specs_alike rows)
unfolding type_specs_alike kind_in_table
specs_partial rows =
    both_partial (are_rows rows 0x1B) (λ a b. bytes_eq (bytes_at rows a 0) (bytes_at rows b 0) || sigs_agree (refs_alike rows 99) kind.TypeSpec (bytes_at rows a 0) (bytes_at rows b 0))
    (rows_partial rows 0x1B)
    (of_partial (λ (t : Token). bytes_at rows t 0) (λ (a b : List ℕ). bytes_eq a b || sigs_agree (refs_alike rows 99) kind.TypeSpec a b)
    (blobs (refs_alike rows 99) kind.TypeSpec (refs_equivalence rows 99).part).part)

specs_within : (rows : Rows) → IsWithin (type_specs_alike rows) 0x1B
unfolding type_specs_alike
specs_within rows a b h = rows_within rows 0x1B a b (and_parts _ _ h).0

-- tokens
pub tokens_equivalence : (rows : Rows) → IsEquivalence (tokens_alike rows)
unfolding tokens_alike
tokens_equivalence rows = joined (refs_alike rows 100) (type_specs_alike rows) 0x1B (refs_equivalence rows 100) (specs_partial rows) (refs_apart rows 100) (specs_within rows)

-- signatures of methods
pub methods_equivalence : (rows : Rows) → IsEquivalence (signatures_alike rows 0x06)
unfolding signatures_alike kind_in_table
methods_equivalence rows = blobs (tokens_alike rows) kind.Method (tokens_equivalence rows).part

-- equal ones are alike
pub equal_alike : (rows : Rows) (a b : List ℕ) → a ≡ b → signatures_alike rows 0x06 a b ≡ true
equal_alike rows a b e = subst (λ c. signatures_alike rows 0x06 a c ≡ true) e ((methods_equivalence rows).itself a)
