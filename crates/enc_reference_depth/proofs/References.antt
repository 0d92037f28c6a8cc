-- Alike references: what makes two alike, and that likeness at one depth goes back and on.
use Rattle.std.proofs.Common.{◌≡◌, ℕ, zero, suc, Bool, true, false, refl, sym, ◌∙◌, inl, inr}
use Rattle.std.specs.Prelude.{◌&&◌, ◌||◌, ◌==◌, is_some}
use Rattle.std.proofs.lemmas.Bool.{or_cases, or_left, or_right, and_parts, and_from, eqb-true, eq-eqb}
use Rattle.std.proofs.lemmas.Slice.Eq.{bytes_eq-Decides}
use Rattle.enc_base.specs.Token.{is_token}
use Rattle.enc_base.specs.declared.token.Token.{Token}
use Rattle.enc_plain.specs.Rows.{Rows, number_at, bytes_at, token_at}
use Rattle.enc_plain.specs.Alike.{are_rows, same_number, same_bytes, type_refs_alike, assembly_refs_alike, module_refs_alike, refs_alike}
use Rattle.enc_reference_depth.proofs.Agreeing.{itself, GoesBack, GoesOn}
use Rattle.enc_plain.proofs.Applied.{same_is}

-- both are rows of a table
pub record BothRows (rows : Rows) (table : ℕ) (a b : Token) : Type 0 where
  pub first : a.table ≡ table
  pub second : b.table ≡ table
  pub here : is_some (rows a) ≡ true
  pub too : is_some (rows b) ≡ true

pub rows_parts : (rows : Rows) (table : ℕ) (a b : Token) → are_rows rows table a b ≡ true → BothRows rows table a b
unfolding are_rows
rows_parts rows table a b h =
    let f = and_parts (a.table == table && b.table == table && is_some (rows a)) (is_some (rows b)) h in
    let g = and_parts (a.table == table && b.table == table) (is_some (rows a)) f.0 in
    let k = and_parts (a.table == table) (b.table == table) g.0 in
    record { first = eqb-true a.table table k.0; second = eqb-true b.table table k.1; here = g.1; too = f.1 }

pub rows_whole : (rows : Rows) (table : ℕ) (a b : Token) → BothRows rows table a b → are_rows rows table a b ≡ true
unfolding are_rows
rows_whole rows table a b h =
    and_from (a.table == table && b.table == table && is_some (rows a)) (is_some (rows b))
    (and_from (a.table == table && b.table == table) (is_some (rows a))
    (and_from (a.table == table) (b.table == table) (eq-eqb a.table table h.first) (eq-eqb b.table table h.second)) h.here) h.too

pub rows_back : (rows : Rows) (table : ℕ) (a b : Token) → BothRows rows table a b → BothRows rows table b a
rows_back rows table a b h = record { first = h.second; second = h.first; here = h.too; too = h.here }

pub rows_on : (rows : Rows) (table : ℕ) (a b c : Token) → BothRows rows table a b → BothRows rows table b c → BothRows rows table a c
rows_on rows table a b c h k = record { first = h.first; second = k.second; here = h.here; too = k.too }

number_is : (rows : Rows) (a b : Token) (i : ℕ) → same_number rows a b i ≡ true → number_at rows a i ≡ number_at rows b i
number_is rows a b i h = eqb-true (number_at rows a i) (number_at rows b i) h

is_number : (rows : Rows) (a b : Token) (i : ℕ) → number_at rows a i ≡ number_at rows b i → same_number rows a b i ≡ true
is_number rows a b i h = eq-eqb (number_at rows a i) (number_at rows b i) h

bytes_are : (rows : Rows) (a b : Token) (i : ℕ) → same_bytes rows a b i ≡ true → bytes_at rows a i ≡ bytes_at rows b i
bytes_are rows a b i h = (bytes_eq-Decides (bytes_at rows a i) (bytes_at rows b i)).0 h

are_bytes : (rows : Rows) (a b : Token) (i : ℕ) → bytes_at rows a i ≡ bytes_at rows b i → same_bytes rows a b i ≡ true
are_bytes rows a b i h = (bytes_eq-Decides (bytes_at rows a i) (bytes_at rows b i)).1 h

-- TypeRefs with equal names, in alike scopes
pub record TypesAlike (rows : Rows) (scopes : Token → Token → Bool) (a b : Token) : Type 0 where
  pub both : BothRows rows 0x01 a b
  pub name : bytes_at rows a 1 ≡ bytes_at rows b 1
  pub space : bytes_at rows a 2 ≡ bytes_at rows b 2
  pub scope : scopes (token_at rows a 0) (token_at rows b 0) ≡ true

types_parts : (rows : Rows) (scopes : Token → Token → Bool) (a b : Token) → type_refs_alike rows scopes a b ≡ true → TypesAlike rows scopes a b
unfolding type_refs_alike
types_parts rows scopes a b h =
    let f = and_parts (are_rows rows 0x01 a b && same_bytes rows a b 1 && same_bytes rows a b 2) (scopes (token_at rows a 0) (token_at rows b 0)) h in
    let g = and_parts (are_rows rows 0x01 a b && same_bytes rows a b 1) (same_bytes rows a b 2) f.0 in
    let k = and_parts (are_rows rows 0x01 a b) (same_bytes rows a b 1) g.0 in
    record { both = rows_parts rows 0x01 a b k.0; name = bytes_are rows a b 1 k.1; space = bytes_are rows a b 2 g.1; scope = f.1 }

types_whole : (rows : Rows) (scopes : Token → Token → Bool) (a b : Token) → TypesAlike rows scopes a b → type_refs_alike rows scopes a b ≡ true
unfolding type_refs_alike
types_whole rows scopes a b h =
    and_from (are_rows rows 0x01 a b && same_bytes rows a b 1 && same_bytes rows a b 2) (scopes (token_at rows a 0) (token_at rows b 0))
    (and_from (are_rows rows 0x01 a b && same_bytes rows a b 1) (same_bytes rows a b 2)
    (and_from (are_rows rows 0x01 a b) (same_bytes rows a b 1) (rows_whole rows 0x01 a b h.both) (are_bytes rows a b 1 h.name))
    (are_bytes rows a b 2 h.space)) h.scope

-- AssemblyRefs that are equal in all columns
pub record AssembliesAlike (rows : Rows) (a b : Token) : Type 0 where
  pub both : BothRows rows 0x23 a b
  pub major : number_at rows a 0 ≡ number_at rows b 0
  pub minor : number_at rows a 1 ≡ number_at rows b 1
  pub build : number_at rows a 2 ≡ number_at rows b 2
  pub revision : number_at rows a 3 ≡ number_at rows b 3
  pub flags : number_at rows a 4 ≡ number_at rows b 4
  pub key : bytes_at rows a 5 ≡ bytes_at rows b 5
  pub name : bytes_at rows a 6 ≡ bytes_at rows b 6
  pub culture : bytes_at rows a 7 ≡ bytes_at rows b 7
  pub hash : bytes_at rows a 8 ≡ bytes_at rows b 8

assemblies_parts : (rows : Rows) (a b : Token) → assembly_refs_alike rows a b ≡ true → AssembliesAlike rows a b
unfolding assembly_refs_alike
assemblies_parts rows a b h =
    let p4 = are_rows rows 0x23 a b && same_number rows a b 0 && same_number rows a b 1 && same_number rows a b 2 && same_number rows a b 3 in
    let p5 = p4 && same_number rows a b 4 in
    let p6 = p5 && same_bytes rows a b 5 in
    let p7 = p6 && same_bytes rows a b 6 in
    let p8 = p7 && same_bytes rows a b 7 in
    let h8 = and_parts p8 (same_bytes rows a b 8) h in
    let h7 = and_parts p7 (same_bytes rows a b 7) h8.0 in
    let h6 = and_parts p6 (same_bytes rows a b 6) h7.0 in
    let h5 = and_parts p5 (same_bytes rows a b 5) h6.0 in
    let h4 = and_parts p4 (same_number rows a b 4) h5.0 in
    let h3 = and_parts (are_rows rows 0x23 a b && same_number rows a b 0 && same_number rows a b 1 && same_number rows a b 2) (same_number rows a b 3) h4.0 in
    let h2 = and_parts (are_rows rows 0x23 a b && same_number rows a b 0 && same_number rows a b 1) (same_number rows a b 2) h3.0 in
    let h1 = and_parts (are_rows rows 0x23 a b && same_number rows a b 0) (same_number rows a b 1) h2.0 in
    let h0 = and_parts (are_rows rows 0x23 a b) (same_number rows a b 0) h1.0 in
    record {
      both = rows_parts rows 0x23 a b h0.0;
      major = number_is rows a b 0 h0.1;
      minor = number_is rows a b 1 h1.1;
      build = number_is rows a b 2 h2.1;
      revision = number_is rows a b 3 h3.1;
      flags = number_is rows a b 4 h4.1;
      key = bytes_are rows a b 5 h5.1;
      name = bytes_are rows a b 6 h6.1;
      culture = bytes_are rows a b 7 h7.1;
      hash = bytes_are rows a b 8 h8.1;
    }

assemblies_whole : (rows : Rows) (a b : Token) → AssembliesAlike rows a b → assembly_refs_alike rows a b ≡ true
unfolding assembly_refs_alike
assemblies_whole rows a b h =
    rw (
      rows_whole rows 0x23 a b h.both,
      is_number rows a b 0 h.major,
      is_number rows a b 1 h.minor,
      is_number rows a b 2 h.build,
      is_number rows a b 3 h.revision,
      is_number rows a b 4 h.flags,
      are_bytes rows a b 5 h.key,
      are_bytes rows a b 6 h.name,
      are_bytes rows a b 7 h.culture,
      are_bytes rows a b 8 h.hash,
    ) refl

assemblies_back : (rows : Rows) (a b : Token) → AssembliesAlike rows a b → AssembliesAlike rows b a
assemblies_back rows a b h = record {
  both = rows_back rows 0x23 a b h.both;
  major = sym h.major;
  minor = sym h.minor;
  build = sym h.build;
  revision = sym h.revision;
  flags = sym h.flags;
  key = sym h.key;
  name = sym h.name;
  culture = sym h.culture;
  hash = sym h.hash;
}

assemblies_on : (rows : Rows) (a b c : Token) → AssembliesAlike rows a b → AssembliesAlike rows b c → AssembliesAlike rows a c
assemblies_on rows a b c h k = record {
  both = rows_on rows 0x23 a b c h.both k.both;
  major = h.major ∙ k.major;
  minor = h.minor ∙ k.minor;
  build = h.build ∙ k.build;
  revision = h.revision ∙ k.revision;
  flags = h.flags ∙ k.flags;
  key = h.key ∙ k.key;
  name = h.name ∙ k.name;
  culture = h.culture ∙ k.culture;
  hash = h.hash ∙ k.hash;
}

-- ModuleRefs with equal names
pub record ModulesAlike (rows : Rows) (a b : Token) : Type 0 where
  pub both : BothRows rows 0x1A a b
  pub name : bytes_at rows a 0 ≡ bytes_at rows b 0

modules_parts : (rows : Rows) (a b : Token) → module_refs_alike rows a b ≡ true → ModulesAlike rows a b
unfolding module_refs_alike
modules_parts rows a b h =
    let f = and_parts (are_rows rows 0x1A a b) (same_bytes rows a b 0) h in
    record { both = rows_parts rows 0x1A a b f.0; name = bytes_are rows a b 0 f.1 }

modules_whole : (rows : Rows) (a b : Token) → ModulesAlike rows a b → module_refs_alike rows a b ≡ true
unfolding module_refs_alike
modules_whole rows a b h = and_from (are_rows rows 0x1A a b) (same_bytes rows a b 0) (rows_whole rows 0x1A a b h.both) (are_bytes rows a b 0 h.name)

-- what makes two references alike
pub data RefsAre (rows : Rows) (scopes : Token → Token → Bool) (a b : Token) : Type 0 where
  same : a ≡ b → RefsAre rows scopes a b
  types : TypesAlike rows scopes a b → RefsAre rows scopes a b
  assemblies : AssembliesAlike rows a b → RefsAre rows scopes a b
  modules : ModulesAlike rows a b → RefsAre rows scopes a b

pub refs_parts : (rows : Rows) (d : ℕ) (a b : Token) → refs_alike rows (suc d) a b ≡ true → RefsAre rows (refs_alike rows d) a b
unfolding refs_alike
refs_parts rows d a b h =
    let t = type_refs_alike rows (refs_alike rows d) a b in
    elim (or_cases (is_token a b || t || assembly_refs_alike rows a b) (module_refs_alike rows a b) h) [
      | inl g ↦ elim (or_cases (is_token a b || t) (assembly_refs_alike rows a b) g) [
        | inl k ↦ elim (or_cases (is_token a b) t k) [
          | inl is ↦ same (same_is a b is)
          | inr is ↦ types (types_parts rows (refs_alike rows d) a b is)
        ]
        | inr is ↦ assemblies (assemblies_parts rows a b is)
      ]
      | inr is ↦ modules (modules_parts rows a b is)
    ]

pub refs_whole : (rows : Rows) (d : ℕ) (a b : Token) → RefsAre rows (refs_alike rows d) a b → refs_alike rows (suc d) a b ≡ true
unfolding refs_alike
refs_whole rows d a b (same e) =
    or_left (is_token a b || type_refs_alike rows (refs_alike rows d) a b || assembly_refs_alike rows a b) (module_refs_alike rows a b)
    (or_left (is_token a b || type_refs_alike rows (refs_alike rows d) a b) (assembly_refs_alike rows a b)
    (or_left (is_token a b) (type_refs_alike rows (refs_alike rows d) a b) (rw e (itself b))))
refs_whole rows d a b (types h) =
    or_left (is_token a b || type_refs_alike rows (refs_alike rows d) a b || assembly_refs_alike rows a b) (module_refs_alike rows a b)
    (or_left (is_token a b || type_refs_alike rows (refs_alike rows d) a b) (assembly_refs_alike rows a b)
    (or_right (is_token a b) (type_refs_alike rows (refs_alike rows d) a b) (types_whole rows (refs_alike rows d) a b h)))
refs_whole rows d a b (assemblies h) =
    or_left (is_token a b || type_refs_alike rows (refs_alike rows d) a b || assembly_refs_alike rows a b) (module_refs_alike rows a b)
    (or_right (is_token a b || type_refs_alike rows (refs_alike rows d) a b) (assembly_refs_alike rows a b) (assemblies_whole rows a b h))
refs_whole rows d a b (modules h) =
    or_right (is_token a b || type_refs_alike rows (refs_alike rows d) a b || assembly_refs_alike rows a b) (module_refs_alike rows a b)
    (modules_whole rows a b h)

refs_zero : (rows : Rows) (a b : Token) → refs_alike rows zero a b ≡ true → a ≡ b
unfolding refs_alike
refs_zero rows a b h = same_is a b h

zero_refs : (rows : Rows) (a b : Token) → a ≡ b → refs_alike rows zero a b ≡ true
unfolding refs_alike
zero_refs rows a b e = rw e (itself b)

-- each is alike itself
pub refs_itself : (rows : Rows) (d : ℕ) (a : Token) → refs_alike rows d a a ≡ true
refs_itself rows zero a = zero_refs rows a a refl
refs_itself rows (suc d) a = refs_whole rows d a a (same refl)

pub refs_equal : (rows : Rows) (d : ℕ) (a b : Token) → a ≡ b → refs_alike rows d a b ≡ true
refs_equal rows d a b e = rw e (refs_itself rows d b)

case_back : (rows : Rows) (scopes : Token → Token → Bool) (a b : Token) → GoesBack scopes → RefsAre rows scopes a b → RefsAre rows scopes b a
case_back rows scopes a b back (same e) = same (sym e)
case_back rows scopes a b back (types h) = types (record {
  both = rows_back rows 0x01 a b h.both;
  name = sym h.name;
  space = sym h.space;
  scope = back (token_at rows a 0) (token_at rows b 0) h.scope;
})
case_back rows scopes a b back (assemblies h) = assemblies (assemblies_back rows a b h)
case_back rows scopes a b back (modules h) = modules (record { both = rows_back rows 0x1A a b h.both; name = sym h.name })

pub refs_back : (rows : Rows) (d : ℕ) → GoesBack (refs_alike rows d)
refs_back rows zero a b h = zero_refs rows b a (sym (refs_zero rows a b h))
refs_back rows (suc d) a b h = refs_whole rows d b a (case_back rows (refs_alike rows d) a b (refs_back rows d) (refs_parts rows d a b h))

pub apart : {A : Type 0} (t n m : ℕ) → t ≡ n → t ≡ m → (n == m) ≡ false → A
apart t n m e f d = let g : true ≡ false = sym (eq-eqb n m (sym e ∙ f)) ∙ d in absurd cc

case_on : (rows : Rows) (scopes : Token → Token → Bool) (a b c : Token) → GoesOn scopes → RefsAre rows scopes a b → RefsAre rows scopes b c
    → RefsAre rows scopes a c
case_on rows scopes a b c on (same e) k = rw e k
case_on rows scopes a b c on (types h) (same e) = rw (← e) (types h)
case_on rows scopes a b c on (types h) (types k) = types (record {
  both = rows_on rows 0x01 a b c h.both k.both;
  name = h.name ∙ k.name;
  space = h.space ∙ k.space;
  scope = on (token_at rows a 0) (token_at rows b 0) (token_at rows c 0) h.scope k.scope;
})
case_on rows scopes a b c on (types h) (assemblies k) = apart b.table 0x01 0x23 h.both.second k.both.first refl
case_on rows scopes a b c on (types h) (modules k) = apart b.table 0x01 0x1A h.both.second k.both.first refl
case_on rows scopes a b c on (assemblies h) (same e) = rw (← e) (assemblies h)
case_on rows scopes a b c on (assemblies h) (types k) = apart b.table 0x23 0x01 h.both.second k.both.first refl
case_on rows scopes a b c on (assemblies h) (assemblies k) = assemblies (assemblies_on rows a b c h k)
case_on rows scopes a b c on (assemblies h) (modules k) = apart b.table 0x23 0x1A h.both.second k.both.first refl
case_on rows scopes a b c on (modules h) (same e) = rw (← e) (modules h)
case_on rows scopes a b c on (modules h) (types k) = apart b.table 0x1A 0x01 h.both.second k.both.first refl
case_on rows scopes a b c on (modules h) (assemblies k) = apart b.table 0x1A 0x23 h.both.second k.both.first refl
case_on rows scopes a b c on (modules h) (modules k) = modules (record { both = rows_on rows 0x1A a b c h.both k.both; name = h.name ∙ k.name })

pub refs_on : (rows : Rows) (d : ℕ) → GoesOn (refs_alike rows d)
refs_on rows zero a b c h k = zero_refs rows a c (refs_zero rows a b h ∙ refs_zero rows b c k)
refs_on rows (suc d) a b c h k =
    refs_whole rows d a c (case_on rows (refs_alike rows d) a b c (refs_on rows d) (refs_parts rows d a b h) (refs_parts rows d b c k))
