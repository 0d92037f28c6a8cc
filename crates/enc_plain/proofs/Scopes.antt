-- How likeness goes through the scopes of references.
use Rattle.std.proofs.Common.{◌≡◌, ℕ, zero, suc, ◌-◌, ◌<◌, Bool, true, false, refl, arith, sym}
use Rattle.std.specs.Prelude.{◌&&◌, ◌||◌, ◌==◌}
use Rattle.std.proofs.lemmas.Bool.Decides.{nat_tests}
use Rattle.enc_base.specs.Token.{is_token}
use Rattle.enc_base.specs.declared.token.Token.{Token}
use Rattle.enc_plain.specs.Rows.{Rows, token_at}
use Rattle.enc_plain.specs.Alike.{are_rows, same_bytes, type_refs_alike, assembly_refs_alike, module_refs_alike, refs_alike}

-- equal tokens are alike
pub refs_same : (rows : Rows) (d : ℕ) (a b : Token) → is_token a b ≡ true → true ≡ refs_alike rows d a b
unfolding refs_alike
refs_same rows zero a b h = sym h
refs_same rows (suc d) a b h = rw h refl

-- and no others where no depth is left
pub refs_end : (rows : Rows) (d : ℕ) (a b : Token) → is_token a b ≡ false → d ≡ 0 → false ≡ refs_alike rows d a b
unfolding refs_alike
refs_end rows zero a b h e = sym h
refs_end rows (suc d) a b h e = absurd (omega arith)

-- the names and the namespaces of TypeRefs are equal
abbrev pub are_namesakes : Rows → Token → Token → Bool
are_namesakes rows a b = are_rows rows 0x01 a b && same_bytes rows a b 1 && same_bytes rows a b 2

other_table : (rows : Rows) (t u : ℕ) (a b : Token) → are_rows rows t a b ≡ true → (t == u) ≡ false → are_rows rows u a b ≡ false
unfolding are_rows
other_table rows t u a b h e = grind (arith, nat_tests)

first_of : (p q r : Bool) → (p && q && r) ≡ true → p ≡ true
first_of true q r h = refl
first_of false q r h = h

pub no_assembly : (rows : Rows) (a b : Token) → are_rows rows 0x23 a b ≡ false → assembly_refs_alike rows a b ≡ false
unfolding assembly_refs_alike
no_assembly rows a b h = rw h refl

pub no_module : (rows : Rows) (a b : Token) → are_rows rows 0x1A a b ≡ false → module_refs_alike rows a b ≡ false
unfolding module_refs_alike
no_module rows a b h = rw h refl

namesakes_by : (rows : Rows) (scopes : Token → Token → Bool) (a b : Token) → are_namesakes rows a b ≡ true → type_refs_alike rows scopes a b ≡ scopes (token_at rows a 0) (token_at rows b 0)
unfolding type_refs_alike
namesakes_by rows scopes a b h = rw h refl

pub others_by : (rows : Rows) (scopes : Token → Token → Bool) (a b : Token) → are_namesakes rows a b ≡ false → type_refs_alike rows scopes a b ≡ false
unfolding type_refs_alike
others_by rows scopes a b h = rw h refl

by_scope : (p s q r t : Bool) → p ≡ false → s ≡ t → q ≡ false → r ≡ false → t ≡ (p || s || q || r)
by_scope p s q r true a b c d = rw (a, b) refl
by_scope p s q r false a b c d = rw (a, b, c, d) refl

-- TypeRefs with equal names are alike where their scopes are, one less deep
pub refs_named : (rows : Rows) (d : ℕ) (a b : Token) → is_token a b ≡ false → 0 < d → are_namesakes rows a b ≡ true → refs_alike rows (d - 1) (token_at rows a 0) (token_at rows b 0) ≡ refs_alike rows d a b
unfolding refs_alike
refs_named rows zero a b h low e = absurd (omega arith)
refs_named rows (suc d) a b h low e =
    let both : are_rows rows 0x01 a b ≡ true = first_of (are_rows rows 0x01 a b) (same_bytes rows a b 1) (same_bytes rows a b 2) e in
    let less : suc d - 1 ≡ d = omega arith in
    rw less (by_scope (is_token a b) (type_refs_alike rows (refs_alike rows d) a b) (assembly_refs_alike rows a b) (module_refs_alike rows a b) (refs_alike rows d (token_at rows a 0) (token_at rows b 0)) h (namesakes_by rows (refs_alike rows d) a b e) (no_assembly rows a b (other_table rows 0x01 0x23 a b both refl)) (no_module rows a b (other_table rows 0x01 0x1A a b both refl)))

by_others : (p s q r : Bool) → p ≡ false → s ≡ false → (q || r) ≡ (p || s || q || r)
by_others p s q r a b = rw (a, b) refl

-- and other references by their columns
pub refs_others : (rows : Rows) (d : ℕ) (a b : Token) → is_token a b ≡ false → 0 < d → are_namesakes rows a b ≡ false → (assembly_refs_alike rows a b || module_refs_alike rows a b) ≡ refs_alike rows d a b
unfolding refs_alike
refs_others rows zero a b h low e = absurd (omega arith)
refs_others rows (suc d) a b h low e = by_others (is_token a b) (type_refs_alike rows (refs_alike rows d) a b) (assembly_refs_alike rows a b) (module_refs_alike rows a b) h (others_by rows (refs_alike rows d) a b e)

-- how likeness goes on, or ends, at each test of it
pub ruleset steps = (refs_same, refs_end, refs_named, refs_others)
