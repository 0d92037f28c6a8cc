-- A token that is moved within its table is spelled and read.
use Rattle.std.proofs.Common.{◌≡◌, ℕ, zero, suc, ◌+◌, ◌*◌, ◌/◌, ◌%◌, ◌<◌, Bool, true, false, not, refl, sym, ap, ◌∙◌, arith}
use Rattle.std.proofs.lemmas.Bool.{eqb-true, ltb-true}
use Rattle.std.specs.Prelude.{◌&&◌, ◌==◌, nat_le, nat_lt, if◌then◌else◌}
use Rattle.enc_base.specs.Numbers.{WrittenIsRead, SignedWrittenIsRead}
use Rattle.enc_base.specs.declared.token.Token.{Token}
use Rattle.enc_base.specs.Tables.{type_def, type_ref}
use Rattle.enc_sigs.specs.Tree.{SigTree, forest_of}
use Rattle.enc_sigs.specs.Grammar.{table_of, token_named, is_coded}
use Rattle.enc_sigs.specs.Spelling.{token_number, sig_bytes, IsSpelled}
use Rattle.enc_sigs.specs.Moved.{sig_moved, all_tokens, stays_in_table, GoesTo}
use Rattle.enc_sigs.proofs.Back.{and_left, and_second}
use Rattle.enc_sigs.proofs.Written.{moved_reads}

-- the two low bits that name a table
abbrev tag_of : ℕ → ℕ
tag_of table = if table == type_def then 0 else if table == type_ref then 1 else 2

tag_if : (a b : Bool) → (if a then 0 else if b then 1 else 2) < 3
tag_if true b = omega arith
tag_if false true = omega arith
tag_if false false = omega arith

tag_low : (table : ℕ) → tag_of table < 3
tag_low table = tag_if (table == type_def) (table == type_ref)

tag_names : (r : ℕ) → r < 4 → table_of (tag_of (table_of r)) ≡ table_of r
tag_names zero lt = refl
tag_names (suc zero) lt = refl
tag_names (suc (suc zero)) lt = refl
tag_names (suc (suc (suc zero))) lt = refl
tag_names (suc (suc (suc (suc r)))) lt = absurd (omega arith)

is_no_three : (r : ℕ) → r < 3 → not (r == 3) ≡ true
is_no_three zero lt = refl
is_no_three (suc zero) lt = refl
is_no_three (suc (suc zero)) lt = refl
is_no_three (suc (suc (suc r))) lt = absurd (omega arith)

low_of : (row tag : ℕ) → tag < 3 → (row * 4 + tag) % 4 ≡ tag
low_of row tag lt = omega (arith, lt)

row_of : (row tag : ℕ) → tag < 3 → (row * 4 + tag) / 4 ≡ row
row_of row tag lt = omega (arith, lt)

coded_low : (n tag : ℕ) → n % 4 ≡ tag → tag < 3 → is_coded n ≡ true
unfolding is_coded
coded_low n tag e lt = ap (λ r. not (r == 3)) e ∙ is_no_three tag lt

abbrev a_token : ℕ → ℕ → Token
a_token table row = record { table = table; row = row }

-- a token of a table that can be named, and of a row that isn't large
named_again : (u : Token) (r : ℕ) → r < 4 → u.table ≡ table_of r → token_named (token_number u) ≡ u
named_again u r lt is =
    let tag = tag_of u.table in
    let low = tag_low u.table in
    let table : table_of tag ≡ u.table = ap (λ t. table_of (tag_of t)) is ∙ tag_names r lt ∙ sym is in
    ap (λ m. a_token (table_of m) ((u.row * 4 + tag) / 4)) (low_of u.row tag low) ∙ ap (λ m. a_token (table_of tag) m) (row_of u.row tag low)
    ∙ ap (λ t. a_token t u.row) table

short_by : (row tag : ℕ) → tag < 3 → row < 0x1000000 → row * 4 + tag < 0x20000000
short_by row tag lt few = omega (arith, lt, few)

goes_by : (f : Token → Token) (n : ℕ) → (f (token_named n)).table ≡ table_of (n % 4) → (f (token_named n)).row < 0x1000000 → GoesTo f is_coded n
goes_by f n is few =
    let u = f (token_named n) in
    let lt : n % 4 < 4 = omega arith in
    let low = tag_low u.table in
    record {
      named = named_again u (n % 4) lt is;
      short = short_by u.row (tag_of u.table) low few;
      passes = coded_low (token_number u) (tag_of u.table) (low_of u.row (tag_of u.table) low) low;
    }

stays_goes : (f : Token → Token) (n : ℕ) → stays_in_table f (token_named n) ≡ true → GoesTo f is_coded n
stays_goes f n stays =
    let t = token_named n in
    let first = (f t).table == t.table in
    let second = nat_le 1 (f t).row in
    let third = nat_lt (f t).row 0x1000000 in
    goes_by f n (eqb-true (f t).table t.table (and_left first second (and_left (first && second) third stays)))
    (ltb-true (f t).row 0x1000000 (and_second (first && second) third stays))

-- a signature whose tokens all stay in their tables is spelled with these moved
pub moved_is_spelled : WrittenIsRead → SignedWrittenIsRead → (f : Token → Token) (s : SigTree) → IsSpelled s
    → all_tokens (stays_in_table f) (forest_of s.parts) ≡ true → IsSpelled (sig_moved f s)
unfolding sig_moved
moved_is_spelled written signed f s spelled stays =
    moved_reads f (stays_in_table f) is_coded is_coded s.form (sig_bytes s) s written signed (λ n few is may. stays_goes f n may) spelled stays
