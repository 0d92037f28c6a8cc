-- In a file whose documents are good each row of Document is a document.
use Rattle.std.proofs.Common.{◌≡◌, ℕ, ◌+◌, ◌-◌, ◌<◌, ◌≤◌, Bool, true, false, Option, Some, None, refl, ap, sym, ◌∙◌, arith}
use Rattle.std.specs.Prelude.{◌&&◌, nat_le, is_some, option_map, if◌then◌else◌}
use Rattle.enc_base.specs.Token.{nth_row}
use Rattle.enc_base.specs.declared.token.Token.{Token}
use Rattle.std.proofs.lemmas.Bool.Decides.{nat_tests}
use Rattle.enc_base.proofs.First.{silent}
use Rattle.enc_rows.specs.Layout.{rows_of}
use Rattle.enc_rows.specs.Source.{Source}
use Rattle.enc_base.specs.Tables as tables
use Rattle.enc_plain.specs.Debug.{Document}
use Rattle.enc_ppdb.specs.Fault.{is_document, document_fault, documents_fault}
use Rattle.enc_ppdb.specs.PdbChain.{document_of, document_at}
use Rattle.enc_ppdb.specs.Seen.{good_document}
use Rattle.enc_ppdb.proofs.Rows.{is_good_row}

some_if : (b : Bool) (d : Document) → is_some (if b then Some d else None) ≡ b
some_if true d = refl
some_if false d = refl

some_map : {A B : Type 0} (f : A → B) (o : Option A) → is_some o ≡ is_some (option_map f o)
some_map f (Some x) = refl
some_map f None = refl

-- a row has a document exactly where it is good
pub document_there : {A : Type 0} (f : A → Document) (o : Option A) (s : Source) (row : Token) → option_map f o ≡ good_document s row → is_some o ≡ is_document s row
unfolding good_document
document_there f o s row e = some_map f o ∙ ap is_some e ∙ some_if (is_document s row) (document_of s row)

good_row : (s : Source) (k : ℕ) → documents_fault s ≡ None → k < rows_of s.layout tables.document → is_document s (nth_row tables.document k) ≡ true
unfolding documents_fault document_fault
good_row s k none lt = is_good_row (is_document s (nth_row tables.document k)) (nth_row tables.document k) (silent (document_fault s) (rows_of s.layout tables.document) k none lt)

by_row : (s : Source) (row : Token) → is_document s row ≡ true → good_document s row ≡ Some (document_of s row)
unfolding good_document
by_row s row good = rw good refl

-- each row of the table is good
pub document_known : (s : Source) (n : ℕ) → documents_fault s ≡ None → 1 ≤ n → n ≤ rows_of s.layout tables.document → good_document s (record { table = tables.document; row = n }) ≡ Some (document_of s (record { table = tables.document; row = n }))
document_known s n none low high =
    let e : n - 1 + 1 ≡ n = omega arith in
    by_row s (record { table = tables.document; row = n }) (rw e at (good_row s (n - 1) none (omega arith)))

in_range : (n rows : ℕ) → 1 ≤ n → n ≤ rows → (nat_le 1 n && nat_le n rows) ≡ true
in_range n rows low high =
    let a : nat_le 1 n ≡ true = grind (arith, nat_tests) in
    let b : nat_le n rows ≡ true = grind (arith, nat_tests) in
    rw (a, b) refl

-- and the document with its number
pub document_numbered : (s : Source) (n : ℕ) → documents_fault s ≡ None → 1 ≤ n → n ≤ rows_of s.layout tables.document → good_document s (record { table = tables.document; row = n }) ≡ document_at s n
unfolding document_at
document_numbered s n none low high = document_known s n none low high ∙ sym (ap (λ (b : Bool). if b then Some (document_of s (record { table = tables.document; row = n })) else None) (in_range n (rows_of s.layout tables.document) low high))
