-- What a document that is lent stands for.
use Rattle.std.specs.Prelude.{ℕ, List, [], ◌∷◌, ◌++◌, Option, unwrap_or}
use Rattle.enc_plain.specs.Debug.{Document}
use Rattle.enc_plain.specs.DocumentName.{separator_bytes}
use Rattle.enc_plain.specs.declared.document.DocumentRef.{DocumentRef}

abbrev pub document_seen : DocumentRef → Document
document_seen d = record { name = d.name; algorithm = d.algorithm; hash = d.hash.now; language = d.language }

-- For the contract of a private function: the parts one behind the other, with one separator before the first and
-- another before each later one.
abbrev pub parts_text : ℕ → ℕ → List (List ℕ) → List ℕ
parts_text before separator [] = []
parts_text before separator (text ∷ texts) = separator_bytes before ++ (text ++ parts_text separator separator texts)

abbrev pub parts_said : ℕ → ℕ → Option (List (List ℕ)) → List ℕ
parts_said before separator parts = parts_text before separator (unwrap_or parts [])
