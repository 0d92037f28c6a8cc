-- What the numbers of a reason say is that reason; and its words stand in its line.
use Rattle.std.specs.Prelude.{◌≡◌, ℕ, List, [], drop, option_map}
use Rattle.std.proofs.Common.{rules, refl, ap, ◌∙◌}
use Rattle.std.proofs.lemmas.List.{append_assoc}
use Rattle.enc_base.specs.declared.refusal.Code.{Code}
use Rattle.enc_base.specs.declared.refusal.Code.TheVariants.{F, E}
use Rattle.enc_base.specs.declared.refusal.Place.{Place}
use Rattle.enc_base.specs.declared.refusal.Place.TheVariants as place
use Rattle.enc_base.specs.declared.refusal.StreamName.TheVariants as stream
use Rattle.enc_base.specs.declared.refusal.Refusal.{Refusal}
use Rattle.enc_text.specs.Text.{refused_line}
use Rattle.enc_command_line.specs.Lines.{broken_line, deep_line, limit_line, unlisted_line}
use Rattle.enc_c.specs.declared.reason.Reason.{Reason}
use Rattle.enc_c.specs.declared.reason.Reason.TheVariants.{File, Json, Element, Edit, Heap, Image, Deep}
use Rattle.enc_c.specs.Refusals.{numbers_at, numbers_of, refusal_by, words_of}
use Rattle.enc_c.specs.Reasons.{line_of_reason, numbers_of_reason, reason_by, words_of_reason, NumbersAreTheReasons, WordsStandInLines}
use Rattle.enc_c.proofs.RefusalNumbers.{numbers_law}

-- those of a rule of a file say a rule of a file
file_at : (code : Code) (p : Place) → reason_by (numbers_at code p) ≡ option_map (λ (e : Refusal). File e) (refusal_by (numbers_at code p))
unfolding reason_by
file_at (F n) place.Root = refl
file_at (F n) (place.Stream name) = refl
file_at (F n) place.Headers = refl
file_at (F n) place.Cli = refl
file_at (F n) place.Metadata = refl
file_at (F n) place.Resources = refl
file_at (F n) place.Debug = refl
file_at (F n) place.Tables = refl
file_at (F n) place.Pdb = refl
file_at (F n) (place.Row token) = refl
file_at (F n) (place.Cell token column) = refl
file_at (F n) (place.Owner token) = refl
file_at (F n) (place.Log entry) = refl
file_at (E n) place.Root = refl
file_at (E n) (place.Stream name) = refl
file_at (E n) place.Headers = refl
file_at (E n) place.Cli = refl
file_at (E n) place.Metadata = refl
file_at (E n) place.Resources = refl
file_at (E n) place.Debug = refl
file_at (E n) place.Tables = refl
file_at (E n) place.Pdb = refl
file_at (E n) (place.Row token) = refl
file_at (E n) (place.Cell token column) = refl
file_at (E n) (place.Owner token) = refl
file_at (E n) (place.Log entry) = refl

pub reasons_law : NumbersAreTheReasons
unfolding numbers_of_reason numbers_of reason_by
reasons_law (File e) = file_at e.code e.place ∙ ap (option_map (λ (x : Refusal). File x)) (numbers_law e)
reasons_law Json = refl
reasons_law (Element n) = refl
reasons_law (Edit rule n) = refl
reasons_law (Heap stream.Strings) = refl
reasons_law (Heap stream.Users) = refl
reasons_law (Heap stream.Blobs) = refl
reasons_law (Heap stream.Guids) = refl
reasons_law (Heap stream.Compressed) = refl
reasons_law (Heap stream.Uncompressed) = refl
reasons_law (Heap stream.Pdb) = refl
reasons_law (Heap stream.Jtd) = refl
reasons_law Image = refl
reasons_law (Deep t) = refl

pub words_behind : WordsStandInLines
unfolding refused_line words_of unlisted_line broken_line limit_line deep_line words_of_reason
words_behind name (File e) = search (rules, append_assoc)
words_behind name Json = search (rules, append_assoc)
words_behind name (Element n) = search (rules, append_assoc)
words_behind name (Edit rule n) = search (rules, append_assoc)
words_behind name (Heap h) = search (rules, append_assoc)
words_behind name Image = search (rules, append_assoc)
words_behind name (Deep t) = search (rules, append_assoc)

pub words_in_line : (r : Reason) → drop 9 (line_of_reason [] r) ≡ words_of_reason r
words_in_line r = ap (λ (line : List ℕ). drop 9 line) (words_behind [] r)
