-- Why something is refused, by numbers, and its words.
use Rattle.std.specs.Prelude.{◌≡◌, ℕ, ◌==◌, Bool, true, false, not, ◌&&◌, ◌||◌, nat_le, nat_lt, if◌then◌else◌, List, ◌∷◌, [], ◌++◌, codes, decimal, length}
use Rattle.std.specs.Prelude.{Option, Some, None, option_map, Result, Ok, Err}
use Rattle.enc_base.specs.declared.refusal.Code.{Code}
use Rattle.enc_base.specs.declared.refusal.Code.TheVariants.{F, E}
use Rattle.enc_base.specs.declared.refusal.Place.{Place}
use Rattle.enc_base.specs.declared.refusal.Place.TheVariants as place
use Rattle.enc_base.specs.declared.refusal.Refusal.{Refusal}
use Rattle.enc_base.specs.declared.refusal.StreamName.{StreamName}
use Rattle.enc_jobs.specs.declared.fault.JobFault.TheVariants as fault
use Rattle.enc_schema.specs.Children.{is_child_table}
use Rattle.enc_schema.specs.Schema.{columns_in}
use Rattle.enc_base.specs.Tables as tables
use Rattle.enc_text.specs.Text.{refused_line, token_text}
use Rattle.enc_command_line.specs.Lines.{broken_line, deep_line, fault_text, limit_line, limit_text, unlisted_line}
use Rattle.enc_command_line.specs.declared.limits.Limit.TheVariants as limit
use Rattle.enc_c.specs.declared.reason.Reason.{Reason}
use Rattle.enc_c.specs.declared.reason.Reason.TheVariants.{File, Json, Element, Edit, Heap, Image, Deep}
use Rattle.enc_c.specs.declared.refusal.RefusalNumbers.{RefusalNumbers}
use Rattle.enc_c.specs.declared.status.Status.{Status}
use Rattle.enc_c.specs.declared.status.Status.TheVariants.{Unlike}
use Rattle.enc_c.specs.Refusals.{number_of_stream, numbers_of, refusal_by, stream_by, words_of}

-- a letter, a rule, the kind of a place, and the numbers that it has; the others are 0
abbrev pub numbers_with : ℕ → ℕ → ℕ → ℕ → ℕ → ℕ → ℕ → RefusalNumbers
numbers_with letter rule place stream table row entry =
    record {
      letter = letter;
      rule = rule;
      place = place;
      stream = stream;
      table = table;
      column = 0;
      row = row;
      entry = entry;
    }

-- the numbers of a reason: of a rule of a file, of J1 and J2, of a rule of edits, of L4 and of G1
unfoldable pub numbers_of_reason : Reason → RefusalNumbers
numbers_of_reason (File e) = numbers_of e
numbers_of_reason Json = numbers_with 0x4a 1 13 0 0 0 0
numbers_of_reason (Element n) = numbers_with 0x4a 2 14 0 0 0 n
numbers_of_reason (Edit rule n) = numbers_with 0x45 rule 14 0 0 0 n
numbers_of_reason (Heap name) = numbers_with 0x4c 4 1 (number_of_stream name) 0 0 0
numbers_of_reason Image = numbers_with 0x4c 4 15 0 0 0 0
numbers_of_reason (Deep t) = numbers_with 0x47 1 9 0 t.table t.row 0

-- what numbers say of a text
abbrev pub json_by : RefusalNumbers → Option Reason
json_by n = if n.rule == 1 && n.place == 13 then Some Json else if n.rule == 2
    && n.place == 14 then Some (Element n.entry) else None

-- of a limit
abbrev pub limit_by : RefusalNumbers → Option Reason
limit_by n =
    if n.rule == 4 && n.place == 1 then option_map (λ (name : StreamName). Heap name) (stream_by n.stream)
    else if n.rule == 4 && n.place == 15 then Some Image else None

-- of a reference that lies too deep
abbrev pub deep_by : RefusalNumbers → Option Reason
deep_by n = if n.rule == 1 && n.place == 9 then Some (Deep (record { table = n.table; row = n.row })) else None

-- the reason that numbers say
unfoldable pub reason_by : RefusalNumbers → Option Reason
reason_by n =
    if n.letter == 0x4a then json_by n else if n.letter == 0x4c then limit_by n else if n.letter == 0x47 then deep_by n
    else if n.letter == 0x45 && n.place == 14 then Some (Edit n.rule n.entry)
    else option_map (λ (e : Refusal). File e) (refusal_by n)

-- what the numbers of a reason say is that reason
abbrev pub NumbersAreTheReasons : Type 0
NumbersAreTheReasons = (r : Reason) → reason_by (numbers_of_reason r) ≡ Some r

-- the words of a reason, with the end of a line
unfoldable pub words_of_reason : Reason → List ℕ
words_of_reason (File e) = words_of e
words_of_reason Json = fault_text fault.J1 ++ 0x0a ∷ []
words_of_reason (Element n) = fault_text (fault.J2 n) ++ 0x0a ∷ []
words_of_reason (Edit rule n) = 0x45 ∷ decimal rule ++ 0x20 ∷ decimal n ++ 0x0a ∷ []
words_of_reason (Heap name) = limit_text (limit.Heap name) ++ 0x0a ∷ []
words_of_reason Image = limit_text limit.Image ++ 0x0a ∷ []
words_of_reason (Deep t) = codes "G1 " ++ token_text t ++ 0x0a ∷ []

-- the line that the program prints of a reason, with a file's name
abbrev pub line_of_reason : List ℕ → Reason → List ℕ
line_of_reason name (File e) = refused_line name e
line_of_reason name Json = unlisted_line name fault.J1
line_of_reason name (Element n) = unlisted_line name (fault.J2 n)
line_of_reason name (Edit rule n) = broken_line name rule n
line_of_reason name (Heap h) = limit_line name (limit.Heap h)
line_of_reason name Image = limit_line name limit.Image
line_of_reason name (Deep t) = deep_line name t

-- its words are what stands there behind the name
abbrev pub WordsStandInLines : Type 0
WordsStandInLines = (name : List ℕ) (r : Reason)
    → line_of_reason name r ≡ codes "refused " ++ name ++ 0x20 ∷ words_of_reason r

-- the rules of files: F1 to F12, and E1 to E24
abbrev pub is_rule : Code → Bool
is_rule (F n) = nat_le 1 n && nat_le n 12
is_rule (E n) = nat_le 1 n && nat_le n 24

-- the rules of edits
abbrev pub is_edit_rule : ℕ → Bool
is_edit_rule n = n == 4 || n == 5 || n == 6 || n == 10 || n == 12 || n == 13 || n == 16 || nat_le 18 n && nat_le n 24

-- the rules that tell a token as EncMap or EncLog has it, also of a table that there isn't
abbrev pub tells_any_token : Code → Bool
tells_any_token (F n) = false
tells_any_token (E n) = n == 6 || n == 7 || n == 9

-- a place that the tables of the schema have
abbrev pub is_place : Code → Place → Bool
is_place code (place.Row t) = not (length (columns_in t.table) == 0) || tells_any_token code
is_place code (place.Cell t column) = nat_lt column (length (columns_in t.table))
is_place code (place.Owner t) = is_child_table t.table
is_place code _ = true

-- a reason that there is: a rule, and a place of the schema
abbrev pub is_reason : Reason → Bool
is_reason (File e) = is_rule e.code && is_place e.code e.place
is_reason (Edit rule n) = is_edit_rule rule
is_reason (Deep t) = t.table == tables.type_ref || t.table == tables.type_spec
is_reason _ = true

-- the words of a reason, where there is one
abbrev pub words_told : Option Reason → Result (List ℕ) Status
words_told (Some r) = if is_reason r then Ok (words_of_reason r) else Err Unlike
words_told None = Err Unlike

-- the words of the reason that numbers say
abbrev pub words_by : RefusalNumbers → Result (List ℕ) Status
words_by n = words_told (reason_by n)
