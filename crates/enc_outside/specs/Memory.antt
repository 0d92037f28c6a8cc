-- What is seen of a store and of a sink in memory, whose calls fail at given numbers.
use Rattle.std.specs.Prelude.{ℕ, Bool, List, nat_eq, if◌then◌else◌, refl}
use Rattle.std.specs.List.{list_any}
use Rattle.std.specs.Coded.{Coded, code_by, coded×, coded_ℕ, coded_list}
use Rattle.enc_outside.specs.Outside.{Files, files_code, risen}

-- the calls that were made, the numbers of the calls that fail, and the faults so far
pub record Counts : Type 0 where
  pub calls : ℕ
  pub failing : List ℕ
  pub faults : ℕ

-- a code of the counts, by which proofs tell them apart
abbrev pub counts_code : Coded Counts
counts_code =
    code_by (ℕ × (List ℕ × ℕ)) (coded× coded_ℕ (coded× (coded_list coded_ℕ) coded_ℕ))
    (λ c. (c.calls, (c.failing, c.faults)))
    (λ p. record { calls = p.0; failing = p.1.0; faults = p.1.1 }) (λ _. refl)

-- the next call, counted from 1, is one of those that fail
unfoldable pub is_failing : Counts → Bool
is_failing counts = list_any (nat_eq (risen counts.calls)) counts.failing

-- one call more
abbrev pub called : Counts → Counts
called counts = record counts { calls = risen counts.calls }

-- one fault more
abbrev pub faulted : Counts → Counts
faulted counts = record counts { faults = risen counts.faults }

-- one call more, and one fault more where that call fails
unfoldable pub after_call : Counts → Counts
after_call counts = if is_failing counts then faulted (called counts) else called counts

-- a store in memory: its files and its calls
pub record FilesInMemory : Type 0 where
  pub files : Files
  pub counts : Counts

-- a code of such stores, by which proofs tell them apart
abbrev pub memory_code : Coded FilesInMemory
memory_code =
    code_by (Files × Counts) (coded× files_code counts_code) (λ s. (s.files, s.counts))
    (λ p. record { files = p.0; counts = p.1 }) (λ _. refl)

-- a sink in memory: its bytes and its calls
pub record BytesInMemory : Type 0 where
  pub bytes : List ℕ
  pub counts : Counts
