-- For the contracts of private functions: what comes of a remap and of a delta, as it was answered.
use Rattle.std.specs.Prelude.{◌≡◌, ℕ}
use Rattle.enc_session.specs.declared.applied.Applied.{Applied}
use Rattle.enc_session.specs.declared.applied.Applied.TheVariants as applied
use Rattle.enc_c.specs.Refusals.{numbers_of}
use Rattle.enc_c.specs.Status.{number_of_status}
use Rattle.enc_c.specs.declared.refusal.RefusalNumbers.{RefusalNumbers}
use Rattle.enc_c.specs.declared.status.Status.TheVariants as status
use Rattle.enc_remap.specs.declared.remapped.Remapped.{Remapped}
use Rattle.enc_remap.specs.declared.remapped.Remapped.TheVariants as remapped
use Rattle.enc_c.specs.SessionNumbers.{token_as_number}
use Rattle.enc_c.specs.declared.session_numbers.RemappedNumbers.{RemappedNumbers}

abbrev pub remapped_told : Remapped → RemappedNumbers
remapped_told (remapped.Moved method from to) =
    record { rule = 0; method = token_as_number method; from = from; to = to }
remapped_told (remapped.Refused number) = record { rule = number; method = 0; from = 0; to = 0 }

-- a delta was applied, or refused
abbrev pub TellsApplied : ℕ → RefusalNumbers → RefusalNumbers → Applied → Type 0
TellsApplied number old new (applied.Generation g) = (number ≡ number_of_status status.Done) × (new ≡ old)
TellsApplied number old new (applied.Refused e) = (number ≡ number_of_status status.Refused) × (new ≡ numbers_of e)
