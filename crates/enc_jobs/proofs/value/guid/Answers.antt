use Rattle.std.proofs.Common.{◌≡◌, None, refl}
use Rattle.uuid.specs.Text.{parsed}
use Rattle.enc_jobs.specs.Json.{guid_said}
use Rattle.enc_jobs.proofs.Values.{nothing}
use Rattle.enc_jobs.proofs.value.guid.Goals as goal

pub returns-in-Err : goal.returns-in-Err
unfolding guid_said
returns-in-Err c =
    let e : parsed c.in_ok-text.text.now ≡ None = nothing _ c.in-Err.ensures.ok.1 in
    rw (c.in_ok-text.ensures, e) refl
