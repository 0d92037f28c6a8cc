-- What is no row has no form.
use Rattle.std.proofs.Common.{◌≡◌, ℕ, false, List, [], Option, None, refl, sym, ap, ◌∙◌}
use Rattle.enc_base.specs.declared.token.Token.{Token}
use Rattle.enc_machine_types.proofs.Ended.{no_field}
use Rattle.enc_machine_types.proofs.PartsRead.{shape_is}
use Rattle.enc_machine_types.specs.Elements.{call_shape_in, field_kind_in}
use Rattle.enc_machine_types.specs.Members.{call_shape, field_kind}
use Rattle.enc_machine_types.specs.Parts.{behind_byte, shape_front}
use Rattle.enc_plain.proofs.CellsOf.{bytes_absent}
use Rattle.enc_plain.specs.Module.{Module, has_row}
use Rattle.enc_sigs.specs.Grammar.{calling_in, byte_in}

no_front : shape_front [] ≡ None
unfolding shape_front calling_in byte_in
no_front = cc

pub no_shape : (m : Module) (t : Token) → has_row m t ≡ false → None ≡ call_shape m t
no_shape m t h = sym (ap call_shape_in (sym (bytes_absent m t 4 h)) ∙ (shape_is [] ∙ no_front))

pub no_kind : (m : Module) (t : Token) → has_row m t ≡ false → None ≡ field_kind m t
unfolding behind_byte
no_kind m t h = no_field [] refl ∙ ap field_kind_in (bytes_absent m t 2 h)
