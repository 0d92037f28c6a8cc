-- What the numbers of a refusal say is that refusal.
use Rattle.std.specs.Prelude.{◌≡◌, Some}
use Rattle.std.proofs.Common.{refl}
use Rattle.enc_base.specs.declared.refusal.Code.{Code}
use Rattle.enc_base.specs.declared.refusal.Code.TheVariants.{F, E}
use Rattle.enc_base.specs.declared.refusal.Place.{Place}
use Rattle.enc_base.specs.declared.refusal.Place.TheVariants as place
use Rattle.enc_base.specs.declared.refusal.StreamName.TheVariants as stream
use Rattle.enc_c.specs.Refusals.{numbers_at, numbers_of, refusal_by, NumbersAreTheRefusals}

at_law : (code : Code) (p : Place) → refusal_by (numbers_at code p) ≡ Some (record { code = code; place = p })
unfolding refusal_by
at_law (F n) place.Root = refl
at_law (F n) (place.Stream stream.Strings) = refl
at_law (F n) (place.Stream stream.Users) = refl
at_law (F n) (place.Stream stream.Blobs) = refl
at_law (F n) (place.Stream stream.Guids) = refl
at_law (F n) (place.Stream stream.Compressed) = refl
at_law (F n) (place.Stream stream.Uncompressed) = refl
at_law (F n) (place.Stream stream.Pdb) = refl
at_law (F n) (place.Stream stream.Jtd) = refl
at_law (F n) place.Headers = refl
at_law (F n) place.Cli = refl
at_law (F n) place.Metadata = refl
at_law (F n) place.Resources = refl
at_law (F n) place.Debug = refl
at_law (F n) place.Tables = refl
at_law (F n) place.Pdb = refl
at_law (F n) (place.Row token) = refl
at_law (F n) (place.Cell token column) = refl
at_law (F n) (place.Owner token) = refl
at_law (F n) (place.Log entry) = refl
at_law (E n) place.Root = refl
at_law (E n) (place.Stream stream.Strings) = refl
at_law (E n) (place.Stream stream.Users) = refl
at_law (E n) (place.Stream stream.Blobs) = refl
at_law (E n) (place.Stream stream.Guids) = refl
at_law (E n) (place.Stream stream.Compressed) = refl
at_law (E n) (place.Stream stream.Uncompressed) = refl
at_law (E n) (place.Stream stream.Pdb) = refl
at_law (E n) (place.Stream stream.Jtd) = refl
at_law (E n) place.Headers = refl
at_law (E n) place.Cli = refl
at_law (E n) place.Metadata = refl
at_law (E n) place.Resources = refl
at_law (E n) place.Debug = refl
at_law (E n) place.Tables = refl
at_law (E n) place.Pdb = refl
at_law (E n) (place.Row token) = refl
at_law (E n) (place.Cell token column) = refl
at_law (E n) (place.Owner token) = refl
at_law (E n) (place.Log entry) = refl

pub numbers_law : NumbersAreTheRefusals
unfolding numbers_of
numbers_law e = at_law e.code e.place
