use Rattle.enc_meta.proofs.BuiltMeanings.{text_offsets_tell, user_offsets_tell, blob_offsets_tell, guid_numbers_tell}
use Rattle.enc_meta.proofs.laws.offsets_law.Goals as goal

pub returns : goal.returns
returns c = record { texts = text_offsets_tell; users = user_offsets_tell; blobs = blob_offsets_tell; guids = guid_numbers_tell }
