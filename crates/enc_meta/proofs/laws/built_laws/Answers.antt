use Rattle.enc_meta.proofs.BuiltMeanings.{texts_are_read, users_are_read, blobs_are_read, guids_are_read, all_texts_count}
use Rattle.enc_meta.proofs.laws.built_laws.Goals as goal

pub returns : goal.returns
returns c = record { texts = texts_are_read; users = users_are_read; blobs = blobs_are_read; guids = guids_are_read; count = all_texts_count }
