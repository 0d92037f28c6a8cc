-- The chain that a base begins has the base's module, its user texts and its blobs.
use Rattle.std.proofs.Common.{◌≡◌, ℕ, refl, sym}
use Rattle.enc_meta.specs.Joined.{joined_user, joined_blob}
use Rattle.enc_meta.specs.Heaps.{blob_at}
use Rattle.enc_rows.specs.Source.{Source}
use Rattle.enc_image.specs.Base.{chain_of_base, module_in, users_of}
use Rattle.enc_meta.proofs.Alone.{user_alone, blob_alone}

pub begun_means : (s : Source) → module_in s ≡ (chain_of_base s).plain
unfolding chain_of_base
begun_means s = refl

pub begun_tells : (s : Source) (offset : ℕ) → users_of s offset ≡ joined_user (chain_of_base s).heaps offset
unfolding chain_of_base
begun_tells s offset = sym (user_alone s.heaps offset)

pub begun_joins : (s : Source) (offset : ℕ) → blob_at s.heaps.blobs offset ≡ joined_blob (chain_of_base s).heaps offset
unfolding chain_of_base
begun_joins s offset = sym (blob_alone s.heaps offset)
