-- The values of a tree.
use Rattle.std.specs.Prelude.{◌≡◌, ◌%◌, ◌==◌, Option, Some, None, if◌then◌else◌}
use Rattle.enc_key_map.specs.declared.key.Key.{Key}
use Rattle.enc_key_map.specs.declared.key.Digits.{Digits}
use Rattle.enc_key_map.specs.declared.tree.Tree.{Tree}
use Rattle.enc_key_map.specs.declared.tree.Tree.TheVariants.{Empty, Fork'}
use Rattle.enc_key_map.specs.declared.tree.Fork.{Fork}
use Rattle.enc_key_map.specs.Key.{is_key, next_digits}

-- the value of a key that has these digits left
abbrev pub at : {V : Type 0} → Tree V → Key → Digits → Option V
at Empty key d = None
at (Fork' p k value zeros ones) key d = if is_key k key then Some value
    else (if d.first % 2 == 0 then at zeros key (next_digits d) else at ones key (next_digits d))

-- nothing stands behind it
pub record IsLeaf {V : Type 0} (f : Fork V) : Type 0 where
  pub no_zeros : f.zeros ≡ Empty
  pub no_ones : f.ones ≡ Empty
