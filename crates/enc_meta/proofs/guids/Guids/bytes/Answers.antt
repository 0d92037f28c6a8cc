use Rattle.std.proofs.Common.{refl}
use Rattle.enc_meta.specs.Built.{guid_bytes}
use Rattle.enc_meta.proofs.guids.Guids.bytes.Goals as goal

pub returns : goal.returns
unfolding guid_bytes
returns c =
    let nil = c.in_ok-nil.ensures.items_if_clones_equal (λ y e. e) in
    rw (← c.self.view_is, c.from_vec.ensures, c.in_ok-with_all.ensures, nil, c.as_slice.ensures.keys) refl
