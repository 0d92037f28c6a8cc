use Rattle.enc_sigs.specs.Spelling.{sig_bytes}
use Rattle.enc_sigs.specs.Moved.{sig_moved}
use Rattle.enc_sigs.proofs.MovedTrees.{forest_of_moved}
use Rattle.enc_sigs.proofs.write.write_whole.Goals as goal

pub returns : goal.returns
unfolding sig_bytes sig_moved
returns g c = λ f h.
    rw (forest_of_moved f c.args.front.now.parts)
    (rw (c.as_slice.ensures.value, c.in_ok-write_front.ensures f h, c.new-bytes.ensures.items) at c.extend_from_slice.ensures.items)
