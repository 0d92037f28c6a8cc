use Rattle.std.proofs.Common.{rules}
use Rattle.enc_rows.proofs.Streams.{header_behind}
use Rattle.enc_rows.proofs.written.push_header.Goals as goal

pub returns : goal.returns
returns c =
    header_behind c.args.valid c.args.flags c.args.out.now.items c.extend_from_slice.new.self.items c.push_long.new.out.items c.push_zeros.new.out.items (search rules) (search rules) (search rules)
