use Rattle.std.proofs.Common.{◌≡◌, length, map}
use Rattle.enc_commands.specs.Verdict.{judge_deltas}
use Rattle.enc_commands.specs.Loads.{file_seen, followed}
use Rattle.enc_commands.proofs.judge.judge_deltas.Given as goal

-- what is left is judged after those so far
abbrev pub invariant-loop-file : goal.invariant-loop-file
invariant-loop-file l = record {
  next : (goal.iterator-loop-file).can_next l.file-iterator;
  finite : (goal.iterator-loop-file).is_finite l.file-iterator;
  many : length l.file-iterator.rest.items ≡ l.file-iterator.rest.len;
  judged : judge_deltas (followed l.fn.chain) (map file_seen l.fn.files.items) ≡ judge_deltas (followed l.chain) (map file_seen l.file-iterator.rest.items);
}
