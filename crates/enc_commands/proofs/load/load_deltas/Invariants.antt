use Rattle.std.proofs.Common.{◌≡◌, drop, length, map}
use Rattle.std.specs.Prelude.{IfSome}
use Rattle.enc_command_line.specs.Words.{texts}
use Rattle.enc_commands.specs.Verdict.{load_deltas}
use Rattle.enc_commands.specs.Loads.{file_seen, AreShort}
use Rattle.enc_commands.proofs.Loading.{after_loaded}
use Rattle.enc_commands.proofs.load.load_deltas.Given as goal

-- all files are those so far and what is left to load
abbrev pub invariant-loop-delta : goal.invariant-loop-delta
invariant-loop-delta g l = record {
  stays : g.S.Store.told l.store ≡ g.S.Store.told l.fn.store;
  stands : g.S.Store.faults l.store ≡ g.S.Store.faults l.fn.store;
  all : IfSome (g.S.Store.told l.fn.store) (λ files. load_deltas files (texts l.deltas) l.fn.loaded ≡ after_loaded (map file_seen l.files.items) (load_deltas files (texts (drop l.delta-index l.deltas)) l.loaded));
  many : length l.files.items ≡ l.delta-index;
  short : AreShort (map file_seen l.files.items);
}
