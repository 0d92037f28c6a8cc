-- Files that hold what two deltas say stand for them.
use Rattle.std.proofs.Common.{ap, ◌∙◌}
use Rattle.enc_delta.specs.Delta.{delta_of}
use Rattle.enc_merged_delta.specs.Laws.{MergedFollows, MergedIsNamed, MergedMeans}
use Rattle.enc_checker.proofs.AcceptedFiles.{accepted_files}
use Rattle.enc_merge.proofs.LastTwo.{may_merge}
use Rattle.enc_merge.proofs.PdbStands.{none_misplaced, same_debug, several_nil}
use Rattle.enc_merge.specs.Writing.{FilesOfBothStand, MetadataIsRead}

pub files_stand : MetadataIsRead → MergedFollows → MergedMeans → MergedIsNamed → FilesOfBothStand
files_stand are_read follow mean named h p x d first second older are shallow debugs goes gone files =
    let may = may_merge h x are shallow in
    let r = are_read h x d.meta are shallow files.meta in
    let s = r.source in
    let says = r.says in
    let read = ap (delta_of d.meta) files.il ∙ r.read in
    record {
      source = s;
      symbols = files.pdb.source;
      stands = accepted_files x.chain (delta_of d.meta d.il) s files.pdb.source d.pdb read (follow x.chain x.first x.second s may says) files.pdb.read
          (none_misplaced h p x d.pdb first second older s are debugs goes gone files.pdb says);
      means = mean x.chain x.first x.second s may says;
      debug = λ method. same_debug h p x d.pdb first second older s are debugs goes gone files.pdb says method;
      enc_id = named x.chain x.first x.second s may says;
      lists = says.tokens;
      heaps = says.heaps;
      il = files.il;
      log = says.log;
      numbers = r.numbers;
      several = λ k t at. several_nil h p x d.pdb first second older s are debugs goes gone files.pdb says k t at;
    }
