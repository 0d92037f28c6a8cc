use Rattle.std.proofs.Common.{List, map, subst}
use Rattle.enc_pdb_writer.specs.declared.edits.MethodEdit.{MethodEdit}
use Rattle.enc_pdb_writer.specs.Listed.{row_placed, list_pdb}
use Rattle.enc_pdb_writer.specs.Methods.{SaysMethods}
use Rattle.enc_pdb_writer.proofs.DeltaSays.{list_said}
use Rattle.enc_pdb_writer.proofs.write.write_pdb_delta.Goals as goal

pub returns : goal.returns
returns c =
    let l = c.args.list.now in
    let placed = c.in_ok-placed.placed.items in
    let bytes = c.in_ok-bytes.bytes.items in
    let said = subst (λ (ms : List MethodEdit). SaysMethods (list_pdb l ms) (map row_placed ms) bytes) c.deref.ensures.value c.in_ok-bytes.ensures in
    record { says = list_said l c.args.methods.now placed bytes c.requires.form c.requires.methods c.in_ok-placed.ensures.placed said }
