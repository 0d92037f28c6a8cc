use Rattle.std.proofs.Common.{refl}
use Rattle.enc_edit_list.specs.Form.{instr_fits}
use Rattle.enc_opcodes.specs.Opcodes.{is_op, entry_of}
use Rattle.enc_opcodes.specs.Sound.{instruction_size}
use Rattle.enc_edit_list.specs.Sizes.{length_of_code}
use Rattle.enc_tests_code.proofs.assembly.code.Goals as goal

pub returns-clause-fits : goal.returns-clause-fits
unfolding is_op entry_of
returns-clause-fits c = refl

pub returns-clause-size : goal.returns-clause-size
unfolding length_of_code instruction_size
returns-clause-size c = refl
