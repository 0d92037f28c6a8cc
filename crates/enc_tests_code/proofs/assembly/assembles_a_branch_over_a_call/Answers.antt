use Rattle.enc_tests_code.proofs.assembly.assembles_a_branch_over_a_call.Goals as goal

pub assemble-requires-clause-kept : goal.assemble-requires-clause-kept
assemble-requires-clause-kept g c = c.code.ensures.kept c.in_ok-heaps.heaps
