use Rattle.enc_opcodes.proofs.Instructions.{instructions_are_chain, chain_is_instructions, chain_is_whole}
use Rattle.enc_il.proofs.laws.body_law.Goals as goal

pub returns-clause-read : goal.returns-clause-read
returns-clause-read c = instructions_are_chain

pub returns-clause-only : goal.returns-clause-only
returns-clause-only c = λ code all is. (chain_is_instructions code all is, chain_is_whole code all is)
