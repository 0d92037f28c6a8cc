use Rattle.enc_meta.specs.Heaps.{user_at}
use Rattle.enc_memory_module.proofs.HeldBodies.{texts_seen}
use Rattle.enc_memory_module.proofs.plain.PlainModule.method_code.Goals as goal

pub returns-clause-texts : goal.returns-clause-texts
returns-clause-texts c = texts_seen (user_at c.args.self.now.users) c.code.result c.held_code-held.result.now c.code.ensures.code c.held_code-held.ensures.texts
