use Rattle.std.proofs.Common.{◌≡◌, ℕ}
use Rattle.enc_key_map.specs.Index.{value_at}
use Rattle.enc_dispatch.specs.Entries.{earliest, where_none}
use Rattle.enc_dispatch.specs.Growth.{later_answer}
use Rattle.enc_dispatch.specs.Stored.{impl_key, impl_for}
use Rattle.enc_dispatch.proofs.impls.impls_of.Given as goal

abbrev pub invariant-loop-k : goal.invariant-loop-k
invariant-loop-k g l =
    (class declaration : ℕ) → earliest l.impls.items (impl_key class declaration) ≡ where_none (value_at l.index (impl_key class declaration)) (later_answer (impl_for (g.V.ModuleView.meaning l.view) class declaration) l.read l.k)
