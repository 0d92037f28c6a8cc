use Rattle.std.proofs.Common.{◌≡◌, ℕ}
use Rattle.enc_base.specs.declared.token.Token.{Token}
use Rattle.enc_key_map.specs.Index.{value_at}
use Rattle.enc_dispatch.specs.Entries.{earliest, where_none}
use Rattle.enc_dispatch.specs.Growth.{later_answer}
use Rattle.enc_dispatch.specs.Interfaces.{says_interface}
use Rattle.enc_dispatch.specs.Stored.{class_at, interface_key}
use Rattle.enc_dispatch.proofs.interfaces.interfaces_of.Given as goal

abbrev pub invariant-loop-k : goal.invariant-loop-k
invariant-loop-k g l =
    (class : ℕ) (i : Token) → earliest l.interfaces.items (interface_key class i) ≡ where_none (value_at l.index (interface_key class i)) (later_answer (says_interface (g.V.ModuleView.meaning l.view) (class_at class) i) l.read l.k)
