-- Laws of slots and paths.
use Rattle.std.specs.Prelude.{◌≡◌, ℕ, Some, IsTrue, ◌==◌}
use Rattle.enc_base.specs.declared.token.Token.{Token}
use Rattle.enc_plain.specs.Module.{Module}
use Rattle.enc_plain.specs.ClassPath.{is_class, extends}
use Rattle.enc_dispatch.specs.Slots.{slot_of}
use Rattle.enc_dispatch.specs.Walks.{same_slot}

-- methods have one slot just where their names are equal and their signatures alike
abbrev pub SlotsTellMethods : Type 0
SlotsTellMethods = (m : Module) (a b : Token) (s t : ℕ) → slot_of m a ≡ Some s → slot_of m b ≡ Some t
    → (s == t) ≡ same_slot m a b

-- each class is on its own path
abbrev pub EachClassExtendsItself : Type 0
EachClassExtendsItself = (m : Module) (class : Token) → IsTrue (is_class m class) → IsTrue (extends m class class)
