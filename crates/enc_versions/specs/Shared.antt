-- For the contracts of private functions: bodies that are remembered by their places.
use Rattle.std.specs.Prelude.{◌≡◌, ℕ, List, Option, Some, IfSome, IsTrue}
use Rattle.std.specs.BTreeMap.{get}
use Rattle.std.specs.Ordering.{nat_cmp}
use Rattle.enc_opcodes.specs.Body.{Body, body_of, texts_are_there}
use Rattle.enc_versions.specs.declared.shared.Shared.{Shared}

-- each body that is remembered is that of its place, and each user text that it names is there
abbrev pub AreShared : (ℕ → Option (List ℕ)) → (ℕ → Option Body) → Shared → Type 0
AreShared users places shared = (place : ℕ)
    → IfSome (get nat_cmp shared.bodies place) (λ b. (places place ≡ Some (body_of users b.value))
    × IsTrue (texts_are_there users b.value.code))
