-- Entries that are put in one behind the other.
use Rattle.std.proofs.Common.{◌≡◌, List, [], ◌∷◌, ◌++◌, Option, Some, None, refl, sym, ap, ◌∙◌}
use Rattle.std.specs.Prelude.{if◌then◌else◌}
use Rattle.enc_key_map.specs.Key.{is_key}
use Rattle.enc_key_map.specs.declared.key.Key.{Key}
use Rattle.enc_key_map.specs.declared.index.KeyEntry.{KeyEntry}
use Rattle.enc_key_map.specs.Index.{entry_key, value_of, latest, latest_one, either}

pub either_both : {V : Type 0} (a b o : Option V) → either a (either b o) ≡ either (either a b) o
either_both (Some v) b o = refl
either_both None b o = refl

-- with the first one put in
pub latest_step : {V : Type 0} (e : KeyEntry V) (es : List (KeyEntry V)) (q : Key) (o new all : Option V) → new ≡ either (latest_one e q) o → either (latest (e ∷ es) q) o ≡ all → either (latest es q) new ≡ all
latest_step e es q o new all put is = rw (put, either_both (latest es q) (latest_one e q) o) is

either_none : {V : Type 0} (o : Option V) → either o None ≡ o
either_none (Some v) = refl
either_none None = refl

-- the last entry decides
latest_snoc : {V : Type 0} (es : List (KeyEntry V)) (e : KeyEntry V) (q : Key) → latest (es ++ e ∷ []) q ≡ either (latest_one e q) (latest es q)
latest_snoc [] e q = sym (either_none (latest_one e q))
latest_snoc (x ∷ es) e q = ap (λ o. either o (latest_one x q)) (latest_snoc es e q) ∙ sym (either_both (latest_one e q) (latest es q) (latest_one x q))

pub latest_push : {V : Type 0} (es new : List (KeyEntry V)) (e : KeyEntry V) (key q : Key) (v : V) → entry_key e ≡ key → value_of e ≡ v → new ≡ es ++ e ∷ [] → latest new q ≡ either (if is_key key q then Some v else None) (latest es q)
latest_push es new e key q v k is pushed = rw (pushed, ← k, ← is) (latest_snoc es e q)
