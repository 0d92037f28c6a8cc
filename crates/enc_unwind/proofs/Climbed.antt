-- The types of an object of a class, as a climb of the path meets them.
use Rattle.std.proofs.Common.{◌≡◌, ℕ, zero, suc, Bool, true, false, List, ◌∷◌, ◌++◌, refl, ap, ◌∙◌}
use Rattle.std.specs.List.{list_any}
use Rattle.enc_base.specs.declared.token.Token.{Token}
use Rattle.enc_plain.specs.ClassPath.{is_class, class_base, climb}
use Rattle.enc_plain.specs.Module.{Module}
use Rattle.enc_unwind.specs.Thrown.{behind_path, type_refs}

-- the types of an object of a class by so many steps
abbrev pub types_in : Module → ℕ → Token → List Token
types_in m n class = climb m n class ++ type_refs (behind_path m class (climb m n class))

types_more : (m : Module) (n k : ℕ) (class : Token) → n ≡ suc k → is_class m class ≡ true → types_in m n class ≡ class ∷ types_in m k (class_base m class)
unfolding climb
types_more m n k class e is = rw (e, is) refl

types_end : (m : Module) (n : ℕ) (class : Token) → is_class m class ≡ false → types_in m n class ≡ type_refs class
unfolding climb
types_end m zero class is = refl
types_end m (suc n) class is = rw is refl

types_none : (m : Module) (n : ℕ) (class : Token) → n ≡ 0 → types_in m n class ≡ type_refs class
unfolding climb
types_none m n class e = rw e refl

-- a climb finds one that passes at its class, finds it behind its class, or is at the end of the path or of its steps
pub found_here : (p : Token → Bool) (m : Module) (n k : ℕ) (class : Token) → n ≡ suc k → is_class m class ≡ true → p class ≡ true → list_any p (types_in m n class) ≡ true
found_here p m n k class e is passes = ap (list_any p) (types_more m n k class e is) ∙ rw passes refl

pub found_behind : (p : Token → Bool) (m : Module) (n k : ℕ) (class base : Token) → n ≡ suc k → is_class m class ≡ true → p class ≡ false → base ≡ class_base m class
    → list_any p (types_in m n class) ≡ list_any p (types_in m k base)
found_behind p m n k class base e is fails extended = ap (list_any p) (types_more m n k class e is) ∙ rw (fails, ← extended) refl

pub found_last : (p : Token → Bool) (m : Module) (n : ℕ) (class : Token) → is_class m class ≡ false → list_any p (types_in m n class) ≡ list_any p (type_refs class)
found_last p m n class is = ap (list_any p) (types_end m n class is)

pub found_at_end : (p : Token → Bool) (m : Module) (n : ℕ) (class : Token) → n ≡ 0 → list_any p (types_in m n class) ≡ list_any p (type_refs class)
found_at_end p m n class e = ap (list_any p) (types_none m n class e)
