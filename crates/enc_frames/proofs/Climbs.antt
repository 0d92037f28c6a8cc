-- What is no row has no path of classes.
use Rattle.std.proofs.Common.{◌≡◌, ℕ, zero, suc, Bool, true, false, List, [], ◌∷◌, refl, ap, ◌∙◌}
use Rattle.std.specs.Prelude.{◌&&◌, ◌==◌, if◌then◌else◌}
use Rattle.enc_base.specs.declared.token.Token.{Token}
use Rattle.enc_plain.specs.ClassPath.{class_base, climb}
use Rattle.enc_plain.specs.Module.{Module, has_row}
use Rattle.enc_base.specs.Tables as tables

by_both : {A : Type 0} (b : Bool) (x : List A) → (if b && false then x else []) ≡ []
by_both true x = refl
by_both false x = refl

pub no_climb : (m : Module) (n : ℕ) (class : Token) → has_row m class ≡ false → climb m n class ≡ []
unfolding climb
no_climb m zero class h = refl
no_climb m (suc n) class h =
    ap (λ (b : Bool). if class.table == tables.type_def && b then class ∷ climb m n (class_base m class) else []) h
    ∙ by_both (class.table == tables.type_def) (class ∷ climb m n (class_base m class))
