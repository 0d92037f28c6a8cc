-- Two signatures read in step.
use Rattle.std.specs.Prelude.{◌≡◌, ℕ, zero, suc, Bool, false, ◌&&◌, ◌||◌, ◌==◌, List, ◌∷◌, drop, Option, Some, None, option_and_then, if◌then◌else◌}
use Rattle.enc_base.specs.Numbers.{is_empty}
use Rattle.enc_base.specs.declared.token.Token.{Token}
use Rattle.enc_sigs.specs.declared.kind.SigKind.{SigKind}
use Rattle.enc_sigs.specs.declared.kind.SigKind.TheVariants.{Method, Field, Locals, Property, TypeSpec, MethodSpec}
use Rattle.enc_sigs.specs.declared.type_form.TypeForm.{TypeForm}
use Rattle.enc_sigs.specs.declared.type_form.TypeForm.TheVariants as form
use Rattle.enc_sigs.specs.declared.type_form.Numeral.{Numeral}
use Rattle.enc_sigs.specs.declared.type_form.Numeral.TheVariants.{Size, Bound}
use Rattle.enc_sigs.specs.Grammar.{byte_in, numeral_in, token_in, is_coded, form_of, calling_in, begins}
use Rattle.enc_base.specs.Readers.{Reader, number_in}
use Rattle.enc_sigs.specs.Agree.{tokens_agree}

-- what reads something at both fronts, and gives what is behind it in both, where both agree
abbrev pub Walk : Type 0
Walk = List ℕ → List ℕ → Option (List ℕ × List ℕ)

-- two things that are read, where they agree
abbrev pub paired : {A : Type 0} → (A → A → Bool) → Option (A × List ℕ) → Option (A × List ℕ) → Option (List ℕ × List ℕ)
paired agree (Some p) (Some q) = if agree p.0 q.0 then Some (p.1, q.1) else None
paired agree _ _ = None

-- two numbers that are read, where they are the same
abbrev pub both_numbers : Option (ℕ × List ℕ) → Option (ℕ × List ℕ) → Option (ℕ × (List ℕ × List ℕ))
both_numbers (Some p) (Some q) = if p.0 == q.0 then Some (p.0, (p.1, q.1)) else None
both_numbers _ _ = None

-- the same number at both fronts
unfoldable pub alike : Reader ℕ → List ℕ → List ℕ → Option (ℕ × (List ℕ × List ℕ))
alike r a b = both_numbers (r a) (r b)

-- the same number at both fronts, which is let go
unfoldable pub alike_alone : Reader ℕ → Walk
alike_alone r a b = paired (λ n m. n == m) (r a) (r b)

-- one walk, and another behind it
abbrev pub onward : Walk → Walk → Walk
onward p q a b = option_and_then (λ (x : List ℕ × List ℕ). q x.0 x.1) (p a b)

-- the same number at both fronts, and behind it a walk that depends on it
abbrev pub upon_alike : Reader ℕ → (ℕ → Walk) → Walk
upon_alike r walk a b = option_and_then (λ (x : ℕ × (List ℕ × List ℕ)). walk x.0 x.1.0 x.1.1) (alike r a b)

-- tokens that agree
unfoldable pub token_walk : (Token → Token → Bool) → Walk
token_walk same a b = paired (tokens_agree same) (token_in is_coded a) (token_in is_coded b)

-- so many
unfoldable pub many_walk : Walk → ℕ → Walk
many_walk one zero a b = Some (a, b)
many_walk one (suc n) a b = onward one (many_walk one n) a b

-- a count and so many
unfoldable pub counted_walk : Walk → Walk
counted_walk one = upon_alike number_in (many_walk one)

-- a count and so many sizes or lower bounds
unfoldable pub numerals_walk : Numeral → Walk
numerals_walk kind = counted_walk (alike_alone (numeral_in kind))

-- arrays (II.23.2.13)
unfoldable pub array_walk : Walk → Walk
array_walk one = onward one (onward (alike_alone number_in) (onward (numerals_walk Size) (numerals_walk Bound)))

-- modified types (II.23.2.7)
unfoldable pub modified_walk : (Token → Token → Bool) → Walk → Walk
modified_walk same one = onward (token_walk same) one

-- generic instances (II.23.2.12)
unfoldable pub instance_walk : (Token → Token → Bool) → Walk → Walk
instance_walk same one = onward (alike_alone (byte_in (λ c. c == 0x11 || c == 0x12)))
    (onward (token_walk same) (counted_walk one))

-- the parameter behind a sentinel, which is left out of the first, and so many more
unfoldable pub marked_walk : Walk → ℕ → Walk
marked_walk one n a b = if begins 0x41 b then onward one (many_walk one n) a (drop 1 b) else None

-- so many parameters
unfoldable pub params_walk : Walk → ℕ → Walk
params_walk one zero a b = Some (a, b)
params_walk one (suc n) a b = if begins 0x41 a then marked_walk one n (drop 1 a) b
    else onward one (params_walk one n) a b

-- the count of parameters, the return type, the parameters (II.23.2.1)
unfoldable pub parts_walk : Walk → Walk
parts_walk one = upon_alike number_in (λ n. onward one (params_walk one n))

-- first bytes of methods and counts of generic parameters (II.23.2.1)
unfoldable pub calling_walk : Walk
calling_walk a b = paired (λ (p q : ℕ × ℕ). p.0 == q.0 && p.1 == q.1) (calling_in a) (calling_in b)

-- signatures of methods
unfoldable pub method_walk : Walk → Walk
method_walk one = onward calling_walk (parts_walk one)

-- what follows a first byte of each form (II.23.2.12)
unfoldable pub formed_walk : (Token → Token → Bool) → Walk → TypeForm → Walk
formed_walk same one form.Bare = λ a b. Some (a, b)
formed_walk same one form.Wrapped = one
formed_walk same one form.Named = token_walk same
formed_walk same one form.Modified = modified_walk same one
formed_walk same one form.Numbered = alike_alone number_in
formed_walk same one form.Array = array_walk one
formed_walk same one form.Instance = instance_walk same one
formed_walk same one form.Pointer = method_walk one

-- types, where types stand in one another at most so deep
unfoldable pub elem_walk : (Token → Token → Bool) → ℕ → Walk
elem_walk same zero a b = None
elem_walk same (suc depth) (x ∷ a) (y ∷ b) =
    if x == y then option_and_then (λ f. formed_walk same (elem_walk same depth) f a b) (form_of x) else None
elem_walk same (suc depth) _ _ = None

-- types of the greatest depth that is allowed
unfoldable pub type_walk : (Token → Token → Bool) → Walk
type_walk same = elem_walk same 100

-- the count of parameters, the type, the parameters (II.23.2.5)
unfoldable pub accessed_walk : Walk → Walk
accessed_walk one = upon_alike number_in (λ n. onward one (many_walk one n))

-- signatures of each kind
unfoldable pub front_walk : (Token → Token → Bool) → SigKind → Walk
front_walk same Method = method_walk (type_walk same)
front_walk same Field = onward (alike_alone (byte_in (λ b. b == 0x06))) (type_walk same)
front_walk same Locals = onward (alike_alone (byte_in (λ b. b == 0x07))) (counted_walk (type_walk same))
front_walk same Property = onward (alike_alone (byte_in (λ b. b == 0x08 || b == 0x28))) (accessed_walk (type_walk same))
front_walk same TypeSpec = type_walk same
front_walk same MethodSpec = onward (alike_alone (byte_in (λ b. b == 0x0A))) (counted_walk (type_walk same))

-- both end there
abbrev pub both_end : Option (List ℕ × List ℕ) → Bool
both_end None = false
both_end (Some x) = is_empty x.0 && is_empty x.1

-- a call answers what the relation says
abbrev pub Tells : (Token → Token → Bool → Type 0) → (Token → Token → Bool) → Type 0
Tells post rel = (t u : Token) (r : Bool) → post t u r → r ≡ rel t u
