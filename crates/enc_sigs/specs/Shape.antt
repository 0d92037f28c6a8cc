-- Shapes of signatures: mixes that signatures have in common which are equal but for tokens of equal keys. They tell
-- which signatures are worth comparing;
-- that shapes are equal says nothing.
use Rattle.std.specs.Prelude.{◌≡◌, ℕ, zero, suc, Bool, true, ◌||◌, ◌==◌, List, [], ◌∷◌, drop, Option, Some, None, option_map, option_and_then, if◌then◌else◌}
use Rattle.enc_base.specs.declared.token.Token.{Token}
use Rattle.enc_sigs.specs.declared.kind.SigKind.{SigKind}
use Rattle.enc_sigs.specs.declared.kind.SigKind.TheVariants.{Method, Field, Locals, Property, TypeSpec, MethodSpec}
use Rattle.enc_sigs.specs.declared.type_form.TypeForm.{TypeForm}
use Rattle.enc_sigs.specs.declared.type_form.TypeForm.TheVariants as form
use Rattle.enc_sigs.specs.declared.type_form.Numeral.{Numeral}
use Rattle.enc_sigs.specs.declared.type_form.Numeral.TheVariants.{Size, Bound}
use Rattle.enc_sigs.specs.Grammar.{byte_in, numeral_in, token_in, is_coded, form_of, calling_in, begins}
use Rattle.enc_base.specs.Numbers.{is_empty}
use Rattle.enc_base.specs.Readers.{Reader, number_in}
use Rattle.enc_sigs.specs.Agree.{sigs_agree}
use Rattle.enc_sigs.specs.Mix.{mix_of, mixed, mixed_both, mixed_whole}
use Rattle.enc_sigs.specs.declared.mix.Mix.{Mix}

-- what mixes something at the front in, and gives what is behind it too
abbrev pub Shaping : Type 0
Shaping = Mix → List ℕ → Option (Mix × List ℕ)

-- one thing, and another behind it
abbrev pub in_turn : Shaping → Shaping → Shaping
in_turn p q h bytes = option_and_then (λ (x : Mix × List ℕ). q x.0 x.1) (p h bytes)

-- a number
unfoldable pub number_shape : Reader ℕ → Shaping
number_shape r h bytes = option_map (λ (p : ℕ × List ℕ). (mixed h p.0, p.1)) (r bytes)

-- a number, and behind it what depends on it
abbrev pub upon_shape : Reader ℕ → (ℕ → Shaping) → Shaping
upon_shape r shape h bytes = option_and_then (λ (p : ℕ × List ℕ). shape p.0 (mixed h p.0) p.1) (r bytes)

-- a token, by its key
unfoldable pub token_shape : (Token → Mix) → Shaping
token_shape key h bytes = option_map (λ (p : Token × List ℕ). (mixed_both h (key p.0), p.1)) (token_in is_coded bytes)

-- so many
unfoldable pub many_shape : Shaping → ℕ → Shaping
many_shape one zero h bytes = Some (h, bytes)
many_shape one (suc n) h bytes = in_turn one (many_shape one n) h bytes

-- a count and so many
unfoldable pub counted_shape : Shaping → Shaping
counted_shape one = upon_shape number_in (many_shape one)

-- a count and so many sizes or lower bounds
unfoldable pub numerals_shape : Numeral → Shaping
numerals_shape kind = counted_shape (number_shape (numeral_in kind))

-- arrays (II.23.2.13)
unfoldable pub array_shape : Shaping → Shaping
array_shape one = in_turn one (in_turn (number_shape number_in) (in_turn (numerals_shape Size) (numerals_shape Bound)))

-- modified types (II.23.2.7)
unfoldable pub modified_shape : (Token → Mix) → Shaping → Shaping
modified_shape key one = in_turn (token_shape key) one

-- generic instances (II.23.2.12)
unfoldable pub instance_shape : (Token → Mix) → Shaping → Shaping
instance_shape key one = in_turn (number_shape (byte_in (λ c. c == 0x11 || c == 0x12)))
    (in_turn (token_shape key) (counted_shape one))

-- a sentinel, the parameter behind it, and so many more
unfoldable pub marked_shape : Shaping → ℕ → Shaping
marked_shape one n h bytes = in_turn one (many_shape one n) (mixed h 0x41) bytes

-- so many parameters
unfoldable pub params_shape : Shaping → ℕ → Shaping
params_shape one zero h bytes = Some (h, bytes)
params_shape one (suc n) h bytes =
    if begins 0x41 bytes then marked_shape one n h (drop 1 bytes) else in_turn one (params_shape one n) h bytes

-- the count of parameters, the return type, the parameters (II.23.2.1)
unfoldable pub parts_shape : Shaping → Shaping
parts_shape one = upon_shape number_in (λ n. in_turn one (params_shape one n))

-- first bytes of methods and counts of generic parameters (II.23.2.1)
unfoldable pub calling_shape : Shaping
calling_shape h bytes = option_map (λ (p : (ℕ × ℕ) × List ℕ). (mixed (mixed h p.0.0) p.0.1, p.1)) (calling_in bytes)

-- signatures of methods
unfoldable pub method_shape : Shaping → Shaping
method_shape one = in_turn calling_shape (parts_shape one)

-- what follows a first byte of each form (II.23.2.12)
unfoldable pub formed_shape : (Token → Mix) → Shaping → TypeForm → Shaping
formed_shape key one form.Bare = λ h bytes. Some (h, bytes)
formed_shape key one form.Wrapped = one
formed_shape key one form.Named = token_shape key
formed_shape key one form.Modified = modified_shape key one
formed_shape key one form.Numbered = number_shape number_in
formed_shape key one form.Array = array_shape one
formed_shape key one form.Instance = instance_shape key one
formed_shape key one form.Pointer = method_shape one

-- types, where types stand in one another at most so deep
unfoldable pub elem_shape : (Token → Mix) → ℕ → Shaping
elem_shape key zero h bytes = None
elem_shape key (suc depth) h [] = None
elem_shape key (suc depth) h (b ∷ rest) =
    option_and_then (λ f. formed_shape key (elem_shape key depth) f (mixed h b) rest) (form_of b)

-- types of the greatest depth that is allowed
unfoldable pub type_shape : (Token → Mix) → Shaping
type_shape key = elem_shape key 100

-- the count of parameters, the type, the parameters (II.23.2.5)
unfoldable pub accessed_shape : Shaping → Shaping
accessed_shape one = upon_shape number_in (λ n. in_turn one (many_shape one n))

-- signatures of each kind
unfoldable pub front_shape : (Token → Mix) → SigKind → Shaping
front_shape key Method = method_shape (type_shape key)
front_shape key Field = in_turn (number_shape (byte_in (λ b. b == 0x06))) (type_shape key)
front_shape key Locals = in_turn (number_shape (byte_in (λ b. b == 0x07))) (counted_shape (type_shape key))
front_shape key Property = in_turn (number_shape (byte_in (λ b. b == 0x08 || b == 0x28)))
    (accessed_shape (type_shape key))
front_shape key TypeSpec = type_shape key
front_shape key MethodSpec = in_turn (number_shape (byte_in (λ b. b == 0x0A))) (counted_shape (type_shape key))

-- of bytes that are no signature: they are alike themselves alone
unfoldable pub raw_shape : List ℕ → Mix
raw_shape bytes = mixed_whole (mix_of 1) bytes

-- what is mixed in the end, where all bytes are read
abbrev pub mixed_of : List ℕ → Option (Mix × List ℕ) → Mix
mixed_of bytes None = raw_shape bytes
mixed_of bytes (Some x) = if is_empty x.1 then x.0 else raw_shape bytes

-- the shape of a signature of this kind, by the keys of its tokens
unfoldable pub sig_shape : (Token → Mix) → SigKind → List ℕ → Mix
sig_shape key kind bytes = mixed_of bytes (front_shape key kind (mix_of 0) bytes)

-- a call answers what the function says
abbrev pub GivesKeys : (Token → Mix → Type 0) → (Token → Mix) → Type 0
GivesKeys post key = (t : Token) (k : Mix) → post t k → k ≡ key t

-- signatures that are equal but for tokens of equal keys have one shape
abbrev pub AlikeHaveOneShape : Type 0
AlikeHaveOneShape = (same : Token → Token → Bool) (key : Token → Mix) (kind : SigKind) (a b : List ℕ)
    → ((t u : Token) → same t u ≡ true → key t ≡ key u)
    → sigs_agree same kind a b ≡ true → sig_shape key kind a ≡ sig_shape key kind b
