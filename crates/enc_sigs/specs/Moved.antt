-- Signatures whose tokens are moved, each to another row of its table (ECMA-335 II.23.2).
use Rattle.std.specs.Prelude.{◌≡◌, ℕ, ◌<◌, ◌^◌, Bool, true, false, ◌&&◌, ◌==◌, List, ◌∷◌, take, map, Option, Some, nat_le, nat_lt, if◌then◌else◌}
use Rattle.enc_base.specs.declared.token.Token.{Token}
use Rattle.enc_sigs.specs.Tree.{Forest, none, more, Tree, SigTree}
use Rattle.enc_sigs.specs.Grammar.{form_of, token_named, sig_in, token_in}
use Rattle.enc_sigs.specs.Spelling.{token_number, sig_bytes}
use Rattle.enc_sigs.specs.declared.type_form.TypeForm.{TypeForm}
use Rattle.enc_sigs.specs.declared.type_form.TypeForm.TheVariants as form
use Rattle.enc_sigs.specs.declared.kind.SigKind.{SigKind}
use Rattle.enc_sigs.specs.declared.kind.SigKind.TheVariants.{Field}

-- a token stands behind the first byte of a class or value type, of a modifier and of a generic instance (II.23.2.7,
-- II.23.2.8, II.23.2.12)
abbrev pub form_has_token : Option TypeForm → Bool
form_has_token (Some form.Named) = true
form_has_token (Some form.Modified) = true
form_has_token (Some form.Instance) = true
form_has_token _ = false

unfoldable pub has_token : ℕ → Bool
has_token element = form_has_token (form_of element)

-- types with each token moved
unfoldable pub forest_moved : (Token → Token) → Forest → Forest
forest_moved f none = none
forest_moved f (more e t n k r) = more e (if has_token e then f t else t) n (forest_moved f k) (forest_moved f r)

abbrev pub tree_moved : (Token → Token) → Tree → Tree
tree_moved f t = record {
  element = t.element;
  token = if has_token t.element then f t.token else t.token;
  number = t.number;
  kids = forest_moved f t.kids;
}

-- a signature with each token moved
unfoldable pub sig_moved : (Token → Token) → SigTree → SigTree
sig_moved f s = record { form = s.form; kind = s.kind; generics = s.generics; parts = map (tree_moved f) s.parts }

-- each token of types passes a test
unfoldable pub all_tokens : (Token → Bool) → Forest → Bool
all_tokens test none = true
all_tokens test (more e t n k r) = (if has_token e then test t else true) && all_tokens test k && all_tokens test r

-- a token is moved to a row of its table, from 1 to 2^24 - 1
abbrev pub stays_in_table : (Token → Token) → Token → Bool
stays_in_table f t = (f t).table == t.table && nat_le 1 (f t).row && nat_lt (f t).row (2 ^ 24)

-- what a call answers is what the function gives
abbrev pub GivesTokens : (Token → Token → Type 0) → (Token → Token) → Type 0
GivesTokens post f = (t u : Token) → post t u → u ≡ f t

-- the token with such a number is moved to one that a signature can spell and that passes the other test
pub record GoesTo (f : Token → Token) (test : ℕ → Bool) (n : ℕ) : Type 0 where
  pub named : token_named (token_number (f (token_named n))) ≡ f (token_named n)
  pub short : token_number (f (token_named n)) < 2 ^ 29
  pub passes : test (token_number (f (token_named n))) ≡ true

-- what is read, has its tokens moved and is written, is read as the tree with its tokens moved
abbrev pub MovedReadsBack : Type 0
MovedReadsBack = (f : Token → Token) (good test : ℕ → Bool) (kind : SigKind) (bytes : List ℕ) (s : SigTree)
    → ((n : ℕ) → good n ≡ true → GoesTo f test n) → sig_in good kind bytes ≡ Some s
    → sig_in test kind (sig_bytes (sig_moved f s)) ≡ Some (sig_moved f s)

-- its first byte stays
abbrev pub MovedBeginsAlike : Type 0
MovedBeginsAlike = (f : Token → Token) (good : ℕ → Bool) (kind : SigKind) (bytes : List ℕ) (s : SigTree)
    → sig_in good kind bytes ≡ Some s → take 1 (sig_bytes (sig_moved f s)) ≡ take 1 bytes

-- the front of a field's signature: 06, the first byte of its type, and what is behind (II.23.2.4)
pub record FieldFront (good : ℕ → Bool) (bytes : List ℕ) (element : ℕ) (t : Token) : Type 0 where
  pub rest : List ℕ
  pub begins : bytes ≡ 0x06 ∷ element ∷ rest
  pub behind : List ℕ
  pub token : element ≡ 0x11 → token_in good rest ≡ Some (t, behind)

-- so a field's signature keeps the first byte of its type, and where this is a value type the token behind it is moved
pub record FieldFrontMoves (f : Token → Token) (good test : ℕ → Bool) (bytes moved : List ℕ) : Type 0 where
  pub element : ℕ
  pub token : Token
  pub before : FieldFront good bytes element token
  pub after : FieldFront test moved element (f token)

abbrev pub MovedFieldFront : Type 0
MovedFieldFront = (f : Token → Token) (good test : ℕ → Bool) (bytes : List ℕ) (s : SigTree)
    → ((n : ℕ) → good n ≡ true → GoesTo f test n) → sig_in good Field bytes ≡ Some s
    → FieldFrontMoves f good test bytes (sig_bytes (sig_moved f s))
