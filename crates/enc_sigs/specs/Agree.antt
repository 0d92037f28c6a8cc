-- When two signatures are equal but for their tokens.
use Rattle.std.specs.Prelude.{ℕ, Bool, true, false, ◌&&◌, ◌||◌, ◌==◌, List, Option, Some}
use Rattle.enc_base.specs.Token.{is_token}
use Rattle.enc_base.specs.declared.token.Token.{Token}
use Rattle.enc_sigs.specs.declared.kind.SigKind.{SigKind}
use Rattle.enc_sigs.specs.Tree.{Forest, none, more, Tree, SigTree, forest_of}
use Rattle.enc_sigs.specs.Grammar.{is_coded, sig_in}

-- tokens are equal, or stand for one another
abbrev pub tokens_agree : (Token → Token → Bool) → Token → Token → Bool
tokens_agree same t u = is_token t u || same t u

-- types are equal, but for tokens
unfoldable pub forests_agree : (Token → Token → Bool) → Forest → Forest → Bool
forests_agree same none none = true
forests_agree same (more e t n k r) (more f u m l s) =
    e == f && tokens_agree same t u && n == m && forests_agree same k l && forests_agree same r s
forests_agree same _ _ = false

-- the same of one type
abbrev pub trees_agree : (Token → Token → Bool) → Tree → Tree → Bool
trees_agree same x y = x.element == y.element && tokens_agree same x.token y.token && x.number == y.number
    && forests_agree same x.kids y.kids

-- signatures of one kind are equal, but for tokens
abbrev pub sig_trees_agree : (Token → Token → Bool) → SigTree → SigTree → Bool
sig_trees_agree same x y = x.kind == y.kind && x.generics == y.generics
    && forests_agree same (forest_of x.parts) (forest_of y.parts)

-- both are there and agree
abbrev pub if_both : {A : Type 0} → (A → A → Bool) → Option A → Option A → Bool
if_both agree (Some x) (Some y) = agree x y
if_both agree _ _ = false

-- both are signatures of this kind, the range of a token's row aside, and equal but for tokens
unfoldable pub sigs_agree : (Token → Token → Bool) → SigKind → List ℕ → List ℕ → Bool
sigs_agree same kind a b = if_both (sig_trees_agree same) (sig_in is_coded kind a) (sig_in is_coded kind b)
