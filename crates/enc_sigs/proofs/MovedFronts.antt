-- With what a signature begins whose tokens are moved.
use Rattle.std.proofs.Common.{◌≡◌, ℕ, Bool, List, [], ◌∷◌, take, map, Option, Some, None, refl, sym, ap, subst, ◌∙◌}
use Rattle.std.specs.Prelude.{◌==◌, ◌||◌, option_map, option_and_then, if◌then◌else◌}
use Rattle.enc_base.specs.Numbers.{WrittenIsRead, SignedWrittenIsRead}
use Rattle.enc_base.specs.declared.token.Token.{Token}
use Rattle.enc_base.specs.Readers.{Reader, giving, both}
use Rattle.enc_sigs.specs.declared.kind.SigKind.{SigKind}
use Rattle.enc_sigs.specs.declared.kind.SigKind.TheVariants.{Method, Field, Locals, Property, TypeSpec, MethodSpec}
use Rattle.enc_sigs.specs.Tree.{Tree, SigTree}
use Rattle.enc_sigs.specs.Grammar.{list_in, byte_in, is_calling, generics_in, calling_in, parts_in, method_in, accessed_in, type_in, form_of, front_in, sig_in}
use Rattle.enc_sigs.specs.Spelling.{spellings, front_bytes, sig_bytes}
use Rattle.enc_sigs.specs.Moved.{has_token, tree_moved, sig_moved, FieldFrontMoves, MovedBeginsAlike, MovedFieldFront}
use Rattle.enc_sigs.proofs.Fronts.{FieldRead, read, whole, given_by, byte_first, both_parts, type_first, field_read}
use Rattle.enc_sigs.proofs.Written.{all_bytes, tagged, called, field, alone, any_reads}

-- the byte at the front stays
abbrev BeginsAlike : (Token → Token) → List ℕ → SigTree → Type 0
BeginsAlike f bytes s = take 1 (all_bytes (sig_moved f s)) ≡ take 1 bytes

tag_begins : {B : Type 0} (f : Token → Token) (h : ℕ × B → SigTree) (w : ℕ × B → List ℕ) (tag : ℕ → Bool) (r : Reader B) (bytes : List ℕ) (s : SigTree)
    → ((p : ℕ × B) → all_bytes (sig_moved f (h p)) ≡ p.0 ∷ w p) → giving h (both (byte_in tag) r) bytes ≡ Some (s, []) → BeginsAlike f bytes s
tag_begins {B} f h w tag r bytes s is e =
    let g = given_by h (both (byte_in tag) r bytes) s [] e in
    let b = both_parts (byte_in tag bytes) r g.0.0 g.0.1 [] g.1 in
    let first = (byte_first tag bytes (g.0.0, b.0) b.1).0 in
    subst (BeginsAlike f bytes) g.2 (ap (take 1) (is g.0) ∙ ap (take 1) (sym first))

upon_begins : {B : Type 0} (s : ℕ → Reader B) (o : Option (ℕ × List ℕ)) (x : ℕ × B) (rest : List ℕ)
    → option_and_then {T = ℕ × List ℕ} {U = (ℕ × B) × List ℕ} (λ p. option_map {T = B × List ℕ} (λ q. ((p.0, q.0), q.1)) (s p.0 p.1)) o ≡ Some (x, rest)
    → (mid : List ℕ) × (o ≡ read x.0 mid)
upon_begins s None x rest e = absurd cc
upon_begins {B} s (Some p) x rest e =
    let g = given_by {A = B} {B = ℕ × B} (λ (z : B). (p.0, z)) (s p.0 p.1) x rest e in
    (p.1, ap (λ (n : ℕ). read n p.1) (ap (λ (q : ℕ × B). q.0) g.2))

calling_begins : (bytes : List ℕ) (x : ℕ × ℕ) (rest : List ℕ) → calling_in bytes ≡ Some (x, rest) → take 1 bytes ≡ x.0 ∷ []
unfolding calling_in
calling_begins bytes x rest e =
    let m = upon_begins generics_in (byte_in is_calling bytes) x rest e in
    ap (take 1) (byte_first is_calling bytes (x.0, m.0) m.1).0

method_begins : (f : Token → Token) (r : Reader Tree) (bytes : List ℕ) (s : SigTree) → giving called (method_in r) bytes ≡ Some (s, []) → BeginsAlike f bytes s
unfolding method_in sig_moved front_bytes
method_begins f r bytes s e =
    let g = given_by called (both calling_in (parts_in r) bytes) s [] e in
    let b = both_parts (calling_in bytes) (parts_in r) g.0.0 g.0.1 [] g.1 in
    subst (BeginsAlike f bytes) g.2 (sym (calling_begins bytes g.0.0 b.0 b.1))

alone_begins : (f : Token → Token) (good : ℕ → Bool) (bytes : List ℕ) (s : SigTree) → giving alone (type_in good) bytes ≡ Some (s, []) → BeginsAlike f bytes s
unfolding sig_moved front_bytes spellings
alone_begins f good bytes s e =
    let g = given_by alone (type_in good bytes) s [] e in
    let t = type_first good bytes g.0 [] g.1 in
    subst (BeginsAlike f bytes) g.2 (ap (λ n. n ∷ []) t.is ∙ ap (take 1) (sym t.begins))

front_begins : (f : Token → Token) (good : ℕ → Bool) (kind : SigKind) (bytes : List ℕ) (s : SigTree) → front_in good kind bytes ≡ Some (s, [])
    → BeginsAlike f bytes s
unfolding front_in sig_moved front_bytes
front_begins f good Method bytes s e = method_begins f (type_in good) bytes s e
front_begins f good Field bytes s e = tag_begins f field _ (λ b. b == 0x06) (type_in good) bytes s (λ p. refl) e
front_begins f good Locals bytes s e = tag_begins f (tagged Locals) _ (λ b. b == 0x07) (list_in (type_in good)) bytes s (λ p. refl) e
front_begins f good Property bytes s e = tag_begins f (tagged Property) _ (λ b. b == 0x08 || b == 0x28) (accessed_in (type_in good)) bytes s (λ p. refl) e
front_begins f good TypeSpec bytes s e = alone_begins f good bytes s e
front_begins f good MethodSpec bytes s e = tag_begins f (tagged MethodSpec) _ (λ b. b == 0x0A) (list_in (type_in good)) bytes s (λ p. refl) e

pub sig_begins : MovedBeginsAlike
unfolding sig_in sig_bytes
sig_begins f good kind bytes s e = front_begins f good kind bytes s (whole (front_in good kind bytes) s e)

-- the token behind 11 is moved
token_moved : (f : Token → Token) (x : Tree) → x.element ≡ 0x11 → (tree_moved f x).token ≡ f x.token
unfolding has_token form_of
token_moved f x e = ap (λ n. if has_token n then f x.token else x.token) e

one_part : (x y : Tree) → x ∷ [] ≡ y ∷ [] → x ≡ y
one_part x y e = cc

same_part : (f : Token → Token) (s : SigTree) (x y : Tree) → s.parts ≡ x ∷ [] → (sig_moved f s).parts ≡ y ∷ [] → y ≡ tree_moved f x
unfolding sig_moved
same_part f s x y before after = one_part y (tree_moved f x) (sym after ∙ ap (map (tree_moved f)) before)

moved_fronts : (f : Token → Token) (good test : ℕ → Bool) (bytes moved : List ℕ) (s : SigTree) → FieldRead good bytes s → FieldRead test moved (sig_moved f s)
    → FieldFrontMoves f good test bytes moved
moved_fronts f good test bytes moved s a b =
    let x = a.tree in
    let t = a.type in
    let u = b.type in
    let same : b.tree ≡ tree_moved f x = same_part f s x b.tree a.parts b.parts in
    let element : u.element ≡ t.element = sym u.is ∙ ap (λ (y : Tree). y.element) same ∙ t.is in
    record {
      element = t.element;
      token = x.token;
      before = record { rest = t.rest; begins = a.begins ∙ ap (λ z. 0x06 ∷ z) t.begins; behind = []; token = t.named };
      after = record {
        rest = u.rest;
        begins = b.begins ∙ ap (λ z. 0x06 ∷ z) u.begins ∙ ap (λ n. 0x06 ∷ n ∷ u.rest) element;
        behind = [];
        token = λ e. u.named (element ∙ e) ∙ ap (λ (y : Token). Some (y, [])) (ap (λ (y : Tree). y.token) same ∙ token_moved f x (t.is ∙ e));
      };
    }

pub field_moves : WrittenIsRead → SignedWrittenIsRead → MovedFieldFront
field_moves written signed f good test bytes s goes e =
    let after = any_reads f good test Field bytes s written signed (λ n few is. goes n is) e in
    moved_fronts f good test bytes (sig_bytes (sig_moved f s)) s (field_read good bytes s e) (field_read test (sig_bytes (sig_moved f s)) (sig_moved f s) after)
