-- A signature that was read has a shortest spelling that is read as it.
use Rattle.std.proofs.Common.{◌≡◌, ℕ, Bool, ◌<◌, List, [], ◌∷◌, length, arith, Some, refl, subst, sym}
use Rattle.enc_base.specs.Numbers.{WrittenIsRead, SignedWrittenIsRead}
use Rattle.enc_sigs.specs.declared.kind.SigKind.{SigKind}
use Rattle.enc_sigs.specs.declared.kind.SigKind.TheVariants.{Method, Field, Locals, Property, TypeSpec, MethodSpec}
use Rattle.enc_sigs.specs.Tree.{SigTree}
use Rattle.enc_sigs.specs.Grammar.{NamesTables, is_coded, front_in, sig_in}
use Rattle.enc_sigs.specs.Spelling.{sig_bytes, IsSpelled}
use Rattle.enc_sigs.proofs.Agreed.{map_known}
use Rattle.enc_sigs.proofs.Wider.{sig_keeps}
use Rattle.enc_sigs.proofs.Written.{written_reads}

-- the tree is of the kind by which it was read
front_form : (good : ℕ → Bool) (kind : SigKind) (bytes : List ℕ) (p : SigTree × List ℕ) → front_in good kind bytes ≡ Some p → p.0.form ≡ kind
unfolding front_in
front_form good Method bytes p e = map_known (λ (s : SigTree). s.form ≡ Method) _ _ p (λ q f. refl) e
front_form good Field bytes p e = map_known (λ (s : SigTree). s.form ≡ Field) _ _ p (λ q f. refl) e
front_form good Locals bytes p e = map_known (λ (s : SigTree). s.form ≡ Locals) _ _ p (λ q f. refl) e
front_form good Property bytes p e = map_known (λ (s : SigTree). s.form ≡ Property) _ _ p (λ q f. refl) e
front_form good TypeSpec bytes p e = map_known (λ (s : SigTree). s.form ≡ TypeSpec) _ _ p (λ q f. refl) e
front_form good MethodSpec bytes p e = map_known (λ (s : SigTree). s.form ≡ MethodSpec) _ _ p (λ q f. refl) e

by_form : (s : SigTree) (kind : SigKind) → s.form ≡ kind → sig_in is_coded kind (sig_bytes s) ≡ Some s → IsSpelled s
by_form s kind e h = let P : SigKind → Type 0 = λ k. sig_in is_coded k (sig_bytes s) ≡ Some s in subst P (sym e) h

read_whole : (good : ℕ → Bool) (kind : SigKind) (bytes : List ℕ) (s : SigTree) → front_in good kind bytes ≡ Some (s, []) → sig_in good kind bytes ≡ Some s
unfolding sig_in
read_whole good kind bytes s e = rw e refl

pub nothing_left : (rest : List ℕ) → length rest < 1 → rest ≡ []
nothing_left [] h = refl
nothing_left (b ∷ rest) h = absurd (omega arith)

pub read_is_spelled : WrittenIsRead → SignedWrittenIsRead → (good : ℕ → Bool) (kind : SigKind) (bytes : List ℕ) (s : SigTree) (rest : List ℕ) → NamesTables good → front_in good kind bytes ≡ Some (s, rest) → rest ≡ [] → IsSpelled s
read_is_spelled written signed good kind bytes s rest names e none =
    let here : front_in good kind bytes ≡ Some (s, []) = rw none at e in
    let back = written_reads written signed good kind bytes s names (read_whole good kind bytes s here) in
    by_form s kind (front_form good kind bytes (s, []) here) (sig_keeps good is_coded kind (sig_bytes s) s names back)
