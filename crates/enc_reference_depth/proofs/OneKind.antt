-- Signatures that agree are of one kind: the first byte tells it.
use Rattle.std.proofs.Common.{◌≡◌, ℕ, Bool, true, false, List, [], ◌∷◌, Option, Some, None, refl, inl, inr, arith}
use Rattle.std.specs.Prelude.{◌⊎◌, ◌==◌, option_and_then, option_map, if◌then◌else◌}
use Rattle.std.proofs.lemmas.Bool.Decides.{nat_tests}
use Rattle.enc_base.specs.Readers.{both}
use Rattle.enc_sigs.specs.declared.kind.SigKind.TheVariants as kind
use Rattle.enc_sigs.specs.Tree.{Tree, SigTree}
use Rattle.enc_sigs.specs.Grammar.{byte_in, is_calling, generics_in, calling_in, parts_in, method_in, type_in, front_in, is_coded, sig_in}
use Rattle.enc_sigs.proofs.Fronts.{whole, given_by, both_parts, byte_first, field_first, locals_first}
use Rattle.enc_plain.specs.Signatures.{member_kind, alone_kind, kind_in_table}

abbrev head_is : (ℕ → Bool) → List ℕ → Bool
head_is test [] = false
head_is test (b ∷ rest) = test b

head_by : (test : ℕ → Bool) (bytes rest : List ℕ) (b : ℕ) → bytes ≡ b ∷ rest → test b ≡ true → head_is test bytes ≡ true
head_by test bytes rest b e h = rw e h

called : (bytes : List ℕ) (o : Option (ℕ × List ℕ)) (p : (ℕ × ℕ) × List ℕ) → byte_in is_calling bytes ≡ o
    → option_and_then {T = ℕ × List ℕ} (λ p. option_map {T = ℕ × List ℕ} (λ q. ((p.0, q.0), q.1)) (generics_in p.0 p.1)) o ≡ Some p → head_is is_calling bytes ≡ true
called bytes None p is e = absurd cc
called bytes (Some x) p is e = let f = byte_first is_calling bytes x is in head_by is_calling bytes x.1 x.0 f.0 f.1

calling_first : (bytes : List ℕ) (p : (ℕ × ℕ) × List ℕ) → calling_in bytes ≡ Some p → head_is is_calling bytes ≡ true
unfolding calling_in
calling_first bytes p h = called bytes (byte_in is_calling bytes) p refl h

-- that of a method begins with a byte that tells how it is called
method_first : (bytes : List ℕ) (x : SigTree) → sig_in is_coded kind.Method bytes ≡ Some x → head_is is_calling bytes ≡ true
unfolding sig_in front_in method_in
method_first bytes x h =
    let made : (ℕ × ℕ) × List Tree → SigTree = λ p. record { form = kind.Method; kind = p.0.0; generics = p.0.1; parts = p.1 } in
    let g = given_by {A = (ℕ × ℕ) × List Tree} {B = SigTree} made (both calling_in (parts_in (type_in is_coded)) bytes) x []
    (whole (front_in is_coded kind.Method bytes) x h) in
    let b = both_parts (calling_in bytes) (parts_in (type_in is_coded)) g.0.0 g.0.1 [] g.1 in
    calling_first bytes (g.0.0, b.0) b.1

-- which is neither 06 nor 07
not_called : (b k : ℕ) (t : Bool) → (k ≡ 6) ⊎ (k ≡ 7) → (b == k) ≡ t → is_calling b ≡ true → t ≡ false
unfolding is_calling
not_called b k false or is h = refl
not_called b k true or is h = absurd (grind (arith, nat_tests))

six_not : (b : ℕ) → is_calling b ≡ true → (b == 0x06) ≡ false
six_not b h = not_called b 0x06 (b == 0x06) (inl refl) refl h

seven_not : (b : ℕ) → is_calling b ≡ true → (b == 0x07) ≡ false
seven_not b h = not_called b 0x07 (b == 0x07) (inr refl) refl h

-- the kind that each blob tells which is a signature of it
six_is : (b : List ℕ) (rest : List ℕ) → b ≡ 0x06 ∷ rest → member_kind b ≡ kind.Field
six_is b rest e = rw e refl

member_method : (b : List ℕ) → head_is is_calling b ≡ true → member_kind b ≡ kind.Method
member_method [] h = absurd cc
member_method (x ∷ b) h = rw (six_not x h) refl

alone_method : (b : List ℕ) → head_is is_calling b ≡ true → alone_kind b ≡ kind.Method
alone_method [] h = absurd cc
alone_method (x ∷ b) h = rw (seven_not x h, six_not x h) refl

alone_six : (b : List ℕ) (rest : List ℕ) → b ≡ 0x06 ∷ rest → alone_kind b ≡ kind.Field
alone_six b rest e = rw e refl

alone_seven : (b : List ℕ) (x : ℕ) (rest : List ℕ) → b ≡ x ∷ rest → (x == 0x07) ≡ true → alone_kind b ≡ kind.Locals
alone_seven b x rest e h = rw (e, h) refl

field_six : (b : List ℕ) (s : SigTree) → sig_in is_coded kind.Field b ≡ Some s → (rest : List ℕ) × (b ≡ 0x06 ∷ rest)
field_six b s h = let f = field_first b s h in (f.rest, f.begins)

member_from : (t : Bool) (b : List ℕ) (s : SigTree) → sig_in is_coded (if t then kind.Field else kind.Method) b ≡ Some s
    → member_kind b ≡ (if t then kind.Field else kind.Method)
member_from true b s h = let f = field_six b s h in six_is b f.0 f.1
member_from false b s h = member_method b (method_first b s h)

member_kept : (a b : List ℕ) (s : SigTree) → sig_in is_coded (member_kind a) b ≡ Some s → member_kind b ≡ member_kind a
member_kept [] b s h = member_from false b s h
member_kept (x ∷ a) b s h = member_from (x == 0x06) b s h

alone_from : (t u : Bool) (b : List ℕ) (s : SigTree)
    → sig_in is_coded (if t then kind.Locals else if u then kind.Field else kind.Method) b ≡ Some s
    → alone_kind b ≡ (if t then kind.Locals else if u then kind.Field else kind.Method)
alone_from true u b s h = let f = locals_first b s h in alone_seven b f.0 f.1 f.2 f.3
alone_from false true b s h = let f = field_six b s h in alone_six b f.0 f.1
alone_from false false b s h = alone_method b (method_first b s h)

alone_kept : (a b : List ℕ) (s : SigTree) → sig_in is_coded (alone_kind a) b ≡ Some s → alone_kind b ≡ alone_kind a
alone_kept [] b s h = alone_from false false b s h
alone_kept (x ∷ a) b s h = alone_from (x == 0x07) (x == 0x06) b s h

by_table : (f m r l p t : Bool) (a b : List ℕ) (s : SigTree)
    → sig_in is_coded (if f then kind.Field else if m then kind.Method else if r then member_kind a else if l then alone_kind a
    else if p then kind.Property else if t then kind.TypeSpec else kind.MethodSpec) b ≡ Some s
    → (if f then kind.Field else if m then kind.Method else if r then member_kind b else if l then alone_kind b
    else if p then kind.Property else if t then kind.TypeSpec else kind.MethodSpec)
    ≡ (if f then kind.Field else if m then kind.Method else if r then member_kind a else if l then alone_kind a
    else if p then kind.Property else if t then kind.TypeSpec else kind.MethodSpec)
by_table true m r l p t a b s h = refl
by_table false true r l p t a b s h = refl
by_table false false true l p t a b s h = member_kept a b s h
by_table false false false true p t a b s h = alone_kept a b s h
by_table false false false false p t a b s h = refl

-- what reads as a signature of a blob's kind is of that kind
pub kind_kept : (table : ℕ) (a b : List ℕ) (s : SigTree) → sig_in is_coded (kind_in_table table a) b ≡ Some s
    → kind_in_table table b ≡ kind_in_table table a
unfolding kind_in_table
kind_kept table a b s h = by_table (table == 0x04) (table == 0x06) (table == 0x0A) (table == 0x11) (table == 0x17) (table == 0x1B) a b s h
