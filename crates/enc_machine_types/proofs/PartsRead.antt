-- What is asked of a signature is what its parts say, one behind the other.
use Rattle.std.proofs.Common.{◌≡◌, ℕ, zero, suc, Bool, true, false, ◌&&◌, List, [], ◌∷◌, length, Option, Some, None, refl, ap, ◌∙◌, arith}
use Rattle.std.specs.Prelude.{option_map, option_and_then, ◌==◌, ◌%◌, if◌then◌else◌, not}
use Rattle.std.specs.Option.{option_map_or}
use Rattle.std.proofs.lemmas.Bool.Decides.{nat_tests}
use Rattle.enc_base.specs.Numbers.{has_flag, is_empty}
use Rattle.enc_base.specs.Readers.{number_in}
use Rattle.enc_objects.specs.declared.kind.Kind.{Kind}
use Rattle.enc_sigs.specs.declared.kind.SigKind.TheVariants as sigs
use Rattle.enc_sigs.specs.Tree.{Tree, SigTree}
use Rattle.enc_sigs.specs.Grammar.{is_coded, type_in, many, params, parts_in, method_in, calling_in, byte_in, list_in, front_in, sig_in, all_of}
use Rattle.enc_sigs.specs.Reads.{element_front}
use Rattle.enc_sigs.proofs.Many.{params_length}
use Rattle.enc_machine_types.specs.Elements.{CallShape, kind_of_element, kind_of_tree, kind_of_parameter, answers_of, gives_of, shape_of_parts, shape_of_tree, call_shape_in, is_single, takes_nothing, kind_of_first, field_kind_in, local_kinds_in}
use Rattle.enc_machine_types.specs.Fronts.{kind_front}
use Rattle.enc_machine_types.specs.Parts.{given_of_element, given_front, shape_behind, shape_front, ends_there, nothing_front, behind_byte, field_front, locals_front}
use Rattle.enc_machine_types.proofs.KindsRead.{kinds_read, many_kinds, parameter_kinds_are, trees_by_element}

-- the kinds of types, behind which nothing stands
ended_by : (ks : Option (List Kind)) → ks ≡ all_of {A = List Kind} (option_map {T = List Kind} (λ ks. (ks, [])) ks)
ended_by None = refl
ended_by (Some ks) = refl

more_by : (b : ℕ) (rest : List ℕ) (ks : Option (List Kind)) → None ≡ all_of {A = List Kind} (option_map {T = List Kind} (λ ks. (ks, b ∷ rest)) ks)
more_by b rest None = refl
more_by b rest (Some ks) = refl

ended_at : (f : Tree → Option Kind) (ts : List Tree) (rest : List ℕ) → option_and_then {T = List Tree} (answers_of f) (all_of {A = List Tree} (Some (ts, rest))) ≡ all_of {A = List Kind} (kinds_read f (Some (ts, rest)))
ended_at f ts [] = ended_by (answers_of f ts)
ended_at f ts (b ∷ rest) = more_by b rest (answers_of f ts)

ended : (f : Tree → Option Kind) (o : Option (List Tree × List ℕ)) → option_and_then {T = List Tree} (answers_of f) (all_of {A = List Tree} o) ≡ all_of {A = List Kind} (kinds_read f o)
ended f None = refl
ended f (Some p) = ended_at f p.0 p.1

-- a count, a first type and others
abbrev counted : ℕ → Tree → Option (List Tree × List ℕ) → Option (List Tree × List ℕ)
counted n t o = option_map {T = (ℕ × (Tree × List Tree)) × List ℕ} (λ p. (p.0.1.0 ∷ p.0.1.1, p.1)) (option_map {T = (Tree × List Tree) × List ℕ} (λ q. ((n, q.0), q.1)) (option_map {T = List Tree × List ℕ} (λ q. ((t, q.0), q.1)) o))

gives_is : (t : Tree) → gives_of t ≡ given_of_element t.element
unfolding gives_of given_of_element
gives_is t = refl

none_at : (this : Bool) (n : ℕ) (t : Tree) (ts : List Tree) (rest : List ℕ) → given_of_element t.element ≡ None → option_and_then {T = List Tree} (shape_of_parts this) (all_of {A = List Tree} (counted n t (Some (ts, rest)))) ≡ None
none_at this n t ts [] e = rw (gives_is t, e) refl
none_at this n t ts (b ∷ rest) e = refl

none_given : (this : Bool) (n : ℕ) (t : Tree) (o : Option (List Tree × List ℕ)) → given_of_element t.element ≡ None → option_and_then {T = List Tree} (shape_of_parts this) (all_of {A = List Tree} (counted n t o)) ≡ None
none_given this n t None e = refl
none_given this n t (Some p) e = none_at this n t p.0 p.1 e

abbrev shape : Bool → Option Kind → List Kind → CallShape
shape this g ks = record { this = this; gives = g; takes = ks }

some_at : (this : Bool) (n : ℕ) (t : Tree) (g : Option Kind) (ts : List Tree) (rest : List ℕ) → given_of_element t.element ≡ Some g → option_and_then {T = List Tree} (shape_of_parts this) (all_of {A = List Tree} (counted n t (Some (ts, rest)))) ≡ option_map {T = List Kind} (shape this g) (option_and_then {T = List Tree} (answers_of kind_of_parameter) (all_of {A = List Tree} (Some (ts, rest))))
some_at this n t g ts [] e = rw (gives_is t, e) refl
some_at this n t g ts (b ∷ rest) e = refl

some_given : (this : Bool) (n : ℕ) (t : Tree) (g : Option Kind) (o : Option (List Tree × List ℕ)) → given_of_element t.element ≡ Some g → option_and_then {T = List Tree} (shape_of_parts this) (all_of {A = List Tree} (counted n t o)) ≡ option_map {T = List Kind} (shape this g) (option_and_then {T = List Tree} (answers_of kind_of_parameter) (all_of {A = List Tree} o))
some_given this n t g None e = refl
some_given this n t g (Some p) e = some_at this n t g p.0 p.1 e

behind_given : (this : Bool) (bytes : List ℕ) (n : ℕ × List ℕ) (t : Tree × List ℕ) (o : Option (Option Kind)) → number_in bytes ≡ Some n → type_in is_coded n.1 ≡ Some t → given_of_element t.0.element ≡ o → option_and_then {T = List Tree} (shape_of_parts this) (all_of {A = List Tree} (parts_in (type_in is_coded) bytes)) ≡ shape_behind this bytes
unfolding parts_in shape_behind given_front
behind_given this bytes n t None e f g = rw (e, f, g) (none_given this n.0 t.0 (params (type_in is_coded) n.0 t.1) g)
behind_given this bytes n t (Some k) e f g =
    rw (e, f, g, parameter_kinds_are n.0 t.1, ← ended kind_of_parameter (params (type_in is_coded) n.0 t.1))
    (some_given this n.0 t.0 k (params (type_in is_coded) n.0 t.1) g)

behind_type : (this : Bool) (bytes : List ℕ) (n : ℕ × List ℕ) (o : Option (Tree × List ℕ)) → number_in bytes ≡ Some n → type_in is_coded n.1 ≡ o → option_and_then {T = List Tree} (shape_of_parts this) (all_of {A = List Tree} (parts_in (type_in is_coded) bytes)) ≡ shape_behind this bytes
unfolding parts_in shape_behind given_front
behind_type this bytes n None e f = rw (e, f) refl
behind_type this bytes n (Some t) e f = behind_given this bytes n t (given_of_element t.0.element) e f refl

behind_count : (this : Bool) (bytes : List ℕ) (o : Option (ℕ × List ℕ)) → number_in bytes ≡ o → option_and_then {T = List Tree} (shape_of_parts this) (all_of {A = List Tree} (parts_in (type_in is_coded) bytes)) ≡ shape_behind this bytes
unfolding parts_in shape_behind
behind_count this bytes None e = rw e refl
behind_count this bytes (Some n) e = behind_type this bytes n (type_in is_coded n.1) e refl

-- a method's first byte and its parts
abbrev with_first : ℕ × ℕ → Option (List Tree × List ℕ) → Option (SigTree × List ℕ)
with_first c o = option_map {T = ((ℕ × ℕ) × List Tree) × List ℕ} (λ p. (record { form = sigs.Method; kind = p.0.0.0; generics = p.0.0.1; parts = p.0.1 }, p.1)) (option_map {T = List Tree × List ℕ} (λ q. ((c, q.0), q.1)) o)

abbrev no_shape : Option CallShape
no_shape = None

none_either : (b : Bool) → no_shape ≡ (if b then None else None)
none_either true = refl
none_either false = refl

first_at : (c : ℕ × ℕ) (ts : List Tree) (rest : List ℕ) → option_and_then {T = SigTree} shape_of_tree (all_of {A = SigTree} (with_first c (Some (ts, rest)))) ≡ (if c.0 % 0x10 == 0 && c.1 == 0 then option_and_then {T = List Tree} (shape_of_parts (has_flag 0x20 c.0)) (all_of {A = List Tree} (Some (ts, rest))) else None)
unfolding shape_of_tree
first_at c ts [] = refl
first_at c ts (b ∷ rest) = none_either (c.0 % 0x10 == 0 && c.1 == 0)

first_by : (c : ℕ × ℕ) (o : Option (List Tree × List ℕ)) → option_and_then {T = SigTree} shape_of_tree (all_of {A = SigTree} (with_first c o)) ≡ (if c.0 % 0x10 == 0 && c.1 == 0 then option_and_then {T = List Tree} (shape_of_parts (has_flag 0x20 c.0)) (all_of {A = List Tree} o) else None)
first_by c None = none_either (c.0 % 0x10 == 0 && c.1 == 0)
first_by c (Some p) = first_at c p.0 p.1

shape_by : (blob : List ℕ) (o : Option ((ℕ × ℕ) × List ℕ)) → calling_in blob ≡ o → call_shape_in blob ≡ shape_front blob
unfolding call_shape_in sig_in front_in method_in shape_front
shape_by blob None e = rw e refl
shape_by blob (Some c) e =
    rw (e, ← behind_count (has_flag 0x20 c.0.0) c.1 (number_in c.1) refl)
    (first_by c.0 (parts_in (type_in is_coded) c.1))

-- how a method is called
pub shape_is : (blob : List ℕ) → call_shape_in blob ≡ shape_front blob
shape_is blob = shape_by blob (calling_in blob) refl

-- a method that takes nothing has one part
single_of_more : (t : Tree) (n : ℕ) (ts : List Tree) → length ts ≡ suc n → is_single (t ∷ ts) ≡ false
single_of_more t n [] e = absurd (omega (arith, e))
single_of_more t n (u ∷ us) e = refl

more_at : (t : Tree) (n : ℕ) (ts : List Tree) (rest : List ℕ) → is_single (t ∷ ts) ≡ false → option_map_or {T = List Tree} is_single (all_of {A = List Tree} (counted n t (Some (ts, rest)))) false ≡ false
more_at t n ts [] e = e
more_at t n ts (b ∷ rest) e = refl

more_parts : (t : Tree) (n : ℕ) (o : Option (List Tree × List ℕ)) → ((p : List Tree × List ℕ) → o ≡ Some p → length p.0 ≡ suc n) → option_map_or {T = List Tree} is_single (all_of {A = List Tree} (counted (suc n) t o)) false ≡ false
more_parts t n None h = refl
more_parts t n (Some p) h = more_at t (suc n) p.0 p.1 (single_of_more t n p.0 (h p refl))

one_at : (t : Tree) (rest : List ℕ) → option_map_or {T = List Tree} is_single (all_of {A = List Tree} (Some (t ∷ [], rest))) false ≡ is_empty rest
one_at t [] = refl
one_at t (b ∷ rest) = refl

not_zero : (n : ℕ) → (suc n == 0) ≡ false
not_zero n = grind (arith, nat_tests)

single_type : (bytes mid : List ℕ) (n : ℕ) (o : Option (Tree × List ℕ)) → number_in bytes ≡ Some (n, mid) → type_in is_coded mid ≡ o → option_map_or {T = List Tree} is_single (all_of {A = List Tree} (parts_in (type_in is_coded) bytes)) false ≡ (n == 0 && ends_there (element_front (type_in is_coded mid)))
unfolding parts_in params
single_type bytes mid zero None e f = rw (e, f) refl
single_type bytes mid zero (Some t) e f = rw (e, f) (one_at t.0 t.1)
single_type bytes mid (suc n) None e f = rw (e, f, not_zero n) refl
single_type bytes mid (suc n) (Some t) e f = rw (e, f, not_zero n) (more_parts t.0 n (params (type_in is_coded) (suc n) t.1) (params_length (type_in is_coded) (suc n) t.1))

single_count : (bytes : List ℕ) (o : Option (ℕ × List ℕ)) → number_in bytes ≡ o → option_map_or {T = List Tree} is_single (all_of {A = List Tree} (parts_in (type_in is_coded) bytes)) false ≡ option_map_or {T = ℕ × List ℕ} (λ n. n.0 == 0 && ends_there (element_front (type_in is_coded n.1))) (number_in bytes) false
unfolding parts_in
single_count bytes None e = rw e refl
single_count bytes (Some n) e = single_type bytes n.1 n.0 (type_in is_coded n.1) e refl ∙ rw e refl

nothing_at : (c : ℕ × ℕ) (f : Bool) (ts : List Tree) (rest : List ℕ) → has_flag 0x20 c.0 ≡ f → option_map_or {T = SigTree} (λ s. not (has_flag 0x20 s.kind) && is_single s.parts) (all_of {A = SigTree} (with_first c (Some (ts, rest)))) false ≡ (not f && option_map_or {T = List Tree} is_single (all_of {A = List Tree} (Some (ts, rest))) false)
nothing_at c f ts [] e = rw e refl
nothing_at c true ts (b ∷ rest) e = refl
nothing_at c false ts (b ∷ rest) e = refl

nothing_by : (c : ℕ × ℕ) (f : Bool) (o : Option (List Tree × List ℕ)) → has_flag 0x20 c.0 ≡ f → option_map_or {T = SigTree} (λ s. not (has_flag 0x20 s.kind) && is_single s.parts) (all_of {A = SigTree} (with_first c o)) false ≡ (not f && option_map_or {T = List Tree} is_single (all_of {A = List Tree} o) false)
nothing_by c true None e = refl
nothing_by c false None e = refl
nothing_by c f (Some p) e = nothing_at c f p.0 p.1 e

flag_in : (f : Bool) (a : ℕ × List ℕ → Bool) (o : Option (ℕ × List ℕ)) → (not f && option_map_or {T = ℕ × List ℕ} a o false) ≡ option_map_or {T = ℕ × List ℕ} (λ n. not f && a n) o false
flag_in true a None = refl
flag_in true a (Some n) = refl
flag_in false a None = refl
flag_in false a (Some n) = refl

nothing_first : (blob : List ℕ) (o : Option ((ℕ × ℕ) × List ℕ)) → calling_in blob ≡ o → takes_nothing blob ≡ nothing_front blob
unfolding takes_nothing sig_in front_in method_in nothing_front
nothing_first blob None e = rw e refl
nothing_first blob (Some c) e =
    rw e
    (nothing_by c.0 (has_flag 0x20 c.0.0) (parts_in (type_in is_coded) c.1) refl
    ∙ ap (λ b. not (has_flag 0x20 c.0.0) && b) (single_count c.1 (number_in c.1) refl)
    ∙ flag_in (has_flag 0x20 c.0.0) (λ n. n.0 == 0 && ends_there (element_front (type_in is_coded n.1))) (number_in c.1))

pub nothing_is : (blob : List ℕ) → takes_nothing blob ≡ nothing_front blob
nothing_is blob = nothing_first blob (calling_in blob) refl

-- the kind of a field
field_at : (b : ℕ) (t : Tree) (rest : List ℕ) (k : Option Kind) → kind_of_element t.element ≡ k → option_and_then {T = SigTree} (λ s. kind_of_first s.parts) (all_of {A = SigTree} (Some (record { form = sigs.Field; kind = b; generics = 0; parts = t ∷ [] }, rest))) ≡ all_of {A = Kind} (option_map {T = Kind} (λ k. (k, rest)) k)
field_at b t [] None e = e
field_at b t [] (Some k) e = e
field_at b t (c ∷ rest) None e = refl
field_at b t (c ∷ rest) (Some k) e = refl

field_type : (b : ℕ) (rest : List ℕ) (o : Option (Tree × List ℕ)) → (b == 0x06) ≡ true → type_in is_coded rest ≡ o → field_kind_in (b ∷ rest) ≡ field_front (b ∷ rest)
unfolding field_kind_in sig_in front_in byte_in field_front behind_byte kind_front
field_type b rest None e f = rw (e, f) refl
field_type b rest (Some t) e f = rw (e, f) (field_at b t.0 t.1 (kind_of_element t.0.element) refl)

field_first : (b : ℕ) (rest : List ℕ) (t : Bool) → (b == 0x06) ≡ t → field_kind_in (b ∷ rest) ≡ field_front (b ∷ rest)
unfolding field_kind_in sig_in front_in byte_in field_front behind_byte
field_first b rest true e = field_type b rest (type_in is_coded rest) e refl
field_first b rest false e = rw e refl

pub field_is : (blob : List ℕ) → field_kind_in blob ≡ field_front blob
unfolding field_kind_in sig_in front_in byte_in field_front behind_byte
field_is [] = refl
field_is (b ∷ rest) = field_first b rest (b == 0x06) refl

-- the kinds of local variables
abbrev as_locals : ℕ → Option (List Tree × List ℕ) → Option (SigTree × List ℕ)
as_locals b o = option_map {T = (ℕ × List Tree) × List ℕ} (λ p. (record { form = sigs.Locals; kind = p.0.0; generics = 0; parts = p.0.1 }, p.1)) (option_map {T = List Tree × List ℕ} (λ q. ((b, q.0), q.1)) o)

locals_at : (b : ℕ) (ts : List Tree) (rest : List ℕ) → option_and_then {T = SigTree} (λ s. answers_of kind_of_tree s.parts) (all_of {A = SigTree} (as_locals b (Some (ts, rest)))) ≡ option_and_then {T = List Tree} (answers_of kind_of_tree) (all_of {A = List Tree} (Some (ts, rest)))
locals_at b ts [] = refl
locals_at b ts (c ∷ rest) = refl

locals_by : (b : ℕ) (o : Option (List Tree × List ℕ)) → option_and_then {T = SigTree} (λ s. answers_of kind_of_tree s.parts) (all_of {A = SigTree} (as_locals b o)) ≡ option_and_then {T = List Tree} (answers_of kind_of_tree) (all_of {A = List Tree} o)
locals_by b None = refl
locals_by b (Some p) = locals_at b p.0 p.1

-- a count and the things counted
counted_list : (n : ℕ) (o : Option (List Tree × List ℕ)) → option_map {T = (ℕ × List Tree) × List ℕ} (λ p. (p.0.1, p.1)) (option_map {T = List Tree × List ℕ} (λ q. ((n, q.0), q.1)) o) ≡ o
counted_list n None = refl
counted_list n (Some p) = refl

locals_count : (b : ℕ) (rest : List ℕ) (o : Option (ℕ × List ℕ)) → (b == 0x07) ≡ true → number_in rest ≡ o → local_kinds_in (b ∷ rest) ≡ locals_front (b ∷ rest)
unfolding local_kinds_in sig_in front_in byte_in list_in locals_front behind_byte
locals_count b rest None e f = rw (e, f) refl
locals_count b rest (Some n) e f =
    rw (e, f, counted_list n.0 (many (type_in is_coded) n.0 n.1), many_kinds kind_of_tree n.0 n.1 trees_by_element)
    (locals_by b (many (type_in is_coded) n.0 n.1) ∙ ended kind_of_tree (many (type_in is_coded) n.0 n.1))

locals_first : (b : ℕ) (rest : List ℕ) (t : Bool) → (b == 0x07) ≡ t → local_kinds_in (b ∷ rest) ≡ locals_front (b ∷ rest)
unfolding local_kinds_in sig_in front_in byte_in locals_front behind_byte
locals_first b rest true e = locals_count b rest (number_in rest) e refl
locals_first b rest false e = rw e refl

pub locals_are : (blob : List ℕ) → local_kinds_in blob ≡ locals_front blob
unfolding local_kinds_in sig_in front_in byte_in locals_front behind_byte
locals_are [] = refl
locals_are (b ∷ rest) = locals_first b rest (b == 0x07) refl
