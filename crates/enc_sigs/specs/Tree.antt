-- Signatures as trees (ECMA-335 II.23.2).
use Rattle.std.specs.Prelude.{◌≡◌, ℕ, zero, suc, ◌+◌, ◌≤◌, Option, Some, None, List, [], ◌∷◌, ◌++◌, refl}
use Rattle.std.specs.Coded.{Coded, code_by, coded×, coded_ℕ, coded_list, coded_option}
use Rattle.std.proofs.Common.{ap, ◌∙◌, arith}
use Rattle.enc_base.specs.declared.token.Token.{Token}
use Rattle.enc_sigs.specs.declared.kind.SigKind.{SigKind}
use Rattle.enc_sigs.specs.declared.kind.SigKind.TheVariants.{Method, Field, Locals, Property, TypeSpec, MethodSpec}
use denote.Param.Weighed.{most}

-- types one behind the other: the first's element, token, number and own parts, and the others
pub data Forest : Type 0 where
  none : Forest
  more : ℕ → Token → ℕ → Forest → Forest → Forest

-- a type: its element, the token and the number that stand behind it, and the parts within (II.23.1.16)
pub record Tree : Type 0 where
  pub element : ℕ
  pub token : Token
  pub number : ℕ
  pub kids : Forest

-- a signature: what it is of, its first byte (0 of a type spec), the count of its generic parameters, and its parts,
-- the return type or the type first
pub record SigTree : Type 0 where
  pub form : SigKind
  pub kind : ℕ
  pub generics : ℕ
  pub parts : List Tree

-- a list of types as a forest
abbrev pub forest_of : List Tree → Forest
forest_of [] = none
forest_of (t ∷ ts) = more t.element t.token t.number t.kids (forest_of ts)

-- a forest as a list of types
abbrev pub trees : Forest → List Tree
trees none = []
trees (more e t n k r) = record { element = e; token = t; number = n; kids = k } ∷ trees r

-- which gives the list back
pub trees_of : (ts : List Tree) → trees (forest_of ts) ≡ ts
trees_of [] = refl
trees_of (t ∷ ts) = ap (λ us. t ∷ us) (trees_of ts)

-- how many types there are in it
abbrev pub forest_size : Forest → ℕ
forest_size none = 0
forest_size (more e t n k r) = 1 + forest_size k + forest_size r

-- how many types a type has, with itself
abbrev pub tree_size : Tree → ℕ
tree_size t = 1 + forest_size t.kids

-- each is smaller than what it stands in
pub most_size : (ts : List Tree) → most (λ t. tree_size t + 1) ts ≤ forest_size (forest_of ts) + 1
most_size [] = omega arith
most_size (t ∷ ts) = omega (arith, most_size ts)

-- a forest is stored as its types in postfix order, one step for each type and for each end
abbrev pub Step : Type 0
Step = Option (ℕ × ((ℕ × ℕ) × ℕ))

-- the steps that make it
abbrev pub steps : Forest → List Step
steps none = None ∷ []
steps (more e t n k r) = steps k ++ (steps r ++ Some (e, ((t.table, t.row), n)) ∷ [])

-- a step with the forests that were made before
abbrev pub step_taken : Step → List Forest → List Forest
step_taken None stack = none ∷ stack
step_taken (Some s) (r ∷ k ∷ stack) = more s.0 (record { table = s.1.0.0; row = s.1.0.1 }) s.1.1 k r ∷ stack
step_taken (Some s) stack = stack

-- the forests that steps make
abbrev pub run : List Step → List Forest → List Forest
run [] stack = stack
run (s ∷ ss) stack = run ss (step_taken s stack)

-- the last of them
abbrev pub top : List Forest → Forest
top [] = none
top (f ∷ fs) = f

-- steps and further ones
pub run-append : (a b : List Step) (stack : List Forest) → run (a ++ b) stack ≡ run b (run a stack)
run-append [] b stack = refl
run-append (s ∷ a) b stack = run-append a b (step_taken s stack)

-- its steps make it
pub run_steps : (f : Forest) (stack : List Forest) → run (steps f) stack ≡ f ∷ stack
run_steps none stack = refl
run_steps (more e t n k r) stack =
    run-append (steps k) (steps r ++ Some (e, ((t.table, t.row), n)) ∷ []) stack
    ∙ ap (run (steps r ++ Some (e, ((t.table, t.row), n)) ∷ [])) (run_steps k stack)
    ∙ run-append (steps r) (Some (e, ((t.table, t.row), n)) ∷ []) (k ∷ stack)
    ∙ ap (run (Some (e, ((t.table, t.row), n)) ∷ [])) (run_steps r (k ∷ stack))

-- how forests, types and signatures are stored
abbrev pub coded_forest : Coded Forest
coded_forest =
    code_by (List Step) (coded_list (coded_option (coded× coded_ℕ (coded× (coded× coded_ℕ coded_ℕ) coded_ℕ))))
    steps (λ ss. top (run ss [])) (λ f. ap top (run_steps f []))

abbrev pub coded_tree : Coded Tree
coded_tree =
    code_by (ℕ × ((ℕ × ℕ) × (ℕ × Forest)))
    (coded× coded_ℕ (coded× (coded× coded_ℕ coded_ℕ) (coded× coded_ℕ coded_forest)))
    (λ t. (t.element, ((t.token.table, t.token.row), (t.number, t.kids))))
    (λ p. record { element = p.0; token = record { table = p.1.0.0; row = p.1.0.1 }; number = p.1.1.0; kids = p.1.1.1 })
    (λ _. refl)

-- kinds of signatures by number
abbrev pub form_number : SigKind → ℕ
form_number Method = 0
form_number Field = 1
form_number Locals = 2
form_number Property = 3
form_number TypeSpec = 4
form_number MethodSpec = 5

abbrev pub nth_form : ℕ → SigKind
nth_form zero = Method
nth_form (suc zero) = Field
nth_form (suc (suc zero)) = Locals
nth_form (suc (suc (suc zero))) = Property
nth_form (suc (suc (suc (suc zero)))) = TypeSpec
nth_form _ = MethodSpec

pub nth_form_is : (k : SigKind) → nth_form (form_number k) ≡ k
nth_form_is Method = refl
nth_form_is Field = refl
nth_form_is Locals = refl
nth_form_is Property = refl
nth_form_is TypeSpec = refl
nth_form_is MethodSpec = refl

abbrev pub coded_form : Coded SigKind
coded_form = code_by ℕ coded_ℕ form_number nth_form nth_form_is

abbrev pub coded_sig : Coded SigTree
coded_sig =
    code_by (SigKind × (ℕ × (ℕ × List Tree)))
    (coded× coded_form (coded× coded_ℕ (coded× coded_ℕ (coded_list coded_tree))))
    (λ s. (s.form, (s.kind, (s.generics, s.parts))))
    (λ p. record { form = p.0; kind = p.1.0; generics = p.1.1.0; parts = p.1.1.1 }) (λ _. refl)
