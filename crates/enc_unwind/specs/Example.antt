-- Searches over four clauses of a body, worked out by the definitions.
use Rattle.std.specs.Prelude.{◌≡◌, ℕ, List, [], ◌∷◌, Option, Some, None, codes}
use Rattle.enc_base.specs.Token.{nil, token_of}
use Rattle.enc_plain.specs.Cell.{number, text, refer}
use Rattle.enc_plain.specs.Module.{Row, Module}
use Rattle.enc_unwind.specs.Search.{catch_among, next_among, handlers_of}
use Rattle.enc_unwind.specs.declared.thrown.Thrown.{Thrown}
use Rattle.enc_unwind.specs.declared.thrown.Thrown.TheVariants.{Class, Text, Array}
use Rattle.enc_unwind.specs.declared.way_out.WayOut.{WayOut}
use Rattle.enc_unwind.specs.declared.way_out.WayOut.TheVariants.{Leave, Before, All}

-- the TypeRefs System.Object and System.String
abbrev pub system_type : List ℕ → Row
system_type name = record { cells = refer nil ∷ text name ∷ text (codes "System") ∷ []; kids = [] }

-- a class that extends a type
abbrev pub class_extending : ℕ → Row
class_extending base = record { cells = number 0 ∷ text [] ∷ text [] ∷ refer (token_of base) ∷ []; kids = [] }

-- two TypeRefs, and two classes, of which the first extends System.Object, and the second extends the first
abbrev pub example_module : Module
example_module = record {
  tables = [] ∷ (system_type (codes "Object") ∷ system_type (codes "String") ∷ [])
      ∷ (class_extending 0x01000001 ∷ class_extending 0x02000001 ∷ []) ∷ [];
  resources = [];
  entry = 0;
}

-- a small section of four clauses: a catch of the second class at 0 to 9, a finally at 0 to 13, a fault at 0 to 17,
-- a catch of System.Object at 0 to 21
abbrev pub example_sections : List ℕ
example_sections =
    0x01 ∷ 0x34 ∷ 0x00 ∷ 0x00 ∷
    0x00 ∷ 0x00 ∷ 0x00 ∷ 0x00 ∷ 0x0A ∷ 0x0A ∷ 0x00 ∷ 0x04 ∷ 0x02 ∷ 0x00 ∷ 0x00 ∷ 0x02 ∷
    0x02 ∷ 0x00 ∷ 0x00 ∷ 0x00 ∷ 0x0E ∷ 0x0E ∷ 0x00 ∷ 0x04 ∷ 0x00 ∷ 0x00 ∷ 0x00 ∷ 0x00 ∷
    0x04 ∷ 0x00 ∷ 0x00 ∷ 0x00 ∷ 0x12 ∷ 0x12 ∷ 0x00 ∷ 0x04 ∷ 0x00 ∷ 0x00 ∷ 0x00 ∷ 0x00 ∷
    0x00 ∷ 0x00 ∷ 0x00 ∷ 0x00 ∷ 0x16 ∷ 0x16 ∷ 0x00 ∷ 0x04 ∷ 0x01 ∷ 0x00 ∷ 0x00 ∷ 0x01 ∷ []

abbrev pub caught_at : ℕ → Thrown → Option ℕ
caught_at offset thrown = catch_among example_module 1 (handlers_of example_sections) offset thrown

abbrev pub next_from : Option ℕ → WayOut → Option ℕ
next_from past stop = next_among (handlers_of example_sections) past 5 stop

-- an object of the second class is caught where that is; one of the first, and one that is thrown behind, by
-- System.Object; and none behind that
abbrev pub ExampleCatches : Type 0
ExampleCatches =
    (caught_at 5 (Class (token_of 0x02000002)) ≡ Some 0)
    × (caught_at 5 (Class (token_of 0x02000001)) ≡ Some 3)
    × (caught_at 10 (Class (token_of 0x02000002)) ≡ Some 3)
    × (caught_at 5 Text ≡ Some 3)
    × (caught_at 5 Array ≡ Some 3)
    × (caught_at 22 Text ≡ None)

-- on the way out from offset 5: by leave the finally alone, and none where it protects the target; by a thrown
-- object the finally, the fault, and no more
abbrev pub ExampleRuns : Type 0
ExampleRuns =
    (next_from None (Leave 26) ≡ Some 1)
    × (next_from (Some 1) (Leave 26) ≡ None)
    × (next_from None (Leave 10) ≡ None)
    × (next_from None (Before 3) ≡ Some 1)
    × (next_from (Some 1) (Before 3) ≡ Some 2)
    × (next_from (Some 2) All ≡ None)
