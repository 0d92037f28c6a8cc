-- The first rule that a delta breaks after its chain.
use Rattle.std.specs.Prelude.{ℕ, List, [], ◌∷◌, map, Option, None, option_map, nat_le, if◌then◌else◌}
use Rattle.enc_base.specs.Token.{number_of}
use Rattle.enc_base.specs.Order.{or_else}
use Rattle.enc_base.specs.declared.refusal.Refusal.{Refusal}
use Rattle.enc_base.specs.declared.refusal.Code.TheVariants.{E}
use Rattle.enc_base.specs.declared.refusal.Place.{Place}
use Rattle.enc_rows.specs.Source.{Source}
use Rattle.enc_plain.specs.Chain.{Chain}
use Rattle.enc_delta.specs.Delta.{log_in, listed}
use Rattle.enc_delta.specs.Rules.{other_module, not_next, other_base, id_taken, heap_fault, late_fault, uneven_table, insert_fault, changed, set_fault, log_fault, child_fault, closed_table, bad_index, bad_offset, broken_body, lost_body, too_many}
use Rattle.enc_delta.specs.Changes.{altered_cell, field_out_of_layout, method_without_slot, twin_member, bad_signature, bad_locals}

-- what a rule says of a delta after a chain: nothing, or the first place at which it is broken
abbrev pub Rule : Type 0
Rule = Chain → Source → Option Place

-- EncMap doesn't rise strictly
unfoldable pub late_token : Rule
late_token c s = late_fault (listed s)

-- a new row isn't the next of its table
unfoldable pub skipped_row : Rule
skipped_row c s = insert_fault c (listed s)

-- the sets of EncMap tokens and of tokens with code 0 differ
unfoldable pub unmatched_token : Rule
unmatched_token c s = set_fault (map number_of (listed s)) (map number_of (changed (log_in s)))

-- an entry of the log isn't in order
unfoldable pub bad_entry : Rule
bad_entry c s = log_fault c (listed s) (log_in s)

-- a new row of a table of children hasn't exactly one Add entry
unfoldable pub unowned_child : Rule
unowned_child c s = child_fault c (listed s) (log_in s)

-- the rules with their numbers, in the order in which they are asked; rule 22 is one of PDBs
abbrev pub rules : List (ℕ × Rule)
rules =
    (1, other_module)
    ∷ (2, not_next)
    ∷ (3, other_base)
    ∷ (4, id_taken)
    ∷ (5, heap_fault)
    ∷ (6, late_token)
    ∷ (7, λ c s. uneven_table s)
    ∷ (8, skipped_row)
    ∷ (9, unmatched_token)
    ∷ (10, bad_entry)
    ∷ (11, unowned_child)
    ∷ (12, λ c s. closed_table s)
    ∷ (13, bad_index)
    ∷ (14, bad_offset)
    ∷ (15, altered_cell)
    ∷ (16, broken_body)
    ∷ (17, lost_body)
    ∷ (18, field_out_of_layout)
    ∷ (19, method_without_slot)
    ∷ (20, twin_member)
    ∷ (21, bad_signature)
    ∷ (23, bad_locals)
    ∷ (24, too_many)
    ∷ []

-- the rules up to a number: those up to 14 speak of the delta's lists, tables, indices and offsets, those behind of
-- what its rows say
abbrev pub upto : ℕ → List (ℕ × Rule) → List (ℕ × Rule)
upto n [] = []
upto n (r ∷ rs) = if nat_le r.0 n then r ∷ upto n rs else []

abbrev pub refused : ℕ → Option Place → Option Refusal
refused n p = option_map (λ (q : Place). record { code = E n; place = q }) p

-- the first of some rules that is broken
abbrev pub first_of : List (ℕ × Rule) → Chain → Source → Option Refusal
first_of [] c s = None
first_of (r ∷ rs) c s = or_else (refused r.0 (r.1 c s)) (first_of rs c s)

-- the first broken rule
unfoldable pub first_meta : Chain → Source → Option Refusal
first_meta c s = first_of rules c s
