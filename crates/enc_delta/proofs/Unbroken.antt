-- A delta that breaks no rule breaks none of the list.
use Rattle.std.proofs.Common.{◌≡◌, ℕ, Bool, true, false, List, [], ◌∷◌, Option, Some, None, refl}
use Rattle.std.specs.Prelude.{◌==◌, nat_le, if◌then◌else◌, IfSome}
use Rattle.enc_base.specs.Order.{or_else}
use Rattle.enc_base.specs.declared.refusal.Place.{Place}
use Rattle.enc_base.specs.declared.refusal.Refusal.{Refusal}
use Rattle.enc_rows.specs.Source.{Source}
use Rattle.enc_plain.specs.Chain.{Chain}
use Rattle.enc_delta.specs.Delta.{listed, log_in}
use Rattle.enc_delta.specs.Rules.{other_module, not_next, other_base, id_taken, heap_fault, late_fault, uneven_table, insert_fault, log_fault, child_fault, closed_table, bad_index, bad_offset, broken_body, lost_body, too_many}
use Rattle.enc_delta.specs.Changes.{altered_cell, field_out_of_layout, method_without_slot, twin_member, bad_signature, bad_locals}
use Rattle.enc_delta.specs.Judged.{Rule, late_token, skipped_row, unmatched_token, bad_entry, unowned_child, refused, rules, upto, first_of, first_meta}

neither : (n : ℕ) (a : Option Place) (b : Option Refusal) → or_else (refused n a) b ≡ None → (a ≡ None) × (b ≡ None)
neither n None b h = (refl, h)
neither n (Some p) b h = absurd cc

-- the rule of a number
abbrev numbered : ℕ → List (ℕ × Rule) → Option Rule
numbered n [] = None
numbered n (r ∷ rs) = if r.0 == n then Some r.1 else numbered n rs

abbrev Silent : Chain → Source → Rule → Type 0
Silent c s r = r c s ≡ None

either : (c : Chain) (s : Source) (b : Bool) (r : Rule) (o : Option Rule) → Silent c s r → IfSome o (Silent c s) → IfSome (if b then Some r else o) (Silent c s)
either c s true r o here rest = here
either c s false r o here rest = rest

of_number : (n : ℕ) (rs : List (ℕ × Rule)) (c : Chain) (s : Source) → first_of rs c s ≡ None → IfSome (numbered n rs) (Silent c s)
of_number n [] c s h = tt
of_number n (r ∷ rs) c s h =
    let parts = neither r.0 (r.1 c s) (first_of rs c s) h in
    either c s (r.0 == n) r.1 (numbered n rs) parts.0 (of_number n rs c s parts.1)

-- where no rule is broken, the rule of a number isn't
pub no_rule : (n : ℕ) (c : Chain) (s : Source) → first_meta c s ≡ None → IfSome (numbered n rules) (Silent c s)
unfolding first_meta
no_rule n c s h = of_number n rules c s h

-- the rules up to a number aren't broken where none is
upto_silent : (n : ℕ) (rs : List (ℕ × Rule)) (c : Chain) (s : Source) → first_of rs c s ≡ None → first_of (upto n rs) c s ≡ None
upto_silent n [] c s h = refl
upto_silent n (r ∷ rs) c s h =
    let parts = neither r.0 (r.1 c s) (first_of rs c s) h in
    cut (nat_le r.0 n) parts.0 (upto_silent n rs c s parts.1)
  where
    cut : (b : Bool) → r.1 c s ≡ None → first_of (upto n rs) c s ≡ None → first_of (if b then r ∷ upto n rs else []) c s ≡ None
    cut true here rest = rw (here, rest) refl
    cut false here rest = refl

pub first_rules : (n : ℕ) (c : Chain) (s : Source) → first_meta c s ≡ None → first_of (upto n rules) c s ≡ None
unfolding first_meta
first_rules n c s h = upto_silent n rules c s h

-- the rules on the delta's lists, tables, indices and offsets, each unbroken
pub record Landed (c : Chain) (s : Source) : Type 0 where
  pub mvid : other_module c s ≡ None
  pub generation : not_next c s ≡ None
  pub base : other_base c s ≡ None
  pub id : id_taken c s ≡ None
  pub heaps : heap_fault c s ≡ None
  pub late : late_fault (listed s) ≡ None
  pub tables : uneven_table s ≡ None
  pub inserts : insert_fault c (listed s) ≡ None
  pub sets : unmatched_token c s ≡ None
  pub log : log_fault c (listed s) (log_in s) ≡ None
  pub children : child_fault c (listed s) (log_in s) ≡ None
  pub cell_tables : closed_table s ≡ None
  pub bad_index : bad_index c s ≡ None
  pub bad_offset : bad_offset c s ≡ None

pub landed : (c : Chain) (s : Source) → first_of (upto 14 rules) c s ≡ None → Landed c s
unfolding late_token skipped_row bad_entry unowned_child
landed c s h = record {
  mvid = of_number 1 (upto 14 rules) c s h;
  generation = of_number 2 (upto 14 rules) c s h;
  base = of_number 3 (upto 14 rules) c s h;
  id = of_number 4 (upto 14 rules) c s h;
  heaps = of_number 5 (upto 14 rules) c s h;
  late = of_number 6 (upto 14 rules) c s h;
  tables = of_number 7 (upto 14 rules) c s h;
  inserts = of_number 8 (upto 14 rules) c s h;
  sets = of_number 9 (upto 14 rules) c s h;
  log = of_number 10 (upto 14 rules) c s h;
  children = of_number 11 (upto 14 rules) c s h;
  cell_tables = of_number 12 (upto 14 rules) c s h;
  bad_index = of_number 13 (upto 14 rules) c s h;
  bad_offset = of_number 14 (upto 14 rules) c s h;
}

-- each rule, unbroken
pub record Unbroken (c : Chain) (s : Source) : Type 0 where
  pub early : Landed c s
  pub altered : altered_cell c s ≡ None
  pub broken_body : broken_body c s ≡ None
  pub lost_body : lost_body c s ≡ None
  pub layout : field_out_of_layout c s ≡ None
  pub slots : method_without_slot c s ≡ None
  pub twins : twin_member c s ≡ None
  pub signatures : bad_signature c s ≡ None
  pub locals : bad_locals c s ≡ None
  pub limit : too_many c s ≡ None

-- a delta that breaks no rule breaks none of them
pub unbroken : (c : Chain) (s : Source) → first_meta c s ≡ None → Unbroken c s
unbroken c s h = record {
  early = landed c s (first_rules 14 c s h);
  altered = no_rule 15 c s h;
  broken_body = no_rule 16 c s h;
  lost_body = no_rule 17 c s h;
  layout = no_rule 18 c s h;
  slots = no_rule 19 c s h;
  twins = no_rule 20 c s h;
  signatures = no_rule 21 c s h;
  locals = no_rule 23 c s h;
  limit = no_rule 24 c s h;
}

-- and its heaps keep the limits
pub heaps_unbroken : (c : Chain) (s : Source) → first_meta c s ≡ None → heap_fault c s ≡ None
heaps_unbroken c s h = no_rule 5 c s h
