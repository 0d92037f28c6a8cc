-- What a delta's files come to after a chain.
use Rattle.std.specs.Prelude.{ℕ, List, map, filter, length, is_some, Option, Some, None, option_map, unwrap_or, Result, Ok, Err}
use Rattle.enc_base.specs.declared.token.Token.{Token}
use Rattle.enc_base.specs.declared.refusal.Code.TheVariants.{E}
use Rattle.enc_base.specs.declared.refusal.Place.TheVariants.{Row}
use Rattle.enc_base.specs.declared.refusal.Refusal.{Refusal}
use Rattle.enc_opcodes.specs.Body.{Code}
use Rattle.enc_plain.specs.Bodies.{code_loaded}
use Rattle.enc_plain.specs.Chain.{Chain}
use Rattle.enc_rows.specs.Source.{Source, raw_in}
use Rattle.enc_schema.specs.Columns as columns
use Rattle.enc_base.specs.Tables as tables
use Rattle.enc_delta.specs.Delta.{listed, of_table}
use Rattle.enc_delta.specs.Rows.{own_row}
use Rattle.enc_delta.specs.Judged.{first_meta}
use Rattle.enc_ppdb.specs.Fault.{pdb_delta_of}
use Rattle.enc_ppdb.specs.Misplaced.{first_misplaced}

-- the body of a method in a delta, where it has one
abbrev pub new_code : Source → Token → Option Code
new_code s method = code_loaded s.loaded (raw_in s (own_row s method) columns.method_def_rva)

-- the methods of a delta's EncMap
abbrev pub own_methods : Source → List Token
own_methods s = of_table tables.method_def (listed s)

-- each with the size of its code, 0 where it has no body there
abbrev pub code_size : Option Code → ℕ
code_size code = unwrap_or (option_map (λ (c : Code). length c.code) code) 0

unfoldable pub code_sizes : Source → List (Token × ℕ)
code_sizes s = map (λ (t : Token). (t, code_size (new_code s t))) (own_methods s)

-- those that have a new body
unfoldable pub new_bodies : Source → List Token
new_bodies s = filter (λ (t : Token). is_some (new_code s t)) (own_methods s)

-- what is accepted of a delta's files: the delta, and its PDB, where it has one
pub record Accepted : Type 0 where
  pub delta : Source
  pub pdb : Option Source

abbrev pub accepted : Source → Option Source → Accepted
accepted d pdb = record { delta = d; pdb = pdb }

abbrev pub unless : {A : Type 0} → Option Refusal → A → Result A Refusal
unless None a = Ok a
unless (Some e) a = Err e

-- rule 22 at a token
abbrev pub refused_row : Token → Refusal
refused_row token = record { code = E 22; place = Row token }

-- a PDB whose rows go with the delta's methods, or the first that doesn't
abbrev pub placed_pdb : Source → Result Source Refusal → Result Accepted Refusal
placed_pdb d (Ok p) = unless (option_map refused_row (first_misplaced p (code_sizes d))) (accepted d (Some p))
placed_pdb d (Err e) = Err e

-- the PDB of a delta that breaks no rule; it may be absent
unfoldable pub with_pdb : Source → Option (List ℕ) → Result Accepted Refusal
with_pdb d None = Ok (accepted d None)
with_pdb d (Some bytes) = placed_pdb d (pdb_delta_of bytes)

-- a delta that breaks no rule after the chain, with its PDB, or the first rule that they break
abbrev pub unless_broken : Option Refusal → Source → Option (List ℕ) → Result Accepted Refusal
unless_broken None d pdb = with_pdb d pdb
unless_broken (Some e) d pdb = Err e

abbrev pub judged : Chain → Result Source Refusal → Option (List ℕ) → Result Accepted Refusal
judged c (Ok d) pdb = unless_broken (first_meta c d) d pdb
judged c (Err e) pdb = Err e
