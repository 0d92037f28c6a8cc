-- The code that stands for a method is that of the newest delta that lists it.
use Rattle.std.proofs.Common.{◌≡◌, ℕ, List, [], ◌∷◌, Option, Some, None, refl, sym, ap, ◌∙◌}
use Rattle.std.specs.Prelude.{option_map}
use Rattle.enc_base.specs.declared.token.Token.{Token}
use Rattle.enc_opcodes.specs.Body.{Code, code_seen}
use Rattle.enc_opcodes.specs.declared.code.CodeRef.{CodeRef}
use Rattle.enc_rows.specs.Source.{Source}
use Rattle.enc_delta.specs.Delta.{listed, place_in}
use Rattle.enc_agg.specs.declared.added.Added.{Added}
use Rattle.enc_agg.specs.declared.added.Found.{Found}
use Rattle.enc_agg.specs.Seen.{sources, found_or, found_in, found_seen, newest_number, code_in}
use Rattle.enc_agg.proofs.Histories.{some_first, some_second}
use Rattle.enc_agg.specs.Stored.{code_of_row, code_or, code_stored}

-- where none lists it
none_step : (d : Source) (a : Added) (older : List Added) (table : ℕ) (p : Option ℕ) (o : Option (List Added × ℕ)) (before said : Option Code)
    → (o ≡ None → before ≡ said) → found_or (a ∷ older) p o ≡ None → code_or d table p before ≡ said
none_step d a older table None o before said rest is = rest is
none_step d a older table (Some row) o before said rest is = absurd cc

none_lists : (b : Source) (added : List Added) (u : Token) → found_in added u ≡ None → code_stored b (sources added) u ≡ code_of_row b u.table u.row
unfolding found_in code_stored
none_lists b [] u is = refl
none_lists b (a ∷ older) u is =
    none_step a.delta a older u.table (place_in (listed a.delta) u) (found_in older u) (code_stored b (sources older) u) (code_of_row b u.table u.row) (none_lists b older u) is

-- where one does
abbrev newest_code : List Added → ℕ → ℕ → Option Code
newest_code upto table k = code_in upto (newest_number upto (record { table = table; row = k }) 0)

one_step : (a : Added) (older upto : List Added) (table k : ℕ) (p : Option ℕ) (o : Option (List Added × ℕ)) (before : Option Code)
    → (o ≡ Some (upto, k) → before ≡ newest_code upto table k) → found_or (a ∷ older) p o ≡ Some (upto, k) → code_or a.delta table p before ≡ newest_code upto table k
one_step a older upto table k None o before rest is = rest is
one_step a older upto table k (Some row) o before rest is =
    let first : a ∷ older ≡ upto = some_first (a ∷ older, row) (upto, k) is in
    let second : row ≡ k = some_second (a ∷ older, row) (upto, k) is in
    ap (λ (l : List Added). newest_code l table row) first ∙ ap (newest_code upto table) second

one_lists : (b : Source) (added upto : List Added) (u : Token) (k : ℕ) → found_in added u ≡ Some (upto, k) → code_stored b (sources added) u ≡ newest_code upto u.table k
unfolding found_in code_stored
one_lists b [] upto u k is = absurd cc
one_lists b (a ∷ older) upto u k is =
    one_step a older upto u.table k (place_in (listed a.delta) u) (found_in older u) (code_stored b (sources older) u) (one_lists b older upto u k) is

-- what is read of the base is stored
pub stored_in_base : (b : Source) (added : List Added) (u : Token) (r : Option CodeRef) (o : Option Found) → option_map found_seen o ≡ found_in added u → o ≡ None
    → option_map code_seen r ≡ code_of_row b u.table u.row → option_map code_seen r ≡ code_stored b (sources added) u
stored_in_base b added u r o is none code = code ∙ sym (none_lists b added u (sym is ∙ ap (option_map found_seen) none))

-- and so is what is read of a delta
pub stored_in_delta : (b : Source) (added : List Added) (u : Token) (n : ℕ) (r : Option CodeRef) (o : Option Found) (f : Found)
    → option_map found_seen o ≡ found_in added u → o ≡ Some f → newest_number (found_seen f).0 (record { table = u.table; row = f.row }) 0 ≡ n
    → option_map code_seen r ≡ code_in (found_seen f).0 n → option_map code_seen r ≡ code_stored b (sources added) u
stored_in_delta b added u n r o f is some number code =
    code ∙ ap (code_in (found_seen f).0) (sym number) ∙ sym (one_lists b added (found_seen f).0 u f.row (sym is ∙ ap (option_map found_seen) some))
