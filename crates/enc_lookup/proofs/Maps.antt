-- The members of a type by way of a map, row by row.
use Rattle.std.proofs.Common.{◌≡◌, ℕ, suc, ◌+◌, List, [], ◌++◌, refl, arith}
use Rattle.enc_base.specs.declared.token.Token.{Token}
use Rattle.enc_plain.specs.Module.{Module}
use Rattle.enc_lookup.specs.Members.{named_behind, named_upto}

pub none_yet : (m : Module) (table : ℕ) (name : List ℕ) (type : Token) → named_upto m table name type 0 ≡ []
unfolding named_upto
none_yet m table name type = refl

pub one_more : (m : Module) (table : ℕ) (name : List ℕ) (type : Token) (n : ℕ)
    → named_upto m table name type (n + 1) ≡ named_upto m table name type n ++ named_behind m table name type n
unfolding named_upto
one_more m table name type n =
    let e : n + 1 ≡ suc n = omega arith in
    rw e refl
