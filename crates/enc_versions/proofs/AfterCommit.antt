-- Newest bodies after a commit stand for the next module.
use Rattle.std.proofs.Common.{◌≡◌, ℕ, zero, suc, ◌≤◌, Bool, true, false, List, Option, Some, None, refl, sym, ap, ◌∙◌, arith}
use Rattle.std.specs.Prelude.{length, IsTrue, ◌&&◌, nat_lt, nat_le, ◌==◌, if◌then◌else◌}
use Rattle.std.proofs.lemmas.Bool.Decides.{nat_tests}
use Rattle.std.proofs.Math.ListN.{get_or-eq_default}
use Rattle.enc_base.specs.Order.{or_else}
use Rattle.enc_base.specs.declared.token.Token.{Token}
use Rattle.enc_opcodes.specs.Body.{Body, body_of, KeepsTexts}
use Rattle.enc_opcodes.proofs.Bodies.{body_told_alike}
use Rattle.enc_plain.specs.Cell.{body}
use Rattle.enc_plain.specs.Module.{Module, rows_in, has_row, cell_of}
use Rattle.enc_plain.proofs.MoreTexts.{texts_more}
use Rattle.enc_base.specs.Tables.{method_def}
use Rattle.enc_versions.specs.Commit.{NewVersion, brought}
use Rattle.enc_versions.specs.Laws.{Meant, AreNewIn, CommitStands}
use Rattle.enc_versions.specs.StandFor.{IsVersionOf, AreVersionsOf, lines_known}
use Rattle.enc_versions.specs.Version.{Version, version_at, newest_of}

-- where there is no row there is no newest body
past : (count length_of row : ℕ) → length_of ≤ count → (nat_lt 0 (suc row) && nat_le (suc row) count) ≡ false → length_of ≤ row
past count length_of row low none = grind (arith, nat_tests, low, none)

none_at : (methods : List (Option Version)) (count row : ℕ) → length methods ≤ count → (nat_lt 0 row && nat_le row count) ≡ false → version_at methods row ≡ None
none_at methods count zero low none = refl
none_at methods count (suc i) low none = get_or-eq_default methods None (past count (length methods) i low none)

none_of : (methods : List (Option Version)) (m : Module) (method : Token) → length methods ≤ length (rows_in m method_def) → method.table ≡ method_def → has_row m method ≡ false → newest_of methods method ≡ None
unfolding newest_of has_row
none_of methods m method low is none =
    let here : (nat_lt 0 method.row && nat_le method.row (length (rows_in m method_def))) ≡ false = rw is at none in
    by_test (method.table == method_def) (none_at methods (length (rows_in m method_def)) method.row low here)
  where
    by_test : (t : Bool) → version_at methods method.row ≡ None → (if t then version_at methods method.row else None) ≡ None
    by_test true e = e
    by_test false e = refl

-- a body that is kept
stays : (m n : Meant) (method : Token) (o : Option Version) → cell_of n.plain method 0 ≡ cell_of m.plain method 0
    → ((b : Body) → cell_of m.plain method 0 ≡ Some (body (Some b)) → n.pdb method ≡ m.pdb method) → KeepsTexts m.users n.users
    → IsVersionOf m.users m.plain m.pdb method o → IsVersionOf n.users n.plain n.pdb method o
stays m n method None cell pdb keeps is = record { means = cell ∙ is.means; texts = _; lines = _ }
stays m n method (Some v) cell pdb keeps is = record {
  means = cell ∙ is.means ∙ ap (λ b. Some (body (Some b))) (body_told_alike m.users n.users v.code is.texts keeps);
  texts = texts_more m.users n.users v.code.code is.texts keeps;
  lines = is.lines ∙ sym (ap lines_known (pdb (body_of m.users v.code) is.means));
}

-- by what is brought, and by whether the method was there
unbrought : (m n : Meant) (new : List NewVersion) (before : List (Option Version)) (method : Token) (there : Bool) → AreVersionsOf m.users m.plain m.pdb before → AreNewIn new m n → KeepsTexts m.users n.users → method.table ≡ method_def → IsTrue (has_row n.plain method) → brought new method ≡ None → has_row m.plain method ≡ there → IsVersionOf n.users n.plain n.pdb method (newest_of before method)
unbrought m n new before method true stand lead same is row none there = stays m n method (newest_of before method) (lead.kept method (is, there) none) (λ b has. lead.known method b (is, there) has none) same (stand.each method is there)
unbrought m n new before method false stand lead same is row none there =
    rw (none_of before m.plain method stand.within is there) (record { means = lead.added method (is, row) there none; texts = _; lines = _ })

by_brought : (m n : Meant) (new : List NewVersion) (before : List (Option Version)) (method : Token) (o : Option Version) → AreVersionsOf m.users m.plain m.pdb before → AreNewIn new m n → KeepsTexts m.users n.users → method.table ≡ method_def → IsTrue (has_row n.plain method) → brought new method ≡ o → IsVersionOf n.users n.plain n.pdb method (or_else o (newest_of before method))
by_brought m n new before method (Some v) stand lead same is row e = lead.changed method (is, row) v e
by_brought m n new before method None stand lead same is row e = unbrought m n new before method (has_row m.plain method) stand lead same is row e refl

pub commit_stands : CommitStands
commit_stands m n new before after stand lead same done = record {
  within = let count = done.count in omega (arith, count, stand.within, lead.rows, lead.within);
  each = λ method is row. rw (done.newest method) (by_brought m n new before method (brought new method) stand lead same is row refl);
}
