-- What is known of signatures.
use Rattle.std.specs.Prelude.{◌≡◌, ℕ, zero, suc, Bool, true, false, ◌&&◌, ◌||◌, ◌==◌, List, Some, if◌then◌else◌}
use Rattle.enc_sigs.specs.declared.kind.SigKind.{SigKind}
use Rattle.enc_sigs.specs.Tree.{Forest, none, more, SigTree, forest_of}
use Rattle.enc_sigs.specs.Grammar.{NamesTables, is_coded, is_counted, sig_in}
use Rattle.enc_sigs.specs.Spelling.{sig_bytes}

-- what is written of a signature that was read is read as the same tree
abbrev pub WrittenReadsBack : Type 0
WrittenReadsBack = (good : ℕ → Bool) (kind : SigKind) (bytes : List ℕ) (s : SigTree) → NamesTables good
    → sig_in good kind bytes ≡ Some s
    → sig_in good kind (sig_bytes s) ≡ Some s

-- what is read with one test of a token is read the same with a wider one
abbrev pub WiderTestsRead : Type 0
WiderTestsRead = (good test : ℕ → Bool) (kind : SigKind) (bytes : List ℕ) (s : SigTree)
    → ((n : ℕ) → good n ≡ true → test n ≡ true)
    → sig_in good kind bytes ≡ Some s → sig_in test kind bytes ≡ Some s

-- the two tests of a token let through only numbers that name a table
abbrev pub TestsNameTables : Type 0
TestsNameTables = NamesTables is_coded × ((count : ℕ → ℕ) → NamesTables (is_counted count))

-- one level of types less
abbrev pub fits_below : ℕ → (ℕ → Bool) → Bool
fits_below zero fit = false
fits_below (suc depth) fit = fit depth

-- types stand in one another at most so deep; a sentinel and the numbers of an array or of a pointer are no level
unfoldable pub fits_depth : Forest → ℕ → Bool
fits_depth none depth = true
fits_depth (more e t n k r) depth =
    (if e == 0 || e == 0x41 then fits_depth k depth else fits_below depth (fits_depth k)) && fits_depth r depth

-- no type that is read stands deeper than 100
abbrev pub DepthIsBounded : Type 0
DepthIsBounded = (good : ℕ → Bool) (kind : SigKind) (bytes : List ℕ) (s : SigTree) → sig_in good kind bytes ≡ Some s
    → fits_depth (forest_of s.parts) 100 ≡ true
