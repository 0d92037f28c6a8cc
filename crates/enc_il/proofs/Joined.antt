-- Bytes that were put behind others one after the other stand there as a whole.
use Rattle.std.proofs.Common.{◌≡◌, ℕ, List, ◌++◌, append_assoc, ◌∙◌}

pub joined_clause : (o a b c d e f o1 o2 o3 o4 : List ℕ) → o1 ≡ o ++ a → o2 ≡ o1 ++ b ++ c → o3 ≡ o2 ++ d ++ e → o4 ≡ o3 ++ f → o4 ≡ o ++ (a ++ b ++ c ++ d ++ e ++ f)
joined_clause o a b c d e f o1 o2 o3 o4 h1 h2 h3 h4 = h4 ∙ rw (h3, h2, h1) (simp append_assoc)

pub joined_fat : (o a b c d e o1 o2 o3 o4 o5 : List ℕ) → o1 ≡ o ++ a → o2 ≡ o1 ++ b → o3 ≡ o2 ++ c → o4 ≡ o3 ++ d → o5 ≡ o4 ++ e → o5 ≡ o ++ (a ++ b ++ c ++ d ++ e)
joined_fat o a b c d e o1 o2 o3 o4 o5 h1 h2 h3 h4 h5 = h5 ∙ rw (h4, h3, h2, h1) (simp append_assoc)
