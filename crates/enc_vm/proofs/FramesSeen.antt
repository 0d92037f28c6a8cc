-- The frames of a task, seen from the outermost.
use Rattle.std.proofs.Common.{◌≡◌, ℕ, zero, suc, List, [], ◌∷◌, ◌++◌, length, reverse, slice_get, Some, None, refl, sym, ap, ◌∙◌}
use Rattle.std.proofs.lemmas.List.{reverse-append, reverse-reverse}
use Rattle.std.proofs.lemmas.Option.{none-some}

whole : {A : Type 0} (bs b : List A) (top : A) → reverse bs ≡ b → reverse (top ∷ b) ≡ bs ++ top ∷ []
whole bs b top is =
    reverse-append (top ∷ []) b
    ∙ ap (λ (l : List _). reverse l ++ top ∷ []) (sym is)
    ∙ ap (λ (l : List _). l ++ top ∷ []) (reverse-reverse bs)

at_front : {A : Type 0} (bs : List A) (top x : A) (i : ℕ) → slice_get bs i ≡ Some x → slice_get (bs ++ top ∷ []) i ≡ Some x
at_front [] top x i h = absurd (none-some x h)
at_front (b ∷ bs) top x zero h = h
at_front (b ∷ bs) top x (suc i) h = at_front bs top x i h

at_end : {A : Type 0} (bs : List A) (top : A) → slice_get (bs ++ top ∷ []) (length bs) ≡ Some top
at_end [] top = refl
at_end (b ∷ bs) top = at_end bs top

past_end : {A : Type 0} (bs : List A) (top : A) (i : ℕ) → slice_get bs i ≡ None → ¬ (i ≡ length bs) → slice_get (bs ++ top ∷ []) i ≡ None
past_end [] top zero h n = absurd (n refl)
past_end [] top (suc i) h n = refl
past_end (b ∷ bs) top zero h n = absurd (none-some b (sym h))
past_end (b ∷ bs) top (suc i) h n = past_end bs top i h (λ e. n (ap suc e))

pub below_at : {A : Type 0} (bs b : List A) (top x : A) (i : ℕ) → reverse bs ≡ b → slice_get bs i ≡ Some x → slice_get (reverse (top ∷ b)) i ≡ Some x
below_at bs b top x i is h = ap (λ (l : List _). slice_get l i) (whole bs b top is) ∙ at_front bs top x i h

pub top_at : {A : Type 0} (bs b : List A) (top : A) (i : ℕ) → reverse bs ≡ b → i ≡ length bs → slice_get (reverse (top ∷ b)) i ≡ Some top
top_at bs b top i is e =
    ap (λ (l : List _). slice_get l i) (whole bs b top is) ∙ ap (λ (k : ℕ). slice_get (bs ++ top ∷ []) k) e ∙ at_end bs top

pub none_at_end : {A : Type 0} (bs b : List A) (top : A) (i : ℕ) → reverse bs ≡ b → slice_get bs i ≡ None → ¬ (i ≡ length bs) → slice_get (reverse (top ∷ b)) i ≡ None
none_at_end bs b top i is h n = ap (λ (l : List _). slice_get l i) (whole bs b top is) ∙ past_end bs top i h n
