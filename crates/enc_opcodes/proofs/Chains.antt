-- Reading one thing behind the other: what a longer reading adds, and that the chain it gives is the only one.
use Rattle.std.proofs.Common.{◌≡◌, ℕ, zero, suc, ◌-◌, ◌<◌, ◌≤◌, List, [], ◌∷◌, Option, Some, None, refl, sym, ap, ◌∙◌, arith}
use Rattle.enc_opcodes.specs.Instruction.{chain, chain_on, chain_end, end_on, IsChain}

-- what stands at a place ends behind it, and within the size
abbrev pub GoesOn : {A : Type 0} → (ℕ → Option (A × ℕ)) → ℕ → Type 0
GoesOn {A} step size = (at : ℕ) (x : A) (n : ℕ) → step at ≡ Some (x, n) → (at < n) × (n ≤ size)

-- where nothing stands, nothing is read
none_on : {A : Type 0} (at : ℕ) (o : Option (A × ℕ)) (next : ℕ → List (ℕ × A)) → o ≡ None → chain_on at o next ≡ []
none_on at o next e = rw e refl

pub chain_none : {A : Type 0} (step : ℕ → Option (A × ℕ)) (k at : ℕ) → step at ≡ None → chain step k at ≡ []
unfolding chain
chain_none step zero at none = refl
chain_none step (suc k) at none = none_on at (step at) (chain step k) none

none_end : {A : Type 0} (at : ℕ) (o : Option (A × ℕ)) (next : ℕ → ℕ) → o ≡ None → end_on at o next ≡ at
none_end at o next e = rw e refl

pub end_none : {A : Type 0} (step : ℕ → Option (A × ℕ)) (k at : ℕ) → step at ≡ None → chain_end step k at ≡ at
unfolding chain_end
end_none step zero at none = refl
end_none step (suc k) at none = none_end at (step at) (chain_end step k) none

-- behind the size nothing stands
past_by : {A : Type 0} (step : ℕ → Option (A × ℕ)) (size at : ℕ) (o : Option (A × ℕ)) → GoesOn step size → size ≤ at → step at ≡ o → o ≡ None
past_by step size at None goes past is = refl
past_by step size at (Some x) goes past is =
    let h : (at < x.1) × (x.1 ≤ size) = goes at x.0 x.1 is in
    absurd (omega (arith, h.0, h.1, past))

pub none_past : {A : Type 0} (step : ℕ → Option (A × ℕ)) (size at : ℕ) → GoesOn step size → size ≤ at → step at ≡ None
none_past step size at goes past = past_by step size at (step at) goes past refl

-- two readings that are both long enough are the same
same_on : {A : Type 0} (step : ℕ → Option (A × ℕ)) (size at n m : ℕ) (f g : ℕ → List (ℕ × A)) (o : Option (A × ℕ)) → GoesOn step size → size - at ≤ suc n → size - at ≤ suc m → ((e : ℕ) → size - e ≤ n → size - e ≤ m → f e ≡ g e) → step at ≡ o → chain_on at o f ≡ chain_on at o g
same_on step size at n m f g None goes l r same is = refl
same_on step size at n m f g (Some x) goes l r same is =
    let h : (at < x.1) × (x.1 ≤ size) = goes at x.0 x.1 is in
    ap (λ xs. (at, x.0) ∷ xs) (same x.1 (omega (arith, h.0, h.1, l)) (omega (arith, h.0, h.1, r)))

pub enough : {A : Type 0} (step : ℕ → Option (A × ℕ)) (size n m at : ℕ) → GoesOn step size → size - at ≤ n → size - at ≤ m → chain step n at ≡ chain step m at
unfolding chain
enough step size zero m at goes l r = sym (chain_none step m at (none_past step size at goes (omega (arith, l))))
enough step size (suc n) zero at goes l r = chain_none step (suc n) at (none_past step size at goes (omega (arith, r)))
enough step size (suc n) (suc m) at goes l r = same_on step size at n m (chain step n) (chain step m) (step at) goes l r (λ e. enough step size n m e goes) refl

same_end : {A : Type 0} (step : ℕ → Option (A × ℕ)) (size at n m : ℕ) (f g : ℕ → ℕ) (o : Option (A × ℕ)) → GoesOn step size → size - at ≤ suc n → size - at ≤ suc m → ((e : ℕ) → size - e ≤ n → size - e ≤ m → f e ≡ g e) → step at ≡ o → end_on at o f ≡ end_on at o g
same_end step size at n m f g None goes l r same is = refl
same_end step size at n m f g (Some x) goes l r same is =
    let h : (at < x.1) × (x.1 ≤ size) = goes at x.0 x.1 is in
    same x.1 (omega (arith, h.0, h.1, l)) (omega (arith, h.0, h.1, r))

pub enough_end : {A : Type 0} (step : ℕ → Option (A × ℕ)) (size n m at : ℕ) → GoesOn step size → size - at ≤ n → size - at ≤ m → chain_end step n at ≡ chain_end step m at
unfolding chain_end
enough_end step size zero m at goes l r = sym (end_none step m at (none_past step size at goes (omega (arith, l))))
enough_end step size (suc n) zero at goes l r = end_none step (suc n) at (none_past step size at goes (omega (arith, r)))
enough_end step size (suc n) (suc m) at goes l r = same_end step size at n m (chain_end step n) (chain_end step m) (step at) goes l r (λ e. enough_end step size n m e goes) refl

-- one more is read where it stands, and then what stands behind it
suc_chain : {A : Type 0} (step : ℕ → Option (A × ℕ)) (k at n : ℕ) (x : A) → step at ≡ Some (x, n) → chain step (suc k) at ≡ (at, x) ∷ chain step k n
unfolding chain
suc_chain step k at n x is = rw is refl

suc_end : {A : Type 0} (step : ℕ → Option (A × ℕ)) (k at n : ℕ) (x : A) → step at ≡ Some (x, n) → chain_end step (suc k) at ≡ chain_end step k n
unfolding chain_end
suc_end step k at n x is = rw is refl

pub chain_more : {A : Type 0} (step : ℕ → Option (A × ℕ)) (size at n : ℕ) (x : A) → GoesOn step size → step at ≡ Some (x, n) → chain step (size - at) at ≡ (at, x) ∷ chain step (size - n) n
chain_more step size at n x goes is =
    let h : (at < n) × (n ≤ size) = goes at x n is in
    let e : size - at ≡ suc (size - at - 1) = omega (arith, h.0, h.1) in
    ap (λ k. chain step k at) e ∙ suc_chain step (size - at - 1) at n x is ∙ ap (λ xs. (at, x) ∷ xs) (enough step size (size - at - 1) (size - n) n goes (omega (arith, h.0, h.1)) (omega arith))

pub end_more : {A : Type 0} (step : ℕ → Option (A × ℕ)) (size at n : ℕ) (x : A) → GoesOn step size → step at ≡ Some (x, n) → chain_end step (size - at) at ≡ chain_end step (size - n) n
end_more step size at n x goes is =
    let h : (at < n) × (n ≤ size) = goes at x n is in
    let e : size - at ≡ suc (size - at - 1) = omega (arith, h.0, h.1) in
    ap (λ k. chain_end step k at) e ∙ suc_end step (size - at - 1) at n x is ∙ enough_end step size (size - at - 1) (size - n) n goes (omega (arith, h.0, h.1)) (omega arith)

-- a reading that ends at the size is a chain
chain_by : {A : Type 0} (step : ℕ → Option (A × ℕ)) (size at : ℕ) (o : Option (A × ℕ)) (f : ℕ → List (ℕ × A)) (g : ℕ → ℕ) → ((e : ℕ) → g e ≡ size → IsChain step size e (f e)) → step at ≡ o → end_on at o g ≡ size → IsChain step size at (chain_on at o f)
unfolding IsChain
chain_by step size at None f g next is ends = ends
chain_by step size at (Some x) f g next is ends = (x.1, refl, is, next x.1 ends)

pub read_is_chain : {A : Type 0} (step : ℕ → Option (A × ℕ)) (size k at : ℕ) → chain_end step k at ≡ size → IsChain step size at (chain step k at)
unfolding IsChain chain chain_end
read_is_chain step size zero at ends = ends
read_is_chain step size (suc k) at ends = chain_by step size at (step at) (chain step k) (chain_end step k) (read_is_chain step size k) refl ends

-- a chain is what is read, and the reading ends at the size
first_is : {A : Type 0} (at n : ℕ) (x : ℕ × A) (xs : List (ℕ × A)) → x.0 ≡ at → (at, x.1) ∷ xs ≡ x ∷ xs
first_is at n x xs e = rw (← e) refl

pub chain_is_read : {A : Type 0} (step : ℕ → Option (A × ℕ)) (size at : ℕ) (xs : List (ℕ × A)) → GoesOn step size → IsChain step size at xs → chain step (size - at) at ≡ xs
unfolding IsChain
chain_is_read step size at [] goes is = chain_none step (size - at) at (none_past step size at goes (omega (arith, is)))
chain_is_read step size at (x ∷ xs) goes is =
    chain_more step size at is.0 x.1 goes is.2
    ∙ ap (λ ys. (at, x.1) ∷ ys) (chain_is_read step size is.0 xs goes is.3)
    ∙ first_is at is.0 x xs is.1

pub chain_ends : {A : Type 0} (step : ℕ → Option (A × ℕ)) (size at : ℕ) (xs : List (ℕ × A)) → GoesOn step size → IsChain step size at xs → chain_end step (size - at) at ≡ size
unfolding IsChain
chain_ends step size at [] goes is = end_none step (size - at) at (none_past step size at goes (omega (arith, is))) ∙ is
chain_ends step size at (x ∷ xs) goes is = end_more step size at is.0 x.1 goes is.2 ∙ chain_ends step size is.0 xs goes is.3
