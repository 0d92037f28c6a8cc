-- Walks through the types around a type: one walk behind another, and how far they count.
use Rattle.std.proofs.Common.{◌≡◌, ℕ, zero, suc, ◌+◌, ◌≤◌, Option, Some, None, refl, arith}
use Rattle.std.specs.Prelude.{min, option_and_then}
use Rattle.enc_plain.specs.Module.{Module}
use Rattle.enc_row_order.specs.Depth.{enclosing, depth_around, depth_by}
use Rattle.enc_row_order.specs.Walks.{type_walked}

reached_around : (m : Module) (a b : ℕ) (o : Option ℕ) → ((type : ℕ) → type_walked m (a + b) type ≡ option_and_then (type_walked m b) (type_walked m a type))
    → option_and_then (type_walked m (a + b)) o ≡ option_and_then (type_walked m b) (option_and_then (type_walked m a) o)
reached_around m a b None before = refl
reached_around m a b (Some type) before = before type

-- a walk goes on where the one before it has come to
pub reached_more : (m : Module) (a b type : ℕ) → type_walked m (a + b) type ≡ option_and_then (type_walked m b) (type_walked m a type)
unfolding type_walked
reached_more m zero b type = let e : 0 + b ≡ b = omega arith in rw e refl
reached_more m (suc a) b type =
    let e : suc a + b ≡ suc (a + b) = omega arith in
    rw e (reached_around m a b (enclosing m type) (reached_more m a b))

-- what a walk from there counts
abbrev pub depth_from : Module → ℕ → Option ℕ → ℕ
depth_from m n None = 0
depth_from m n (Some type) = depth_by m n type

depth_further : (m : Module) (a b : ℕ) (o : Option ℕ) → ((type : ℕ) → depth_by m (a + b) type ≡ depth_by m a type + depth_from m b (type_walked m a type))
    → depth_around o (depth_by m (a + b)) ≡ depth_around o (depth_by m a) + depth_from m b (option_and_then (type_walked m a) o)
depth_further m a b None before = refl
depth_further m a b (Some type) before = omega (arith, before type)

-- and it counts what they count together
pub depth_more : (m : Module) (a b type : ℕ) → depth_by m (a + b) type ≡ depth_by m a type + depth_from m b (type_walked m a type)
unfolding depth_by type_walked
depth_more m zero b type = let e : 0 + b ≡ b = omega arith in rw e (omega arith)
depth_more m (suc a) b type =
    let e : suc a + b ≡ suc (a + b) = omega arith in
    rw e (depth_further m a b (enclosing m type) (depth_more m a b))

around_few : (m : Module) (n : ℕ) (o : Option ℕ) → ((type : ℕ) → depth_by m n type ≤ n) → depth_around o (depth_by m n) ≤ suc n
around_few m n None before = omega arith
around_few m n (Some type) before = omega (arith, before type)

-- no more than the steps
pub depth_few : (m : Module) (n type : ℕ) → depth_by m n type ≤ n
unfolding depth_by
depth_few m zero type = omega arith
depth_few m (suc n) type = around_few m n (enclosing m type) (depth_few m n)

around_bound : (m : Module) (n k : ℕ) (o : Option ℕ) → ((type : ℕ) → depth_by m n type ≡ min (depth_by m (n + k) type) n)
    → depth_around o (depth_by m n) ≡ min (depth_around o (depth_by m (n + k))) (suc n)
around_bound m n k None before = omega arith
around_bound m n k (Some type) before = omega (arith, before type)

-- a longer walk counts as much, up to the bound
pub depth_bound : (m : Module) (n k type : ℕ) → depth_by m n type ≡ min (depth_by m (n + k) type) n
unfolding depth_by
depth_bound m zero k type = omega arith
depth_bound m (suc n) k type =
    let e : suc n + k ≡ suc (n + k) = omega arith in
    rw e (around_bound m n k (enclosing m type) (depth_bound m n k))
