use Rattle.std.proofs.Common.{◌≡◌, ◌∙◌, ℕ, List, [], ◌++◌, ◌+◌, take, None, Some, IfSome, Option}
use Rattle.std.specs.Option.{option_map}
use Rattle.enc_outside.specs.declared.files.TheConstants.{LIMIT}
use Rattle.enc_outside.proofs.files.read_front.Goals as goal

-- what was read after nothing of a reader's first n bytes is those bytes
front_known : (n : ℕ) (known : Option (List ℕ)) (v w : List ℕ) → w ≡ []
    → IfSome (option_map (take n) known) (λ xs. v ≡ w ++ xs) → IfSome known (λ xs. v ≡ take n xs)
front_known n None v w e h = h
front_known n (Some xs) v w e h = rw e at h

pub returns : goal.returns
returns g c =
    let read = c.in_ok-read_to_end.ensures.bytes in
    front_known (LIMIT + 1) _ _ _ (c.in_ok-reserve.ensures.items ∙ c.new-bytes.ensures.items) (rw (c.take.ensures.inner, c.take.ensures.limit) at read)
