-- For the contracts of private functions: the newest generation of each method's body by its row.
use Rattle.std.specs.Prelude.{◌≡◌, ◌≤◌, ◌+◌, ◌-◌, ℕ, Bool, true, false, List, [], ◌∷◌, ◌++◌, length, map, max, drop, replicate, reverse, get_or, slice_set, Vec, ◌==◌, if◌then◌else◌}
use Rattle.std.specs.declared.alloc.Global.{Global}
use Rattle.enc_base.specs.declared.token.Token.{Token}
use Rattle.enc_frames.specs.Machine.{Frame}
use Rattle.enc_rows.specs.Source.{Source}
use Rattle.enc_base.specs.Tables.{method_def}
use Rattle.enc_vm.specs.declared.ends.StepEnd.{StepEnd}
use Rattle.enc_vm.specs.declared.ends.StepEnd.TheVariants as end
use Rattle.enc_watch.specs.declared.event.Event.{Event}
use Rattle.enc_session.specs.Recording.{body_generation}

-- that of a method, 0 where it has none; a token of another table has none
abbrev pub generation_at : List ℕ → Token → ℕ
generation_at rows method = if method.table == method_def then get_or rows method.row 0 else 0

-- they stand for deltas
abbrev pub AreGenerationsOf : List Source → List ℕ → Type 0
AreGenerationsOf deltas rows = (method : Token) → generation_at rows method ≡ body_generation deltas method

-- the greatest row of methods, 0 where there are none
unfoldable pub greatest_row : List Token → ℕ
greatest_row [] = 0
greatest_row (t ∷ methods) = max t.row (greatest_row methods)

-- room for the row of each, which has none yet
unfoldable pub with_rows_to : ℕ → List ℕ → List ℕ
with_rows_to row rows = rows ++ replicate (row + 1 - length rows) 0

-- methods got bodies in a generation
unfoldable pub brought_in : ℕ → List Token → List ℕ → List ℕ
brought_in generation [] rows = rows
brought_in generation (t ∷ methods) rows = brought_in generation methods (slice_set rows t.row generation)

-- events have room to their limit, and don't pass it
pub record HaveRoomTo (limit : ℕ) (events : Vec Event Global) : Type 0 where
  pub room : limit ≤ events.cap
  pub few : length events.items ≤ limit

-- a step was made
abbrev pub is_made : StepEnd → Bool
is_made end.Absent = false
is_made end.Idle = false
is_made _ = true

-- the generations of the frames behind so many, from the outermost
abbrev pub generations_behind : {C : Type 0} → (Token → ℕ) → List (Frame C) → ℕ → List ℕ
generations_behind generation frames n = map (λ (f : Frame _). generation f.method) (drop n (reverse frames))
