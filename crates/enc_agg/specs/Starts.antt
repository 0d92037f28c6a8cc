-- For the contracts of private functions: what the generations have before them, and a search by it.
use Rattle.std.specs.Prelude.{ℕ, ◌<◌, ◌≤◌, List, [], ◌∷◌, length, map, slice_index}
use Rattle.enc_meta.specs.HeapKinds.{length_in}
use Rattle.enc_meta.specs.declared.heaps.HeapLengths.{HeapLengths}
use Rattle.enc_agg.specs.declared.added.Added.{Added}
use Rattle.enc_agg.specs.declared.heaps.Measure.{Measure}
use Rattle.enc_agg.specs.declared.heaps.Measure.TheVariants.{Bytes, Guids}

-- the bytes of a heap, or the numbers of `#GUID`
abbrev pub measure_in : Measure → HeapLengths → ℕ
measure_in (Bytes heap) l = length_in heap l
measure_in Guids l = l.guids

-- what deltas have before them
abbrev pub starts : Measure → List Added → List ℕ
starts measure added = map (λ (a : Added). measure_in measure a.before) added

-- numbers none of which is less than one before it
abbrev pub NeverFall : List ℕ → Type 0
NeverFall ns = (i j : ℕ) → i ≤ j → j < length ns → slice_index ns i ≤ slice_index ns j

-- the first g of them are n at most, the others more
pub record IsParted (ns : List ℕ) (n g : ℕ) : Type 0 where
  pub within : g ≤ length ns
  pub low : (i : ℕ) → i < g → slice_index ns i ≤ n
  pub high : (i : ℕ) → g ≤ i → i < length ns → n < slice_index ns i

-- the newest delta has n at most before it
abbrev pub HaveBegun : Measure → ℕ → List Added → Type 0
HaveBegun measure n [] = Unit {0}
HaveBegun measure n (a ∷ older) = measure_in measure a.before ≤ n
