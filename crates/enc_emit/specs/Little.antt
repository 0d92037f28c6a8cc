-- For the contracts of private functions: what the tests build: few rows of small numbers, and texts alone.
use Rattle.std.specs.Prelude.{◌≡◌, ℕ, ◌≤◌, List, [], IsTrue, nat_lt}
use Rattle.std.specs.List.{list_all}
use Rattle.enc_meta.specs.declared.heaps.HeapLengths.{HeapLengths}
use Rattle.enc_rows.specs.Written.{rows_at, count_at}
use Rattle.enc_emit.specs.Written.{Parts}

-- heaps that don't begin far behind others
pub record AreNear (starts : HeapLengths) : Type 0 where
  pub strings : starts.strings ≤ 1000
  pub guids : starts.guids ≤ 1000

pub record IsLittle (p : Parts) : Type 0 where
  pub small : (k : ℕ) → IsTrue (list_all (λ (row : List ℕ). list_all (λ (n : ℕ). nat_lt n 0x100) row)
      (rows_at p.rows k))
  pub few : (k : ℕ) → count_at p.rows k ≤ 8
  pub near : AreNear p.heaps.starts
  pub users : p.heaps.users ≡ []
  pub blobs : p.heaps.blobs ≡ []
  pub guids : p.heaps.guids ≡ []
