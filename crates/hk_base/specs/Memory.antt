-- What a contract sees of the sources and sinks in memory.
use Rattle.std.specs.Prelude.{ℕ, List}

-- a source that never fails: the bytes that are left, and the most that one call gives
pub record HonestReads : Type 0 where
  pub left : List ℕ
  pub piece : ℕ

-- a source that fails at some calls: besides, the numbers of these calls, and how many calls and faults there were
pub record MemoryReads : Type 0 where
  pub left : List ℕ
  pub piece : ℕ
  pub failing : List ℕ
  pub calls : ℕ
  pub faults : ℕ

-- a sink that fails at some calls
pub record MemoryWrites : Type 0 where
  pub written : List ℕ
  pub failing : List ℕ
  pub calls : ℕ
  pub faults : ℕ
