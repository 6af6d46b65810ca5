-- Why a call answered its status, by the counts of faults of its source and its sink (this project's own).
use Rattle.std.specs.Prelude.{◌≡◌, ◌≢◌, ◌≤◌, ℕ}
use Rattle.hk_base.specs.Outside.{Rose}
use Rattle.hk_lines.specs.declared.status.Status.{Status}
use Rattle.hk_lines.specs.declared.status.Status.TheVariants.{ReadFault, WriteFault}

-- no count falls, and a fault comes only where its count rose, or stands at its last value
pub record HasCause (status : Status) (source source' sink sink' : ℕ) : Type 0 where
  pub source_count : source ≤ source'
  pub sink_count : sink ≤ sink'
  pub read_fault : status ≡ ReadFault → Rose source source'
  pub write_fault : status ≡ WriteFault → Rose sink sink'

-- the same of a call that asks no source
pub record HasSinkCause (status : Status) (before now : ℕ) : Type 0 where
  pub count : before ≤ now
  pub write_fault : status ≡ WriteFault → Rose before now
  pub no_read_fault : status ≢ ReadFault
