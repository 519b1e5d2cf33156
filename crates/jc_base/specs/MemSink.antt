use Rattle.std.specs.Prelude.{ℕ, List, Some}
use Rattle.jc_base.specs.declared.mem_sink.MemSink.{MemSink}
use Rattle.jc_base.specs.Schedule.{Plan}
use Rattle.jc_base.specs.States.{SinkState}

-- the calls made on a sink, and those that fail
abbrev pub plan_of : MemSink → Plan
plan_of s = s.schedule

-- the bytes that a sink has taken
abbrev pub bytes_of : MemSink → List ℕ
bytes_of s = s.bytes.items

-- how many of its calls failed
abbrev pub faults_of : MemSink → ℕ
faults_of s = s.faults

-- both
abbrev pub state_of : MemSink → SinkState
state_of s = record { taken = Some (bytes_of s); faults = faults_of s }
