-- Document 02, No. 2, 'Read component records': what each cause means that the bytes at a place give no component.
-- A meaning is that of a refusal, vector/specs/Refusals.antt, with no place. Assumes nothing.
use Rattle.std.specs.Prelude.{Result, Ok, Err}
use Rattle.vector.specs.Refusals.{Outcome, given, refused, Meant, bare}
use Rattle.component.specs.declared.fault.Fault.{Fault}
use Rattle.component.specs.declared.fault.Fault.TheVariants.{RecordEnds, ScaleFlags, PointNumbers}

-- what each cause means: 20 the bytes end inside the record, 21 more than one scale flag, 22 the offsets are point numbers
abbrev pub means : Fault → Meant
means RecordEnds = bare 20
means ScaleFlags = bare 21
means PointNumbers = bare 22

-- refused for this cause
abbrev pub faulted : {A : Type 0} → Fault → Outcome A
faulted cause = refused (means cause)

-- what an answer means, whatever it gives: the value of an Ok, or what the cause of an Err means
abbrev pub outcome : {A : Type 0} → Result A Fault → Outcome A
outcome (Ok a) = given a
outcome (Err cause) = faulted cause
