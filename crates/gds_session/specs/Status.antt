-- The status with which the program ends.
use Rattle.std.specs.Prelude.{ℕ}
use Rattle.gds_session.specs.declared.ends.End.{End}
use Rattle.gds_session.specs.declared.ends.End.TheVariants.{Done, BadWords, BadInput, ReadFault, WriteFault, Mem, Spent}

-- the status of each end
abbrev pub status_of : End → ℕ
status_of Done = 0
status_of BadWords = 2
status_of (BadInput line) = 3
status_of ReadFault = 4
status_of WriteFault = 5
status_of Mem = 6
status_of Spent = 7
