-- By cases on what a run answers between its rounds.
use Rattle.gds_causes.specs.declared.gate.Turned.{Turned}
use Rattle.gds_causes.specs.declared.gate.Turned.TheVariants.{More, Done}

-- the first fact where there may be more to do, the second where all is done
abbrev pub MatchTurned : Turned → Type 0 → Type 0 → Type 0
MatchTurned More more done = more
MatchTurned Done more done = done
