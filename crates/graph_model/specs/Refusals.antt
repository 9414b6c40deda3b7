-- Words on refusals.
use Rattle.graph_model.specs.declared.refusal.Refusal.{Refusal}
use Rattle.graph_model.specs.declared.refusal.Refusal.TheVariants.{Mem}

-- a refusal is want of memory, or else this holds
abbrev pub UnlessMem : Refusal → Type 0 → Type 0
UnlessMem Mem P = Unit {0}
UnlessMem _ P = P
