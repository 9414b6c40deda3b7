-- Why no arcs are kept.
use Rattle.projection_spec.specs.KeptArcs.{SumOut}
use Rattle.rel_aggregate.specs.declared.refusal.GroupRefusal.{GroupRefusal}
use Rattle.rel_aggregate.specs.declared.refusal.GroupRefusal.TheVariants.{Sum, Mem}

-- a refusal is want of memory, or else this holds of the sum that leaves i64
abbrev pub IfSum : GroupRefusal → (SumOut → Type 0) → Type 0
IfSum (Sum source target key) P = P (record { source = source; target = target; key = key })
IfSum Mem P = Unit {0}
