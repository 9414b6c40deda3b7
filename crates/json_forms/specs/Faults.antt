-- Words on faults.
use Rattle.graph_model.specs.declared.name.NameError.{NameError}
use Rattle.graph_model.specs.declared.name.NameError.TheVariants as name_error
use Rattle.json_forms.specs.declared.fault.Fault.{Fault}
use Rattle.json_forms.specs.declared.fault.Fault.TheVariants.{Wrong, Mem}

-- a fault is want of memory, or else this holds
abbrev pub IfWrong : Fault → Type 0 → Type 0
IfWrong Wrong P = P
IfWrong Mem P = Unit {0}

-- a text that is no name is of a wrong form
abbrev pub fault_of : NameError → Fault
fault_of name_error.Malformed = Wrong
fault_of name_error.Mem = Mem
