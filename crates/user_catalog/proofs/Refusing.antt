-- Refusals that may be want of memory.
use Rattle.std.proofs.Common.{◌≡◌, ℕ, List, Option, Some, None, sym, ap, ◌∙◌}
use Rattle.graph_model.specs.declared.refusal.Refusal.{Refusal}
use Rattle.graph_model.specs.declared.refusal.Refusal.TheVariants.{Mem, GraphGone}
use Rattle.graph_model.specs.Refusals.{UnlessMem}
use Rattle.user_catalog.specs.declared.entry.Entry.{Entry}
use Rattle.user_catalog.specs.Catalog.{refused_wider, refused_found}

-- what follows from a fact holds where the fact does, unless memory was wanted
unless_mem-weaker : (why : Refusal) (P Q : Type 0) → (P → Q) → UnlessMem why P → UnlessMem why Q
unless_mem-weaker Mem P Q weaker holds = tt
unless_mem-weaker _ P Q weaker holds = weaker holds

-- nothing stands under the name
pub refused-nowhere : (name : List ℕ) (version : ℕ) (key : List ℕ) (found : Option Entry) (why : Refusal) → found ≡ None → UnlessMem why (why ≡ GraphGone name version 0) → UnlessMem why (refused_found name version key found ≡ Some why)
refused-nowhere name version key found why none =
    unless_mem-weaker why (why ≡ GraphGone name version 0) (refused_found name version key found ≡ Some why)
    (λ told. ap (refused_found name version key) none ∙ ap (λ (r : Refusal). Some r) (sym told))

-- an entry stands under it
pub refused-there : (name : List ℕ) (version : ℕ) (key : List ℕ) (found : Option Entry) (entry : Entry) (why : Refusal) → found ≡ Some entry → UnlessMem why (refused_wider name version key entry ≡ Some why) → UnlessMem why (refused_found name version key found ≡ Some why)
refused-there name version key found entry why there =
    unless_mem-weaker why (refused_wider name version key entry ≡ Some why) (refused_found name version key found ≡ Some why)
    (λ told. ap (refused_found name version key) there ∙ told)
