use Rattle.std.proofs.Common.{length}
use Rattle.csr_columns.proofs.Sharing.{kept-each}
use Rattle.csr_columns.proofs.projection.Projection.chooses_all.Goals as goal

pub returns-in-All : goal.returns-in-All
returns-in-All c = λ _. rw c.in-All.is (kept-each c.args.self.now.labels 0 (length c.args.self.now.ids))
