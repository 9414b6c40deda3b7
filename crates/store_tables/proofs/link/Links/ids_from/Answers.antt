use Rattle.std.proofs.Common.{◌≡◌, ℕ, List, [], ◌∷◌, ◌++◌, Some, refl, sym, arith}
use Rattle.store_tables.specs.Links.{rel_id}
use Rattle.store_tables.proofs.SlotLemmas.{id-at}
use Rattle.store_tables.proofs.LinkLemmas.{IsWalked, IsWalked-start, IsWalked-step, walked_smaller, kept_dead, kept_living}
use Rattle.store_tables.proofs.link.Links.ids_from.Goals as goal
use Rattle.store_tables.proofs.link.Links.ids_from.Goals.{in-Some-live_at+in_ok-push-in-Some-live_at, in-None}

pub loop-next-init : goal.loop-next-init
loop-next-init c =
    rw (c.last_of-next.ensures, c.new-ids.ensures.items)
    (IsWalked-start c.args.rels.now c.args.self.now.rels c.args.self.now.nodes c.args.source c.requires.chained c.requires.begun c.requires.rows)

pub loop-next-smaller : goal.loop-next-smaller
loop-next-smaller c =
    rw (c.before_of-next.ensures, c.in-Some.is)
    (walked_smaller c.args.rels.now c.args.self.now.rels c.args.self.now.nodes c.args.source c.in-Some.id c.loop-next.ids.items c.requires.chained (rw c.in-Some.is at c.loop-next.invariant))

pub loop-next-preserved : goal.loop-next-preserved
loop-next-preserved c =
    let rels = c.args.rels.now in
    let links = c.args.self.now.rels in
    let node = c.args.source in
    let id = c.in-Some.id in
    let ids = c.loop-next.ids.items in
    let walked : IsWalked rels links node (Some id) ids = rw c.in-Some.is at c.loop-next.invariant in
    let here = walked.there id refl in
    let step = λ (kept : List ℕ). IsWalked-step rels links c.args.self.now.nodes node id ids kept c.requires.chained c.requires.begun c.requires.rows walked in
    rw c.before_of-next.ensures
    (elim c.match-live_at.branch [
      | in-Some-live_at+in_ok-push-in-Some-live_at w ↦
          let rel = w.in-Some-live_at.rel.now in
          let there = sym w.in-Some-live_at.ensures in
          let own = id-at rel_id rels 0 id rel c.requires.numbered there in
          let same : rel.id ≡ id = omega (arith, own) in
          rw (w.ids-is, w.in_ok-push-in-Some-live_at.ensures.items, same) (step (ids ++ id ∷ []) (kept_living rels links node id rel ids c.requires.numbered c.requires.begun here.0 here.1 there))
      | in-None w ↦ rw w.ids-is (step ids (kept_dead rels node id ids (sym w.in-None.ensures)))
    ])
