-- A fork comes behind its collection: together they are what the fork does.
use Rattle.std.proofs.Common.{◌≡◌, true, false, refl, sym, subst, inl}
use Rattle.heap_graph.specs.Collection.{collect}
use Rattle.heap_graph.specs.Fork.{has_zygote_room}
use Rattle.heap_graph.specs.Formed.{IsFormed}
use Rattle.heap_graph.specs.Graph.{Graph}
use Rattle.heap_world.specs.Acts.{fork_collected, fork_part, gc_to}
use Rattle.heap_world.specs.Part.{with_collected, Part}
use Rattle.heap_world.proofs.FormedKept.{collect_formed, promoted_formed}
use Rattle.world_laws.specs.Effects.{KeepsNames}
use Rattle.world_laws.proofs.Named.{reaches-promoted, waiting-promoted}
use Rattle.world_laws.proofs.Walk.{fork_walk}
use Rattle.process_state.specs.Acts.{Acts, Step}
use Rattle.process_state.proofs.Following.{follow}

-- what a fork leaves named was so in the collected graph, or was made
fork-names : (p : Part) → p.graph.sealed ≡ true → IsFormed p.graph → KeepsNames (with_collected p (collect p.graph)) (fork_part p)
fork-names p sealed formed = fork_walk p (λ e. KeepsNames (with_collected p (collect p.graph)) e)
    (λ room.
    let g : Graph = collect p.graph in
    let before : IsFormed g = collect_formed p.graph sealed formed in
    let after = promoted_formed g sealed room before in
    record { named = reaches-promoted g before after; waiting = waiting-promoted g before after })
    (λ full. record { named = λ a is. inl is; waiting = λ a is. inl is })

pub forks-done : (c d : Step) (p : Part) → p.graph.sealed ≡ true → IsFormed p.graph → Acts c p (gc_to p (collect p.graph)) → Acts d (with_collected p (collect p.graph)) (fork_part p)
    → d.old ≡ c.new → d.was ≡ c.now → Acts (record { old = c.old; new = d.new; was = c.was; now = d.now }) p (fork_part p)
forks-done c d p sealed formed one two same-old same-was =
    follow c d p (gc_to p (collect p.graph)) (fork_part p) one two same-old same-was refl refl (fork-names p sealed formed)

-- without room a fork leaves what its collection does; only its reply is another
pub forks-full : (c : Step) (p : Part) → Acts c p (gc_to p (collect p.graph)) → has_zygote_room (collect p.graph) ≡ false → Acts c p (fork_part p)
forks-full c p acts full = subst (λ b. Acts c p (fork_collected b p (collect p.graph))) (sym full)
    (record { stands = acts.stands; page_table = acts.page_table; only = acts.only; kept = acts.kept; made = acts.made })
