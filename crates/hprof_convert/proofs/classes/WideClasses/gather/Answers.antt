use Rattle.std.proofs.Common.{◌≡◌, ℕ, ◌<◌, ◌-◌, ◌+◌, List, ◌++◌, length, arith, ap, sym, ◌∙◌}
use Rattle.dump_graph.specs.Classes.{Class}
use Rattle.dump_graph.specs.Climbing.{gathered}
use Rattle.dump_graph.specs.declared.climb.Climb.{Climb}
use Rattle.dump_graph.proofs.ReadAll.{climb-at, codes-at, left-within}
use Rattle.hprof_convert.proofs.Gathering.{gather-begins, gather-on, gather-short}
use Rattle.hprof_convert.proofs.classes.WideClasses.gather.Goals as goal

pub loop-init : goal.loop-init
loop-init c =
    let known = c.args.self.now in
    let steps : c.len-end.result ≡ length known = c.len-end.ensures ∙ (c.self.inside.known.ok.0 ∙ ap (length {A = Class}) c.self.view_is) in
    gather-begins known c.args.width (length known) (c.len-end.result - 0) c.args.class c.args.size c.new-codes.result.items (omega (arith, steps)) c.requires.0 c.requires.1 c.new-codes.ensures.items

pub returns-in_default-behind : goal.returns-in_default-behind
returns-in_default-behind c =
    let known = c.args.self.now in
    let n = c.in-Some.place in
    let fuel = c.len-end.result - c.loop.counter in
    let steps : c.len-end.result ≡ length known = c.len-end.ensures ∙ (c.self.inside.known.ok.0 ∙ ap (length {A = Class}) c.self.view_is) in
    let within : n < length known = left-within known c.loop.at n fuel c.loop.invariant.0 c.loop.invariant.1.0 c.in-Some.is in
    let own = c.deref.ensures.value ∙ (ap (λ (x : Class). x.codes) c.behind-self.view_is ∙ codes-at c.self.inside.known.items known n c.index.result.now c.self.view_is within c.index.ensures) in
    gather-short known c.args.width (length known) fuel n c.args.size c.loop.left c.loop.at (gathered known (length known) c.args.class) c.loop.codes.items c.deref.result.now
    c.loop.invariant c.in-Some.is (omega (arith, steps)) own (rw c.in_default-behind.is at c.behind.ensures)

pub loop-preserved : goal.loop-preserved
loop-preserved c =
    let known = c.args.self.now in
    let n = c.in-Some.place in
    let fuel = c.len-end.result - c.loop.counter in
    let steps : c.len-end.result ≡ length known = c.len-end.ensures ∙ (c.self.inside.known.ok.0 ∙ ap (length {A = Class}) c.self.view_is) in
    let within : n < length known = left-within known c.loop.at n fuel c.loop.invariant.0 c.loop.invariant.1.0 c.in-Some.is in
    let own = c.deref.ensures.value ∙ (ap (λ (x : Class). x.codes) c.behind-self.view_is ∙ codes-at c.self.inside.known.items known n c.index.result.now c.self.view_is within c.index.ensures) in
    let next = climb-at c.self.inside.known.items known (length c.self.inside.known.items) (length known) c.self.inside.climbs.items n c.index-in-loop.result.now c.self.view_is (ap (length {A = Class}) c.self.view_is) c.self.invariant.climbed within c.index-in-loop.ensures in
    let fits = rw c.in-Some-behind.is at c.behind.ensures in
    gather-on known c.args.width (length known) fuel n c.args.size c.loop.left c.in-Some-behind.after (c.len-end.result - (c.loop.counter + 1)) c.loop.at c.index-in-loop.result.now.fielded
    (gathered known (length known) c.args.class) c.loop.codes.items c.deref.result.now c.extend_from_slice.new.self.items
    c.loop.invariant c.in-Some.is (omega (arith, steps)) own (ap (λ (x : Climb). x.fielded) next) fits (c.in_ok-extend_from_slice.ensures.items ∙ ap (λ (l : List ℕ). c.loop.codes.items ++ l) (c.deref-in-loop.ensures.value ∙ sym c.deref.ensures.value)) (omega arith)
