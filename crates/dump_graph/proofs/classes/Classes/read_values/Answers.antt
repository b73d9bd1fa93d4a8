use Rattle.std.proofs.Common.{◌<◌, ◌-◌, ◌+◌, length, arith, ap, ◌∙◌}
use Rattle.dump_graph.specs.Classes.{Class}
use Rattle.dump_graph.specs.Climbing.{gathered}
use Rattle.dump_graph.specs.Tables.{Known}
use Rattle.dump_graph.specs.declared.climb.Climb.{Climb}
use Rattle.dump_graph.proofs.ReadAll.{climb-at, codes-at, left-within, reading-begins, reads-on, stops-short}
use Rattle.dump_graph.proofs.classes.Classes.read_values.Goals as goal

pub loop-init : goal.loop-init
loop-init c =
    let known = c.args.self.now in
    let dumps = ap (λ (k : Known). k.dumps) c.self.view_is in
    reading-begins known.first known.dumps (c.self.inside.dumps - 0) c.args.class c.args.bytes.now c.args.found.now.items (omega (arith, dumps)) c.requires.0 c.requires.1

pub returns-in_default-2-clause-fits : goal.returns-in_default-2-clause-fits
returns-in_default-2-clause-fits c =
    let known = c.args.self.now in
    let n = c.in-Some.number in
    let fuel = c.self.inside.dumps - c.loop.counter in
    let dumps = ap (λ (k : Known). k.dumps) c.self.view_is in
    let firsts = ap (λ (k : Known). k.first) c.self.view_is in
    let within : n < length known.first = left-within known.first c.loop.at n fuel c.loop.invariant.0 c.loop.invariant.1.0 c.in-Some.is in
    let own = c.deref.ensures.value ∙ (ap (λ (x : Class). x.codes) c.one.view_is ∙ codes-at c.self.inside.known.items known.first n c.index-one.result.now firsts within c.index-one.ensures) in
    stops-short known.first known.dumps fuel n c.loop.at (gathered known.first known.dumps c.args.class) c.deref.result.now c.args.bytes.now c.loop.rest.now c.args.found.now.items c.loop.found.items
    c.loop.invariant c.in-Some.is (omega (arith, dumps)) own (rw c.in_default-2.is at c.in_ok-after.ensures)

pub loop-preserved : goal.loop-preserved
loop-preserved c =
    let known = c.args.self.now in
    let n = c.in-Some.number in
    let fuel = c.self.inside.dumps - c.loop.counter in
    let dumps = ap (λ (k : Known). k.dumps) c.self.view_is in
    let firsts = ap (λ (k : Known). k.first) c.self.view_is in
    let within : n < length known.first = left-within known.first c.loop.at n fuel c.loop.invariant.0 c.loop.invariant.1.0 c.in-Some.is in
    let own = c.deref.ensures.value ∙ (ap (λ (x : Class). x.codes) c.one.view_is ∙ codes-at c.self.inside.known.items known.first n c.index-one.result.now firsts within c.index-one.ensures) in
    let next = climb-at c.self.inside.known.items known.first c.self.inside.dumps known.dumps c.self.inside.climbs.items n c.index.result.now firsts dumps c.self.invariant.climbed within c.index.ensures in
    let read = rw c.in-Some-2.is at c.in_ok-after.ensures in
    reads-on known.first known.dumps fuel n c.loop.at (gathered known.first known.dumps c.args.class) c.deref.result.now c.args.bytes.now c.loop.rest.now c.args.found.now.items c.loop.found.items
    c.read_fields.new.found.items c.in-Some-2.after.now c.index.result.now.fielded (c.self.inside.dumps - (c.loop.counter + 1))
    c.loop.invariant c.in-Some.is (omega (arith, dumps)) own (ap (λ (x : Climb). x.fielded) next) read.0 read.1 read.2 (omega arith)
