use Rattle.std.proofs.Common.{◌≡◌, ℕ, ◌+◌, ◌*◌, ap, subst, arith}
use Rattle.page_runs.specs.Runs.{MapsRun, HasRun}
use Rattle.page_runs.proofs.LawLemmas.{run-grown}
use Rattle.page_runs.proofs.RunLemmas.{Reserved, mapping-reserved, run-seen, run-only}
use Rattle.page_tables.specs.declared.address.Window.TheVariants.{Zygote}
use Rattle.image_space.specs.Space.{pages_up_to}
use Rattle.zygote_space.specs.Space.{Space}
use Rattle.zygote_space.proofs.space.ZygoteSpace.open_segment.Goals as goal

pub returns-clause-maps : goal.returns-clause-maps
returns-clause-maps c =
    let old = c.args.self.now.fill in
    let mid = c.reserve.new.self in
    let new = c.map_reserved.new.frames in
    let t = c.args.t.0 in
    let is : c.self.inside.fill ≡ old = ap (λ (s : Space). s.fill) c.self.view_is in
    let first : 196608 + c.div_ceil-pages.result ≡ 196608 + pages_up_to old = omega (arith, is, c.div_ceil-pages.ensures) in
    let count : c.div_ceil-count.result ≡ pages_up_to c.args.total = omega (arith, c.div_ceil-count.ensures) in
    let made : Reserved c.args.frames.now mid (pages_up_to c.args.total) =
    subst (Reserved c.args.frames.now mid) count (record {
      rest = c.reserve.ensures.rest;
      spare = c.in_ok-reserve.ensures.no_more;
      frames = c.in_ok-reserve.ensures.frames;
      leaf_count = c.in_ok-reserve.ensures.leaves;
    }) in
    mapping-reserved c.args.frames.now mid new t (196608 + pages_up_to old) (pages_up_to c.args.total) c.reserve.ensures.was_sound made
    (subst (λ (k : ℕ). MapsRun mid new t k (pages_up_to c.args.total)) first
    (subst (λ (n : ℕ). MapsRun mid new t (196608 + c.div_ceil-pages.result) n) count c.map_reserved.ensures.maps))

pub returns-clause-view : goal.returns-clause-view
returns-clause-view c =
    let old = c.args.self.now.fill in
    run-seen c.args.frames.now c.map_reserved.new.frames c.args.t.0 (196608 + pages_up_to old) (pages_up_to c.args.total) (returns-clause-maps c)

pub returns-clause-only : goal.returns-clause-only
returns-clause-only c =
    let old = c.args.self.now.fill in
    run-only c.args.frames.now c.map_reserved.new.frames c.args.t.0 (196608 + pages_up_to old) (pages_up_to c.args.total) (returns-clause-maps c)

pub returns-clause-pages : goal.returns-clause-pages
returns-clause-pages c =
    let old = c.args.self.now.fill in
    let is : c.self.inside.fill ≡ old = ap (λ (s : Space). s.fill) c.self.view_is in
    let new = c.map_reserved.new.frames in
    let count : pages_up_to old + pages_up_to c.args.total ≡ pages_up_to (c.div_ceil-pages.result * 4096 + c.args.total) = omega (arith, is, c.div_ceil-pages.ensures) in
    subst (HasRun new c.args.t.0 Zygote 196608) count
    (run-grown c.args.frames.now new c.args.t.0 Zygote 196608 (pages_up_to old) (pages_up_to c.args.total) c.requires.pages (returns-clause-maps c))
