use Rattle.std.proofs.Common.{◌≡◌, ℕ, ◌+◌, ◌-◌, ap, subst, arith}
use Rattle.page_runs.specs.Runs.{MapsRun}
use Rattle.page_runs.proofs.RunLemmas.{Reserved, mapping-reserved, run-seen, run-only, others-seen}
use Rattle.image_space.specs.Space.{Space, HasPagesUpTo, end_page, further_pages}
use Rattle.image_space.proofs.PageLemmas.{pages-after}
use Rattle.image_space.proofs.space.ImageSpace.place.Goals as goal

pub returns-clause-maps : goal.returns-clause-maps
returns-clause-maps c =
    let old = c.args.self.now.fill in
    let mid = c.reserve.new.self in
    let new = c.map_reserved.new.frames in
    let t = c.args.t.0 in
    let is : c.self.inside.fill ≡ old = ap (λ (s : Space). s.fill) c.self.view_is in
    let before = c.pages_up_to-mapped.ensures in
    let after = c.pages_up_to.ensures in
    let first : 131072 + c.pages_up_to-mapped.result ≡ end_page old = omega (arith, is, before) in
    let count : c.pages_up_to.result - c.pages_up_to-mapped.result ≡ further_pages old (old + c.args.size) = omega (arith, is, before, after) in
    let made : Reserved c.args.frames.now mid (further_pages old (old + c.args.size)) =
    subst (Reserved c.args.frames.now mid) count (record {
      rest = c.reserve.ensures.rest;
      spare = c.in_ok-reserve.ensures.no_more;
      frames = c.in_ok-reserve.ensures.frames;
      leaf_count = c.in_ok-reserve.ensures.leaves;
    }) in
    mapping-reserved c.args.frames.now mid new t (end_page old) (further_pages old (old + c.args.size)) c.reserve.ensures.was_sound made
    (subst (λ (k : ℕ). MapsRun mid new t k (further_pages old (old + c.args.size))) first
    (subst (λ (n : ℕ). MapsRun mid new t (131072 + c.pages_up_to-mapped.result) n) count c.map_reserved.ensures.maps))

pub returns-clause-view : goal.returns-clause-view
returns-clause-view c =
    let old = c.args.self.now.fill in
    run-seen c.args.frames.now c.map_reserved.new.frames c.args.t.0 (end_page old) (further_pages old (old + c.args.size)) (returns-clause-maps c)

pub returns-clause-others_seen : goal.returns-clause-others_seen
returns-clause-others_seen c =
    let old = c.args.self.now.fill in
    others-seen c.args.frames.now c.map_reserved.new.frames c.args.t.0 (end_page old) (further_pages old (old + c.args.size)) (returns-clause-maps c).others

pub returns-clause-only : goal.returns-clause-only
returns-clause-only c =
    let old = c.args.self.now.fill in
    run-only c.args.frames.now c.map_reserved.new.frames c.args.t.0 (end_page old) (further_pages old (old + c.args.size)) (returns-clause-maps c)

pub returns-clause-pages : goal.returns-clause-pages
returns-clause-pages c =
    let old = c.args.self.now.fill in
    let is : c.self.inside.fill ≡ old = ap (λ (s : Space). s.fill) c.self.view_is in
    subst (HasPagesUpTo c.map_reserved.new.frames c.args.t.0) (omega (arith, is))
    (pages-after c.args.frames.now c.map_reserved.new.frames c.args.t.0 old (old + c.args.size) c.requires.pages (omega arith) (returns-clause-maps c))
