use Rattle.std.proofs.Common.{◌≡◌, ◌+◌, subst, arith}
use Rattle.raw_objects.specs.Raws.{raw_size}
use Rattle.mod_union.specs.Scans.{end_on, space_in, AreBelow}
use Rattle.mod_union.proofs.Counted.{reads-both, reads-shape}
use Rattle.mod_union.proofs.Objects.{object-seen, object-shape, object-size}
use Rattle.mod_union.proofs.scan.Scan.scan_object.Goals as goal

pub read_shape-shape-requires : goal.read_shape-shape-requires
read_shape-shape-requires c =
    let held = c.requires.held in
    ((held.0.raw c.args.at.0).shape, object-shape (space_in c.args.self.now c.args.frames.now) held.0 c.args.at.0 held.1 held.2)

pub scan_references-requires-clause-held : goal.scan_references-requires-clause-held
scan_references-requires-clause-held c =
    let held = c.requires.held in
    let shape = c.read_shape-shape in (
      held.0,
      object-seen c.args.self.now c.args.frames.now shape.new.frames held.0 c.args.at.0 shape.result held.1 held.2 shape.ensures.only
          (reads-shape c.args.frames.now shape.new.frames c.args.at.0 shape.result shape.ensures.reads shape.ensures.sound),
    )

pub returns-in_err-scan_references-clause-reads : goal.returns-in_err-scan_references-clause-reads
returns-in_err-scan_references-clause-reads c raws held has =
    let shape = c.read_shape-shape in
    let reads = reads-shape c.args.frames.now shape.new.frames c.args.at.0 shape.result shape.ensures.reads shape.ensures.sound in
    reads-both 2 _ c.args.frames.now shape.new.frames c.scan_references.new.frames reads
    (c.scan_references.ensures.reads raws (object-seen c.args.self.now c.args.frames.now shape.new.frames raws c.args.at.0 shape.result held has shape.ensures.only reads))

pub returns-clause-end : goal.returns-clause-end
returns-clause-end c raws held has =
    let shape = c.read_shape-shape in
    let size : c.size_of.result ≡ raw_size c.args.self.now.classes.now raws c.args.at.0 =
    object-size c.args.self.now c.args.frames.now raws c.args.at.0 c.size_of.result shape.result held has shape.ensures.only c.size_of.ensures in
    omega (arith, size, c.from.ensures)

pub returns-clause-found : goal.returns-clause-found
returns-clause-found c raws held has before =
    let scan = c.args.self.now in
    let shape = c.read_shape-shape in
    let size : c.size_of.result ≡ raw_size scan.classes.now raws c.args.at.0 =
    object-size scan c.args.frames.now raws c.args.at.0 c.size_of.result shape.result held has shape.ensures.only c.size_of.ensures in
    let end : c.args.at.0 + raw_size scan.classes.now raws c.args.at.0 ≡ c.from.result + c.size_of.result = omega (arith, size, c.from.ensures) in
    let reads = reads-shape c.args.frames.now shape.new.frames c.args.at.0 shape.result shape.ensures.reads shape.ensures.sound in
    subst (λ n. AreBelow scan raws (end_on c.args.card n) c.scan_references.new.found.items) end
    (c.in_ok-scan_references.ensures.found raws (object-seen scan c.args.frames.now shape.new.frames raws c.args.at.0 shape.result held has shape.ensures.only reads) before)

pub returns-clause-reads : goal.returns-clause-reads
returns-clause-reads c raws held has =
    let shape = c.read_shape-shape in
    let reads = reads-shape c.args.frames.now shape.new.frames c.args.at.0 shape.result shape.ensures.reads shape.ensures.sound in
    reads-both 2 _ c.args.frames.now shape.new.frames c.scan_references.new.frames reads
    (c.scan_references.ensures.reads raws (object-seen c.args.self.now c.args.frames.now shape.new.frames raws c.args.at.0 shape.result held has shape.ensures.only reads))
