use Rattle.std.proofs.Common.{rules, ◌≡◌, length, arith}
use Rattle.std.proofs.lemmas.Result.{on_ok_weaker}
use Rattle.cow_pages.specs.Change.{WritesPage}
use Rattle.cow_pages.specs.View.{bytes_at, view_of}
use Rattle.cow_pages.specs.Store.{shown}
use Rattle.cow_pages.proofs.SoundLemmas.{sound}
use Rattle.cow_pages.proofs.ViewLemmas.{OthersSeen-page, WritesBytes-page, length-bytes_at}
use Rattle.cow_pages.proofs.frames.Frames.copy_slice.Goals as goal

pub copy_slice-requires : goal.copy_slice-requires
copy_slice-requires c = record {
  store = c.self.invariant;
  from_mapped = rw (← c.self.view_is) at c.requires.from_mapped;
  mapped = rw (← c.self.view_is) at c.requires.to_mapped;
  apart = c.requires.apart;
  from_room = c.requires.from_room;
  room = c.requires.to_room;
}

pub invariant_of-self : goal.invariant_of-self
invariant_of-self c = c.copy_slice.ensures.store

pub returns : goal.returns
returns c =
    let s = c.self.inside.store in
    let new = c.copy_slice.new.self in
    let t = c.args.t.0 in
    let at = c.args.to.0 in
    let bytes = bytes_at (view_of (shown s) t) c.args.from.0 c.args.count in
    let page = c.copy_slice.ensures.page in
    let len : length bytes ≡ c.args.count = length-bytes_at (view_of (shown s) t) c.args.from.0 c.args.count in
    record {
      page = rw (← c.self.view_is) page;
      view = rw (← c.self.view_is) (on_ok_weaker _ (λ w. WritesBytes-page (shown s) (shown new) t at bytes (sound s c.self.invariant) (omega (arith, len, c.requires.to_room)) w) page);
      others_seen = rw (← c.self.view_is) (on_ok_weaker _ (λ (w : WritesPage (shown s) (shown new) t at bytes). OthersSeen-page _ _ _ _ w.rest) page);
      takes = search rules;
      leaf = search rules;
      reads = rw (← c.self.view_is) (on_ok_weaker _ (λ (w : WritesPage (shown s) (shown new) t at bytes). w.rest.reads) page);
      succeeds = search rules;
      only = search rules;
      err = search rules;
      sound = sound _ c.copy_slice.ensures.store;
    }
