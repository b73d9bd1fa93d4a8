use Rattle.std.proofs.Common.{rules, ◌≡◌, ◌∙◌, ℕ, List, length, arith, ap, subst}
use Rattle.std.specs.Prelude.{OnOk}
use Rattle.std.specs.Int.{w32, to_le_bytes, from_le_bytes}
use Rattle.std.proofs.lemmas.Nat.{from_le_bytes-to_le_bytes_4}
use Rattle.std.proofs.lemmas.Result.{on_ok_weaker}
use Rattle.cow_pages.specs.Change.{WritesPage}
use Rattle.cow_pages.specs.View.{u32_at}
use Rattle.cow_pages.specs.Store.{shown}
use Rattle.cow_pages.proofs.SoundLemmas.{sound}
use Rattle.cow_pages.proofs.ViewLemmas.{OthersSeen-page, WritesBytes-page}
use Rattle.cow_pages.proofs.frames.Frames.write_u32.Goals as goal

pub write-requires-clause-mapped : goal.write-requires-clause-mapped
write-requires-clause-mapped c = rw (← c.self.view_is) at c.requires.mapped

pub write-requires-clause-room : goal.write-requires-clause-room
write-requires-clause-room c = let len : length c.to_le_bytes.result ≡ 4 = ap length c.to_le_bytes.ensures in omega (arith, len, c.requires.aligned)

pub invariant_of-self : goal.invariant_of-self
invariant_of-self c = c.write.ensures.store

pub returns : goal.returns
unfolding u32_at
returns c =
    let page = subst (λ (bs : List ℕ). OnOk c.write.result (WritesPage (shown c.self.inside.store) (shown c.write.new.self) c.args.t.0 c.args.at.0 bs)) c.to_le_bytes.ensures c.write.ensures.page in
    record {
      page = rw (← c.self.view_is) page;
      view = rw (← c.self.view_is) (on_ok_weaker _ (λ w. WritesBytes-page (shown c.self.inside.store) (shown c.write.new.self) c.args.t.0 c.args.at.0 (to_le_bytes w32 c.args.v) (sound c.self.inside.store c.self.invariant) (omega (arith, c.requires.aligned)) w) page);
      others_seen = rw (← c.self.view_is) (on_ok_weaker _ (λ (w : WritesPage (shown c.self.inside.store) (shown c.write.new.self) c.args.t.0 c.args.at.0 (to_le_bytes w32 c.args.v)). OthersSeen-page _ _ _ _ w.rest) page);
      reads_back = on_ok_weaker _ (λ w. ap (from_le_bytes w32) (WritesBytes-page (shown c.self.inside.store) (shown c.write.new.self) c.args.t.0 c.args.at.0 (to_le_bytes w32 c.args.v) (sound c.self.inside.store c.self.invariant) (omega (arith, c.requires.aligned)) w).there ∙ from_le_bytes-to_le_bytes_4 c.args.v c.ranges.v.fits) page;
      takes = search rules;
      leaf = search rules;
      succeeds = search rules;
      only = search rules;
      err = search rules;
      sound = sound _ c.write.ensures.store;
    }
