-- Reads: nothing changes but their count.
use Rattle.std.proofs.Common.{◌≡◌, ◌∙◌, ℕ, ◌+◌, ◌-◌, ◌<◌, ◌≤◌, ◌^◌, List, [], ◌∷◌, length, refl, sym, ap, subst, arith}
use Rattle.std.specs.List.{count_by}
use Rattle.std.proofs.lemmas.List.Sums.{count_by-le-length}
use Rattle.page_tables.specs.Address.{is_immune}
use Rattle.cow_pages.specs.Memory.{IsSound, Memory}
use Rattle.cow_pages.specs.Change.{reads_after}
use Rattle.cow_pages.specs.View.{byte_at, view_of}
use Rattle.heap_graph.specs.declared.names.Shape.{Shape}
use Rattle.heap_graph.specs.declared.names.Shape.TheVariants.{Instance, Array}
use Rattle.object_view.specs.Changes.{reads_after_all, shape_reads}
use Rattle.object_view.specs.Seen.{RoseBy}
use Rattle.object_view.proofs.Rises.{reads-fit, reads-rise, rose-both, rose-more, rose-none}
use Rattle.mod_union.specs.declared.scan.Scan.{Scan}
use Rattle.mod_union.specs.ModUnion.{space_of}
use Rattle.mod_union.specs.Scans.{space_in, Reads}

pub reads-none : (m : Memory) → Reads 0 m m
reads-none m = record { same = refl; rose = λ fits. rose-none m.reads; fits = λ fits. fits; sound = λ sound. sound }

pub reads-both : (a b : ℕ) (old mid new : Memory) → Reads a old mid → Reads b mid new → Reads (a + b) old new
reads-both a b old mid new f g = record {
  same = g.same ∙ ap (λ (m : Memory). record m { reads = new.reads }) f.same;
  rose = λ fits. rose-both a b old.reads mid.reads new.reads (f.rose fits) (g.rose (f.fits fits));
  fits = λ fits. g.fits (f.fits fits);
  sound = λ sound. g.sound (f.sound sound);
}

pub reads-more : (a b : ℕ) (old new : Memory) → a ≤ b → Reads a old new → Reads b old new
reads-more a b old new le f = record { same = f.same; rose = λ fits. rose-more a b old.reads new.reads le (f.rose fits); fits = f.fits; sound = f.sound }

-- reads at some addresses
pub reads-at : (n : ℕ) (old new : Memory) (ats : List ℕ) → length ats ≤ n → new ≡ record old { reads = reads_after_all old.reads ats } → IsSound new → Reads n old new
reads-at n old new ats few is sound =
    let now : new.reads ≡ reads_after_all old.reads ats = ap (λ (m : Memory). m.reads) is in
    record {
      same = is ∙ ap (λ k. record old { reads = k }) (sym now);
      rose = λ fits. subst (RoseBy n old.reads) (sym now)
          (rose-more (count_by is_immune ats) n old.reads (reads_after_all old.reads ats) (omega (arith, count_by-le-length is_immune ats, few)) (reads-rise old.reads ats fits));
      fits = λ fits. subst (λ k. k < 2 ^ 64) (sym now) (reads-fit old.reads ats fits);
      sound = λ before. sound;
    }

-- one read more
pub reads-next : (first k : ℕ) (old mid new : Memory) (at : ℕ) → first ≤ k → Reads (k - first) old mid → new ≡ record mid { reads = reads_after mid.reads at } → IsSound new
    → Reads (k + 1 - first) old new
reads-next first k old mid new at le f is sound =
    reads-more (k - first + 1) (k + 1 - first) old new (omega (arith, le)) (reads-both (k - first) 1 old mid new f (reads-at 1 mid new (at ∷ []) (omega arith) is sound))

-- a table is seen as it was
pub view-reads : (m : Memory) (t n : ℕ) → view_of (record m { reads = n }) t ≡ view_of m t
unfolding byte_at
view-reads m t n = refl

pub space-read : (scan : Scan) (n : ℕ) (old new : Memory) → Reads n old new → space_in scan new ≡ space_in scan old
space-read scan n old new f =
    ap (λ v. space_of scan.classes.now v scan.starts.now scan.larges.now) (ap (λ (m : Memory). view_of m scan.t.0) f.same ∙ view-reads old scan.t.0 new.reads)

-- a shape is read by at most two reads
pub reads-shape : (old new : Memory) (at : ℕ) (shape : Shape) → new ≡ record old { reads = reads_after_all old.reads (shape_reads at shape) } → IsSound new → Reads 2 old new
reads-shape old new at shape is sound = reads-at 2 old new (shape_reads at shape) (few shape) is sound
  where
    few : (shape : Shape) → length (shape_reads at shape) ≤ 2
    few (Instance class) = omega arith
    few (Array kind count) = omega arith
