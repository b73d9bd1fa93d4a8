use Rattle.std.proofs.Common.{◌≡◌, ◌+◌, ◌-◌, ◌^◌, ℕ, true, false, sym, ap, ◌∙◌}
use Rattle.std.specs.Prelude.{min}
use Rattle.std.proofs.lemmas.Bool.{cond-true, cond-false}
use Rattle.page_tables.specs.Address.{is_immune, page_of}
use Rattle.page_tables.proofs.WindowLemmas.{immune-below}
use Rattle.cow_pages.proofs.ReadLemmas.{mapped_entry}
use Rattle.cow_pages.proofs.store.Store.count_read.Goals as goal

pub returns-then-is_below_regions : goal.returns-then-is_below_regions
returns-then-is_below_regions c =
    let s = c.args.self.now in
    let at = c.args.at.0 in
    let e = mapped_entry s c.requires.store c.args.t (page_of at) c.requires.mapped in
    let window = c.requires.store.kept.pages.in_window c.args.t (page_of at) e.0 e.1 in
    let immune : is_immune at ≡ true = immune-below at window ∙ sym c.is_below_regions.ensures ∙ c.if-is_below_regions.true in
    ap (λ (n : ℕ). record s { reads = n }) (c.saturating_add-self.ensures ∙ sym (cond-true {A = ℕ} (is_immune at) (min (s.reads + 1) (2 ^ 64 - 1)) s.reads immune))

pub returns-else-is_below_regions : goal.returns-else-is_below_regions
returns-else-is_below_regions c =
    let s = c.args.self.now in
    let at = c.args.at.0 in
    let e = mapped_entry s c.requires.store c.args.t (page_of at) c.requires.mapped in
    let window = c.requires.store.kept.pages.in_window c.args.t (page_of at) e.0 e.1 in
    let immune : is_immune at ≡ false = immune-below at window ∙ sym c.is_below_regions.ensures ∙ c.if-is_below_regions.false in
    ap (λ (n : ℕ). record s { reads = n }) (sym (cond-false {A = ℕ} (is_immune at) (min (s.reads + 1) (2 ^ 64 - 1)) s.reads immune))
