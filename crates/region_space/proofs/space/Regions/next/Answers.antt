use Rattle.std.proofs.Common.{◌≡◌, ◌∙◌, ◌+◌, ◌-◌, ◌<◌, ◌≤◌, ◌/◌, ℕ, Bool, Some, nat_lt, List, ap, sym, subst, arith}
use Rattle.std.specs.Prelude.{if◌then◌else◌, is_some, option_map}
use Rattle.std.proofs.lemmas.Bool.{le-ltb, lt-ltb}
use Rattle.model_numbers.specs.Numbers.{region_base, region_bytes}
use Rattle.page_tables.specs.declared.address.Addr.{Addr}
use Rattle.region_lists.specs.Rows.{Lists, Row, row_behind, row_of}
use Rattle.region_space.specs.Pages.{IsObjectIn, next_in, start_of}
use Rattle.region_space.specs.Space.{IsSpace, base_of, lists_of}
use Rattle.region_space.proofs.WalkLemmas.{Found, Placed, behind-holds, found, in_use-apart, in_use-within, placed}
use Rattle.region_space.proofs.space.Regions.next.Goals as goal

-- the object's row, and its region by the address
record IsIn (s now : Lists) (at size : ℕ) : Type 0 where
  f : Found s.in_use at size
  p : Placed s at size f.row
  next : next_in now.in_use at size ≡ next_in s.in_use at size
  few : s.count ≤ 1024

is-in : (s now : Lists) (at size : ℕ) → s ≡ now → IsSpace s → IsObjectIn now.in_use at size → IsIn s now at size
is-in s now at size same space there =
    let here = subst (λ (it : Lists). IsObjectIn it.in_use at size) (sym same) there in
    let f = found s.in_use at size (in_use-apart s space) here.there in
    record { f = f; p = placed s at size space here.some f; next = ap (λ (it : Lists). next_in it.in_use at size) (sym same); few = space.few }

fill-is : (rows : List Row) (region index fill : ℕ) (row : Row) → index ≡ region → row_of rows region ≡ Some row → option_map (λ (row : Row). row.fill) (row_of rows index) ≡ Some fill → row.fill ≡ fill
fill-is rows region index fill row at is fills =
    let both : Some row.fill ≡ Some fill = sym (ap (λ k. option_map (λ (it : Row). it.fill) (row_of rows k)) at ∙ ap (option_map (λ (it : Row). it.fill)) is) ∙ fills in
    cc

goes-on : (s now : Lists) (at size base fill : ℕ) → IsIn s now at size → base ≡ base_of ((at - region_base) / region_bytes)
    → option_map (λ (row : Row). row.fill) (row_of s.in_use ((at - region_base) / region_bytes)) ≡ Some fill
    → next_in now.in_use at size ≡ (if nat_lt (at + size) (base + fill) then Some (at + size) else start_of (row_behind s.in_use ((at - region_base) / region_bytes)))
goes-on s now at size base fill i start fills =
    let row = i.f.row in
    let filled = fill-is s.in_use row.region ((at - region_base) / region_bytes) fill row i.p.region i.f.is fills in
    let base_is : base ≡ base_of row.region = start ∙ ap base_of i.p.region in
    i.next ∙ i.f.next
    ∙ sym (ap (λ k. if nat_lt (at + size) (k + fill) then Some (at + size) else start_of (row_behind s.in_use ((at - region_base) / region_bytes))) base_is
    ∙ ap (λ k. if nat_lt (at + size) (base_of row.region + k) then Some (at + size) else start_of (row_behind s.in_use ((at - region_base) / region_bytes))) (sym filled)
    ∙ ap (λ k. if nat_lt (at + size) (base_of row.region + row.fill) then Some (at + size) else start_of (row_behind s.in_use k)) i.p.region)

pub overflow_sub-region : goal.overflow_sub-region
overflow_sub-region c =
    let i = is-in c.self.inside.lists (lists_of c.args.self.now) c.args.at.0 c.args.size (ap lists_of c.self.view_is) c.self.invariant.0 c.requires in
    omega (arith, i.p.from)

pub overflow_add-end : goal.overflow_add-end
overflow_add-end c =
    let i = is-in c.self.inside.lists (lists_of c.args.self.now) c.args.at.0 c.args.size (ap lists_of c.self.view_is) c.self.invariant.0 c.requires in
    omega (arith, i.p.to, i.p.most, i.p.within, i.few)

pub base_of-requires : goal.base_of-requires
base_of-requires c =
    let i = is-in c.self.inside.lists (lists_of c.args.self.now) c.args.at.0 c.args.size (ap lists_of c.self.view_is) c.self.invariant.0 c.requires in
    omega (arith, i.p.region, i.p.within, i.few)

pub fill-requires : goal.fill-requires
fill-requires c =
    let i = is-in c.self.inside.lists (lists_of c.args.self.now) c.args.at.0 c.args.size (ap lists_of c.self.view_is) c.self.invariant.0 c.requires in
    ap (λ k. is_some (row_of c.self.inside.lists.in_use k)) i.p.region ∙ ap is_some i.f.is

pub overflow_add-base_of : goal.overflow_add-base_of
overflow_add-base_of c =
    let s = c.self.inside.lists in
    let i = is-in s (lists_of c.args.self.now) c.args.at.0 c.args.size (ap lists_of c.self.view_is) c.self.invariant.0 c.requires in
    let filled = fill-is s.in_use i.f.row.region ((c.args.at.0 - region_base) / region_bytes) c.fill.result i.f.row i.p.region i.f.is c.fill.ensures in
    omega (arith, c.base_of.ensures, i.p.region, i.p.within, i.few, i.p.most, filled)

pub returns-then-end-base_of : goal.returns-then-end-base_of
returns-then-end-base_of c =
    let s = c.self.inside.lists in
    let at = c.args.at.0 in
    let size = c.args.size in
    let i = is-in s (lists_of c.args.self.now) at size (ap lists_of c.self.view_is) c.self.invariant.0 c.requires in
    sym (goes-on s (lists_of c.args.self.now) at size c.base_of.result c.fill.result i c.base_of.ensures c.fill.ensures
    ∙ ap (λ (b : Bool). if b then Some (at + size) else start_of (row_behind s.in_use ((at - region_base) / region_bytes))) (lt-ltb (at + size) (c.base_of.result + c.fill.result) c.if-end-base_of.true))

pub returns-in_err-row : goal.returns-in_err-row
returns-in_err-row c =
    let s = c.self.inside.lists in
    let at = c.args.at.0 in
    let size = c.args.size in
    let i = is-in s (lists_of c.args.self.now) at size (ap lists_of c.self.view_is) c.self.invariant.0 c.requires in
    sym (goes-on s (lists_of c.args.self.now) at size c.base_of.result c.fill.result i c.base_of.ensures c.fill.ensures
    ∙ ap (λ (b : Bool). if b then Some (at + size) else start_of (row_behind s.in_use ((at - region_base) / region_bytes))) (le-ltb (at + size) (c.base_of.result + c.fill.result) (omega (arith, c.if-end-base_of.false)))
    ∙ ap start_of (sym c.in_err-row.ensures)
    ∙ sym (ap (option_map (λ (it : Addr). it.0)) c.from_residual.ensures))

pub base_of-requires-2 : goal.base_of-requires-2
base_of-requires-2 c =
    let s = c.self.inside.lists in
    let within = behind-holds (λ (row : Row). row.region < s.count) s.in_use ((c.args.at.0 - region_base) / region_bytes) _ (sym c.in_ok-row.ensures) (in_use-within s c.self.invariant.0) in
    omega (arith, within, c.self.invariant.0.few)

pub returns : goal.returns
returns c =
    let s = c.self.inside.lists in
    let at = c.args.at.0 in
    let size = c.args.size in
    let i = is-in s (lists_of c.args.self.now) at size (ap lists_of c.self.view_is) c.self.invariant.0 c.requires in
    sym (goes-on s (lists_of c.args.self.now) at size c.base_of.result c.fill.result i c.base_of.ensures c.fill.ensures
    ∙ ap (λ (b : Bool). if b then Some (at + size) else start_of (row_behind s.in_use ((at - region_base) / region_bytes))) (le-ltb (at + size) (c.base_of.result + c.fill.result) (omega (arith, c.if-end-base_of.false)))
    ∙ ap start_of (sym c.in_ok-row.ensures)
    ∙ ap (λ k. Some k) (sym c.base_of-2.ensures))
