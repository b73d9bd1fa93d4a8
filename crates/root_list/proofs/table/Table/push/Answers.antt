use Rattle.std.proofs.Common.{◌≡◌, ◌∙◌, ◌+◌, ◌++◌, ◌∷◌, [], Some, ap, sym, subst, cond, length, arith, length-append}
use Rattle.class_layout.specs.Names.{same_name}
use Rattle.root_list.specs.Places.{roots_of, place_of, AreApart}
use Rattle.root_list.proofs.PlaceLemmas.{root-push, place-push, apart-push, length-push}
use Rattle.root_list.proofs.table.Table.push.Goals as goal

pub returns-clause-roots : goal.returns-clause-roots
returns-clause-roots c =
    let ns = c.args.self.now.names.items in
    let ats = c.args.self.now.addresses.items in
    ap (λ ps. roots_of ps c.push_reserved-2.new.self.items) c.push_reserved.ensures.items
    ∙ ap (λ as'. roots_of (ns ++ Some c.args.name ∷ []) as') c.push_reserved-2.ensures.items
    ∙ root-push ns ats c.args.name c.args.holds c.requires.table.long c.requires.fresh

pub returns-clause-table : goal.returns-clause-table
returns-clause-table c =
    let t = c.requires.table in
    let ns = c.args.self.now.names.items in
    let ats = c.args.self.now.addresses.items in
    let i1 = c.push_reserved.ensures.items in
    let i2 = c.push_reserved-2.ensures.items in
    let e1 : length c.push_reserved.new.self.items ≡ length ns + 1 = ap length i1 ∙ length-append ns (Some c.args.name ∷ []) in
    let e2 : length c.push_reserved-2.new.self.items ≡ length ats + 1 = ap length i2 ∙ length-append ats (c.args.holds ∷ []) in
    let roots : length (roots_of c.push_reserved.new.self.items c.push_reserved-2.new.self.items) ≡ length (roots_of ns ats) + 1 =
    ap (λ ps. length (roots_of ps c.push_reserved-2.new.self.items)) i1
    ∙ ap (λ as'. length (roots_of (ns ++ Some c.args.name ∷ []) as')) i2
    ∙ length-push ns ats c.args.name c.args.holds t.long in
    let count : c.len.result ≡ length ns = omega (arith, c.len.ensures) in
    record {
      long = omega (arith, e1, e2, t.long);
      apart = subst AreApart (sym i1) (apart-push ns c.args.name c.requires.fresh t.apart);
      found = λ q.
          c.insert_new.ensures.found q
          ∙ ap (λ o. cond (same_name c.args.name q) (Some c.len.result) o) (t.found q)
          ∙ ap (λ k. cond (same_name c.args.name q) (Some k) (place_of ns q)) count
          ∙ place-push ns c.args.name q c.requires.fresh
          ∙ ap (λ ps. place_of ps q) (sym i1);
      count = omega (arith, c.insert_new.ensures.count, t.count, roots);
      room = λ r. absurd (cc);
    }
