-- The addresses of the roots, lent to be written.
use Rattle.std.specs.Prelude.{List}
use Rattle.std.specs.Borrow.{Lends, MutBor, Fml, Array}
use Rattle.page_tables.specs.declared.address.Addr.{Addr}
use Rattle.page_tables.specs.contracts.address.Addr.{the_row as address}
use Rattle.root_list.specs.contracts.roots.Roots.{the_row}
use Rattle.root_list.specs.Roots.{RootList, holding}

-- once the borrow is over, the roots hold what was last written
abbrev pub LendsHeld : MutBor RootList → MutBor (List Addr) → Fml
LendsHeld s r = Lends the_row (Array address 0) s r (λ w. record { roots = holding s.now.roots w; ready = s.now.ready })
