use Rattle.std.proofs.Common.{◌≡◌, ◌≤◌, ℕ, ap, ◌∙◌, subst, rules}
use Rattle.std.specs.List.{filter}
use Rattle.std.specs.Ordering.{nat_cmp}
use Rattle.std.specs.FinMap as map
use Rattle.std.proofs.lemmas.Fn.{filter_same}
use Rattle.fixed_tables.specs.Fixed.{Fixed, left_by}
use Rattle.fixed_tables.proofs.Tables.{keep_stays, keeps, keeps_fewer}
use Rattle.fixed_tables.proofs.table.FixedTable.keep.Given.{Over}
use Rattle.fixed_tables.proofs.table.FixedTable.keep.Goals as goal
use Rattle.fixed_tables.proofs.table.FixedTable.keep.Goals.{After-retain}

-- the rows that pass the test
filtered : (g : Over) (c : After-retain g) → c.retain.new.self.items ≡ filter (λ (e : ℕ × g.row.V.Denot). g.T.RowTest.stays c.args.test.now e.0 e.1) c.self.inside.rows.items
filtered g c = filter_same _ (λ (e : ℕ × g.row.V.Denot). g.T.RowTest.stays c.args.test.now e.0 e.1) _ (λ x b f called. search rules) c.self.inside.rows.items c.retain.new.self.items c.retain.ensures.filtered

pub invariant_of-self : goal.invariant_of-self
invariant_of-self g c = keep_stays (g.T.RowTest.stays c.args.test.now) c.self.inside c.self.invariant c.retain.new.self (filtered g c) c.retain.ensures.bound c.retain.ensures.capacity

pub returns : goal.returns
returns g c = record {
  left = λ q. keeps (g.T.RowTest.stays c.args.test.now) c.self.inside c.self.invariant c.retain.new.self (filtered g c) q
      ∙ ap (λ (f : Fixed g.row.V.Denot). left_by (g.T.RowTest.stays c.args.test.now q) (map.get f.at q)) c.self.view_is;
  fewer = subst (λ (f : Fixed g.row.V.Denot). map.len (map.from_sorted {R = nat_cmp} c.retain.new.self.items) ≤ map.len f.at) c.self.view_is
      (keeps_fewer (g.T.RowTest.stays c.args.test.now) c.self.inside c.self.invariant c.retain.new.self (filtered g c) c.retain.ensures.bound);
  room = ap (λ (f : Fixed g.row.V.Denot). f.room) c.self.view_is;
}
