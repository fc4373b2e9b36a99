use Rattle.std.proofs.Common.{◌≡◌, ◌∙◌, ◌-◌, replicate, ap, List, ℕ, Some, sym, arith, subst, rules}
use Rattle.std.specs.Prelude.{codes}
use Rattle.gfs2_layout.specs.Area.{slots_of}
use Rattle.gfs2_layout.specs.Putting.{put_slot}
use Rattle.linear_dirs.specs.Shown.{head_for, dots_in}
use Rattle.linear_dirs.proofs.Begun.{begun, begun_slots}
use Rattle.linear_dirs.proofs.beginning.begin.Goals as goal

pub returns-clause-records : goal.returns-clause-records
returns-clause-records c =
    let dot : c.as_slice.result.now ≡ codes "." = search rules in
    let dots : c.as_slice-2.result.now ≡ codes ".." = search rules in
    begun c.clear.new.area c.put_entry.new.area c.put_entry-2.new.area c.args.own c.args.parent c.clear.ensures.slots c.clear.ensures.unused (c.clear.ensures.long ∙ sym c.clear.auto.area) (omega (arith, c.requires.least, c.clear.auto.area))
    c.requires.own_number c.requires.own_address c.requires.parent_number c.requires.parent_address
    (subst (λ (n : List ℕ). put_slot (head_for n c.args.own) n (slots_of c.clear.new.area) ≡ Some (slots_of c.put_entry.new.area)) dot c.put_entry.ensures.put)
    (subst (λ (n : List ℕ). put_slot (head_for n c.args.parent) n (slots_of c.put_entry.new.area) ≡ Some (slots_of c.put_entry-2.new.area)) dots c.put_entry-2.ensures.put)

pub returns-clause-slots : goal.returns-clause-slots
returns-clause-slots c =
    let dot : c.as_slice.result.now ≡ codes "." = search rules in
    let dots : c.as_slice-2.result.now ≡ codes ".." = search rules in
    begun_slots c.clear.new.area c.put_entry.new.area c.put_entry-2.new.area c.args.own c.args.parent c.clear.ensures.slots c.clear.ensures.unused (c.clear.ensures.long ∙ sym c.clear.auto.area) (omega (arith, c.requires.least, c.clear.auto.area))
    c.requires.own_number c.requires.own_address c.requires.parent_number c.requires.parent_address
    (subst (λ (n : List ℕ). put_slot (head_for n c.args.own) n (slots_of c.clear.new.area) ≡ Some (slots_of c.put_entry.new.area)) dot c.put_entry.ensures.put)
    (subst (λ (n : List ℕ). put_slot (head_for n c.args.parent) n (slots_of c.put_entry.new.area) ≡ Some (slots_of c.put_entry-2.new.area)) dots c.put_entry-2.ensures.put)
    (c.clear.ensures.body ∙ ap (λ n. replicate (n - 40) 0) (sym c.clear.auto.area)) ∙ ap (λ n. dots_in n c.args.own c.args.parent) c.clear.auto.area
