use Rattle.std.proofs.Common.{◌≡◌, ◌∙◌, length, sym, subst, vec_len, rules}
use Rattle.image_reader.specs.Going.{IsOf}
use Rattle.image_reader.specs.Reading.{image_at}
use Rattle.image_reader.specs.Untouched.{AreNamedApart, AreTwinsBroken}
use Rattle.image_reader.proofs.Going.{all_of_image, ok_then}
use Rattle.image_reader.proofs.Twins.{twins_broken}
use Rattle.image_reader.proofs.walk.Walk.go_over.Goals as goal

pub returns-clause-damaged : goal.returns-clause-damaged
returns-clause-damaged c =
    let image = c.args.self.now.image in
    let i = c.in_ok-inode.ensures in
    let len : length c.args.found.now.items ≡ vec_len c.args.found.now = search rules in
    let broken = twins_broken image (IsOf c.args.visit.now.inode.block.number) c.args.visit.now c.args.self.now.owners.entries.items c.inode.new.self.owners.entries.items c.args.found.now.items c.inode.new.found.items
    (all_of_image c.inode.new.self.image image c.inode.new.found.items i.same i.going.true_of) i.on in
    c.check_names.ensures.damaged image
    (subst (λ n. AreTwinsBroken (image_at image) n c.deref.result.now) (len ∙ sym c.len-before.ensures)
    (subst (AreTwinsBroken (image_at image) (length c.args.found.now.items)) (sym c.deref.ensures.value) broken))

pub returns-clause-apart : goal.returns-clause-apart
returns-clause-apart c =
    ok_then c.check_names.result (AreNamedApart c.len-before.result c.deref.result.now) (AreNamedApart (vec_len c.args.found.now) c.inode.new.found.items)
    (λ apart. subst (λ n. AreNamedApart n c.inode.new.found.items) c.len-before.ensures (subst (AreNamedApart c.len-before.result) c.deref.ensures.value apart)) c.check_names.ensures.apart
