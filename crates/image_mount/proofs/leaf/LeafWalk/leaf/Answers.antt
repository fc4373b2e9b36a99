use Rattle.std.proofs.Common.{◌≡◌, ◌+◌, ◌≤◌, ◌^◌, inl, vec_len, sym, ap, ◌∙◌, subst, arith}
use Rattle.image_mount.specs.Found.{IsReached}
use Rattle.image_mount.specs.Leaves.{ComesNext, IsLinkBy, IsOpen}
use Rattle.image_mount.specs.declared.leaf.LeafAt.{LeafAt}
use Rattle.image_mount.proofs.Numbered.{at_some}
use Rattle.image_mount.proofs.Stops.{given}
use Rattle.image_mount.proofs.leaf.LeafWalk.leaf.Goals as goal

pub leaf_behind-requires-clause-place : goal.leaf_behind-requires-clause-place
leaf_behind-requires-clause-place c =
    let walk = c.args.self.now in
    let linked = subst (IsLinkBy walk c.args.pointers.now c.args.link.now.number) c.in-Some.is c.requires.linked in
    omega (arith, at_some walk.tail c.in-Some.tail (λ (a : LeafAt). a.place + walk.owners.free ≤ vec_len walk.owners.entries) linked.0 walk.short, c.requires.count)

pub returns-in-Some-clause-next : goal.returns-in-Some-clause-next
returns-in-Some-clause-next c =
    let linked = subst (IsLinkBy c.args.self.now c.args.pointers.now c.args.link.now.number) c.in-Some.is c.requires.linked in
    given c.leaf_behind.result _ (ComesNext c.args.self.now) c.leaf_behind.ensures.behind
    (λ at is. inl (c.in-Some.tail, linked.0, record { more = linked.1; block = is.0; hash = is.1; place = is.2; pointer = is.3; behind = is.4; depth = is.5 }))

pub returns-in-Some-clause-run : goal.returns-in-Some-clause-run
returns-in-Some-clause-run c =
    let walk = c.args.self.now in
    let linked = subst (IsLinkBy walk c.args.pointers.now c.args.link.now.number) c.in-Some.is c.requires.linked in
    let behind = at_some walk.tail c.in-Some.tail (λ (a : LeafAt). a.behind ≡ walk.index) linked.0 walk.behind in
    given c.leaf_behind.result _ (λ (a : LeafAt). a.behind ≤ 2 ^ c.args.pointers.now.depth) c.leaf_behind.ensures.behind (λ at is. omega (arith, is.4, behind, c.requires.within))

pub returns-in-Some-clause-found : goal.returns-in-Some-clause-found
returns-in-Some-clause-found c im inode of walk same reached =
    let linked = subst (IsLinkBy c.args.self.now c.args.pointers.now c.args.link.now.number) c.in-Some.is c.requires.linked in
    let opened = at_some c.args.self.now.tail c.in-Some.tail (IsOpen im inode.block c.args.self.now) linked.0 walk.opened in
    c.leaf_behind.ensures.found im inode.block (ap im.at (sym linked.2) ∙ same) (subst (IsReached im) linked.2 reached) of.depth opened.is linked.1

pub returns-in-Some-clause-refused : goal.returns-in-Some-clause-refused
returns-in-Some-clause-refused c im inode of walk same reached =
    let linked = subst (IsLinkBy c.args.self.now c.args.pointers.now c.args.link.now.number) c.in-Some.is c.requires.linked in
    let opened = at_some c.args.self.now.tail c.in-Some.tail (IsOpen im inode.block c.args.self.now) linked.0 walk.opened in
    c.leaf_behind.ensures.refused im inode.block (ap im.at (sym linked.2) ∙ same) (subst (IsReached im) linked.2 reached) of.file.format of.depth opened.is linked.1

pub returns-in-None-clause-found : goal.returns-in-None-clause-found
returns-in-None-clause-found c im inode of walk same reached =
    let linked = subst (IsLinkBy c.args.self.now c.args.pointers.now c.args.link.now.number) c.in-None.is c.requires.linked in
    c.leaf_of_pointer.ensures.found im inode of (record { some = λ e. linked.3 (linked.2 ∙ e); reached = subst (IsReached im) linked.2 reached; is = ap im.at (sym linked.2) ∙ same })

pub returns-in-None-clause-refused : goal.returns-in-None-clause-refused
returns-in-None-clause-refused c im inode of walk same reached =
    let linked = subst (IsLinkBy c.args.self.now c.args.pointers.now c.args.link.now.number) c.in-None.is c.requires.linked in
    c.leaf_of_pointer.ensures.refused im inode of (record { some = λ e. linked.3 (linked.2 ∙ e); reached = subst (IsReached im) linked.2 reached; is = ap im.at (sym linked.2) ∙ same })
