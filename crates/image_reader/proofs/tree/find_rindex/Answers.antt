use Rattle.std.proofs.Common.{◌<◌, List, sym, ap, subst, ◌∙◌}
use Rattle.gfs2_layout.specs.Device.{superblock_place}
use Rattle.std.specs.Prelude.{codes, length}
use Rattle.std.specs.List.{All}
use Rattle.image_model.specs.Claims.{Claims, master, master_of}
use Rattle.image_reader.specs.Complete.{AllAreFound}
use Rattle.image_reader.specs.Finding.{IsFoundIn}
use Rattle.image_reader.specs.System.{IsNamedAmong, HasNoneNamed}
use Rattle.image_reader.specs.Untouched.{AreNamedApart}
use Rattle.image_reader.specs.declared.blocks.Blocks.{Blocks}
use Rattle.image_reader.specs.declared.directory.Found.{Found}
use Rattle.image_reader.specs.declared.image.ImageFault.TheVariants.{Damaged}
use Rattle.image_model.specs.Owners.{Master}
use Rattle.image_reader.specs.Reading.{image_at}
use Rattle.image_reader.proofs.InodeFaults.{told_at}
use Rattle.image_reader.proofs.Inside.{block_inside}
use Rattle.image_reader.proofs.MasterFound.{none_found, found_rindex, found_in, only_rindex}
use Rattle.image_reader.proofs.tree.find_rindex.Goals as goal

pub top-requires-clause-claimed : goal.top-requires-clause-claimed
top-requires-clause-claimed c = subst (λ n. Claims (image_at c.args.walk.now.image) (superblock_place c.args.walk.now.image.size) n Master) (sym c.requires.master) master

pub returns-in-Some-clause-rindex : goal.returns-in-Some-clause-rindex
returns-in-Some-clause-rindex c =
    let image = c.args.walk.now.image in
    let at = c.in_ok-top.ensures.number ∙ c.requires.master in
    let going = c.in_ok-go_over.ensures.going in
    let true_of = subst (λ (b : Blocks). All (IsFoundIn b) c.go_over.new.found.items) (c.go_over.ensures.same ∙ c.top.ensures.same) going.true_of in
    let all = subst (λ (b : Blocks). AllAreFound (image_at b) c.in_ok-top.top c.go_over.new.self.owners.entries.items c.go_over.new.found.items) c.top.ensures.same c.in_ok-go_over.ensures.all in
    let named = subst (λ m. IsNamedAmong c.go_over.new.found.items m (codes "rindex") c.in-Some.rindex) c.requires.master (subst (λ (l : List Found). IsNamedAmong l c.args.master (codes "rindex") c.in-Some.rindex) c.deref.ensures.value c.in-Some.ensures.some) in
    found_rindex image c.in_ok-top.top c.go_over.new.self.owners.entries.items c.new-found.result.items c.go_over.new.found.items c.new-found.ensures.items at true_of c.in_ok-go_over.ensures.on.finds all c.in-Some.rindex named

pub returns-in-Some-clause-only : goal.returns-in-Some-clause-only
returns-in-Some-clause-only c =
    let image = c.args.walk.now.image in
    let at = c.in_ok-top.ensures.number ∙ c.requires.master in
    let going = c.in_ok-go_over.ensures.going in
    let true_of = subst (λ (b : Blocks). All (IsFoundIn b) c.go_over.new.found.items) (c.go_over.ensures.same ∙ c.top.ensures.same) going.true_of in
    let all = subst (λ (b : Blocks). AllAreFound (image_at b) c.in_ok-top.top c.go_over.new.self.owners.entries.items c.go_over.new.found.items) c.top.ensures.same c.in_ok-go_over.ensures.all in
    let named = subst (λ m. IsNamedAmong c.go_over.new.found.items m (codes "rindex") c.in-Some.rindex) c.requires.master (subst (λ (l : List Found). IsNamedAmong l c.args.master (codes "rindex") c.in-Some.rindex) c.deref.ensures.value c.in-Some.ensures.some) in
    let apart = subst (λ n. AreNamedApart n c.go_over.new.found.items) c.new-found.ensures.len c.in_ok-go_over.ensures.apart in
    only_rindex image c.in_ok-top.top c.go_over.new.self.owners.entries.items c.new-found.result.items c.go_over.new.found.items c.new-found.ensures.items at true_of c.in_ok-go_over.ensures.on.finds all c.in-Some.rindex named apart

pub returns-in-Some-clause-image : goal.returns-in-Some-clause-image
returns-in-Some-clause-image c =
    let image = c.args.walk.now.image in
    let at = c.in_ok-top.ensures.number ∙ c.requires.master in
    let going = c.in_ok-go_over.ensures.going in
    let true_of = subst (λ (b : Blocks). All (IsFoundIn b) c.go_over.new.found.items) (c.go_over.ensures.same ∙ c.top.ensures.same) going.true_of in
    let all = subst (λ (b : Blocks). AllAreFound (image_at b) c.in_ok-top.top c.go_over.new.self.owners.entries.items c.go_over.new.found.items) c.top.ensures.same c.in_ok-go_over.ensures.all in
    let named = subst (λ m. IsNamedAmong c.go_over.new.found.items m (codes "rindex") c.in-Some.rindex) c.requires.master (subst (λ (l : List Found). IsNamedAmong l c.args.master (codes "rindex") c.in-Some.rindex) c.deref.ensures.value c.in-Some.ensures.some) in
    found_in image c.in_ok-top.top c.go_over.new.self.owners.entries.items c.new-found.result.items c.go_over.new.found.items c.new-found.ensures.items at true_of c.in_ok-go_over.ensures.on.finds all c.in-Some.rindex named

pub returns-clause-damaged : goal.returns-clause-damaged
returns-clause-damaged c =
    let image = c.args.walk.now.image in
    let at = c.in_ok-top.ensures.number ∙ c.requires.master in
    let going = c.in_ok-go_over.ensures.going in
    let true_of = subst (λ (b : Blocks). All (IsFoundIn b) c.go_over.new.found.items) (c.go_over.ensures.same ∙ c.top.ensures.same) going.true_of in
    let all = subst (λ (b : Blocks). AllAreFound (image_at b) c.in_ok-top.top c.go_over.new.self.owners.entries.items c.go_over.new.found.items) c.top.ensures.same c.in_ok-go_over.ensures.all in
    let none = subst (λ m. HasNoneNamed c.go_over.new.found.items (length c.go_over.new.found.items) m (codes "rindex")) c.requires.master (subst (λ (l : List Found). HasNoneNamed l (length l) c.args.master (codes "rindex")) c.deref.ensures.value c.in-None.ensures.none) in
    told_at image _ (master_of (image_at image)) 18 (c.damaged.ensures ∙ ap (λ n. Damaged n 18) c.requires.master)
    (subst (λ n. n < image.count) at (block_inside c.in_ok-top.top.inode.block image c.in_ok-top.ensures.image)) (none_found image c.in_ok-top.top c.go_over.new.self.owners.entries.items c.new-found.result.items c.go_over.new.found.items c.new-found.ensures.items at true_of c.in_ok-go_over.ensures.on.finds all none)
