use Rattle.std.proofs.Common.{◌≡◌, ◌∙◌, true, ap, sym, subst}
use Rattle.gfs2_layout.specs.Device.{superblock_place}
use Rattle.gfs2_layout.specs.Inode.{is_hashed_in}
use Rattle.gfs2_layout.specs.declared.superblock.SuperBlock.{SuperBlock}
use Rattle.image_model.specs.Claims.{every}
use Rattle.image_mount.specs.Leaves.{HasReadDirectory}
use Rattle.image_mount.specs.Marked.{IsKept}
use Rattle.image_mount.specs.System.{IsNamedBy}
use Rattle.image_mount.proofs.Marked.{grown_on}
use Rattle.image_mount.proofs.Marks.{shows_now}
use Rattle.image_mount.proofs.Stops.{refused}
use Rattle.image_mount.proofs.Systems.{directory_stays, system_of}
use Rattle.image_mount.proofs.mounting.search_system.Goals as goal

pub returns-in_err-master-clause-refused : goal.returns-in_err-master-clause-refused
returns-in_err-master-clause-refused g c im shows known = refused im _ _ c.from_residual.ensures.1 (c.in_err-master.ensures.refused im shows c.requires.few known)

pub returns-in_err-names-clause-refused : goal.returns-in_err-names-clause-refused
returns-in_err-names-clause-refused g c im shows known =
    let m = c.in_ok-master.ensures in
    refused im _ _ c.from_residual-in_err-names.ensures.1
    (c.in_err-names.ensures.refused im (shows_now _ _ im m.reads.same shows) (m.found im shows c.requires.few known).inode (m.searched im shows c.requires.few known))

pub returns-in_err-ground-clause-refused : goal.returns-in_err-ground-clause-refused
returns-in_err-ground-clause-refused g c im shows known =
    let n = c.in_ok-names.ensures in
    let master = c.in_ok-master.ensures.found im shows c.requires.few known in
    let known1 = c.in_ok-master.ensures.searched im shows c.requires.few known in
    let shows1 = shows_now _ _ im c.in_ok-master.ensures.reads.same shows in
    let shows2 = shows_now _ _ im (n.reads.same ∙ c.in_ok-master.ensures.reads.same) shows in
    let named = subst (IsNamedBy im c.in_ok-master.master) (sym c.deref.ensures.value) (n.found im shows1 master.inode known1) in
    let known2 = n.searched im shows1 master.inode known1 in
    refused im _ _ c.from_residual-in_err-ground.ensures.1 (c.in_err-ground.ensures.refused im shows2 master named known2)

pub returns-in_err-journals-clause-refused : goal.returns-in_err-journals-clause-refused
returns-in_err-journals-clause-refused g c im shows known =
    let n = c.in_ok-names.ensures in
    let master = c.in_ok-master.ensures.found im shows c.requires.few known in
    let known1 = c.in_ok-master.ensures.searched im shows c.requires.few known in
    let shows1 = shows_now _ _ im c.in_ok-master.ensures.reads.same shows in
    let shows2 = shows_now _ _ im (n.reads.same ∙ c.in_ok-master.ensures.reads.same) shows in
    let named = subst (IsNamedBy im c.in_ok-master.master) (sym c.deref.ensures.value) (n.found im shows1 master.inode known1) in
    let known2 = n.searched im shows1 master.inode known1 in
    let gr = c.in_ok-ground.ensures in
    let ground = c.in_ok-ground.ground in
    let shows3 = shows_now _ _ im (gr.reads.same ∙ n.reads.same ∙ c.in_ok-master.ensures.reads.same) shows in
    let is = gr.found im shows2 master named known2 in
    let known3 = gr.searched im shows2 master named known2 in
    refused im _ _ c.from_residual-in_err-journals.ensures.1 (c.in_err-journals.ensures.refused im shows3 is.jindex known3)

pub returns-clause-searched : goal.returns-clause-searched
returns-clause-searched g c im shows known =
    let n = c.in_ok-names.ensures in
    let master = c.in_ok-master.ensures.found im shows c.requires.few known in
    let known1 = c.in_ok-master.ensures.searched im shows c.requires.few known in
    let shows1 = shows_now _ _ im c.in_ok-master.ensures.reads.same shows in
    let shows2 = shows_now _ _ im (n.reads.same ∙ c.in_ok-master.ensures.reads.same) shows in
    let named = subst (IsNamedBy im c.in_ok-master.master) (sym c.deref.ensures.value) (n.found im shows1 master.inode known1) in
    let known2 = n.searched im shows1 master.inode known1 in
    let gr = c.in_ok-ground.ensures in
    let ground = c.in_ok-ground.ground in
    let shows3 = shows_now _ _ im (gr.reads.same ∙ n.reads.same ∙ c.in_ok-master.ensures.reads.same) shows in
    let is = gr.found im shows2 master named known2 in
    let known3 = gr.searched im shows2 master named known2 in
    c.in_ok-journals.ensures.searched im shows3 is.jindex known3

pub returns-clause-found : goal.returns-clause-found
returns-clause-found g c im shows known =
    let n = c.in_ok-names.ensures in
    let master = c.in_ok-master.ensures.found im shows c.requires.few known in
    let known1 = c.in_ok-master.ensures.searched im shows c.requires.few known in
    let shows1 = shows_now _ _ im c.in_ok-master.ensures.reads.same shows in
    let shows2 = shows_now _ _ im (n.reads.same ∙ c.in_ok-master.ensures.reads.same) shows in
    let named = subst (IsNamedBy im c.in_ok-master.master) (sym c.deref.ensures.value) (n.found im shows1 master.inode known1) in
    let known2 = n.searched im shows1 master.inode known1 in
    let gr = c.in_ok-ground.ensures in
    let ground = c.in_ok-ground.ground in
    let shows3 = shows_now _ _ im (gr.reads.same ∙ n.reads.same ∙ c.in_ok-master.ensures.reads.same) shows in
    let is = gr.found im shows2 master named known2 in
    let known3 = gr.searched im shows2 master named known2 in
    system_of im ground c.in_ok-journals.journals is (c.in_ok-journals.ensures.found im shows3 is.jindex known3)

pub returns-clause-grown : goal.returns-clause-grown
returns-clause-grown g c =
    grown_on c.args.table.now c.search_groundwork.new.table c.search_journals.new.table
    (grown_on c.args.table.now c.search_names.new.table c.search_groundwork.new.table (grown_on c.args.table.now c.search_master.new.table c.search_names.new.table c.in_ok-master.ensures.grown c.in_ok-names.ensures.grown) c.in_ok-ground.ensures.grown)
    c.in_ok-journals.ensures.grown

pub returns-clause-dinodes : goal.returns-clause-dinodes
returns-clause-dinodes g c im shows known =
    let m = c.in_ok-master.ensures in
    let n = c.in_ok-names.ensures in
    let gr = c.in_ok-ground.ensures in
    let j = c.in_ok-journals.ensures in
    let block = c.in_ok-master.master.inode.block in
    record {
      master = subst (IsKept c.search_journals.new.table) (m.found im shows c.requires.few known).inode.block (j.grown.stays block (gr.grown.stays block (n.grown.stays block m.there)));
      rindex = j.grown.stays c.in_ok-ground.ground.rindex gr.rindex;
      jindex = j.grown.stays c.in_ok-ground.ground.jindex.block gr.jindex;
    }

pub returns-clause-read : goal.returns-clause-read
returns-clause-read g c im shows known =
    let n = c.in_ok-names.ensures in
    let master = c.in_ok-master.ensures.found im shows c.requires.few known in
    let known1 = c.in_ok-master.ensures.searched im shows c.requires.few known in
    let shows1 = shows_now _ _ im c.in_ok-master.ensures.reads.same shows in
    let shows2 = shows_now _ _ im (n.reads.same ∙ c.in_ok-master.ensures.reads.same) shows in
    let named = subst (IsNamedBy im c.in_ok-master.master) (sym c.deref.ensures.value) (n.found im shows1 master.inode known1) in
    let known2 = n.searched im shows1 master.inode known1 in
    let gr = c.in_ok-ground.ensures in
    let ground = c.in_ok-ground.ground in
    let shows3 = shows_now _ _ im (gr.reads.same ∙ n.reads.same ∙ c.in_ok-master.ensures.reads.same) shows in
    let is = gr.found im shows2 master named known2 in
    let known3 = gr.searched im shows2 master named known2 in
    let m = c.in_ok-master.ensures in
    let j = c.in_ok-journals.ensures in
    let place = superblock_place (g.D.SharedDisk.state c.args.disk.now).size in
    let at : c.in_ok-master.master.inode.block ≡ ground.superblock.master.address = master.inode.block ∙ sym (ap (λ (s : SuperBlock). s.master.address) is.superblock) in
    let on = grown_on c.search_names.new.table c.search_groundwork.new.table c.search_journals.new.table gr.grown j.grown in
    record {
      superblock = subst (λ s. IsKept c.search_journals.new.table (superblock_place s)) (sym shows.size) (on.stays place (n.grown.stays place m.superblock));
      master = subst (λ a. is_hashed_in (every im a) ≡ true → HasReadDirectory im c.search_journals.new.table a) at
          (λ hashed. directory_stays im c.search_names.new.table c.search_journals.new.table c.in_ok-master.master.inode.block on (n.read im shows1 master.inode known1 hashed));
      rindex = λ p i level first b leads within. j.grown.stays b (gr.content im shows2 master named known2 p i level first b leads within);
      jindex = λ hashed. j.read im shows3 is.jindex known3 hashed;
    }
