use Rattle.std.proofs.Common.{◌≡◌, [], length, sym, ap, subst, arith, ◌∙◌}
use Rattle.shared_disk.specs.Disk.{DiskState}
use Rattle.image_mount.specs.Found.{IsReached}
use Rattle.image_mount.specs.Leaves.{AreLeavesRead, IsWalked}
use Rattle.image_mount.specs.Marked.{IsTaken}
use Rattle.image_mount.specs.Refusals.{HasRisen, LiesWithin}
use Rattle.image_mount.specs.Searching.{IsWanted}
use Rattle.image_mount.specs.declared.leaf.LeafLink.{LeafLink}
use Rattle.image_mount.proofs.LeafWalks.{next_leaf_in}
use Rattle.image_model.proofs.Lengths.{size_large}
use Rattle.image_mount.proofs.Marked.{grown_none, grown_on}
use Rattle.image_mount.proofs.Marks.{bytes_shown, go_refused, read_shown, shows_now, wanted_reached, wanted_system}
use Rattle.image_mount.proofs.Numbered.{at_some}
use Rattle.image_mount.proofs.Stops.{handed, refused, steady_risen, steady_within}
use Rattle.image_mount.proofs.Working.{refilled}
use Rattle.shared_disk.proofs.ReadLaws.{reads_none, reads_on}
use Rattle.image_mount.proofs.walking.walk_leaves.Goals as goal

pub loop-link-init : goal.loop-link-init
loop-link-init g c = record {
  work = c.requires.work;
  grown = grown_none c.args.table.now;
  count = c.in_ok-walk.ensures.count ∙ c.blocks-2.ensures.value;
  size = omega (arith, c.in_ok-bytes.bytes.ok.0, c.in_ok-bytes.ensures.len, c.block_size-size.ensures.value, c.requires.work.size);
  within = omega (arith, c.in_ok-walk.ensures.index);
  walked = λ im shows of for known. c.in_ok-walk.ensures.walked im c.args.inode.now.block;
  read = c.in_ok-walk.ensures.none c.args.inode.now.block c.args.table.now;
  directory = c.in_ok-walk.ensures.directory;
  names = c.in_ok-walk.ensures.names;
  searched = λ im shows of for known. known;
  reads = reads_none;
}

pub returns-in_err-read_leaf-in-Ok-Some-clause-refused : goal.returns-in_err-read_leaf-in-Ok-Some-clause-refused
returns-in_err-read_leaf-in-Ok-Some-clause-refused g c im shows of for known =
    let inv = c.loop-link.invariant in
    let walk = inv.walked im shows of for known in
    let known' = inv.searched im shows of for known in
    let read = read_shown _ _ im [] 0 0 _ inv.reads.same inv.work shows known' in
    let wanted = at_some c.in-Ok-Some.field-0 c.in-Ok-Some.link (λ (l : LeafLink). IsWanted im l.number l.by) c.in-Ok-Some.field-0-is (c.in-Ok-Some.ensures.wanted im read of walk) in
    refused im _ _ c.from_residual-in_err-read_leaf-in-Ok-Some.ensures.1
    (c.in_err-read_leaf-in-Ok-Some.ensures.refused [] 0 0 im (shows_now _ _ im inv.reads.same shows) wanted known')

pub leaf-requires-clause-whole : goal.leaf-requires-clause-whole
leaf-requires-clause-whole g c =
    let inv = c.loop-link.invariant in
    omega (arith, ap length c.deref.ensures.value, ap length (refilled c.read_leaf.new.into c.loop-link.bytes.items c.loop-link.bytes.len c.loop-link.bytes.ok.0 (c.read_leaf.auto.into ∙ ap length c.deref_mut.ensures.value)), (c.read_leaf.auto.into ∙ ap length c.deref_mut.ensures.value), inv.size, size_large _ c.block_size-size.ensures.view.block_size, c.block_size-size.ensures.value, c.requires.work.size)

pub returns-in_err-at-in-Ok-Some-clause-refused : goal.returns-in_err-at-in-Ok-Some-clause-refused
returns-in_err-at-in-Ok-Some-clause-refused g c im shows of for known =
    let inv = c.loop-link.invariant in
    let walk = inv.walked im shows of for known in
    let known' = inv.searched im shows of for known in
    let read = read_shown _ _ im [] 0 0 _ inv.reads.same inv.work shows known' in
    let wanted = at_some c.in-Ok-Some.field-0 c.in-Ok-Some.link (λ (l : LeafLink). IsWanted im l.number l.by) c.in-Ok-Some.field-0-is (c.in-Ok-Some.ensures.wanted im read of walk) in
    let reached : IsReached im c.in-Ok-Some.link.number = wanted_reached im c.in-Ok-Some.link.number c.in-Ok-Some.link.by wanted (omega (arith, c.in_ok-read_leaf-in-Ok-Some.ensures.inside, ap (λ (s : DiskState). s.count) inv.reads.same, shows.count)) in
    let same = bytes_shown _ _ im c.in-Ok-Some.link.number c.read_leaf.new.into inv.reads.same shows (wanted_system im c.in-Ok-Some.link.number c.in-Ok-Some.link.by wanted) c.in_ok-read_leaf-in-Ok-Some.ensures.bytes in
    refused im _ _ c.from_residual-in_err-at-in-Ok-Some.ensures.1
    (c.in_err-at-in-Ok-Some.ensures.refused im c.args.inode.now of walk (same ∙ sym (refilled c.read_leaf.new.into c.loop-link.bytes.items c.loop-link.bytes.len c.loop-link.bytes.ok.0 (c.read_leaf.auto.into ∙ ap length c.deref_mut.ensures.value)) ∙ sym c.deref.ensures.value) reached)

pub enter-requires-clause-whole : goal.enter-requires-clause-whole
enter-requires-clause-whole g c =
    let inv = c.loop-link.invariant in
    omega (arith, ap length c.deref-in-Ok-Some.ensures.value, ap length (refilled c.read_leaf.new.into c.loop-link.bytes.items c.loop-link.bytes.len c.loop-link.bytes.ok.0 (c.read_leaf.auto.into ∙ ap length c.deref_mut.ensures.value)), (c.read_leaf.auto.into ∙ ap length c.deref_mut.ensures.value), inv.size, size_large _ c.block_size-size.ensures.view.block_size, c.block_size-size.ensures.value, c.requires.work.size)

pub loop-link-preserved-in-Continue-branch-5 : goal.loop-link-preserved-in-Continue-branch-5
loop-link-preserved-in-Continue-branch-5 g c =
    let inv = c.loop-link.invariant in
    let read = c.in_ok-read_leaf-in-Ok-Some.ensures in
    let at = c.in_ok-at-in-Ok-Some in
    let entered = c.in_ok-enter-in-Ok-Some.ensures in
    record {
      work = read.work;
      grown = grown_on _ _ _ inv.grown read.grown;
      count = entered.count ∙ inv.count;
      size = ap length (refilled c.read_leaf.new.into c.loop-link.bytes.items c.loop-link.bytes.len c.loop-link.bytes.ok.0 (c.read_leaf.auto.into ∙ ap length c.deref_mut.ensures.value)) ∙ (c.read_leaf.auto.into ∙ ap length c.deref_mut.ensures.value) ∙ inv.size;
      within = omega (arith, entered.index, at.ensures.run);
      walked = λ im shows of for known.
          let walk = inv.walked im shows of for known in
          let known' = inv.searched im shows of for known in
          let read' = read_shown _ _ im [] 0 0 _ inv.reads.same inv.work shows known' in
          let wanted = at_some c.in-Ok-Some.field-0 c.in-Ok-Some.link (λ (l : LeafLink). IsWanted im l.number l.by) c.in-Ok-Some.field-0-is (c.in-Ok-Some.ensures.wanted im read' of walk) in
          let reached : IsReached im c.in-Ok-Some.link.number = wanted_reached im c.in-Ok-Some.link.number c.in-Ok-Some.link.by wanted (omega (arith, c.in_ok-read_leaf-in-Ok-Some.ensures.inside, ap (λ (s : DiskState). s.count) inv.reads.same, shows.count)) in
          let same = bytes_shown _ _ im c.in-Ok-Some.link.number c.read_leaf.new.into inv.reads.same shows (wanted_system im c.in-Ok-Some.link.number c.in-Ok-Some.link.by wanted) c.in_ok-read_leaf-in-Ok-Some.ensures.bytes in
          let full = sym (refilled c.read_leaf.new.into c.loop-link.bytes.items c.loop-link.bytes.len c.loop-link.bytes.ok.0 (c.read_leaf.auto.into ∙ ap length c.deref_mut.ensures.value)) in
          let leaf = at.ensures.found im c.args.inode.now of walk (same ∙ full ∙ sym c.deref.ensures.value) reached in
          subst (λ a. IsWalked im a c.enter.new.self) inv.directory (entered.walked im (next_leaf_in im c.args.inode.now c.args.pointers.now c.loop-link.walk at.at of inv.directory (λ files. for (sym inv.names ∙ files)) walk leaf at.ensures.next) (ap im.at at.ensures.block ∙ same ∙ full ∙ sym c.deref-in-Ok-Some.ensures.value));
      directory = entered.directory ∙ inv.directory;
      names = entered.names ∙ inv.names;
      read = subst (λ a. AreLeavesRead c.enter.new.self a c.read_leaf.new.table) inv.directory (entered.entered c.read_leaf.new.table
          (subst (λ a. AreLeavesRead c.loop-link.walk a c.read_leaf.new.table) (sym inv.directory) (λ x hash place has. read.grown.taken x (inv.read x hash place has)))
          (subst (IsTaken c.read_leaf.new.table) (sym at.ensures.block) read.read));
      searched = λ im shows of for known.
          let walk = inv.walked im shows of for known in
          let known' = inv.searched im shows of for known in
          let read' = read_shown _ _ im [] 0 0 _ inv.reads.same inv.work shows known' in
          read.searched im [] 0 0 (at_some c.in-Ok-Some.field-0 c.in-Ok-Some.link (λ (l : LeafLink). IsWanted im l.number l.by) c.in-Ok-Some.field-0-is (c.in-Ok-Some.ensures.wanted im read' of walk)) known';
      reads = reads_on inv.reads read.reads;
    }

pub returns-in_err-enter-in-Ok-Some-clause-refused : goal.returns-in_err-enter-in-Ok-Some-clause-refused
returns-in_err-enter-in-Ok-Some-clause-refused g c im shows of for known =
    let inv = c.loop-link.invariant in
    let walk = inv.walked im shows of for known in
    let known' = inv.searched im shows of for known in
    let read = read_shown _ _ im [] 0 0 _ inv.reads.same inv.work shows known' in
    let at = c.in_ok-at-in-Ok-Some in
    let wanted = at_some c.in-Ok-Some.field-0 c.in-Ok-Some.link (λ (l : LeafLink). IsWanted im l.number l.by) c.in-Ok-Some.field-0-is (c.in-Ok-Some.ensures.wanted im read of walk) in
    let reached : IsReached im c.in-Ok-Some.link.number = wanted_reached im c.in-Ok-Some.link.number c.in-Ok-Some.link.by wanted (omega (arith, c.in_ok-read_leaf-in-Ok-Some.ensures.inside, ap (λ (s : DiskState). s.count) inv.reads.same, shows.count)) in
    let same = bytes_shown _ _ im c.in-Ok-Some.link.number c.read_leaf.new.into inv.reads.same shows (wanted_system im c.in-Ok-Some.link.number c.in-Ok-Some.link.by wanted) c.in_ok-read_leaf-in-Ok-Some.ensures.bytes in
    let full = sym (refilled c.read_leaf.new.into c.loop-link.bytes.items c.loop-link.bytes.len c.loop-link.bytes.ok.0 (c.read_leaf.auto.into ∙ ap length c.deref_mut.ensures.value)) in
    let leaf = at.ensures.found im c.args.inode.now of walk (same ∙ full ∙ sym c.deref.ensures.value) reached in
    refused im _ _ c.from_residual-in_err-enter-in-Ok-Some.ensures.1
    (c.in_err-enter-in-Ok-Some.ensures.refused im (next_leaf_in im c.args.inode.now c.args.pointers.now c.loop-link.walk at.at of inv.directory (λ files. for (sym inv.names ∙ files)) walk leaf at.ensures.next)
    (ap im.at at.ensures.block ∙ same ∙ full ∙ sym c.deref-in-Ok-Some.ensures.value))

pub loop-link-preserved : goal.loop-link-preserved
loop-link-preserved g c =
    let inv = c.loop-link.invariant in
    let next = c.in_ok-go_on-in-Err.ensures in
    record {
      work = next.work;
      grown = grown_on _ _ _ inv.grown next.grown;
      count = inv.count;
      size = inv.size;
      within = inv.within;
      walked = inv.walked;
      directory = inv.directory;
      names = inv.names;
      read = λ x hash place has. next.grown.taken x (inv.read x hash place has);
      searched = λ im shows of for known.
          let known' = inv.searched im shows of for known in
          next.searched im [] 0 0 (c.in-Err.ensures.stops im (read_shown _ _ im [] 0 0 _ inv.reads.same inv.work shows known') of (inv.walked im shows of for known)) known';
      reads = reads_on inv.reads next.reads;
    }

pub returns-in_err-go_on-in-Err-clause-refused : goal.returns-in_err-go_on-in-Err-clause-refused
returns-in_err-go_on-in-Err-clause-refused g c im shows of for known =
    let inv = c.loop-link.invariant in
    refused im _ _ c.from_residual-in_err-go_on-in-Err.ensures.1
    (go_refused _ _ im _ _ _ [] 0 0 inv.reads.same c.in_err-go_on-in-Err.ensures.refused shows
    (c.in-Err.ensures.stops im (read_shown _ _ im [] 0 0 _ inv.reads.same inv.work shows (inv.searched im shows of for known)) of (inv.walked im shows of for known))
    (inv.searched im shows of for known))

pub returns-in_err-enter-in-Ok-Some-clause-risen : goal.returns-in_err-enter-in-Ok-Some-clause-risen
returns-in_err-enter-in-Ok-Some-clause-risen g c =
    let before = g.D.SharedDisk.faults c.args.disk.now in
    let now = g.D.SharedDisk.faults c.read_leaf.new.disk in
    handed _ (λ f. f ≡ c.in_err-enter-in-Ok-Some.field-0.0) (HasRisen before now) c.from_residual-in_err-enter-in-Ok-Some.ensures.1
    (λ f e. subst (HasRisen before now) (sym e) (steady_risen c.in_err-enter-in-Ok-Some.field-0.0 c.in_err-enter-in-Ok-Some.ensures.steady before now))

pub returns-in_err-enter-in-Ok-Some-clause-within : goal.returns-in_err-enter-in-Ok-Some-clause-within
returns-in_err-enter-in-Ok-Some-clause-within g c =
    let count = (g.D.SharedDisk.state c.args.disk.now).count in
    handed _ (λ f. f ≡ c.in_err-enter-in-Ok-Some.field-0.0) (LiesWithin count) c.from_residual-in_err-enter-in-Ok-Some.ensures.1
    (λ f e. subst (LiesWithin count) (sym e) (steady_within c.in_err-enter-in-Ok-Some.field-0.0 c.in_err-enter-in-Ok-Some.ensures.steady count))

pub returns-in_err-at-in-Ok-Some-clause-risen : goal.returns-in_err-at-in-Ok-Some-clause-risen
returns-in_err-at-in-Ok-Some-clause-risen g c =
    let before = g.D.SharedDisk.faults c.args.disk.now in
    let now = g.D.SharedDisk.faults c.read_leaf.new.disk in
    handed _ (λ f. f ≡ c.in_err-at-in-Ok-Some.field-0.0) (HasRisen before now) c.from_residual-in_err-at-in-Ok-Some.ensures.1
    (λ f e. subst (HasRisen before now) (sym e) (steady_risen c.in_err-at-in-Ok-Some.field-0.0 c.in_err-at-in-Ok-Some.ensures.steady before now))

pub returns-in_err-at-in-Ok-Some-clause-within : goal.returns-in_err-at-in-Ok-Some-clause-within
returns-in_err-at-in-Ok-Some-clause-within g c =
    let count = (g.D.SharedDisk.state c.args.disk.now).count in
    handed _ (λ f. f ≡ c.in_err-at-in-Ok-Some.field-0.0) (LiesWithin count) c.from_residual-in_err-at-in-Ok-Some.ensures.1
    (λ f e. subst (LiesWithin count) (sym e) (steady_within c.in_err-at-in-Ok-Some.field-0.0 c.in_err-at-in-Ok-Some.ensures.steady count))
