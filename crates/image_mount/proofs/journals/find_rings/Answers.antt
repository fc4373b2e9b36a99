use Rattle.std.proofs.Common.{◌≡◌, length, refl, sym, ap, ◌<◌, subst, arith}
use Rattle.std.proofs.lemmas.List.{take_all}
use Rattle.std.specs.List.{All}
use Rattle.std.specs.Prelude.{map, take}
use Rattle.image_mount.specs.Looks.{IsInGroups}
use Rattle.image_mount.specs.Marked.{AreMarked, IsKept}
use Rattle.image_mount.specs.Rings.{AreKeptWays, AreRings, IsOwn, IsSearched, all_places}
use Rattle.image_mount.specs.declared.journals.Ring.{Ring}
use Rattle.image_mount.proofs.KeptWays.{rings_ways}
use Rattle.image_mount.proofs.Marked.{grown_none, grown_on, marked_ring, rings_kept}
use Rattle.image_mount.proofs.Moved.{at_item, next_in, not_before, rings_more, rings_own, rings_with, inside_now, dinodes_more}
use Rattle.image_mount.proofs.Marks.{shows_now}
use Rattle.image_mount.proofs.Stops.{refused}
use Rattle.image_mount.proofs.journals.find_rings.Goals as goal
use Rattle.shared_disk.proofs.ReadLaws.{reads_none, reads_on}

pub returns-in_err-check_dinode-clause-refused : goal.returns-in_err-check_dinode-clause-refused
returns-in_err-check_dinode-clause-refused g c im shows looked known =
    let system = c.args.system.now in
    let k = c.loop-journal.journal-index in
    let at = at_item c.deref-journal-items.result.now system.journals.items k _ c.deref-journal-items.ensures.value c.loop-journal-test.true in
    refused im _ _ c.from_residual.ensures.1
    (c.in_err-check_dinode.ensures.refused im k _ looked (subst (AreRings im (take k system.journals.items)) (sym c.deref.ensures.value) (c.loop-journal.invariant.found im shows looked known)) at refl)

pub returns-in_err-ring-clause-refused : goal.returns-in_err-ring-clause-refused
returns-in_err-ring-clause-refused g c im shows looked known =
    let inv = c.loop-journal.invariant in
    let system = c.args.system.now in
    let k = c.loop-journal.journal-index in
    let done = map (λ (r : Ring). r.dinode) c.loop-journal.rings.items in
    let at = at_item c.deref-journal-items.result.now system.journals.items k _ c.deref-journal-items.ensures.value c.loop-journal-test.true in
    let own = c.in_ok-check_dinode.ensures in
    let next = next_in im system k _ c.loop-journal.rings.items done looked (inv.found im shows looked known) at own.own (not_before c.deref.result.now c.loop-journal.rings.items _ c.deref.ensures.value own.new) in
    refused im _ _ c.from_residual-in_err-ring.ensures.1
    (c.in_err-ring.ensures.refused done im (shows_now _ _ im inv.reads.same shows) next (inv.searched im shows looked known))

pub loop-journal-preserved : goal.loop-journal-preserved
loop-journal-preserved g c =
    let s = g.D.SharedDisk.state c.args.disk.now in
    let inv = c.loop-journal.invariant in
    let system = c.args.system.now in
    let k = c.loop-journal.journal-index in
    let rings = c.loop-journal.rings.items in
    let done = map (λ (r : Ring). r.dinode) rings in
    let ring = c.in_ok-ring.ring in
    let read = c.in_ok-ring.ensures in
    let items = c.in_ok-push.ensures.items in
    record {
      work = read.work;
      inside = rings_with (λ b. b < s.count) rings _ ring inv.inside (inside_now _ _ ring.blocks.items inv.reads.same read.inside) items;
      placed = rings_with (IsInGroups system.groups.items) rings _ ring inv.placed read.placed items;
      own = rings_own system rings _ ring _ inv.own read.dinode c.in_ok-check_dinode.ensures.own items;
      ways = λ im shows looked known.
          let at = at_item c.deref-journal-items.result.now system.journals.items k _ c.deref-journal-items.ensures.value c.loop-journal-test.true in
          let own = c.in_ok-check_dinode.ensures in
          let next = next_in im system k _ c.loop-journal.rings.items done looked (inv.found im shows looked known) at own.own (not_before c.deref.result.now c.loop-journal.rings.items _ c.deref.ensures.value own.new) in
          let shows1 = shows_now _ _ im inv.reads.same shows in
          rings_ways im c.loop-journal.table c.find_ring.new.table read.grown rings _ ring _ (inv.ways im shows looked known) read.dinode (read.ways done im shows1 next (inv.searched im shows looked known)) items;
      grown = grown_on c.args.table.now c.loop-journal.table c.find_ring.new.table inv.grown read.grown;
      kept = rings_kept c.loop-journal.table c.find_ring.new.table rings _ ring read.grown inv.kept (subst (IsKept c.find_ring.new.table) (sym read.dinode) read.there) items;
      marked = marked_ring c.args.table.now c.loop-journal.table c.find_ring.new.table rings _ ring inv.marked read.marked items;
      found = λ im shows looked known.
          let at = at_item c.deref-journal-items.result.now system.journals.items k _ c.deref-journal-items.ensures.value c.loop-journal-test.true in
          let own = c.in_ok-check_dinode.ensures in
          let next = next_in im system k _ c.loop-journal.rings.items done looked (inv.found im shows looked known) at own.own (not_before c.deref.result.now c.loop-journal.rings.items _ c.deref.ensures.value own.new) in
          let shows1 = shows_now _ _ im inv.reads.same shows in
          let of = read.found done im shows1 next (inv.searched im shows looked known) in
          rings_more im system.journals.items k _ rings _ ring (inv.found im shows looked known) at read.dinode of (read.repeats done im shows1 next (inv.searched im shows looked known)) items;
      searched = λ im shows looked known.
          let at = at_item c.deref-journal-items.result.now system.journals.items k _ c.deref-journal-items.ensures.value c.loop-journal-test.true in
          let own = c.in_ok-check_dinode.ensures in
          let next = next_in im system k _ c.loop-journal.rings.items done looked (inv.found im shows looked known) at own.own (not_before c.deref.result.now c.loop-journal.rings.items _ c.deref.ensures.value own.new) in
          let shows1 = shows_now _ _ im inv.reads.same shows in
          subst (λ ds. IsSearched im ds 0 0 c.find_ring.new.table) (dinodes_more rings _ ring _ items read.dinode) (read.searched done im shows1 next (inv.searched im shows looked known));
      reads = reads_on inv.reads read.reads;
    }

pub loop-journal-init : goal.loop-journal-init
loop-journal-init g c =
    let items = c.new-rings.ensures.items in
    let k = c.args.table.now in
    record {
      work = c.requires.work;
      inside = subst (All (λ (r : Ring). All (λ b. b < (g.D.SharedDisk.state c.args.disk.now).count) r.blocks.items)) (sym items) (λ i d low. absurd (omega (arith, low)));
      placed = subst (All (λ (r : Ring). All (IsInGroups c.args.system.now.groups.items) r.blocks.items)) (sym items) (λ i d low. absurd (omega (arith, low)));
      own = subst (All (λ (r : Ring). IsOwn c.args.system.now r.dinode)) (sym items) (λ i d low. absurd (omega (arith, low)));
      ways = λ im shows looked known. subst (All (λ (r : Ring). AreKeptWays im k r.dinode r.blocks.items)) (sym items) (λ i d low. absurd (omega (arith, low)));
      grown = grown_none k;
      kept = subst (All (λ (r : Ring). IsKept k r.dinode)) (sym items) (λ i d low. absurd (omega (arith, low)));
      marked = subst (λ rs. AreMarked k k (all_places rs)) (sym items) (λ b. omega arith);
      found = λ im shows looked known.
          subst (AreRings im (take 0 c.args.system.now.journals.items)) (sym items)
          (record { dinodes = refl; each = λ i d low. absurd (omega (arith, low)); entries = λ i d low. absurd (omega (arith, low)) });
      searched = λ im shows looked known. subst (λ rs. IsSearched im (map (λ (r : Ring). r.dinode) rs) 0 0 k) (sym items) known;
      reads = reads_none;
    }

pub returns-clause-found : goal.returns-clause-found
returns-clause-found g c im shows looked known =
    let journals = c.args.system.now.journals.items in
    let k = c.loop-journal.journal-index in
    let all : take k journals ≡ journals = take_all k journals (omega (arith, ap length c.deref-journal-items.ensures.value, c.loop-journal-test.false)) in
    subst (λ js. AreRings im js c.loop-journal.rings.items) all (c.loop-journal.invariant.found im shows looked known)

pub returns-clause-searched : goal.returns-clause-searched
returns-clause-searched g c = c.loop-journal.invariant.searched
