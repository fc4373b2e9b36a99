use Rattle.std.proofs.Common.{◌≡◌, ◌<◌, ◌+◌, [], ◌∷◌, length, sym, ap, subst, ◌∙◌, arith}
use Rattle.std.specs.List.{All}
use Rattle.std.proofs.lemmas.List.{length_push}
use Rattle.std.proofs.lemmas.List.Elements.{All-push}
use Rattle.shared_disk.specs.Disk.{DiskState}
use Rattle.image_mount.specs.Rings.{AreBlocksOf, IsSearched}
use Rattle.image_mount.specs.Looks.{IsInGroups}
use Rattle.image_mount.specs.Marked.{AreMarked}
use Rattle.image_model.specs.Claims.{every}
use Rattle.image_mount.proofs.KeptWays.{way_stays, ways_more}
use Rattle.image_mount.proofs.Marked.{grown_none, grown_on, marked_on, marked_over}
use Rattle.image_mount.proofs.Marks.{place_claim, place_system, is_place, marked_more, read_shown, shows_now}
use Rattle.image_mount.proofs.Moved.{working_marked}
use Rattle.image_mount.proofs.Places.{blocks_more, blocks_none, place_within}
use Rattle.image_mount.proofs.Stops.{refused}
use Rattle.shared_disk.proofs.ReadLaws.{reads_none, reads_on}
use Rattle.image_mount.proofs.journals.find_blocks.Goals as goal

pub returns-in_err-located-clause-refused : goal.returns-in_err-located-clause-refused
returns-in_err-located-clause-refused g c done im shows next has known =
    let inv = c.loop-place.invariant in
    refused im _ _ c.from_residual-in_err-located.ensures.1
    (c.in_err-located.ensures.refused done c.args.journal.now.entry.addr c.loop-place.place c.args.places im (shows_now _ _ im inv.reads.same shows) next.named has c.loop-place-test.true (inv.searched done im shows next has known))

pub returns-in_err-check_place-clause-refused : goal.returns-in_err-check_place-clause-refused
returns-in_err-check_place-clause-refused g c done im shows next has known =
    let inv = c.loop-place.invariant in
    let d = c.args.journal.now.entry.addr in
    let found = c.in_ok-located.ensures in
    let shows1 = shows_now _ _ im inv.reads.same shows in
    let known1 = inv.searched done im shows next has known in
    let searched = found.searched done d c.loop-place.place c.args.places im shows1 next.named has c.loop-place-test.true known1 in
    refused im _ _ c.from_residual-in_err-check_place.ensures.1
    (c.in_err-check_place.ensures.refused im done c.args.journal.now c.loop-place.place (read_shown _ _ im done d c.loop-place.place _ (found.reads.same ∙ inv.reads.same) found.work shows searched) next searched
    (found.found done d c.loop-place.place c.args.places im shows1 next.named has c.loop-place-test.true known1))

pub loop-place-preserved : goal.loop-place-preserved
loop-place-preserved g c =
    let inv = c.loop-place.invariant in
    let s = g.D.SharedDisk.state c.args.disk.now in
    let d = c.args.journal.now.entry.addr in
    let found = c.in_ok-located.ensures in
    let located = c.in_ok-located.located in
    let items = c.in_ok-push.ensures.items in
    let low : located.block < s.count = omega (arith, c.in_ok-check_place.ensures.inside, found.work.count, ap (λ (t : DiskState). t.count) (found.reads.same ∙ inv.reads.same)) in
    record {
      work = working_marked _ c.find_block.new.table c.mark.new.self found.work c.mark.ensures.entries c.mark.ensures.size;
      inside = subst (All (λ b. b < s.count)) (sym items) (All-push (λ b. b < s.count) c.loop-place.blocks.items located.block inv.inside low);
      placed = subst (All (IsInGroups c.args.system.now.groups.items)) (sym items) (All-push (IsInGroups c.args.system.now.groups.items) c.loop-place.blocks.items located.block inv.placed c.in_ok-check_place.ensures.placed);
      marked = subst (AreMarked c.args.table.now c.mark.new.self) (sym items)
          (marked_on c.args.table.now c.find_block.new.table c.mark.new.self c.loop-place.blocks.items (located.block ∷ []) (marked_over c.args.table.now c.loop-place.table c.find_block.new.table c.loop-place.blocks.items inv.marked found.places)
          (c.mark.ensures.marked c.in_ok-check_place.ensures.unmarked));
      ways = λ done im shows next has known kept.
          let marked_now = c.mark.ensures.grown c.in_ok-check_place.ensures.free in
          let shows1 = shows_now _ _ im inv.reads.same shows in
          let here = found.ways done d c.loop-place.place c.args.places im shows1 next.named has c.loop-place-test.true (inv.searched done im shows next has known) (inv.grown.stays d kept) in
          ways_more im c.loop-place.table c.mark.new.self (grown_on _ _ _ found.grown marked_now) d c.loop-place.place (inv.ways done im shows next has known kept)
          (way_stays c.find_block.new.table c.mark.new.self marked_now (every im d) c.loop-place.place here);
      grown = grown_on _ _ _ inv.grown (grown_on _ _ _ found.grown (c.mark.ensures.grown c.in_ok-check_place.ensures.free));
      count = omega (arith, ap length items, length_push c.loop-place.blocks.items located.block, inv.count);
      found = λ done im shows next has known.
          let at = found.found done d c.loop-place.place c.args.places im (shows_now _ _ im inv.reads.same shows) next.named has c.loop-place-test.true (inv.searched done im shows next has known) in
          let within = place_within im d c.args.places c.loop-place.place has c.loop-place-test.true in
          blocks_more im d c.loop-place.place located.from at.leads.0 located c.loop-place.blocks.items _ (inv.found done im shows next has known) at next.looked.names.groups.list.master.format (subst (λ n. located.block < n) (sym shows.count) low)
          (place_claim im done c.args.system.now c.args.journal.now next c.loop-place.place located at) (place_system im done c.args.system.now c.args.journal.now next c.loop-place.place located at within) items;
      searched = λ done im shows next has known.
          let shows1 = shows_now _ _ im inv.reads.same shows in
          let known1 = inv.searched done im shows next has known in
          let at = found.found done d c.loop-place.place c.args.places im shows1 next.named has c.loop-place-test.true known1 in
          let within = place_within im d c.args.places c.loop-place.place has c.loop-place-test.true in
          let searched = found.searched done d c.loop-place.place c.args.places im shows1 next.named has c.loop-place-test.true known1 in
          marked_more im done d c.loop-place.place (c.loop-place.place + 1) c.find_block.new.table c.mark.new.self located.block c.mark.ensures.places c.mark.ensures.entries c.mark.ensures.leaves (omega arith)
          (is_place im done c.args.system.now c.args.journal.now next c.loop-place.place located at (c.in_ok-check_place.ensures.apart im next.looked) within) searched;
      reads = reads_on inv.reads found.reads;
    }

pub returns-clause-found : goal.returns-clause-found
returns-clause-found g c done im shows next has known =
    let all : c.loop-place.place ≡ c.args.places = omega (arith, c.loop-place-test.false, c.loop-place.auto.place-end) in
    subst (λ n. AreBlocksOf im c.args.journal.now.entry.addr n c.loop-place.blocks.items) all (c.loop-place.invariant.found done im shows next has known)

pub returns-clause-searched : goal.returns-clause-searched
returns-clause-searched g c done im shows next has known =
    let all : c.loop-place.place ≡ c.args.places = omega (arith, c.loop-place-test.false, c.loop-place.auto.place-end) in
    subst (λ n. IsSearched im done c.args.journal.now.entry.addr n c.loop-place.table) all (c.loop-place.invariant.searched done im shows next has known)

pub returns-clause-ways : goal.returns-clause-ways
returns-clause-ways g c done im shows next has known kept p low =
    c.loop-place.invariant.ways done im shows next has known kept p (omega (arith, low, c.loop-place-test.false))

pub loop-place-init : goal.loop-place-init
loop-place-init g c =
    let items = c.in_ok-blocks.ensures.items in
    let k = c.args.table.now in
    record {
      work = c.requires.work;
      inside = subst (All (λ b. b < (g.D.SharedDisk.state c.args.disk.now).count)) (sym items) (λ i d low. absurd (omega (arith, low)));
      placed = subst (All (IsInGroups c.args.system.now.groups.items)) (sym items) (λ i d low. absurd (omega (arith, low)));
      ways = λ done im shows next has known kept p low. absurd (omega (arith, low));
      grown = grown_none k;
      marked = subst (AreMarked k k) (sym items) (λ b. omega arith);
      count = ap length items;
      found = λ done im shows next has known. subst (AreBlocksOf im c.args.journal.now.entry.addr 0) (sym items) (blocks_none im c.args.journal.now.entry.addr);
      searched = λ done im shows next has known. known;
      reads = reads_none;
    }
