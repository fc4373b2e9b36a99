use Rattle.std.proofs.Common.{arith}
use Rattle.image_mount.proofs.Marked.{grown_on, marked_under}
use Rattle.image_mount.proofs.Marks.{searched_done, searched_next, shows_now}
use Rattle.image_mount.proofs.Moved.{ring_is}
use Rattle.image_mount.proofs.Stops.{refused}
use Rattle.image_mount.proofs.journals.find_ring.Goals as goal

pub returns-in_err-places-clause-refused : goal.returns-in_err-places-clause-refused
returns-in_err-places-clause-refused g c done im shows next known = refused im _ _ c.from_residual.ensures.1 (c.in_err-places.ensures.refused done 0 0 im shows next.named known)

pub returns-in_err-blocks-clause-refused : goal.returns-in_err-blocks-clause-refused
returns-in_err-blocks-clause-refused g c done im shows next known =
    let d = c.args.journal.now.entry.addr in
    let counted = c.in_ok-places.ensures in
    let begun = searched_next im done d c.count_places.new.table (counted.searched done 0 0 im shows next.named known) in
    refused im _ _ c.from_residual-in_err-blocks.ensures.1
    (c.in_err-blocks.ensures.refused done im (shows_now _ _ im counted.reads.same shows) next (counted.found done 0 0 im shows next.named known) begun)

pub returns-clause-found : goal.returns-clause-found
returns-clause-found g c done im shows next known =
    let d = c.args.journal.now.entry.addr in
    let counted = c.in_ok-places.ensures in
    let begun = searched_next im done d c.count_places.new.table (counted.searched done 0 0 im shows next.named known) in
    let has = counted.found done 0 0 im shows next.named known in
    ring_is im d c.in_ok-places.places c.in_ok-blocks.blocks.items has (c.in_ok-blocks.ensures.found done im (shows_now _ _ im counted.reads.same shows) next has begun)

pub returns-clause-searched : goal.returns-clause-searched
returns-clause-searched g c done im shows next known =
    let d = c.args.journal.now.entry.addr in
    let counted = c.in_ok-places.ensures in
    let begun = searched_next im done d c.count_places.new.table (counted.searched done 0 0 im shows next.named known) in
    searched_done im done d c.in_ok-places.places c.find_blocks.new.table
    (c.in_ok-blocks.ensures.searched done im (shows_now _ _ im counted.reads.same shows) next (counted.found done 0 0 im shows next.named known) begun)

pub returns-clause-repeats : goal.returns-clause-repeats
returns-clause-repeats g c done im shows next known = c.in_ok-places.ensures.repeats done 0 0 im shows next.named known

pub returns-clause-marked : goal.returns-clause-marked
returns-clause-marked g c = marked_under c.args.table.now c.count_places.new.table c.find_blocks.new.table c.in_ok-blocks.blocks.items c.count_places.ensures.places c.in_ok-blocks.ensures.marked

pub returns-clause-grown : goal.returns-clause-grown
returns-clause-grown g c = grown_on c.args.table.now c.count_places.new.table c.find_blocks.new.table c.in_ok-places.ensures.grown c.in_ok-blocks.ensures.grown

pub returns-clause-there : goal.returns-clause-there
returns-clause-there g c = c.in_ok-blocks.ensures.grown.stays c.args.journal.now.entry.addr c.in_ok-places.ensures.there

pub returns-clause-ways : goal.returns-clause-ways
returns-clause-ways g c done im shows next known p low =
    let d = c.args.journal.now.entry.addr in
    let counted = c.in_ok-places.ensures in
    let begun = searched_next im done d c.count_places.new.table (counted.searched done 0 0 im shows next.named known) in
    c.in_ok-blocks.ensures.ways done im (shows_now _ _ im counted.reads.same shows) next (counted.found done 0 0 im shows next.named known) begun counted.there p (omega (arith, low, c.in_ok-blocks.ensures.count))
