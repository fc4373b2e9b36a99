use Rattle.std.proofs.Common.{◌≡◌, ◌/◌, ◌%◌, refl, sym, ap, subst, ◌∙◌, arith}
use Rattle.gfs2_layout.specs.Inode.{dinode_in}
use Rattle.gfs2_layout.specs.Structures.{is_directory}
use Rattle.image_model.specs.Claims.{every, HasInode}
use Rattle.image_model.proofs.Lengths.{size_large}
use Rattle.image_model.specs.Rules.{HasRecordIn}
use Rattle.image_model.specs.Journals.{journal_name}
use Rattle.image_model.specs.Owners.{Named}
use Rattle.image_mount.specs.Found.{IsReached}
use Rattle.image_mount.proofs.Places.{wrong_part, wrong_places, journal_file, journal_format, journal_inode}
use Rattle.image_mount.proofs.Stops.{passed, stopped}
use Rattle.log_layout.specs.Journal.{ring_of}
use Rattle.gfs2_layout.specs.declared.dinode.Dinode.{Dinode}
use Rattle.image_mount.specs.Looks.{IsSized}
use Rattle.image_mount.proofs.Looks.{file_sized}
use Rattle.image_mount.proofs.journals.place_count.Goals.{then-is_directory+in_ok-check_directory, else-is_directory}
use Rattle.image_mount.proofs.journals.place_count.Goals as goal
use Rattle.image_mount.proofs.journals.place_count.Goals.{then-places-lt-LEAST_PLACES-via-then-places-lt-LEAST_PLACES, then-places-lt-LEAST_PLACES-via-else-places-lt-LEAST_PLACES+then-places-gt-MOST_PLACES}

pub returns-in_err-check_record-clause-stops : goal.returns-in_err-check_record-clause-stops
returns-in_err-check_record-clause-stops c im read of =
    let inode = c.in_ok-inode.inode in
    let dinode : inode.dinode ≡ dinode_in (every im inode.block) = c.in_ok-inode.ensures.found im read ∙ ap (λ a. dinode_in (every im a)) (sym c.in_ok-inode.ensures.block) in
    stopped im _ _ c.from_residual-in_err-check_record.ensures.1
    (c.in_err-check_record.ensures.refused im of.layout.jindex of.named.row dinode (journal_format im c.args.journal.now of)
    (subst (IsReached im) (sym c.in_ok-inode.ensures.from) of.named.reached) (subst (λ x. HasRecordIn im of.layout.jindex x of.named.row) (sym c.in_ok-inode.ensures.from) of.named.there) of.named.is)

pub returns-then-inode-from-ne0-clause-stops : goal.returns-then-inode-from-ne0-clause-stops
returns-then-inode-from-ne0-clause-stops c im read of =
    let inode = c.in_ok-inode.inode in
    wrong_part im c.args.journal.now _ inode.block c.from.result inode.dinode of c.damaged.ensures c.in_ok-inode.ensures.block (subst (IsReached im) (sym c.in_ok-inode.ensures.block) (c.in_ok-inode.ensures.reached im read)) (c.in_ok-inode.ensures.found im read)
    (c.from.ensures ∙ c.block_size-size.ensures.value ∙ read.size) c.if-inode-from-ne0.true

pub returns-then-places-lt-LEAST_PLACES-clause-stops : goal.returns-then-places-lt-LEAST_PLACES-clause-stops
returns-then-places-lt-LEAST_PLACES-clause-stops c im read of =
    let inode = c.in_ok-inode.inode in
    let sized : c.from-2.result ≡ im.size = c.from-2.ensures ∙ c.block_size-size.ensures.value ∙ read.size in
    let count : inode.dinode.size / c.from-2.result ≡ (ring_of (every im c.args.journal.now.entry.addr)).places
    = ap (λ n. inode.dinode.size / n) sized ∙ ap (λ (d : Dinode). d.size / im.size) (c.in_ok-inode.ensures.found im read) in
    let block = c.in_ok-inode.ensures.block in
    let dinode : inode.dinode ≡ dinode_in (every im inode.block) = c.in_ok-inode.ensures.found im read ∙ ap (λ a. dinode_in (every im a)) (sym block) in
    let sized_there : IsSized im inode.block = elim c.if-is_directory.branch [
      | then-is_directory+in_ok-check_directory w ↦ w.in_ok-check_directory.ensures.sized im dinode (c.block_size-size.ensures.value ∙ read.size)
      | else-is_directory w ↦ file_sized im inode.block (ap is_directory (sym dinode) ∙ sym c.is_directory.ensures ∙ w.if-is_directory.false)
    ] in
    let whole : (dinode_in (every im c.args.journal.now.entry.addr)).size % im.size ≡ 0
    = ap (λ (d : Dinode). d.size % im.size) (sym (c.in_ok-inode.ensures.found im read)) ∙ sym (ap (λ n. inode.dinode.size % n) (c.from.ensures ∙ c.block_size-size.ensures.value ∙ read.size)) ∙ c.if-inode-from-ne0.false in
    wrong_places im c.args.journal.now _ _ of c.outside.ensures (record { dinode = c.in_ok-inode.ensures.right im read; sized = subst (IsSized im) block sized_there }) whole count
    (λ both. elim c.then-places-lt-LEAST_PLACES.branch [
      | then-places-lt-LEAST_PLACES-via-then-places-lt-LEAST_PLACES w ↦ absurd (omega (arith, both.0, w.if-places-lt-LEAST_PLACES.true))
      | then-places-lt-LEAST_PLACES-via-else-places-lt-LEAST_PLACES+then-places-gt-MOST_PLACES w ↦ absurd (omega (arith, both.1, w.if-places-gt-MOST_PLACES.true))
    ])

pub returns-in_err-check_directory-clause-stops : goal.returns-in_err-check_directory-clause-stops
returns-in_err-check_directory-clause-stops c im read of =
    let inode = c.in_ok-inode.inode in
    let block = c.in_ok-inode.ensures.block in
    let dinode : inode.dinode ≡ dinode_in (every im inode.block) = c.in_ok-inode.ensures.found im read ∙ ap (λ a. dinode_in (every im a)) (sym block) in
    stopped im _ _ c.from_residual-in_err-check_directory.ensures.1
    (c.in_err-check_directory.ensures.refused im dinode (c.block_size-size.ensures.value ∙ read.size) (journal_format im c.args.journal.now of)
    (subst (IsReached im) (sym block) (c.in_ok-inode.ensures.reached im read))
    (record {
      inode = subst (HasInode im) (sym block) (journal_inode im c.args.journal.now of);
      dir = ap is_directory (sym dinode) ∙ sym c.is_directory.ensures ∙ c.if-is_directory.true;
    }))

pub returns-clause-found : goal.returns-clause-found
returns-clause-found c im read =
    let inode = c.in_ok-inode.inode in
    let block = c.in_ok-inode.ensures.block in
    let dinode : inode.dinode ≡ dinode_in (every im inode.block) = c.in_ok-inode.ensures.found im read ∙ ap (λ a. dinode_in (every im a)) (sym block) in
    let sized : c.from-2.result ≡ im.size = c.from-2.ensures ∙ c.block_size-size.ensures.value ∙ read.size in
    let sized_there : IsSized im inode.block = elim c.if-is_directory.branch [
      | then-is_directory+in_ok-check_directory w ↦ w.in_ok-check_directory.ensures.sized im dinode (c.block_size-size.ensures.value ∙ read.size)
      | else-is_directory w ↦ file_sized im inode.block (ap is_directory (sym dinode) ∙ sym c.is_directory.ensures ∙ w.if-is_directory.false)
    ] in
    let sized_here = subst (IsSized im) block sized_there in
    record {
      reached = c.in_ok-inode.ensures.reached im read;
      count = ap (λ n. inode.dinode.size / n) sized ∙ ap (λ (d : Dinode). d.size / im.size) (c.in_ok-inode.ensures.found im read);
      looked = record { dinode = c.in_ok-inode.ensures.right im read; sized = sized_here };
      whole = ap (λ (d : Dinode). d.size % im.size) (sym (c.in_ok-inode.ensures.found im read)) ∙ sym (ap (λ n. inode.dinode.size % n) (c.from.ensures ∙ c.block_size-size.ensures.value ∙ read.size)) ∙ c.if-inode-from-ne0.false;
      large = omega (arith, size_large _ c.block_size-size.ensures.view.block_size, read.size);
      most = c.if-places-gt-MOST_PLACES.false;
      least = c.if-places-lt-LEAST_PLACES.false;
    }

pub returns-clause-repeats : goal.returns-clause-repeats
returns-clause-repeats c im read =
    c.in_ok-check_record.ensures.repeats im (c.in_ok-inode.ensures.found im read ∙ ap (λ a. dinode_in (every im a)) (sym c.in_ok-inode.ensures.block))

pub returns-in_err-inode-clause-stops : goal.returns-in_err-inode-clause-stops
returns-in_err-inode-clause-stops c im read of =
    passed im _ _ c.from_residual.ensures.1
    (c.in_err-inode.ensures.stops im (Named of.layout.jindex (journal_name of.index)) read of.named.claimed refl (journal_format im c.args.journal.now of) of.named.reached (journal_file im c.args.journal.now of))
