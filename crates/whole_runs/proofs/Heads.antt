-- The head that node 1's journal has as its own headers begin: behind the replays no other journal's has changed it.
use Rattle.std.proofs.Common.{◌≡◌, ℕ, suc, ◌<◌, List, ◌∷◌, ◌++◌, length, take, get_or, refl, sym, ap, subst, ◌∙◌, arith}
use Rattle.std.specs.Prelude.{IsTrue, slice_get}
use Rattle.disk_turns.specs.Turns.{Moment}
use Rattle.file_tree.specs.Tree.{Tree}
use Rattle.gfs2_layout.specs.Inode.{content_block}
use Rattle.image_model.specs.Claims.{every}
use Rattle.image_model.specs.Image.{Image, image_of}
use Rattle.image_model.specs.Stands.{IsJournalAt}
use Rattle.image_model.proofs.Replaying.{replayed_by_any}
use Rattle.image_mount.specs.Mounted.{Journal, MountedValue}
use Rattle.cut_replays.specs.CutShort.{IsCutShort, ring_left}
use Rattle.cut_replays.proofs.CutShort as cuts
use Rattle.cut_replays.proofs.Found.{FindsTheSame, place_whole}
use Rattle.cut_replays.specs.Recoveries.{AreReplays}
use Rattle.cut_replays.proofs.RecoveryEnding.{leaves_place, stays_all}
use Rattle.cut_replays.proofs.Mapped.{apart}
use Rattle.image_replays.proofs.System.{its_journals}
use Rattle.journal_outcomes.specs.Images.{IsPlaceIn, ring_at}
use Rattle.log_layout.specs.Journal.{head_in}
use Rattle.log_layout.specs.Laws.{HasSamePlaces, HeadersReadBack}
use Rattle.log_layout.proofs.SamePlaces.{says_the_same}
use Rattle.peer_replay.specs.declared.planned.Plan.{Plan}
use Rattle.trace_text.specs.declared.item.TraceItem.{TraceItem}
use Rattle.whole_runs.specs.Starts.{IsStart}
use Rattle.cut_replays.proofs.Stopped as stopping

-- ---- two images that replays leave

module _ (given : HeadersReadBack) (time : ℕ) (before : Moment) (m : MountedValue) (plans : List Plan) (t : Tree) (is : IsStart before.disk m plans time t) where
  abbrev im : Image
  im = image_of before.disk

  whole : (b : ℕ) → b < im.count → IsPlaceIn im is.mounted.layout b → length (im.at b) ≡ im.size
  whole = place_whole im is.mounted.layout (its_journals im m is.mounted) is.stands.replayed
      (replayed_by_any im is.stands.replayed is.mounted.layout is.stands.layout (its_journals im m is.mounted) is.stands.is) is.stands.stands.owners is.stands.stands.layout t
      (record { laid = is.stands.stands.laid; reads = is.stands.stands.reads })

  -- some journals are through
  module _ (n : ℕ) (after : Moment) (added : List TraceItem) (so : AreReplays 1 1 time before (take n m.journals) (take n plans) after added) where
    cut : IsCutShort im is.mounted.layout (image_of after.disk)
    cut = stopping.cut_short given 1 time n before after m plans added is.tells is.idle is.sized is.mounted is.planned is.can is.read so whole

    pub finds : FindsTheSame im is.mounted.layout (image_of after.disk)
    finds = cuts.its im (image_of after.disk) is.mounted.layout t (its_journals im m is.mounted) is.stands cut

    -- a journal has its places where it had them
    module _ (d : ℕ) (at : IsJournalAt is.mounted.layout 0 d) where
      pub ring_there : HasSamePlaces (ring_at (image_of after.disk) d) (ring_left im (image_of after.disk) d)
      ring_there = record {
        size = finds.size;
        places = finds.many 0 d at;
        blocks = λ p low. ap after.disk.block_at (finds.place 0 d p at (subst (λ k. p < k) (finds.many 0 d at) low));
      }

  -- the first journal is through, and then the others
  module _ (next after : Moment) (j : Journal) (js : List Journal) (p : Plan) (ps : List Plan) (first later : List TraceItem) (journals_are : m.journals ≡ j ∷ js) (plans_are : plans ≡ p ∷ ps)
      (one : AreReplays 1 1 time before (take 1 m.journals) (take 1 plans) next first) (all : AreReplays 1 1 time before (take (length m.journals) m.journals) (take (length m.journals) plans) after (first ++ later))
      (others : AreReplays 1 2 time next js ps after later) (d : ℕ) (at : IsJournalAt is.mounted.layout 0 d) where
    -- a place of the first journal stays as the others are replayed
    place_stays : (q : ℕ) → q < (ring_at im d).places → after.disk.block_at (content_block (every im d) q) ≡ next.disk.block_at (content_block (every im d) q)
    place_stays q low =
        let at_d = stopping.mounted given 1 time 1 before next m plans first is.tells is.idle is.sized is.mounted is.planned is.can is.read one 0 d at in
        let block = stopping.block_is given 1 time 1 before next m plans first is.tells is.idle is.sized is.mounted is.planned is.can is.read one 0 d at q low in
        let inside : q < length at_d.0.blocks = subst (λ k. q < k) (sym (stopping.first_ring given 1 time 1 before next m plans first is.tells is.idle is.sized is.mounted is.planned is.can is.read one 0 d at).places) low in
        ap after.disk.block_at (sym block)
        ∙ stays_all 1 2 time next after js ps later (get_or at_d.0.blocks q 0) (subst IsTrue (sym (stopping.tells_all 1 1 time before next (take 1 m.journals) (take 1 plans) first one)) is.tells)
        (λ k l r at_l at_r.
        leaves_place m.journals plans (apart before.disk 1 is.idle m is.mounted plans is.planned)
        (stopping.places_all given 1 time 1 before next m plans first is.tells is.idle is.sized is.mounted is.planned is.can is.read one) 0 (suc k) q at_d.0 l r (λ e. omega (arith, e)) at_d.1
        (ap (λ xs. slice_get xs (suc k)) journals_are ∙ at_l) (ap (λ xs. slice_get xs (suc k)) plans_are ∙ at_r) inside)
        others
        ∙ ap next.disk.block_at block

    pub same_head : head_in (ring_at (image_of next.disk) d) ≡ head_in (ring_at (image_of after.disk) d)
    same_head =
        (says_the_same (ring_at (image_of next.disk) d) (ring_left im (image_of next.disk) d) (ring_there 1 next first one d at)).head
        ∙ (says_the_same (ring_left im (image_of next.disk) d) (ring_left im (image_of after.disk) d) (record { size = refl; places = refl; blocks = λ q low. sym (place_stays q low) })).head
        ∙ sym (says_the_same (ring_at (image_of after.disk) d) (ring_left im (image_of after.disk) d) (ring_there (length m.journals) after (first ++ later) all d at)).head
