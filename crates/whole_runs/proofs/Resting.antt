-- The disk that replays leave is at rest.
use Rattle.std.proofs.Common.{◌≡◌, ℕ, ◌+◌, ◌^◌, ◌<◌, ◌≤◌, List, [], ◌∷◌, length, get_or, map, Option, None, Some, refl, sym, ap, subst, ◌∙◌, arith}
use Rattle.std.specs.Prelude.{IsTrue, slice_get}
use Rattle.cut_replays.proofs.Stopped as stopping
use Rattle.disk_turns.specs.Turns.{Moment}
use Rattle.disk_turns.proofs.Flying.{idle_again}
use Rattle.file_tree.specs.Tree.{Tree}
use Rattle.gfs2_layout.specs.Inode.{content_block}
use Rattle.gfs2_layout.specs.Structures.{superblock_of}
use Rattle.gfs2_layout.specs.Device.{superblock_place}
use Rattle.gfs2_layout.specs.declared.superblock.SuperBlock.{SuperBlock}
use Rattle.glock_names.specs.Views.{AreGroups, group_of_entry}
use Rattle.image_changes.specs.Instances.{StandsBy}
use Rattle.image_machine.specs.Cells.{IsOfVolume}
use Rattle.image_machine.specs.Volumes.{volume_of}
use Rattle.image_model.specs.Claims.{every}
use Rattle.image_model.specs.Image.{Image, image_of, superblock_in}
use Rattle.image_model.specs.Owners.{Owners}
use Rattle.image_model.specs.Stands.{IsJournalAt, IsLaid, Layout}
use Rattle.image_model.proofs.Held.{some_same}
use Rattle.image_model.proofs.Replaying.{one_replay}
use Rattle.image_mount.specs.Mounted.{GroupsAreAsSeen, MountedValue}
use Rattle.image_mount.specs.Mounted.{Journal as MountedJournal}
use Rattle.cut_replays.specs.Left.{IsLeft, LeftStandsBy, ReplayLeaves}
use Rattle.cut_replays.specs.Recoveries.{AreReplays, HaveReplayed}
use Rattle.cut_replays.specs.Ended.{head_left}
use Rattle.cut_replays.proofs.LeftStanding.{back, list_stays, super_stays, there}
use Rattle.cut_replays.proofs.Mapped.{apart as apart_in, theirs}
use Rattle.cut_replays.proofs.RecoveryEnding.{read_is, replayed_have_ended}
use Rattle.journal_outcomes.specs.Images.{ring_at}
use Rattle.journal_replays.specs.Replays.{IsReplayWith}
use Rattle.cut_replays.specs.Reading.{ring_read}
use Rattle.log_layout.specs.Journal.{IsClean, head_in}
use Rattle.log_layout.specs.Laws.{HasSamePlaces}
use Rattle.log_layout.proofs.SamePlaces.{says_the_same}
use Rattle.log_layout.specs.declared.log_header.LogHeader.{LogHeader}
use Rattle.log_values.specs.Laws.{IsJournal}
use Rattle.logged_runs.specs.States.{ArePlacesApart, IsJournalOf}
use Rattle.lone_view.specs.Seeing.{seen_alone}
use Rattle.mounted_views.specs.Views.{journal_of, view_of}
use Rattle.mounted_views.proofs.Journals.{its, its_place, its_ring, nothing_kept}
use Rattle.peer_replay.specs.declared.planned.Plan.{Plan}
use Rattle.shared_disk.specs.Disk.{IsIdle, IsSound}
use Rattle.trace_text.specs.declared.item.TraceItem.{TraceItem}
use Rattle.whole_runs.specs.Resting.{ReplayedIsAtRest, RestsAsMounted}
use Rattle.whole_runs.specs.Starts.{IsStart, joined}

-- nothing is in flight behind replays, and no node is fenced
pub idle_behind : (slot time : ℕ) (before after : Moment) (js : List MountedJournal) (ps : List Plan) (items : List TraceItem) → AreReplays 1 slot time before js ps after items → IsIdle before.disk → IsIdle after.disk
idle_behind slot time before after [] [] items (same, empty) idle = subst (λ (x : Moment). IsIdle x.disk) (sym same) idle
idle_behind slot time before after [] (p ∷ ps) items so idle = absurd so
idle_behind slot time before after (j ∷ js) [] items so idle = absurd so
idle_behind slot time before after (j ∷ js) (p ∷ ps) items (next, first, later, are, one, others) idle = idle_behind (slot + 1) time next after js ps later others (by p.clean one)
  where
    by : (o : Option LogHeader) → IsReplayWith 1 slot j.dinode j.blocks time before next p.home.items o first → IsIdle next.disk
    by None still = subst (λ (x : Moment). IsIdle x.disk) (sym still.0) idle
    by (Some header) is = idle_again is.between.disk next.disk _ (idle_again before.disk is.between.disk p.home.items idle is.homes.written) is.headed.written

module _ (leaves : ReplayLeaves) (by : LeftStandsBy) (groups : GroupsAreAsSeen) (before after : Moment) (m : MountedValue) (plans : List Plan) (time : ℕ) (t : Tree) (items : List TraceItem) (own : MountedJournal) (frames : ℕ)
    (is : IsStart before.disk m plans time t) (have : HaveReplayed 1 time before after m.journals plans joined items) (first : slice_get m.journals 0 ≡ Some own) (few : frames ≤ 4096) where
  abbrev im : Image
  im = image_of before.disk

  abbrev left : Image
  left = image_of after.disk

  x : IsLeft im is.mounted.layout left
  x = leaves 1 time before after m plans joined items is.tells is.idle is.sized is.mounted is.planned is.can is.read have

  abbrev o : Owners
  o = is.stands.stands.owners

  abbrev l : Layout
  l = is.stands.stands.layout

  same_replayed : is.stands.replayed ≡ x.replayed
  same_replayed = one_replay im is.stands.replayed x.replayed is.stands.layout is.mounted.layout is.stands.is x.is

  laid : IsLaid x.replayed o l
  laid = subst (λ r. IsLaid r o l) same_replayed is.stands.stands.laid

  stands : StandsBy left o l t
  stands = by im left m is.mounted t x is.stands

  idle : IsIdle after.disk
  idle = idle_behind 1 time before after m.journals plans have.added have.replays is.idle

  -- ---- journals

  in_found : (j d : ℕ) → IsJournalAt l j d → IsJournalAt is.mounted.layout j d
  in_found j d at = back im left m is.mounted x o l laid j d at

  of_found : (j d : ℕ) → IsJournalAt is.mounted.layout j d → IsJournalAt l j d
  of_found j d at = there im left m is.mounted x o l laid j d at

  first_there : (j d p : ℕ) → IsJournalAt is.mounted.layout j d → p < (ring_at left d).places → p < (ring_at im d).places
  first_there j d p at low = subst (λ n. p < n) (x.as_many j d at) low

  apart : ArePlacesApart (volume_of left l)
  apart j d p i e q at at' low low' same =
      let one = is.mounted.looked.apart j i p q (content_block (every im d) p)
      (record { dinode = d; at = in_found j d at; low = first_there j d p (in_found j d at) low; is = refl })
      (record {
        dinode = e;
        at = in_found i e at';
        low = first_there i e q (in_found i e at') low';
        is = sym (x.places i e q (in_found i e at') (first_there i e q (in_found i e at') low')) ∙ sym same ∙ x.places j d p (in_found j d at) (first_there j d p (in_found j d at) low);
      }) in
      (one.0, some_same (sym at ∙ subst (λ n. IsJournalAt l n e) (sym one.0) at'), one.1)

  at_own : IsJournalAt is.mounted.layout 0 own.dinode
  at_own = (its before.disk m own is.idle is.mounted first).0

  long : length own.blocks ≡ (ring_at im own.dinode).places
  long = (its_ring before.disk m own is.idle is.mounted first).places

  its_journal : IsJournalOf (volume_of left l) own.dinode (journal_of after.disk.size frames time own)
  its_journal = record {
    is = of_found 0 own.dinode at_own;
    size = refl;
    places = long ∙ sym (x.as_many 0 own.dinode at_own);
    place = λ p low.
        let inside = first_there 0 own.dinode p at_own low in
        its_place before.disk m own is.idle is.mounted first p inside ∙ sym (x.places 0 own.dinode p at_own inside);
  }

  is_journal : IsJournal (journal_of after.disk.size frames time own)
  is_journal =
      let sized = is.mounted.profile.journal 0 own.dinode at_own in
      let so = long in
      record { size = stands.laid.image.block_size; least = omega (arith, so, sized.0); most = omega (arith, so, sized.1); places = refl; few = few }

  head : IsClean (ring_at left own.dinode)
  head = x.clean 0 own.dinode at_own

  -- it is the one that the journal's plan left
  ring_left : HasSamePlaces (ring_read after.disk 1 own.blocks) (ring_at left own.dinode)
  ring_left = record {
    size = refl;
    places = long ∙ sym (x.as_many 0 own.dinode at_own);
    blocks = λ p low. read_is after.disk 1 (get_or own.blocks p 0) (idle.none_in_flight 1) ∙ ap after.disk.block_at (its_journal.place p (subst (λ n. p < n) (long ∙ sym (x.as_many 0 own.dinode at_own)) low));
  }

  head_is_left : (plan : Plan) → slice_get plans 0 ≡ Some plan → head.0 ≡ head_left before.disk.size 1 time own plan.clean own.head
  head_is_left plan at_plan =
      let ended = replayed_have_ended 1 time before after m.journals plans have.added is.tells (is.idle.none_in_flight 1) is.can (theirs before.disk 1 is.idle m is.mounted plans is.planned)
      (apart_in before.disk 1 is.idle m is.mounted plans is.planned) is.read have.replays 0 own plan first at_plan in
      let was = (says_the_same (ring_read before.disk 1 own.blocks) (ring_at im own.dinode) (its_ring before.disk m own is.idle is.mounted first)).head ∙ (its before.disk m own is.idle is.mounted first).1.head in
      some_same (sym head.1 ∙ sym (says_the_same (ring_read after.disk 1 own.blocks) (ring_at left own.dinode) ring_left).head ∙ ended.headed own.head was)

  head_low : head.0.sequence ≤ 2 ^ 63
  head_low = by_head (its before.disk m own is.idle is.mounted first).1.head
    where
      by_head : head_in (ring_at im own.dinode) ≡ Some own.head → head.0.sequence ≤ 2 ^ 63
      by_head headed =
          let more = x.sequence 0 own.dinode own.head head.0 at_own headed head.1 in
          let low = is.mounted.profile.sequence 0 own.dinode own.head at_own headed in
          omega (arith, more, low)

  -- ---- what was mounted

  super_is : superblock_in left ≡ superblock_in im
  super_is = ap (λ n. superblock_of (left.at (superblock_place n))) x.size ∙ ap superblock_of (super_stays im left m is.mounted x o l laid)

  groups_are : map group_of_entry l.groups ≡ m.groups
  groups_are = ap (map group_of_entry) (sym (list_stays im left m is.mounted x o l laid) ∙ is.mounted.found.groups.list.listed) ∙ sym is.mounted.groups

  volume : IsOfVolume (volume_of left l) (seen_alone (view_of after.disk.size m))
  volume = record {
    view = record { block_size = stands.laid.image.block_size; whole = λ b bytes has. absurd (nothing_kept b bytes has); groups = subst (λ n. AreGroups n m.groups) (sym x.size) (groups im m is.mounted).0 };
    size = refl;
    root = sym stands.laid.super.root ∙ ap (λ (s : SuperBlock). s.root.address) (super_is ∙ sym is.mounted.superblock);
    groups = groups_are;
  }

  rests : IsSound after.disk → RestsAsMounted after m own plans before.disk.size frames time t is.mounted.layout
  rests sound = record {
    owners = o;
    layout = l;
    head = head.0;
    rest = record {
      tells = subst IsTrue (sym (stopping.tells_all 1 1 time before after m.journals plans have.added have.replays)) is.tells;
      sound = sound;
      none = idle.none_in_flight;
      stands = stands;
      clean = λ j k at. x.clean j k (in_found j k at);
      apart = apart;
      is_journal = is_journal;
      its_journal = its_journal;
      headed = head.1;
      volume = volume;
      empty = refl;
    };
    journals = λ j k. (in_found j k, of_found j k);
    groups = sym (list_stays im left m is.mounted x o l laid) ∙ is.mounted.found.groups.list.listed;
    left = head_is_left;
    low = head_low;
    idle = idle;
  }

pub replayed_is_at_rest : ReplayLeaves → LeftStandsBy → GroupsAreAsSeen → ReplayedIsAtRest
replayed_is_at_rest leaves by groups before after m plans time t items own frames is have sound first few = rests leaves by groups before after m plans time t items own frames is have first few sound
