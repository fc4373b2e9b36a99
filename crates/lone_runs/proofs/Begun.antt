-- The node begins: on the disk that the replays left, behind their items.
use Rattle.std.proofs.Common.{◌≡◌, ℕ, ◌<◌, ◌≤◌, ◌^◌, List, Option, None, Some, lit<, refl, sym, ap, subst, ◌∙◌, arith}
use Rattle.std.specs.FinMap as table
use Rattle.std.specs.List.{AllByRecursion}
use Rattle.std.specs.Prelude.{Vec}
use Rattle.std.specs.declared.alloc.Global.{Global}
use Rattle.disk_turns.specs.Turns.{Moment, moment}
use Rattle.glock_names.specs.Views.{end_of}
use Rattle.image_mount.specs.Mounted.{Journal}
use Rattle.image_recovery.specs.Recoveries.{HaveReplayed}
use Rattle.journal_replays.specs.Crashes as replays
use Rattle.journal_replays.specs.Replays.{IsSameDisk}
use Rattle.log_layout.specs.declared.log_header.LogHeader.{LogHeader}
use Rattle.log_values.specs.Flushing.{block_at}
use Rattle.log_values.specs.Laws.{empty_log}
use Rattle.log_values.specs.Log.{Journal as OwnJournal, LogValue}
use Rattle.logged_scripts.specs.LoggedNodeBeginning.{MayBeginOn}
use Rattle.logged_scripts.specs.Nodes.{Awaits, IsAtCrash, IsResting, crash_of, numbers_of, point_of}
use Rattle.logged_scripts.specs.node.Node.{Node}
use Rattle.logged_scripts.specs.Points.{Anything}
use Rattle.logged_scripts.specs.Beginning.{HasBegun}
use Rattle.logged_scripts.specs.Crashes.{first_crash}
use Rattle.logged_scripts.specs.LoggedLaws.{no_numbers}
use Rattle.lone_view.specs.Seeing.{Lone}
use Rattle.mounted_views.specs.Views.{journal_of}
use Rattle.mounted_views.proofs.Journals.{nothing_kept}
use Rattle.peer_replay.specs.declared.planned.Plan.{Plan}
use Rattle.script_lang.specs.Script.{ScriptValue}
use Rattle.shared_disk.specs.Disk.{DiskState, IsIdle, Operation}
use Rattle.trace_text.specs.declared.item.TraceItem.{TraceItem}
use Rattle.logged_scripts.specs.WholeRunsStarts.{joined}
use Rattle.lone_runs.specs.Beginning.{IsGiven, IsNew, MayHave, its_head, start_point}
use Rattle.lone_runs.proofs.Members.{replayed_start}

-- ---- the write at which it is to crash

pub same_crash : (left : Option ℕ) (items : List TraceItem) → replays.crash_of 1 left items ≡ crash_of left items
same_crash None items = refl
same_crash (Some n) items = refl

pub at_crash : (crash : Option ℕ) (items : List TraceItem) → replays.IsAtCrash 1 crash items → IsAtCrash crash items
at_crash crash items at = record { before = at.before; it = at.it; told = at.told; write = at.write; is = at.is }

-- ---- the disk

module _ (before now : DiskState) (view : Lone) (journals : List Journal) (plans : List Plan) (own : Journal) (plan : Plan) (time frames : ℕ) (given : IsGiven before view journals plans) (same : IsSameDisk before now) (idle : IsIdle now)
    (has : MayHave before.count (journal_of before.size frames time own) (its_head before.size time own plan)) (time_low : time < 2 ^ 64) (count_low : before.count < 2 ^ 64) where
  abbrev journal : OwnJournal
  journal = journal_of before.size frames time own

  abbrev head : LogHeader
  head = its_head before.size time own plan

  less : (x y z : ℕ) → x < y → y < z → x < z
  less x y z a b = omega (arith, a, b)

  may_begin : MayBeginOn now view journal
  may_begin = record {
    view_size = given.view_size ∙ sym same.size;
    size = sym same.size;
    widths = record {
      jid = lit< tt;
      places = λ p low. less (block_at journal p) before.count (2 ^ 64) (has.placed.inside p low) count_low;
      jinode = less journal.jinode before.count (2 ^ 64) has.placed.dinode count_low;
      time = time_low;
    };
    places = λ p low. subst (λ n. block_at journal p < n) (sym same.count) (has.placed.inside p low);
    apart = has.placed.apart;
    some = given.some;
    groups = subst (λ n. AllByRecursion (λ g. end_of g ≤ n) view.groups) (sym same.count) given.groups;
    kept = λ b bytes at. absurd (nothing_kept b bytes (subst (λ t. table.get t b ≡ Some bytes) given.empty at));
    unfenced = idle.none_fenced 1;
    none = idle.none_in_flight 1;
  }

  -- ---- the node

  module _ (n : Node) (new : IsNew view journal head n) (left : Option ℕ) (awaits : Awaits left) (items : Vec TraceItem Global) where
    abbrev its_node : Node
    its_node = record n { armed = left; items = items }

    resting : IsResting now its_node
    resting =
        let so = new.rests now may_begin in
        record {
          on = record {
            sound = so.on.sound;
            widths = so.on.widths;
            blocks = so.on.blocks;
            block = so.on.block;
            journal = so.on.journal;
            view = so.on.view;
            places = so.on.places;
            apart = so.on.apart;
            some = so.on.some;
            groups = so.on.groups;
            kept = so.on.kept;
            unfenced = so.on.unfenced;
            flying = so.on.flying;
            few = so.on.few;
            awaits = awaits;
          };
          idle = so.idle;
          none = so.none;
          home = so.home;
          small = so.small;
        }

    its_log : n.log ≡ empty_log n.log.journal n.log.head n.log.sequence
    its_log = subst (λ l. l ≡ empty_log l.journal l.head l.sequence) (sym new.log) refl

    pub its_places : n.log.journal.places ≡ own.blocks
    its_places = ap (λ (l : LogValue). l.journal.places) new.log

    pub its_sequence : n.log.sequence ≤ 2 ^ 63
    its_sequence = low n.log.sequence head.sequence (ap (λ (l : LogValue). l.sequence) new.log) has.low
      where
        low : (x y : ℕ) → x ≡ y → y ≤ 2 ^ 63 → x ≤ 2 ^ 63
        low x y e h = omega (arith, e, h)

    pub has_begun : (s : ScriptValue) (a : Moment) (list : Option (List Operation)) → HaveReplayed 1 time a (moment now list) journals plans joined items.items → crash_of left items.items ≡ first_crash s.armed
        → HasBegun s now its_node
    has_begun s a list have crash =
        let start = replayed_start time a (moment now list) journals plans items.items have in
        record { resting = resting; mounted = new.mounted; log = its_log; numbers = new.numbers; replays = start.replays; items = start.are; of_replay = start.of_replay; crash = crash }

    -- it is where a run starts
    pub starts_there : (list : Option (List Operation)) → point_of now list its_node ≡ start_point (moment now list) view own plan time frames items.items
    starts_there list = λ i. record { disk = now; list = list; log = log_is i; view = new.view_is i; numbers = numbers_are i; items = items.items; unmounts = new.mounted i; next = Anything }
      where
        log_is : n.log ≡ empty_log (journal_of now.size frames time own) (its_head now.size time own plan).blkno (its_head now.size time own plan).sequence
        log_is = new.log ∙ ap (λ k. empty_log (journal_of k frames time own) (its_head k time own plan).blkno (its_head k time own plan).sequence) (sym same.size)

        numbers_are : numbers_of n.numbers ≡ no_numbers
        numbers_are = ap numbers_of new.numbers
