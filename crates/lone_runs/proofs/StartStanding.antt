-- Runs that came no further than their replays stand at each front of their items.
use Rattle.std.proofs.Common.{◌≡◌, List, [], ◌∷◌, ◌++◌, refl, sym, ap, subst, ◌∙◌}
use Rattle.disk_turns.specs.Turns.{Moment}
use Rattle.file_tree.specs.Tree.{Tree}
use Rattle.image_machine.specs.Volumes.{Volume}
use Rattle.logged_scripts.specs.Disks.{disk_after}
use Rattle.lone_fences.specs.Fencing.{with_crash, with_fence}
use Rattle.script_lang.specs.declared.script.Client.{Client}
use Rattle.shared_disk.specs.Disk.{DiskState, Fence, Flight, Operation, after_fence}
use Rattle.trace_text.specs.declared.item.TraceItem.{TraceItem}
use Rattle.trace_text.specs.declared.item.TraceItem.TheVariants as trace
use Rattle.logged_scripts.specs.Fronts.{HasStartWhole, SettlesRight, a_fence, a_loss, a_stop, disk_left, nothing_more}
use Rattle.logged_scripts.specs.Wholes.{Course, going_on, stopped_course}
use Rattle.logged_scripts.proofs.Bringing.{after_on}
use Rattle.lone_runs.specs.Laws.{HasStood}
use Rattle.lone_runs.proofs.Standing.{append_nil}

module _ (v : Volume) (clients : List Client) (before : Moment) (start : Tree) (told : List TraceItem) (stopped : DiskState) (ops : List Operation) (whole : HasStartWhole before v clients start told stopped ops) where
  abbrev course : Course
  course = whole.course

  -- nothing more was done
  module _ (operations : List Operation) (same : operations ≡ ops) (disk : DiskState) (is_same : disk ≡ stopped) (items : List TraceItem) where
    all_done : (course.operations ++ course.further) ++ [] ≡ operations
    all_done = append_nil (course.operations ++ course.further) ∙ whole.has.all ∙ sym same

    disk_is : disk ≡ disk_after before.disk operations
    disk_is = is_same ∙ whole.has.disk ∙ ap (disk_after before.disk) (sym same)

    pub start_quiet : items ≡ told → HasStood clients before start items operations disk
    start_quiet are = record {
      volume = v;
      journal = 0;
      course = going_on course [] [];
      is = record { items = append_nil course.items ∙ whole.has.items ∙ sym are; operations = all_done; told = whole.has.told; behind = refl; one = whole.has.one; disk = disk_is };
      stands = whole.stands 0 (going_on course [] []) nothing_more;
    }

    pub start_crashed : items ≡ with_crash told → HasStood clients before start items operations disk
    start_crashed are = record {
      volume = v;
      journal = 0;
      course = going_on course (trace.Crash 1 ∷ []) [];
      is = record { items = ap (λ is. is ++ trace.Crash 1 ∷ []) whole.has.items ∙ sym are; operations = all_done; told = whole.has.told; behind = refl; one = whole.has.one; disk = disk_is };
      stands = whole.stands 0 (going_on course (trace.Crash 1 ∷ []) []) (a_stop (trace.Crash 1) refl);
    }

  -- it was fenced
  module _ (became : List Flight) (operations : List Operation) (same : operations ≡ ops ++ Fence 1 became ∷ []) (disk : DiskState) (fenced : disk ≡ after_fence stopped 1 became) (settles : SettlesRight v stopped became) (items : List TraceItem) where
    left_is : disk_left before.disk course ≡ stopped
    left_is = ap (disk_after before.disk) whole.has.all ∙ sym whole.has.disk

    settles_there : SettlesRight v (disk_left before.disk course) became
    settles_there = subst (λ y. SettlesRight v y became) (sym left_is) settles

    fenced_all : (course.operations ++ course.further) ++ Fence 1 became ∷ [] ≡ operations
    fenced_all = ap (λ os. os ++ Fence 1 became ∷ []) whole.has.all ∙ sym same

    fenced_disk : disk ≡ disk_after before.disk operations
    fenced_disk = fenced ∙ ap (λ y. after_fence y 1 became) whole.has.disk ∙ sym (after_on before.disk ops (Fence 1 became ∷ [])) ∙ ap (disk_after before.disk) (sym same)

    pub start_fenced : items ≡ with_fence told → HasStood clients before start items operations disk
    start_fenced are = record {
      volume = v;
      journal = 0;
      course = stopped_course course (trace.Crash 1) became [];
      is = record {
        items = ap (λ is. is ++ trace.Crash 1 ∷ trace.Fence 1 ∷ []) whole.has.items ∙ sym are;
        operations = fenced_all;
        told = whole.has.told;
        behind = refl;
        one = whole.has.one;
        disk = fenced_disk;
      };
      stands = whole.stands 0 (stopped_course course (trace.Crash 1) became []) (a_fence (trace.Crash 1) became refl settles_there);
    }

    -- with the loss of no call
    pub start_lost : items ≡ told ++ trace.Crash 1 ∷ trace.Fence 1 ∷ trace.Lost 1 0 ∷ [] → HasStood clients before start items operations disk
    start_lost are = record {
      volume = v;
      journal = 0;
      course = stopped_course course (trace.Crash 1) became (trace.Lost 1 0 ∷ []);
      is = record {
        items = ap (λ is. is ++ trace.Crash 1 ∷ trace.Fence 1 ∷ trace.Lost 1 0 ∷ []) whole.has.items ∙ sym are;
        operations = fenced_all;
        told = whole.has.told;
        behind = refl;
        one = whole.has.one;
        disk = fenced_disk;
      };
      stands = whole.stands 0 (stopped_course course (trace.Crash 1) became (trace.Lost 1 0 ∷ []))
          (a_loss (trace.Crash 1) became 0 refl settles_there (whole.lost 0 (trace.Crash 1) became refl settles_there));
    }
