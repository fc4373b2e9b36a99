-- The items of replays: each is one of a replay, and how many operations fronts of them tell.
use Rattle.std.proofs.Common.{◌≡◌, ℕ, zero, suc, ◌+◌, ◌≤◌, List, [], ◌∷◌, ◌++◌, length, take, drop, Option, None, Some, refl, sym, ap, subst, ◌∙◌, arith}
use Rattle.std.specs.Prelude.{get_or}
use Rattle.std.specs.List.{AllByRecursion, filter_map}
use Rattle.std.proofs.lemmas.List.{length-append, length-map, take-append-drop}
use Rattle.std.proofs.lemmas.List.Elements.{filter_map-append}
use Rattle.disk_items.specs.Deeds.{AreDoneBy, deed_of, deed_told}
use Rattle.disk_turns.specs.Turns.{AreBrought, Moment, none, turn, turn_of, writes_of}
use Rattle.drafts.specs.declared.change.Written.{Written}
use Rattle.image_mount.specs.Mounted.{Journal}
use Rattle.cut_replays.specs.Recoveries.{AreReplays}
use Rattle.journal_replays.specs.Headers.{clean_block}
use Rattle.journal_replays.specs.Items.{items_of}
use Rattle.journal_replays.specs.Replays.{IsReplayWith, StopsBringing, StopsReplay, at_header, at_home}
use Rattle.log_layout.specs.declared.log_header.LogHeader.{LogHeader}
use Rattle.logged_runs.specs.Starts.{IsOfReplay}
use Rattle.logged_runs.specs.Disks.{told_count}
use Rattle.peer_replay.specs.declared.planned.Plan.{Plan}
use Rattle.shared_disk.specs.Disk.{Operation}
use Rattle.trace_text.specs.declared.item.TraceItem.{TraceItem}
use Rattle.trace_text.specs.declared.item.TraceItem.TheVariants as trace

-- ---- each is of a replay

pub all_join : (xs ys : List TraceItem) → AllByRecursion IsOfReplay xs → AllByRecursion IsOfReplay ys → AllByRecursion IsOfReplay (xs ++ ys)
all_join [] ys of more = more
all_join (x ∷ xs) ys of more = (of.0, all_join xs ys of.1 more)

pub all_taken : (n : ℕ) (xs : List TraceItem) → AllByRecursion IsOfReplay xs → AllByRecursion IsOfReplay (take n xs)
all_taken zero xs of = tt
all_taken (suc n) [] of = tt
all_taken (suc n) (x ∷ xs) of = (of.0, all_taken n xs of.1)

writes_replay : (blocks : List Written) → AllByRecursion IsOfReplay (items_of (writes_of 1 blocks))
writes_replay [] = tt
writes_replay (w ∷ ws) = (refl, writes_replay ws)

turn_items : (blocks : List Written) (more : List Operation) → items_of (turn_of 1 blocks ++ more) ≡ items_of (writes_of 1 blocks) ++ (trace.Barrier 1 ∷ items_of more)
turn_items [] more = refl
turn_items (w ∷ ws) more = ap (λ (is : List TraceItem). trace.WriteReplay 1 w.block ∷ is) (turn_items ws more)

brought_replay : (blocks : List Written) (operations : List Operation) → AreBrought 1 blocks operations → AllByRecursion IsOfReplay (items_of operations)
brought_replay _ _ none = tt
brought_replay _ _ (turn some later operations is more) =
    subst (AllByRecursion IsOfReplay) (sym (turn_items some operations)) (all_join (items_of (writes_of 1 some)) (trace.Barrier 1 ∷ items_of operations) (writes_replay some) (refl, brought_replay later operations more))

of_replay_with : (slot dinode : ℕ) (blocks : List ℕ) (time : ℕ) (before after : Moment) (home : List Written) (header : Option LogHeader) (items : List TraceItem)
    → IsReplayWith 1 slot dinode blocks time before after home header items → AllByRecursion IsOfReplay items
of_replay_with slot dinode blocks time before after home None items is = subst (AllByRecursion IsOfReplay) (sym is.1) tt
of_replay_with slot dinode blocks time before after home (Some header) items is =
    subst (AllByRecursion IsOfReplay) (sym is.told)
    (all_join (items_of is.homes.operations) (items_of is.headed.operations ++ trace.Recovered slot 1 ∷ []) (brought_replay home is.homes.operations is.homes.brought)
    (all_join (items_of is.headed.operations) (trace.Recovered slot 1 ∷ []) (brought_replay (clean_block before.disk.size (get_or blocks header.blkno 0) slot dinode time header ∷ []) is.headed.operations is.headed.brought) (refl, tt)))

pub of_replays : (slot time : ℕ) (before after : Moment) (js : List Journal) (ps : List Plan) (items : List TraceItem) → AreReplays 1 slot time before js ps after items → AllByRecursion IsOfReplay items
of_replays slot time before after [] [] items is = subst (AllByRecursion IsOfReplay) (sym is.1) tt
of_replays slot time before after [] (p ∷ ps) items is = absurd is
of_replays slot time before after (j ∷ js) [] items is = absurd is
of_replays slot time before after (j ∷ js) (p ∷ ps) items (next, first, later, are, one, others) =
    subst (AllByRecursion IsOfReplay) (sym are) (all_join first later (of_replay_with slot j.dinode j.blocks time before next p.home.items p.clean first one) (of_replays (slot + 1) time next after js ps later others))

of_bringing : (before after : Moment) (blocks : List Written) (block : Option ℕ) (items : List TraceItem) → StopsBringing 1 before after blocks block items → AllByRecursion IsOfReplay items
of_bringing before after blocks block items is =
    subst (AllByRecursion IsOfReplay) (sym is.told)
    (all_join (items_of is.stopped.brought.operations) (items_of (writes_of 1 is.stopped.stopped.wrote)) (brought_replay is.stopped.done is.stopped.brought.operations is.stopped.brought.brought)
    (writes_replay is.stopped.stopped.wrote))

pub of_stopped : (before after : Moment) (home : List Written) (header : Written) (block : Option ℕ) (items : List TraceItem) → StopsReplay 1 before after home header block items → AllByRecursion IsOfReplay items
of_stopped before after home header block items (at_home is) = of_bringing before after home block items is
of_stopped before after home header block items (at_header between homes more is are) =
    subst (AllByRecursion IsOfReplay) (sym are) (all_join (items_of homes.operations) more (brought_replay home homes.operations homes.brought) (of_bringing between after (header ∷ []) block more is))

-- ---- how many operations they tell

pub counted : (items : List TraceItem) (operations : List Operation) → AreDoneBy items operations → told_count items ≡ length operations
counted items operations done = ap length done ∙ length-map operations deed_of

-- a front tells no more
pub fewer : (n : ℕ) (items : List TraceItem) → told_count (take n items) ≤ told_count items
fewer n items =
    let all : told_count items ≡ told_count (take n items) + told_count (drop n items)
    = ap told_count (sym (take-append-drop n items)) ∙ ap length (filter_map-append deed_told (take n items) (drop n items)) ∙ length-append (filter_map deed_told (take n items)) (filter_map deed_told (drop n items)) in
    omega (arith, all)
