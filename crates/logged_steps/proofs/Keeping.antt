-- Whatever steps the node makes, it stays one alone on an image with its log.
use Rattle.std.proofs.Common.{◌≡◌, ℕ, inl, inr, Bool, true, false, List, [], ◌∷◌, ◌++◌, length, Option, None, Some, refl, sym, ap, subst, ◌∙◌}
use Rattle.std.specs.Prelude.{IsTrue, ◌==◌, ◌≢◌, ◌&&◌, if◌then◌else◌, not, unwrap_or}
use Rattle.std.specs.FinMap as table
use Rattle.std.specs.FinMap.{nat_cmp-IsAntisymmetric}
use Rattle.std.specs.List.{AllByRecursion}
use Rattle.std.specs.Ordering.{nat_cmp}
use Rattle.std.proofs.lemmas.Bool.{cases_Bool, cases_eq, cond-true, cond-false}
use Rattle.std.proofs.lemmas.Cmp.{nat_cmp_total}
use Rattle.finite_maps.proofs.Keys.{inserted_at, inserted_apart}
use Rattle.cluster_laws.specs.Files.{laid}
use Rattle.cluster_laws.specs.World.{World}
use Rattle.file_tree.specs.Tree.{Tree}
use Rattle.file_tree.specs.declared.call.Call.{Call}
use Rattle.file_tree.specs.declared.call.Call.TheVariants as calls
use Rattle.file_tree.specs.declared.reply.Reply.{Reply}
use Rattle.file_tree.specs.declared.reply.Reply.TheVariants as replies
use Rattle.file_tree.specs.Apply.{TakesSpace, apply}
use Rattle.cluster_history.specs.Changes.{Changes, is_ok}
use Rattle.image_model.specs.Owners.{Owners}
use Rattle.image_model.specs.Stands.{Layout}
use Rattle.drafts.specs.declared.change.Change.{Change}
use Rattle.drafts.specs.declared.change.Written.{Written}
use Rattle.glock_names.specs.Views.{IsView, Seen}
use Rattle.image_changes.specs.Does.{AreInside, Does, IsInside, bytes_for, frees, is_nothing}
use Rattle.image_machine.specs.Cells.{IsOfVolume}
use Rattle.image_machine.specs.Volumes.{Volume, images_of}
use Rattle.image_model.specs.Image.{Image, image_of}
use Rattle.journal_outcomes.specs.Disks.{flown_by}
use Rattle.call_blocks.specs.Answers.{IsDoneBy}
use Rattle.call_blocks.specs.Calls.{IsTooFew}
use Rattle.lone_images.specs.Lone.{version_with}
use Rattle.lone_ends.specs.Laws.{BarriersSettle, BlocksAreWritten, BlocksGoHome, CallsAreLogged, FirstBarriersSettle, FlushesBegin, HeadersAreWritten, HeadersBegin, IsItsView, LastBarriersLand, QuietCallsAreLogged, ReadsAreLogged, SpacelessCallsAreLogged, StaysLogged, SyncsAreLogged}
use Rattle.lone_ends.specs.States.{IsLoggedNode, NodeState, trees_on}
use Rattle.lone_machine.specs.Alone.{Begun, next_item, now}
use Rattle.call_blocks.specs.Lone.{IsItsAnswer, ItsBlocksMayChange, MayChangeBehindBarriers, MayChangeBehindCalls, MayChangeThere, MayChangeWithoutCalls}
use Rattle.lone_view.specs.Seeing.{Lone, seen_alone}
use Rattle.run_rules.specs.Follows as run
use Rattle.script_lang.specs.declared.script.Client.{Client}
use Rattle.shared_disk.specs.Disk.{DiskState, Flight, IsSound, after_barrier, flight_to, read_gives, with_value}
use Rattle.trace_text.specs.declared.item.TraceItem.{TraceItem}
use Rattle.trace_text.specs.declared.item.TraceItem.TheVariants as trace
use Rattle.tree_histories.specs.Trees.{Told, history_of}
use Rattle.logged_steps.specs.Laws.{IsLoggedAt, OthersRest, StepsKeep}
use Rattle.logged_steps.specs.Points.{Anything, ItsNoSpace, Next, Point, call_item, state_of, telling}
use Rattle.logged_steps.specs.Steps.{Step, Reads, Answers, AnswersQuietly, Syncs, TellsFull, HasNoSpace, BeginsFlush, BeginsHeader, WritesLog, EndsBlocks, WritesHead, EndsFlush, Commits, GoesHome, Rests, Unmounts, Here, Then}
use Rattle.logged_steps.proofs.Disks.{flies_besides, landed_as, others_still, sound_barrier, sound_write}
use Rattle.logged_steps.proofs.Histories.{with_next, with_other}

-- ---- a view that keeps other blocks

abbrev pub keeps_blocks : Lone → table.FinMap nat_cmp (List ℕ) → Lone
keeps_blocks n blocks = record n { blocks = blocks }

of_volume : (v : Volume) (n : Lone) (blocks : table.FinMap nat_cmp (List ℕ)) → IsOfVolume v (seen_alone n) → ((b : ℕ) (bytes : List ℕ) → table.get blocks b ≡ Some bytes → length bytes ≡ n.size)
    → IsOfVolume v (seen_alone (keeps_blocks n blocks))
of_volume v n blocks of whole = record {
  view = record { block_size = of.view.block_size; whole = whole; groups = of.view.groups };
  size = of.size;
  root = of.root;
  groups = of.groups;
}

some_same : {A : Type 0} {a b : A} → Some a ≡ Some b → a ≡ b
some_same e = cc

some_none : {A : Type 0} {a : A} → Some a ≡ None → ⊥
some_none e = cc

written_whole : (v : Seen) (ws : List Written) (b : ℕ) (bytes : List ℕ) → AllByRecursion (IsInside v) ws → bytes_for ws b ≡ Some bytes → length bytes ≡ v.size
written_whole v [] b bytes all is = absurd (some_none (sym is))
written_whole v (w ∷ ws) b bytes all is = elim (cases_Bool (w.block == b)) [
  | inl at ↦ sym (ap length (some_same (sym (cond-true (w.block == b) (Some w.bytes) (bytes_for ws b) at) ∙ is))) ∙ all.0.whole
  | inr off ↦ written_whole v ws b bytes all.1 (sym (cond-false (w.block == b) (Some w.bytes) (bytes_for ws b) off) ∙ is)
]

-- what is kept behind an answer is whole
kept_whole : (n : Lone) (change : Change) (kept : table.FinMap nat_cmp (List ℕ)) → AreInside (seen_alone n) change → IsView (seen_alone n)
    → ((b : ℕ) → table.get kept b ≡ version_with change (table.get n.blocks) b) → (b : ℕ) (bytes : List ℕ) → table.get kept b ≡ Some bytes → length bytes ≡ n.size
kept_whole n change kept inside view are b bytes is = by (bytes_for change.blocks.items b) refl
  where
    given : version_with change (table.get n.blocks) b ≡ Some bytes
    given = sym (are b) ∙ is

    of_old : (t : Bool) → (if t then None else table.get n.blocks b) ≡ Some bytes → length bytes ≡ n.size
    of_old true e = absurd (some_none (sym e))
    of_old false e = view.whole b bytes e

    by : (o : Option (List ℕ)) → bytes_for change.blocks.items b ≡ o → length bytes ≡ n.size
    by None e = of_old (frees change b) (sym (ap (λ (z : Option (List ℕ)). elim z [ Some x ↦ Some x | None ↦ if frees change b then None else table.get n.blocks b ]) e) ∙ given)
    by (Some x) e = written_whole (seen_alone n) change.blocks.items b bytes inside (e ∙ sym (ap (λ (z : Option (List ℕ)). elim z [ Some y ↦ Some y | None ↦ if frees change b then None else table.get n.blocks b ]) e) ∙ given)

-- what is read is the node's own write in flight first
read_is : (d : DiskState) (b : ℕ) → read_gives d 1 b ≡ laid (flown_by d 1 b) (d.block_at b)
read_is d b = by (flight_to (d.in_flight 1) b)
  where
    by : (o : Option (List ℕ)) → unwrap_or o (d.block_at b) ≡ laid o (d.block_at b)
    by None = refl
    by (Some x) = refl

-- a call for which too few blocks are free the tree would take
taken_by : (v : Seen) (c : Call) (t : Tree) (need free : ℕ) → TakesSpace c → (im : Image) (o : Owners) (l : Layout) → IsTooFew v im o l t c need free → (apply c t).reply ≡ replies.Ok
taken_by v (calls.Create p) t need free takes im o l few = few.taken
taken_by v (calls.Mkdir p) t need free takes im o l few = few.taken
taken_by v (calls.Write p at new) t need free takes im o l few = few.taken
taken_by v (calls.Truncate p size) t need free takes im o l few = few.taken
taken_by v (calls.Rename p q) t need free takes im o l few = few.taken
taken_by v (calls.Read p at count) t need free takes im o l few = absurd few
taken_by v (calls.Dread p at count) t need free takes im o l few = absurd few
taken_by v (calls.Stat p) t need free takes im o l few = absurd few
taken_by v (calls.List p) t need free takes im o l few = absurd few
taken_by v (calls.Unlink p) t need free takes im o l few = absurd few
taken_by v (calls.Rmdir p) t need free takes im o l few = absurd few
taken_by v calls.Sync t need free takes im o l few = absurd few

-- a sync changes nothing
sync_changes_none : (call : Call) (reply : Reply) → call ≡ calls.Sync → Changes (record { call = call; reply = reply }) ≡ false
sync_changes_none call reply is = ap (λ (c : Call). Changes (record { call = c; reply = reply })) is ∙ and_false (is_ok reply)
  where
    and_false : (t : Bool) → (t && false) ≡ false
    and_false true = refl
    and_false false = refl

-- ---- one step

module _ (calls_are_logged : CallsAreLogged) (quiet_calls_are_logged : QuietCallsAreLogged) (spaceless_calls_are_logged : SpacelessCallsAreLogged) (syncs_are_logged : SyncsAreLogged)
    (reads_are_logged : ReadsAreLogged) (flushes_begin : FlushesBegin) (headers_begin : HeadersBegin) (blocks_are_written : BlocksAreWritten) (headers_are_written : HeadersAreWritten)
    (barriers_settle : BarriersSettle) (first_barriers_settle : FirstBarriersSettle) (last_barriers_land : LastBarriersLand) (blocks_go_home : BlocksGoHome) (its_blocks_may_change : ItsBlocksMayChange)
    (may_behind_calls : MayChangeBehindCalls) (may_behind_barriers : MayChangeBehindBarriers) (may_without_calls : MayChangeWithoutCalls) where
  module _ (v : Volume) (s : Begun (trees_on v)) (d : ℕ) (clients : List Client) (time : ℕ) (p : Point) (at : IsLoggedAt v s d clients p) where
    abbrev st : NodeState
    st = state_of p

    its : IsItsView v st (seen_alone p.view)
    its = record { volume = at.volume; blocks = λ b. refl }

    -- whatever is in flight of the node's own, nothing is of any other's
    others_rest : (own : List Flight) (j : ℕ) → j ≢ 1 → with_value p.disk.in_flight 1 own j ≡ []
    others_rest own j off = others_still p.disk.in_flight own [] j off (at.others j off)

    -- a step that only tells an item, which is no call's
    tells_only : (item : TraceItem) (unmounts : Bool) (next : Next) → run.history_of clients (item ∷ []) ≡ []
        → IsLoggedAt v s d clients (record p { items = telling p item; unmounts = unmounts; next = next })
    tells_only item unmounts next none = record {
      tells = at.tells;
      sound = at.sound;
      others = at.others;
      world = at.world;
      is = at.is;
      volume = at.volume;
      history = with_other clients p.items item none ∙ at.history;
      may = at.may;
    }

    -- a step that answers no call
    stays : (q : Point) → IsTrue q.disk.tells → IsSound q.disk → OthersRest q.disk → q.view ≡ p.view → run.history_of clients q.items ≡ run.history_of clients p.items → (stay : StaysLogged v s at.world d (state_of q))
        → MayChangeThere v stay.world (image_of q.disk) → IsLoggedAt v s d clients q
    stays q tells sound others view items stay may = record {
      tells = tells;
      sound = sound;
      others = others;
      world = stay.world;
      is = stay.is;
      volume = subst (λ (n : Lone). IsOfVolume v (seen_alone n)) (sym view) at.volume;
      history = items ∙ at.history ∙ sym (ap (history_of (images_of v)) stay.items);
      may = may;
    }

    -- where the blocks on the disk are as they were
    on_same : (w' : World (trees_on v)) → now (trees_on v) w' ≡ now (trees_on v) at.world → MayChangeThere v w' (image_of p.disk)
    on_same w' same = may_without_calls v at.world w' (image_of p.disk) (λ b. ap (λ f. f b) same) at.may

    -- where all that was in flight is in its place
    behind_barrier : (w' : World (trees_on v)) → now (trees_on v) w' ≡ now (trees_on v) at.world → MayChangeThere v w' (image_of (after_barrier p.disk 1))
    behind_barrier w' same = may_behind_barriers v s at.world w' d st (image_of (after_barrier p.disk 1)) at.is (landed_as p.disk at.tells at.sound) (λ b. ap (λ f. f b) same) at.may

    -- one that answers one
    answers : (q : Point) (name : List ℕ) (call : Call) (reply : Reply) (w' : World (trees_on v)) → q.disk ≡ p.disk → q.items ≡ p.items ++ call_item p name call reply ∷ [] → IsOfVolume v (seen_alone q.view)
        → IsLoggedNode v s w' d (state_of q) → w'.items ≡ at.world.items ++ (next_item (trees_on v) s at.world (record { client = run.place_of clients name; call = call; reply = reply }) ∷ [])
        → MayChangeThere v w' (image_of p.disk) → IsLoggedAt v s d clients q
    answers q name call reply w' disk items volume is added may = record {
      may = subst (λ (e : DiskState). MayChangeThere v w' (image_of e)) (sym disk) may;
      tells = subst (λ (e : DiskState). IsTrue e.tells) (sym disk) at.tells;
      sound = subst IsSound (sym disk) at.sound;
      others = subst OthersRest (sym disk) at.others;
      world = w';
      is = is;
      volume = volume;
      history = ap (run.history_of clients) items ∙ with_next v s at.world w' clients p.items name call reply p.numbers.answered at.is.node at.is.numbers.answered at.history added;
    }

    its_answer : (call : Call) (reply : Reply) (change : Change) → IsDoneBy p.view time call reply change → IsItsAnswer v st (seen_alone p.view) call 1 reply change
    its_answer call reply change done = record { view = its; inside = done.inside; does = done.does; under = done.under }

    -- the call and its reply, as the machine has them
    abbrev told : List ℕ → Call → Reply → Told
    told name call reply = record { client = run.place_of clients name; call = call; reply = reply }

    sync_is_quiet : (view : Lone) (call : Call) (reply : Reply) (change : Change) → Does (seen_alone view) call reply change → is_nothing change ≡ false → (call ≡ calls.Sync) × (reply ≡ replies.Ok) → ⊥
    sync_is_quiet view call reply change does some is = absurd (let e : is_nothing change ≡ true = does.tells ∙ both is in let f : true ≡ false = sym e ∙ some in cc)
      where
        both : (call ≡ calls.Sync) × (reply ≡ replies.Ok) → not (Changes (record { call = call; reply = reply })) ≡ true
        both is = ap not (sync_changes_none call reply is.0)

    one : (q : Point) → Step time p q → IsLoggedAt v s d clients q
    one _ (Reads ok b lock bytes asked none whole read) =
        let logged = reads_are_logged v s at.world d st (seen_alone p.view) b lock at.is its none asked in
        record {
          tells = at.tells;
          sound = at.sound;
          others = at.others;
          world = logged.1.world;
          is = subst (λ (x : List ℕ). IsLoggedNode v s logged.1.world d (record st { kept = table.insert st.kept b x })) (sym is_read) logged.1.is;
          volume = of_volume v p.view (table.insert p.view.blocks b bytes) at.volume inserted_whole;
          history = at.history ∙ sym (ap (history_of (images_of v)) logged.1.items);
          may = on_same logged.1.world logged.1.now;
        }
      where
        is_read : bytes ≡ laid (flown_by p.disk 1 b) (p.disk.block_at b)
        is_read = read at.tells ∙ read_is p.disk b

        inserted_whole : (c : ℕ) (x : List ℕ) → table.get (table.insert p.view.blocks b bytes) c ≡ Some x → length x ≡ p.view.size
        inserted_whole c x is = elim (cases_eq c b) [
          | inl same ↦
              let e : Some bytes ≡ Some x = sym (inserted_at nat_cmp_total nat_cmp-IsAntisymmetric p.view.blocks b bytes) ∙ ap (table.get (table.insert p.view.blocks b bytes)) (sym same) ∙ is in
              sym (ap length (some_same e)) ∙ whole
          | inr apart ↦ at.volume.view.whole c x (sym (inserted_apart nat_cmp_total nat_cmp-IsAntisymmetric p.view.blocks b bytes c apart) ∙ is)
        ]
    one _ (Answers ok name call reply change kept done some can room keeps) =
        let logged = calls_are_logged v s at.world d st (seen_alone p.view) (told name call reply) change kept at.is (sync_is_quiet p.view call reply change done.does some) its done.inside done.does can room
        (its_blocks_may_change v s at.world d st (seen_alone p.view) call 1 reply change at.is (its_answer call reply change done) at.may) keeps in
        answers _ name call reply logged.world refl refl (of_volume v p.view kept at.volume (kept_whole p.view change kept done.inside at.volume.view keeps)) logged.is logged.items
        (may_behind_calls v s at.world logged.world d st (seen_alone p.view) call 1 reply change at.is (its_answer call reply change done) logged.now at.may)
    one _ (AnswersQuietly ok name call reply change done none no_sync) =
        let logged = quiet_calls_are_logged v s at.world d st (seen_alone p.view) (told name call reply) change at.is no_sync its done.inside done.does none in
        answers _ name call reply logged.world refl refl at.volume logged.is logged.items
        (may_behind_calls v s at.world logged.world d st (seen_alone p.view) call 1 reply change at.is (its_answer call reply change done) logged.now at.may)
    one _ (Syncs ok name low) =
        let logged = syncs_are_logged v s at.world d st (run.place_of clients name) at.is low in
        answers _ name calls.Sync replies.Ok logged.world refl refl at.volume logged.is logged.items
        (may_without_calls v at.world logged.world (image_of p.disk) logged.now at.may)
    one _ (TellsFull ok call need free spaceless low) = tells_only (trace.Full 1 need free) p.unmounts (ItsNoSpace call need free) refl
    one _ (HasNoSpace name call need free awaited spaceless ends) =
        let logged = spaceless_calls_are_logged v s at.world d st (seen_alone p.view) (run.place_of clients name) call at.is its spaceless.takes (λ im o l t of. taken_by (seen_alone p.view) call t need free spaceless.takes im o l (spaceless.few im o l t of)) in
        answers _ name call replies.NoSpace logged.world refl refl at.volume logged.is logged.items
        (may_without_calls v at.world logged.world (image_of p.disk) logged.now at.may)
    one _ (BeginsFlush ok none due room) =
        let logged = flushes_begin v s at.world d st at.is none due room in
        stays _ at.tells at.sound at.others refl refl logged (on_same logged.world logged.now)
    one _ (BeginsHeader ok none home some no_more) =
        let logged = headers_begin v s at.world d st at.is none home some no_more in
        stays _ at.tells at.sound at.others refl refl logged (on_same logged.world logged.now)
    one _ (WritesLog new f b bytes list flush numbers step may gains) =
        let logged = blocks_are_written v s at.world d st new f b bytes _ at.is flush numbers step (flies_besides p b bytes may) in
        stays _ at.tells (sound_write p b bytes may at.sound) (others_rest _) refl (with_other clients p.items (trace.WriteLog 1 b) refl) logged (on_same logged.world logged.now)
    one _ (EndsBlocks new f done bytes list flush stage step flies gains) =
        let logged = first_barriers_settle v s at.world d st new f done bytes _ at.is flush stage step (landed_as p.disk at.tells at.sound) in
        stays _ at.tells (sound_barrier p.disk at.tells at.sound) (others_rest _) refl (with_other clients p.items (trace.Barrier 1) refl) logged (behind_barrier logged.world logged.now)
    one _ (WritesHead new f b sequence bytes list flush numbers step may gains) =
        let logged = headers_are_written v s at.world d st new f b sequence bytes _ at.is flush numbers step (flies_besides p b bytes may) in
        stays _ at.tells (sound_write p b bytes may at.sound) (others_rest _) refl (with_other clients p.items (trace.WriteHead 1 b sequence p.numbers.begun) refl) logged (on_same logged.world logged.now)
    one _ (EndsFlush new f tail bytes list flush numbers stage step flies gains) =
        let logged = last_barriers_land v s at.world d st new f tail bytes _ at.is flush numbers stage step (landed_as p.disk at.tells at.sound) in
        stays _ at.tells (sound_barrier p.disk at.tells at.sound) (others_rest _) refl (with_other clients p.items (trace.Barrier 1) refl) logged (behind_barrier logged.world logged.now)
    one _ (Commits b awaited ends) = tells_only (trace.Commit 1 p.log.sequence p.numbers.low) p.unmounts Anything refl
    one _ (GoesHome ok new lock b bytes list answer may gains) =
        let logged = blocks_go_home v s at.world d st new lock b bytes _ at.is answer (flies_besides p b bytes may) in
        stays _ at.tells (sound_write p b bytes may at.sound) (others_rest _) refl (with_other clients p.items (trace.WriteHome 1 b) refl) logged (on_same logged.world logged.now)
    one _ (Rests new list ok no_header settles flies gains) =
        let logged = barriers_settle v s at.world d st new _ at.is no_header settles (landed_as p.disk at.tells at.sound) in
        stays _ at.tells (sound_barrier p.disk at.tells at.sound) (others_rest _) refl (with_other clients p.items (trace.Barrier 1) refl) logged (behind_barrier logged.world logged.now)
    one _ (Unmounts ok) = tells_only (trace.Unmount 1) true p.next refl

  pub steps_keep : StepsKeep
  steps_keep v s d clients time p _ at Here = at
  steps_keep v s d clients time p _ at (Then q r before last) = one v s d clients time q (steps_keep v s d clients time p q at before) r last
