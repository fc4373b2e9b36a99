-- What the calls of one node alone write, a replay of the image on its disk may change.
use Rattle.std.proofs.Common.{◌≡◌, ℕ, Bool, true, false, refl, sym, ap, subst, ◌∙◌, true≢false}
use Rattle.std.specs.Prelude.{◌||◌, is_some}
use Rattle.file_tree.specs.Tree.{Tree}
use Rattle.file_tree.specs.declared.call.Call.{Call}
use Rattle.file_tree.specs.declared.reply.Reply.{Reply}
use Rattle.cluster_laws.specs.Contents.{contents, places}
use Rattle.cluster_laws.specs.Files.{laid}
use Rattle.cluster_laws.specs.World.{World}
use Rattle.glock_names.specs.Views.{Seen}
use Rattle.drafts.specs.declared.change.Change.{Change}
use Rattle.image_model.specs.Replays.{MayChange}
use Rattle.image_changes.specs.Does.{IsOf, frees, has_block, writes}
use Rattle.image_machine.specs.Cells.{BlockCell, cells_of}
use Rattle.image_machine.specs.Volumes.{StandsAt, Volume, image_with, volume_of}
use Rattle.image_machine.proofs.Answering.{Drawn, drawn, freed, untouched, wrote}
use Rattle.image_machine.proofs.Fitting.{as_told, block_with, image_is}
use Rattle.lone_machine.specs.Alone.{Begun, now}
use Rattle.lone_logs.specs.States.{IsLoggedNode, NodeState, trees_on}
use Rattle.lone_logs.proofs.Landed.{of}
use Rattle.lone_logs.proofs.Reading.{cache_agrees, now_stands, view_cached}
use Rattle.lone_logs.specs.Outcomes.{OutcomesAreTheMachines}
use Rattle.call_blocks.specs.Lone.{IsItsAnswer, ItsBlocksMayChange, MayChangeAtTheStart, MayChangeBehindBarriers, MayChangeBehindCalls, MayChangeThere, MayChangeWithoutCalls, WorksOnTheSame, image_now}
use Rattle.call_blocks.specs.Replaying.{IsSameBeside}
use Rattle.call_blocks.proofs.Replaying.{calls_keep_the_system, replays_may_change_it}

-- ---- what it works on stays

same_image : (v : Volume) (w w' : World (trees_on v)) → WorksOnTheSame v w w' → image_now v w' ≡ image_now v w
same_image v w w' same = λ i. image_with v (λ b. (same b i).content)

pub without_calls : MayChangeWithoutCalls
without_calls v w w' im same may b is = may b (subst (λ z. MayChange z v.layout b) (same_image v w w' same) is)

pub behind_barriers : OutcomesAreTheMachines → MayChangeBehindBarriers
behind_barriers they_are v s w w' d st left is landed same may b now_may = (of they_are v s w d st is left landed).change b (without_calls v w w' st.image same may b now_may)

pub at_the_start : MayChangeAtTheStart
at_the_start im o l t stands b may = subst (λ z. MayChange z l b) (image_is (volume_of im l) im (record { size = refl; count = refl; whole = stands.laid.image.whole })) may

-- ---- calls

or_true : (t : Bool) → (t || true) ≡ true
or_true true = refl
or_true false = refl

module _ (v : Volume) (s : Begun (trees_on v)) (w : World (trees_on v)) (d : ℕ) (st : NodeState) (seen : Seen) (call : Call) (node : ℕ) (reply : Reply) (change : Change)
    (is : IsLoggedNode v s w d st) (answer : IsItsAnswer v st seen call node reply change) where
  abbrev tree : Tree
  tree = (now_stands v s w d st is).0

  stands : StandsAt v (contents (now (trees_on v) w)) (places (now (trees_on v) w)) tree
  stands = (now_stands v s w d st is).1

  is_of : IsOf seen (image_now v w) stands.owners v.layout tree
  is_of = record {
    size = answer.view.volume.size;
    root = answer.view.volume.root;
    groups = answer.view.volume.groups;
    agrees = λ b bytes e.
        let cached = view_cached v s w d st is seen answer.view b bytes e in
        let same = cache_agrees v s w d st is b cached.0 cached.1 in
        as_told v (contents (now (trees_on v) w)) b bytes (ap (λ (x : BlockCell). x.content) same ∙ cached.2) (answer.view.volume.view.whole b bytes e ∙ sym answer.view.volume.size);
    stands = stands.stands;
  }

  may_now : (b : ℕ) → has_block change b ≡ true → MayChange (image_now v w) v.layout b
  may_now = replays_may_change_it seen (image_now v w) stands.owners v.layout tree call node reply change is_of answer.inside answer.does (answer.under (image_now v w) stands.owners v.layout tree is_of)

  may_there : MayChangeThere v w st.image → (b : ℕ) → writes change b ≡ true → MayChange st.image v.layout b
  may_there may b new = may b (may_now b (ap (λ t. t || frees change b) new))

  module _ (w' : World (trees_on v)) (after : (b : ℕ) → now (trees_on v) w' b ≡ laid (cells_of v change b) (now (trees_on v) w b)) where
    beside : IsSameBeside change (image_now v w) (image_now v w')
    beside = record { size = refl; count = refl; others = others }
      where
        others : (b : ℕ) → has_block change b ≡ false → (image_now v w').at b ≡ (image_now v w).at b
        others b away = block_with v (contents (now (trees_on v) w)) (contents (now (trees_on v) w')) b (by (drawn v change answer.does.form.locks b))
          where
            by : Drawn v change b → (now (trees_on v) w b).content ≡ (now (trees_on v) w' b).content
            by (wrote i u lock at at' same e f) = absurd (true≢false (ap (λ o. is_some o || frees change b) (sym e) ∙ away))
            by (freed e gone f) = absurd (true≢false (sym (or_true (writes change b)) ∙ ap (λ t. writes change b || t) (sym gone) ∙ away))
            by (untouched e kept f) = sym (ap (λ (x : BlockCell). x.content) (after b ∙ ap (λ o. laid o (now (trees_on v) w b)) f))

    behind : MayChangeThere v w st.image → MayChangeThere v w' st.image
    behind may b is' =
        let kept = calls_keep_the_system seen (image_now v w) (image_now v w') stands.owners v.layout tree call node reply change is_of answer.inside answer.does
        (answer.under (image_now v w) stands.owners v.layout tree is_of) beside in
        may b ((kept.1 b).1 is')

pub its_blocks_may_change : ItsBlocksMayChange
its_blocks_may_change v s w d st seen call node reply change is answer may = may_there v s w d st seen call node reply change is answer may

pub behind_calls : MayChangeBehindCalls
behind_calls v s w w' d st seen call node reply change is answer after may = behind v s w d st seen call node reply change is answer w' after may
